-- An array of parents holds the tree of its unions: climbing from a symbol to the root gives its codeword.
use Rattle.std.proofs.Common.{◌≡◌, ◌+◌, ◌-◌, ◌*◌, ◌/◌, ◌%◌, ◌<◌, ◌≤◌, ◌==◌, ℕ, zero, suc, Bool, true, false, List, [], ◌∷◌, ◌++◌, Some, None, ap, ap₂, sym, inl, inr, refl, ◌∙◌, ◌⊎◌, arith, length, get_or, set, append_assoc, append-nil, eq-eqb, ne_eqb, le-ltb, lt-ltb}
use Rattle.std.proofs.lemmas.Bool.{cases_eq}
use Rattle.std.proofs.lemmas.Bool.Decides.{eqb_tells}
use Rattle.std.proofs.lemmas.List.{get_or_append_left, get_or_push, length_push, take_at, length-set, get_or-set_same, get_or-set_other}
use Rattle.std.proofs.lemmas.List.Elements.{All-nil, All-cons, All-get_or, All-take}
use Rattle.constriction_symbol.specs.Huffman.{Tree, path, huffman, children, IsTreeAt, IsNeither, IsRoot, IsUnion, IsMerged, climbed, GoesUp, IsParents, found, tree_in}
use Rattle.constriction_symbol.specs.Huffman.Tree.{Leaf, Node}
use Rattle.constriction_symbol.specs.HuffmanLaws.{leaf_path, node_path}
use Rattle.constriction_symbol.proofs.HuffmanMerge.{huffman_path, merge_path_some, merge_path_none}

-- at the root
pub climbed_root : (fuel : ℕ) (nodes : List ℕ) (index : ℕ) → get_or nodes index 0 ≡ 0 → climbed fuel nodes index ≡ []
climbed_root zero nodes index is = refl
climbed_root (suc fuel) nodes index is = rw (eq-eqb (get_or nodes index 0) 0 is) refl

-- at another index
pub climbed_up : (fuel : ℕ) (nodes : List ℕ) (index : ℕ) → (get_or nodes index 0 ≡ 0 → ⊥)
    → climbed (suc fuel) nodes index ≡ climbed fuel nodes (get_or nodes index 0 / 2) ++ (get_or nodes index 0 % 2 == 1) ∷ []
climbed_up fuel nodes index is = rw (ne_eqb (get_or nodes index 0) 0 is) refl

climbed_lesser : (fuel : ℕ) (nodes : List ℕ) (child parent : ℕ) → 0 < parent → get_or nodes child 0 ≡ 2 * parent → climbed (suc fuel) nodes child ≡ climbed fuel nodes parent ++ false ∷ []
climbed_lesser fuel nodes child parent some is =
    let half : get_or nodes child 0 / 2 ≡ parent = omega (arith, is) in
    let even : (get_or nodes child 0 % 2 == 1) ≡ false = ne_eqb (get_or nodes child 0 % 2) 1 (λ odd. omega (arith, odd, is)) in
    climbed_up fuel nodes child (λ none. omega (arith, none, is, some)) ∙ ap₂ (λ p b. climbed fuel nodes p ++ b ∷ []) half even

climbed_other : (fuel : ℕ) (nodes : List ℕ) (child parent : ℕ) → get_or nodes child 0 ≡ 2 * parent + 1 → climbed (suc fuel) nodes child ≡ climbed fuel nodes parent ++ true ∷ []
climbed_other fuel nodes child parent is =
    let half : get_or nodes child 0 / 2 ≡ parent = omega (arith, is) in
    let odd : (get_or nodes child 0 % 2 == 1) ≡ true = eq-eqb (get_or nodes child 0 % 2) 1 (omega (arith, is)) in
    climbed_up fuel nodes child (λ none. omega (arith, none, is)) ∙ ap₂ (λ p b. climbed fuel nodes p ++ b ∷ []) half odd

-- from a symbol of the tree at an index: the climb from the index, and then the symbol's path
climbed_below : (n : ℕ) (pairs : List (ℕ × ℕ)) (nodes : List ℕ) → IsParents n pairs nodes → (t : Tree) (index symbol fuel : ℕ) (bits : List Bool) → IsTreeAt n pairs index t → path t symbol ≡ Some bits
    → climbed (fuel + length bits) nodes symbol ≡ climbed fuel nodes index ++ bits
climbed_below n pairs nodes parents (Leaf s) index symbol fuel bits at is =
    let known = leaf_path s symbol bits is in
    let none : fuel + 0 ≡ fuel = omega arith in
    rw (known.1, none) (ap (climbed fuel nodes) (sym (at.0 ∙ known.0)) ∙ sym (append-nil (climbed fuel nodes index)))
climbed_below n pairs nodes parents (Node lesser other) index symbol fuel bits at is =
    let within : index - n < length pairs = omega (arith, at.0, at.1) in
    elim (node_path (path lesser symbol) (path other symbol) bits is) [
      | inl found ↦
          let here : get_or nodes (children n pairs index).0 0 ≡ 2 * index = parents.lesser (index - n) within ∙ omega (arith, at.0) in
          let rest = climbed_below n pairs nodes parents lesser (children n pairs index).0 symbol (suc fuel) found.0 at.4 found.1 in
          joined false found.0 found.2 (children n pairs index).0 rest (climbed_lesser fuel nodes (children n pairs index).0 index (omega (arith, at.2)) here)
      | inr found ↦
          let here : get_or nodes (children n pairs index).1 0 ≡ 2 * index + 1 = parents.other (index - n) within ∙ omega (arith, at.0) in
          let rest = climbed_below n pairs nodes parents other (children n pairs index).1 symbol (suc fuel) found.0 at.5 found.2 in
          joined true found.0 found.3 (children n pairs index).1 rest (climbed_other fuel nodes (children n pairs index).1 index here)
    ]
  where
    joined : (bit : Bool) (rest : List Bool) → bits ≡ bit ∷ rest → (child : ℕ) → climbed (suc fuel + length rest) nodes symbol ≡ climbed (suc fuel) nodes child ++ rest
        → climbed (suc fuel) nodes child ≡ climbed fuel nodes index ++ bit ∷ [] → climbed (fuel + length bits) nodes symbol ≡ climbed fuel nodes index ++ bits
    joined bit rest is child below up =
        let count : fuel + suc (length rest) ≡ suc fuel + length rest = omega arith in
        rw (is, count) (below ∙ (ap (λ front. front ++ rest) up ∙ append_assoc (climbed fuel nodes index) (bit ∷ []) rest))

-- a path is no longer than the index of its root is high
pub path_within : (n : ℕ) (pairs : List (ℕ × ℕ)) (t : Tree) (index symbol : ℕ) (bits : List Bool) → IsTreeAt n pairs index t → path t symbol ≡ Some bits → length bits ≤ index
path_within n pairs (Leaf s) index symbol bits at is = let known = leaf_path s symbol bits is in rw known.1 (omega arith)
path_within n pairs (Node lesser other) index symbol bits at is =
    elim (node_path (path lesser symbol) (path other symbol) bits is) [
      | inl found ↦ rw found.2 (omega (arith, at.2, path_within n pairs lesser (children n pairs index).0 symbol found.0 at.4 found.1))
      | inr found ↦ rw found.3 (omega (arith, at.3, path_within n pairs other (children n pairs index).1 symbol found.0 at.5 found.2))
    ]

-- climbing gives the path
pub climbed_is_path : (n : ℕ) (pairs : List (ℕ × ℕ)) (nodes : List ℕ) (t : Tree) (root symbol fuel : ℕ) (bits : List Bool) → IsParents n pairs nodes → IsRoot pairs root → IsTreeAt n pairs root t → root ≤ fuel
    → path t symbol ≡ Some bits → climbed fuel nodes symbol ≡ bits
climbed_is_path n pairs nodes t root symbol fuel bits parents top at within is =
    let long = path_within n pairs t root symbol bits at is in
    let fuels : fuel ≡ fuel - length bits + length bits = omega (arith, long, within) in
    let below = climbed_below n pairs nodes parents t root symbol (fuel - length bits) bits at is in
    ap (λ k. climbed k nodes symbol) fuels ∙ (below ∙ ap (λ front. front ++ bits) (climbed_root (fuel - length bits) nodes root (parents.roots root top)))

-- the codeword of a symbol
pub huffman_climbed : (weights : List ℕ) (pairs : List (ℕ × ℕ)) (t : Tree) (nodes : List ℕ) (symbol fuel : ℕ) → IsMerged weights pairs t → IsParents (length weights) pairs nodes → length weights + length pairs ≤ fuel + 1
    → symbol < length weights → huffman weights symbol ≡ Some (climbed fuel nodes symbol)
huffman_climbed weights pairs t nodes symbol fuel merged parents within low =
    let found = merge_path_some weights t symbol merged.is low in
    let same = climbed_is_path (length weights) pairs nodes t (length weights + length pairs - 1) symbol fuel found.0 parents merged.root merged.at (omega (arith, within)) found.1 in
    huffman_path weights t symbol merged.is ∙ (found.1 ∙ ap Some (sym same))

-- a symbol past the last has none
pub huffman_none : (weights : List ℕ) (pairs : List (ℕ × ℕ)) (t : Tree) (symbol : ℕ) → IsMerged weights pairs t → length weights ≤ symbol → huffman weights symbol ≡ None
huffman_none weights pairs t symbol merged past = huffman_path weights t symbol merged.is ∙ merge_path_none weights t symbol merged.is past

-- levels beyond those that there are change nothing
pub climbed_same : (bound : ℕ) (nodes : List ℕ) → GoesUp bound nodes → (few many index : ℕ) → bound ≤ index + few + 1 → bound ≤ index + many + 1 → climbed few nodes index ≡ climbed many nodes index
climbed_same bound nodes up zero many index first second =
    elim (up index) [
      | inl none ↦ sym (climbed_root many nodes index none)
      | inr high ↦ absurd (omega (arith, high, first))
    ]
climbed_same bound nodes up (suc few) zero index first second =
    elim (up index) [
      | inl none ↦ climbed_root (suc few) nodes index none
      | inr high ↦ absurd (omega (arith, high, second))
    ]
climbed_same bound nodes up (suc few) (suc many) index first second =
    elim (up index) [
      | inl none ↦ climbed_root (suc few) nodes index none ∙ sym (climbed_root (suc many) nodes index none)
      | inr high ↦
          let rest = climbed_same bound nodes up few many (get_or nodes index 0 / 2) (omega (arith, high, first)) (omega (arith, high, second)) in
          let some : get_or nodes index 0 ≡ 0 → ⊥ = λ none. omega (arith, high, none) in
          climbed_up few nodes index some ∙ (ap (λ bits. bits ++ (get_or nodes index 0 % 2 == 1) ∷ []) rest ∙ sym (climbed_up many nodes index some))
    ]

-- a step of the climb
pub climbed_step : (bound : ℕ) (nodes : List ℕ) (index : ℕ) → GoesUp bound nodes → (get_or nodes index 0 ≡ 0 → ⊥)
    → climbed bound nodes index ≡ climbed bound nodes (get_or nodes index 0 / 2) ++ (get_or nodes index 0 % 2 == 1) ∷ []
climbed_step bound nodes index up some =
    climbed_same bound nodes up bound (suc bound) index (omega arith) (omega arith) ∙ climbed_up bound nodes index some

-- two entries of an array
abbrev pub with_two : List ℕ → ℕ × ℕ → ℕ → List ℕ
with_two nodes pair parent = set (set nodes pair.0 (2 * parent)) pair.1 (2 * parent + 1)

module _ (nodes : List ℕ) (pair : ℕ × ℕ) (parent : ℕ) where
  two_lesser : pair.0 < length nodes → (pair.0 ≡ pair.1 → ⊥) → get_or (with_two nodes pair parent) pair.0 0 ≡ 2 * parent
  two_lesser within apart = get_or-set_other (set nodes pair.0 (2 * parent)) pair.1 pair.0 (2 * parent + 1) 0 apart ∙ get_or-set_same nodes pair.0 (2 * parent) 0 within

  two_other : pair.1 < length nodes → get_or (with_two nodes pair parent) pair.1 0 ≡ 2 * parent + 1
  two_other within = get_or-set_same (set nodes pair.0 (2 * parent)) pair.1 (2 * parent + 1) 0 (omega (arith, within, length-set nodes pair.0 (2 * parent)))

  two_apart : (index : ℕ) → IsNeither index pair → get_or (with_two nodes pair parent) index 0 ≡ get_or nodes index 0
  two_apart index neither =
      get_or-set_other (set nodes pair.0 (2 * parent)) pair.1 index (2 * parent + 1) 0 (λ same. neither.1 (sym same))
      ∙ get_or-set_other nodes pair.0 index (2 * parent) 0 (λ same. neither.0 (sym same))

-- one union more
pub parents_more : (n : ℕ) (pairs : List (ℕ × ℕ)) (nodes : List ℕ) (pair : ℕ × ℕ) → 0 < n → IsUnion n pairs pair → pair.0 < length nodes → pair.1 < length nodes → IsParents n pairs nodes
    → IsParents n (pairs ++ pair ∷ []) (set (set nodes pair.0 (2 * (n + length pairs))) pair.1 (2 * (n + length pairs) + 1))
parents_more n pairs nodes pair some union first second parents = record {
  lesser = λ j within. elim (cases_eq j (length pairs)) [
    | inl last ↦ rw (here j last) (two_lesser nodes pair next first union.apart ∙ omega (arith, last))
    | inr before ↦
        let low = earlier j within before in
        let kept = two_apart nodes pair next (get_or pairs j (0, 0)).0 (neither (get_or pairs j (0, 0)).0 (λ none. omega (arith, none, parents.lesser j low, some))) in
        rw (there j low) (kept ∙ parents.lesser j low)
  ];
  other = λ j within. elim (cases_eq j (length pairs)) [
    | inl last ↦ rw (here j last) (two_other nodes pair next second ∙ omega (arith, last))
    | inr before ↦
        let low = earlier j within before in
        let kept = two_apart nodes pair next (get_or pairs j (0, 0)).1 (neither (get_or pairs j (0, 0)).1 (λ none. omega (arith, none, parents.other j low, some))) in
        rw (there j low) (kept ∙ parents.other j low)
  ];
  roots = λ index root. two_apart nodes pair next index (root_last index root) ∙ parents.roots index (root_before index root);
  up = climbs;
}
  where
    next : ℕ
    next = n + length pairs

    nodes' : List ℕ
    nodes' = with_two nodes pair next

    here : (j : ℕ) → j ≡ length pairs → get_or (pairs ++ pair ∷ []) j (0, 0) ≡ pair
    here j last = get_or_push pairs pair (0, 0) j (sym last)

    earlier : (j : ℕ) → j < length (pairs ++ pair ∷ []) → (j ≡ length pairs → ⊥) → j < length pairs
    earlier j within before = omega (arith, within, before, length_push pairs pair)

    there : (j : ℕ) → j < length pairs → get_or (pairs ++ pair ∷ []) j (0, 0) ≡ get_or pairs j (0, 0)
    there j low = get_or_append_left pairs (pair ∷ []) (0, 0) j low

    neither : (index : ℕ) → (get_or nodes index 0 ≡ 0 → ⊥) → IsNeither index pair
    neither index some =
        ((λ same. some (ap (λ k. get_or nodes k 0) (sym same) ∙ parents.roots pair.0 union.lesser_root)), (λ same. some (ap (λ k. get_or nodes k 0) (sym same) ∙ parents.roots pair.1 union.other_root)))

    root_last : (index : ℕ) → IsRoot (pairs ++ pair ∷ []) index → IsNeither index pair
    root_last index root = rw (get_or_push pairs pair (0, 0) (length pairs) refl) at (All-get_or (IsNeither index) (pairs ++ pair ∷ []) (length pairs) (0, 0) (omega (arith, length_push pairs pair)) root)

    root_before : (index : ℕ) → IsRoot (pairs ++ pair ∷ []) index → IsRoot pairs index
    root_before index root = rw (take_at pairs (pair ∷ []) (length pairs) refl) at (All-take (IsNeither index) (length pairs) (pairs ++ pair ∷ []) root)

    more : length (pairs ++ pair ∷ []) ≡ length pairs + 1
    more = length_push pairs pair

    -- at an entry that names the new union
    named : (entry index : ℕ) → (entry ≡ 2 * next) ⊎ (entry ≡ 2 * next + 1) → index < next → (entry ≡ 0) ⊎ ((index < entry / 2) × (entry / 2 < n + length (pairs ++ pair ∷ [])))
    named entry index (inl is) low = inr (omega (arith, is, low), omega (arith, is, more))
    named entry index (inr is) low = inr (omega (arith, is, low), omega (arith, is, more))

    grown : (entry index : ℕ) → (entry ≡ 0) ⊎ ((index < entry / 2) × (entry / 2 < n + length pairs)) → (entry ≡ 0) ⊎ ((index < entry / 2) × (entry / 2 < n + length (pairs ++ pair ∷ [])))
    grown entry index (inl none) = inl none
    grown entry index (inr high) = inr (high.0, omega (arith, high.1, more))

    climbs : (index : ℕ) → (get_or nodes' index 0 ≡ 0) ⊎ ((index < get_or nodes' index 0 / 2) × (get_or nodes' index 0 / 2 < n + length (pairs ++ pair ∷ [])))
    climbs index =
        elim (cases_eq pair.0 index) [
          | inl lesser ↦ named (get_or nodes' index 0) index (inl (ap (λ k. get_or nodes' k 0) (sym lesser) ∙ two_lesser nodes pair next first union.apart)) (omega (arith, union.lesser_below, lesser))
          | inr differs ↦ elim (cases_eq pair.1 index) [
            | inl other ↦ named (get_or nodes' index 0) index (inr (ap (λ k. get_or nodes' k 0) (sym other) ∙ two_other nodes pair next second)) (omega (arith, union.other_below, other))
            | inr apart ↦ rw (two_apart nodes pair next index (differs, apart)) (grown (get_or nodes index 0) index (parents.up index))
          ]
        ]

-- an index is a root, or a child of a union
child_or_root : (pairs : List (ℕ × ℕ)) (index : ℕ) → IsRoot pairs index ⊎ ((j : ℕ) × (j < length pairs) × (((get_or pairs j (0, 0)).0 ≡ index) ⊎ ((get_or pairs j (0, 0)).1 ≡ index)))
child_or_root [] index = inl (All-nil (IsNeither index))
child_or_root (pair ∷ pairs) index =
    elim (cases_eq pair.0 index) [
      | inl lesser ↦ inr (0, omega arith, inl lesser)
      | inr differs ↦
          elim (cases_eq pair.1 index) [
            | inl other ↦ inr (0, omega arith, inr other)
            | inr apart ↦
                elim (child_or_root pairs index) [
                  | inl root ↦ inl (All-cons (IsNeither index) pair pairs (differs, apart) root)
                  | inr child ↦ inr (suc child.0, omega (arith, child.1), child.2)
                ]
          ]
    ]

-- the entries that name a union stand at its children alone
module _ (n : ℕ) (pairs : List (ℕ × ℕ)) (nodes : List ℕ) (some : 0 < n) (parents : IsParents n pairs nodes) where
  only_lesser : (j index : ℕ) → get_or nodes index 0 ≡ 2 * (n + j) → index ≡ (get_or pairs j (0, 0)).0
  only_lesser j index is =
      elim (child_or_root pairs index) [
        | inl root ↦ absurd (omega (arith, some, is, parents.roots index root))
        | inr child ↦ of_child child.0 child.1 child.2
      ]
    where
      of_child : (k : ℕ) → k < length pairs → ((get_or pairs k (0, 0)).0 ≡ index) ⊎ ((get_or pairs k (0, 0)).1 ≡ index) → index ≡ (get_or pairs j (0, 0)).0
      of_child k within (inl same) =
          let entry : get_or nodes index 0 ≡ 2 * (n + k) = ap (λ i. get_or nodes i 0) (sym same) ∙ parents.lesser k within in
          sym same ∙ ap (λ i. (get_or pairs i (0, 0)).0) (omega (arith, entry, is))
      of_child k within (inr same) =
          let entry : get_or nodes index 0 ≡ 2 * (n + k) + 1 = ap (λ i. get_or nodes i 0) (sym same) ∙ parents.other k within in
          absurd (omega (arith, entry, is))

  only_other : (j index : ℕ) → get_or nodes index 0 ≡ 2 * (n + j) + 1 → index ≡ (get_or pairs j (0, 0)).1
  only_other j index is =
      elim (child_or_root pairs index) [
        | inl root ↦ absurd (omega (arith, is, parents.roots index root))
        | inr child ↦ of_child child.0 child.1 child.2
      ]
    where
      of_child : (k : ℕ) → k < length pairs → ((get_or pairs k (0, 0)).0 ≡ index) ⊎ ((get_or pairs k (0, 0)).1 ≡ index) → index ≡ (get_or pairs j (0, 0)).1
      of_child k within (inl same) =
          let entry : get_or nodes index 0 ≡ 2 * (n + k) = ap (λ i. get_or nodes i 0) (sym same) ∙ parents.lesser k within in
          absurd (omega (arith, entry, is))
      of_child k within (inr same) =
          let entry : get_or nodes index 0 ≡ 2 * (n + k) + 1 = ap (λ i. get_or nodes i 0) (sym same) ∙ parents.other k within in
          sym same ∙ ap (λ i. (get_or pairs i (0, 0)).1) (omega (arith, entry, is))

-- the place of an entry that stands at one place alone
pub found_at : (value : ℕ) (nodes : List ℕ) (index : ℕ) → index < length nodes → get_or nodes index 0 ≡ value → ((i : ℕ) → get_or nodes i 0 ≡ value → i ≡ index) → found value nodes ≡ index
found_at value [] index within is only = absurd (omega (arith, within))
found_at value (entry ∷ entries) zero within is only = rw (eq-eqb entry value is) refl
found_at value (entry ∷ entries) (suc index) within is only =
    elim (eqb_tells entry value) [
      | inl same ↦ absurd (omega (arith, only 0 same.1))
      | inr differs ↦ rw differs.0 (ap suc (found_at value entries index (omega (arith, within)) is (λ i at. omega (arith, only (suc i) at))))
    ]

-- the tree at an index, by the array alone
pub tree_in_at : (n : ℕ) (pairs : List (ℕ × ℕ)) (nodes : List ℕ) → IsParents n pairs nodes → 0 < n → length nodes ≡ n + length pairs → length nodes / 2 + 1 ≡ n
    → (t : Tree) (index fuel : ℕ) → index ≤ fuel → IsTreeAt n pairs index t → tree_in fuel nodes index ≡ t
tree_in_at n pairs nodes parents some size half (Leaf s) index zero within at = ap Leaf at.0
tree_in_at n pairs nodes parents some size half (Leaf s) index (suc fuel) within at = rw (half, lt-ltb index n at.1, tree_in) (ap Leaf at.0)
tree_in_at n pairs nodes parents some size half (Node lesser other) index zero within at = absurd (omega (arith, within, at.2))
tree_in_at n pairs nodes parents some size half (Node lesser other) index (suc fuel) within at =
    let place = index - n in
    let union : place < length pairs = omega (arith, at.0, at.1) in
    let here : n + place ≡ index = omega (arith, at.0) in
    let lesser_entry : get_or nodes (children n pairs index).0 0 ≡ 2 * index = parents.lesser place union ∙ omega (arith, here) in
    let other_entry : get_or nodes (children n pairs index).1 0 ≡ 2 * index + 1 = parents.other place union ∙ omega (arith, here) in
    let first : found (2 * index) nodes ≡ (children n pairs index).0 = found_at (2 * index) nodes (children n pairs index).0 (omega (arith, size, at.1, at.2)) lesser_entry (λ i is. only_lesser n pairs nodes some parents place i (is ∙ omega (arith, here))) in
    let second : found (2 * index + 1) nodes ≡ (children n pairs index).1 = found_at (2 * index + 1) nodes (children n pairs index).1 (omega (arith, size, at.1, at.3)) other_entry (λ i is. only_other n pairs nodes some parents place i (is ∙ omega (arith, here))) in
    let left = tree_in_at n pairs nodes parents some size half lesser (children n pairs index).0 fuel (omega (arith, within, at.2)) at.4 in
    let right = tree_in_at n pairs nodes parents some size half other (children n pairs index).1 fuel (omega (arith, within, at.3)) at.5 in
    rw (half, le-ltb index n at.0, tree_in, first, second, left, right) refl

-- the tree of the weights, by the array alone
pub tree_in_is : (weights : List ℕ) (pairs : List (ℕ × ℕ)) (tree : Tree) (nodes : List ℕ) (fuel : ℕ) → IsMerged weights pairs tree → IsParents (length weights) pairs nodes → length nodes ≡ length weights + length pairs
    → length nodes ≤ fuel + 1 → tree_in fuel nodes (length nodes - 1) ≡ tree
tree_in_is weights pairs tree nodes fuel merged parents size within =
    let count = merged.count in
    let root : length nodes - 1 ≡ length weights + length pairs - 1 = omega (arith, size) in
    tree_in_at (length weights) pairs nodes parents (omega (arith, count)) size (omega (arith, size, count)) tree (length nodes - 1) fuel (omega (arith, within)) (rw root merged.at)
