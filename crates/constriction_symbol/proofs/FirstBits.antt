-- A table of first bits: one bit more, one number more, and looking up.
use Rattle.std.proofs.Common.{◌≡◌, ◌<◌, ◌≤◌, ◌+◌, ◌*◌, ◌-◌, ◌/◌, ◌%◌, ◌^◌, ◌==◌, ℕ, zero, suc, Bool, List, Some, [], ◌∷◌, ◌++◌, refl, sym, subst, ap, ◌∙◌, arith, inl, inr, get_or, length, map, reverse, take, take_all, drop, slice_index_or}
use Rattle.std.proofs.Math.Pow.{pow_mono}
use Rattle.std.proofs.lemmas.Bool.{cases_eq}
use Rattle.std.proofs.lemmas.List.{get_or_append_left, get_or_push, length-drop, length-reverse, length-take-le, length_push, reverse-append, reverse-reverse, take-append-drop, take-append-le}
use Rattle.std.proofs.lemmas.Nat.{shr-shr}
use Rattle.std.proofs.Math.Nat.{pow-succ'}
use Rattle.constriction_base.proofs.Heads.{shr_below_top}
use native.Mathlib.Nat.{pow-zero}
use mir.Val.{bool_byte}
use Rattle.constriction_symbol.specs.Bits.{bits_of}
use Rattle.constriction_symbol.specs.Codewords.{BeginsTopBits}
use Rattle.constriction_symbol.specs.DecoderTree.{LeadToNodes, HoldsTree, LeadsToNode, LeadsTo, tree_of_pairs}
use Rattle.constriction_symbol.specs.EncoderTree.{HasBelowOne}
use Rattle.constriction_symbol.specs.Huffman.{IsTreeAt, path, subtree}
use Rattle.constriction_symbol.specs.Merging.{as_pair}
use Rattle.constriction_symbol.specs.declared.huffman.first_bits.ReachedNode.{ReachedNode}
use Rattle.constriction_symbol.proofs.Coding.{length_bits}
use Rattle.constriction_symbol.proofs.Marked.{none_below_one, one_more_below}
use Rattle.constriction_symbol.proofs.Walking.{arrived, child_at, last_bits}

-- a bit more behind a symbol: its place stays
pub place_stays : (nodes : List (List ℕ)) (bits : List Bool) (bit : Bool) (place : ReachedNode) → place.index < length nodes + 1 → LeadsToNode nodes bits place → LeadsToNode nodes (bits ++ bit ∷ []) place
place_stays nodes bits bit place low is = record {
  within = omega (arith, is.within, length_push bits bit);
  leads = subst (λ bs. LeadsTo nodes bs place.index) (sym (take-append-le place.taken bits (bit ∷ []) is.within)) is.leads;
  whole = inl low;
}

byte_of : (bit : ℕ) → bit < 2 → bool_byte (bit == 1) ≡ bit
byte_of zero some = refl
byte_of (suc zero) some = refl
byte_of (suc (suc n)) some = absurd (omega (arith, some))

all_taken : (nodes : List (List ℕ)) (bits : List Bool) (place : ReachedNode) → (place.index < length nodes + 1 → ⊥) → LeadsToNode nodes bits place → place.taken ≡ length bits
all_taken nodes bits place high is =
    elim is.whole [
      | inl low ↦ absurd (high low)
      | inr all ↦ all
    ]

-- a bit more behind a node: its child's
pub place_moves : (nodes : List (List ℕ)) (bits : List Bool) (bit : ℕ) (place : ReachedNode) → bit < 2 → (place.index < length nodes + 1 → ⊥) → LeadsToNode nodes bits place
    → LeadsToNode nodes (bits ++ (bit == 1) ∷ []) (record { index = slice_index_or (slice_index_or nodes (place.index - (length nodes + 1)) []) bit 0; taken = place.taken + 1 })
place_moves nodes bits bit place some high is =
    let all : place.taken ≡ length bits = all_taken nodes bits place high is in
    let here : take place.taken bits ≡ bits = take_all place.taken bits (omega (arith, all)) in
    let leads : subtree (tree_of_pairs nodes) bits ≡ Some is.leads.tree = subst (λ bs. subtree (tree_of_pairs nodes) bs ≡ Some is.leads.tree) here is.leads.leads in
    let down = child_at nodes place.index (tree_of_pairs nodes) is.leads.tree bits (bit == 1) (omega (arith, high)) leads is.leads.at in
    let long = length_push bits (bit == 1) in
    let there : take (place.taken + 1) (bits ++ (bit == 1) ∷ []) ≡ bits ++ (bit == 1) ∷ [] = take_all (place.taken + 1) (bits ++ (bit == 1) ∷ []) (omega (arith, all, long)) in
    record {
      within = omega (arith, all, long);
      leads = record {
        tree = down.0;
        leads = subst (λ bs. subtree (tree_of_pairs nodes) bs ≡ Some down.0) (sym there) down.1;
        at = subst (λ b. IsTreeAt (length nodes + 1) (map as_pair nodes) (slice_index_or (slice_index_or nodes (place.index - (length nodes + 1)) []) b 0) down.0) (byte_of bit some) down.2;
      };
      whole = inr (omega (arith, all, long));
    }

-- a number that is some has bits below its highest one
pub bits_below : (k number : ℕ) → 0 < number → number < 2 ^ k → (bits : List Bool) × (length bits < k) × HasBelowOne bits number
bits_below zero number some fits = absurd (omega (arith, some, fits, pow-zero 2))
bits_below (suc k) number some fits =
    elim (cases_eq (number / 2) 0) [
      | inl none ↦ let one : 1 ≡ number = omega (arith, some, none) in ([], omega arith, subst (λ n. HasBelowOne [] n) one none_below_one)
      | inr more ↦
          let above = bits_below k (number / 2) (omega (arith, more)) (omega (arith, fits, pow-succ' 2 k)) in
          let whole : 2 * (number / 2) + number % 2 ≡ number = omega arith in
          (above.0 ++ (number % 2 == 1) ∷ [], omega (arith, above.1, length_push above.0 (number % 2 == 1)), subst (λ n. HasBelowOne (above.0 ++ (number % 2 == 1) ∷ []) n) whole (one_more_below above.0 (number / 2) (number % 2) (omega arith) above.2))
    ]

-- the bits of a number without the last one are those of its half
less_of : (count low number : ℕ) (bits : List Bool) → low < 2 ^ count → number ≡ low + 2 ^ count → bits ≡ reverse (bits_of count low) → 2 ≤ number
    → (above : List Bool) × HasBelowOne above (number / 2) × (bits ≡ above ++ (number % 2 == 1) ∷ [])
less_of zero low number bits small is reads some = absurd (omega (arith, small, is, some, pow-zero 2))
less_of (suc c) low number bits small is reads some =
    let last : low % 2 ≡ number % 2 = omega (arith, is, pow-succ' 2 c) in
    let half : HasBelowOne (reverse (bits_of c (low / 2))) (number / 2) = record { count = c; low = low / 2; small = omega (arith, small, pow-succ' 2 c); is = omega (arith, is, pow-succ' 2 c); reads = refl } in
    (reverse (bits_of c (low / 2)), half, reads ∙ (reverse-append ((low % 2 == 1) ∷ []) (bits_of c (low / 2)) ∙ ap (λ b. reverse (bits_of c (low / 2)) ++ (b == 1) ∷ []) last))

-- one number more, by the place of its half
pub place_more : (nodes : List (List ℕ)) (places : List ReachedNode) (place : ReachedNode) (number : ℕ) → number ≡ length places → 2 ≤ number → LeadToNodes nodes places
    → ((bits : List Bool) → LeadsToNode nodes bits (get_or places (number / 2) (record { index = 0; taken = 0 })) → LeadsToNode nodes (bits ++ (number % 2 == 1) ∷ []) place)
    → LeadToNodes nodes (places ++ place ∷ [])
place_more nodes places place number next some before below i bits within is =
    let none : ReachedNode = record { index = 0; taken = 0 } in
    elim (cases_eq i number) [
      | inl same ↦
          let less = less_of is.count is.low i bits is.small is.is is.reads (omega (arith, same, some)) in
          let half : HasBelowOne less.0 (number / 2) = subst (λ n. HasBelowOne less.0 (n / 2)) same less.1 in
          let whole : bits ≡ less.0 ++ (number % 2 == 1) ∷ [] = less.2 ∙ ap (λ n. less.0 ++ (n % 2 == 1) ∷ []) same in
          subst (λ bs. LeadsToNode nodes bs (get_or (places ++ place ∷ []) i none)) (sym whole)
          (subst (λ p. LeadsToNode nodes (less.0 ++ (number % 2 == 1) ∷ []) p) (sym (get_or_push places place none i (omega (arith, same, next)))) (below less.0 (before (number / 2) less.0 (omega (arith, next, some)) half)))
      | inr other ↦
          let low : i < length places = omega (arith, within, other, next, length_push places place) in
          subst (λ p. LeadsToNode nodes bits p) (sym (get_or_append_left places (place ∷ []) none i low)) (before i bits low is)
    ]

-- only no bits are below the highest one of 1, and 0 has none
below_first : (number count low : ℕ) (bits : List Bool) → low < 2 ^ count → number ≡ low + 2 ^ count → bits ≡ reverse (bits_of count low) → number < 2 → bits ≡ []
below_first number zero low bits small is reads few = reads
below_first number (suc c) low bits small is reads few = absurd (omega (arith, is, few, pow-succ' 2 c, pow_some c))
  where
    pow_some : (c : ℕ) → 0 < 2 ^ c
    pow_some c = let up : 2 ^ 0 ≤ 2 ^ c = pow_mono {i = 0} {j = c} (omega arith) in omega (arith, up, pow-zero 2)

-- no bits lead to the root
pub root_place : (nodes : List (List ℕ)) → HoldsTree nodes (tree_of_pairs nodes) → LeadsToNode nodes [] (record { index = 2 * length nodes; taken = 0 })
root_place nodes held =
    let root : length nodes + length nodes ≡ 2 * length nodes = omega arith in
    record {
      within = omega arith;
      leads = record {
        tree = tree_of_pairs nodes;
        leads = refl;
        at = subst (λ i. IsTreeAt (length nodes + 1) (map as_pair nodes) i (tree_of_pairs nodes)) root held.at;
      };
      whole = inr refl;
    }

-- the first two numbers
pub first_places : (nodes : List (List ℕ)) → HoldsTree nodes (tree_of_pairs nodes) → LeadToNodes nodes (record { index = 2 * length nodes; taken = 0 } ∷ record { index = 2 * length nodes; taken = 0 } ∷ [])
first_places nodes held zero bits within is = rw (below_first 0 is.count is.low bits is.small is.is is.reads (omega arith)) (root_place nodes held)
first_places nodes held (suc zero) bits within is = rw (below_first 1 is.count is.low bits is.small is.is is.reads (omega arith)) (root_place nodes held)
first_places nodes held (suc (suc n)) bits within is = absurd (omega (arith, within))

-- the first of a word's highest bits
first_of_top : (w count taken n : ℕ) → count ≤ w → taken ≤ count → take taken (reverse (bits_of count (n / 2 ^ (w - count)))) ≡ reverse (bits_of taken (n / 2 ^ (w - taken)))
first_of_top w count taken n within few =
    let m = n / 2 ^ (w - count) in
    let xs = bits_of count m in
    let ys = reverse xs in
    let front = take taken ys in
    let long : length front ≡ taken = length-take-le taken ys (omega (arith, few, length-reverse xs, length_bits count m)) in
    let back : length (reverse front) ≡ taken = length-reverse front ∙ long in
    let split : xs ≡ reverse (drop taken ys) ++ reverse front = sym (reverse-reverse xs) ∙ (ap reverse (sym (take-append-drop taken ys)) ∙ reverse-append front (drop taken ys)) in
    let last : reverse front ≡ bits_of (length (reverse front)) (m / 2 ^ (count - length (reverse front))) = last_bits (reverse (drop taken ys)) (reverse front) count m split in
    let here : reverse front ≡ bits_of taken (m / 2 ^ (count - taken)) = subst (λ k. reverse front ≡ bits_of k (m / 2 ^ (count - k))) back last in
    let place : w - count + (count - taken) ≡ w - taken = omega (arith, within, few) in
    let at : m / 2 ^ (count - taken) ≡ n / 2 ^ (w - taken) = shr-shr n (w - count) (count - taken) ∙ ap (λ e. n / 2 ^ e) place in
    sym (reverse-reverse front) ∙ ap reverse (here ∙ ap (bits_of taken) at)

-- the highest bits of a word are a number of so many bits
pub top_small : (w count n : ℕ) → count ≤ w → n < 2 ^ w → n / 2 ^ (w - count) < 2 ^ count
top_small w count n within fits =
    let same : w - (w - count) ≡ count = omega (arith, within) in
    subst (λ e. n / 2 ^ (w - count) < 2 ^ e) same (shr_below_top w (w - count) n (omega arith) fits)

-- the bit that is set above so few others
pub set_bit : (count most : ℕ) → count ≤ most → most ≤ 9 → (2 ^ count ≤ 512) × (1 * 2 ^ count % 18446744073709551616 ≡ 2 ^ count)
set_bit count most few nine =
    let small : 2 ^ count ≤ 512 = pow_mono {i = count} {j = 9} (omega (arith, few, nine)) in
    (small, omega (arith, small))

pub number_low : (size most count first : ℕ) → size ≡ 2 ^ (most + 1) → count ≤ most → first < 2 ^ count → first + 2 ^ count < size
number_low size most count first is few small =
    let up : 2 ^ suc count ≤ 2 ^ (most + 1) = pow_mono {i = suc count} {j = most + 1} (omega (arith, few)) in
    omega (arith, is, small, up, pow-succ' 2 count)

pub table_size : (most : ℕ) → 0 < most → most ≤ 9 → (2 ≤ 2 ^ (most + 1)) × (2 ^ (most + 1) ≤ 1024)
table_size most some few = (pow_mono {i = 1} {j = most + 1} (omega (arith, some)), pow_mono {i = most + 1} {j = 10} (omega (arith, few)))

-- the place of a word's highest bits, by the number that has one bit more above them
pub top_place : (nodes : List (List ℕ)) (places : List ReachedNode) (w count most n first number : ℕ) → LeadToNodes nodes places → length places ≡ 2 ^ (most + 1) → count ≤ w → count ≤ most → n < 2 ^ w → first ≡ n / 2 ^ (w - count) → number ≡ first + 2 ^ count
    → (place : ReachedNode) → place ≡ get_or places number (record { index = 0; taken = 0 })
    → (place.taken ≤ w) × LeadsTo nodes (reverse (bits_of place.taken (n / 2 ^ (w - place.taken)))) place.index
top_place nodes places w count most n first number has len within few fits is_first is_number place is_place =
    let small : first < 2 ^ count = rw is_first (top_small w count n within fits) in
    let low : number < length places = omega (arith, is_number, number_low (length places) most count first len few small) in
    let found = has number (reverse (bits_of count first)) low (record { count = count; low = first; small = small; is = is_number; reads = refl }) in
    let is : LeadsToNode nodes (reverse (bits_of count first)) place = subst (λ p. LeadsToNode nodes (reverse (bits_of count first)) p) (sym is_place) found in
    let fewer : place.taken ≤ count = omega (arith, is.within, length-reverse (bits_of count first), length_bits count first) in
    let top : take place.taken (reverse (bits_of count first)) ≡ reverse (bits_of place.taken (n / 2 ^ (w - place.taken))) = ap (λ f. take place.taken (reverse (bits_of count f))) is_first ∙ first_of_top w count place.taken n within fewer in
    (omega (arith, fewer, within), subst (λ bs. LeadsTo nodes bs place.index) top is.leads)

-- what is left of a word's bits where the highest are taken off
pub top_split : (w t n : ℕ) (all rest : List Bool) → t ≤ w → all ≡ bits_of w n → rest ≡ take (length all - t) all → bits_of w n ≡ rest ++ reverse (reverse (bits_of t (n / 2 ^ (w - t))))
top_split w t n all rest within is left =
    let xs = bits_of w n in
    let back = drop (w - t) xs in
    let long : length back ≡ t = omega (arith, within, length-drop (w - t) xs, length_bits w n) in
    let last : back ≡ bits_of (length back) (n / 2 ^ (w - length back)) = last_bits (take (w - t) xs) back w n (sym (take-append-drop (w - t) xs)) in
    let here : back ≡ bits_of t (n / 2 ^ (w - t)) = subst (λ k. back ≡ bits_of k (n / 2 ^ (w - k))) long last in
    let front : rest ≡ take (w - t) xs = left ∙ (ap (λ bs. take (length bs - t) bs) is ∙ ap (λ k. take (k - t) xs) (length_bits w n)) in
    sym (take-append-drop (w - t) xs) ∙ (ap (λ bs. take (w - t) xs ++ bs) (here ∙ sym (reverse-reverse (bits_of t (n / 2 ^ (w - t))))) ∙ ap (λ bs. bs ++ reverse (reverse (bits_of t (n / 2 ^ (w - t))))) (sym front))

-- a symbol that a word's highest bits lead to: they are its codeword
pub top_begins : (nodes : List (List ℕ)) (w all n index taken : ℕ) → HoldsTree nodes (tree_of_pairs nodes) → index < length nodes + 1 → 0 < taken → taken < all → LeadsTo nodes (reverse (bits_of taken (n / 2 ^ (w - taken)))) index
    → BeginsTopBits w all n (path (tree_of_pairs nodes) index) taken
top_begins nodes w all n index taken held low some part leads = record {
  some = some;
  part = part;
  is = arrived nodes index (tree_of_pairs nodes) leads.tree (reverse (bits_of taken (n / 2 ^ (w - taken)))) held low leads.leads leads.at;
}
