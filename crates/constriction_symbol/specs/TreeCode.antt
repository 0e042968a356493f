-- An invertible code of Huffman trees as lists of numbers, in postorder. With this code, contracts describe a struct
-- by its tree.
use Rattle.std.proofs.Common.{◌≡◌, ℕ, zero, suc, List, [], ◌∷◌, ◌++◌, ap, sym, refl, ◌∙◌, append_assoc, append-nil}
use Rattle.std.specs.Coded.{Coded, code_by, coded_list, coded_ℕ}
use Rattle.constriction_symbol.specs.Huffman.{Tree}
use Rattle.constriction_symbol.specs.Huffman.Tree.{Leaf, Node}

-- An inner node is listed as both children and a 0, a leaf as its symbol plus 1.
abbrev pub listed : Tree → List ℕ
listed (Leaf s) = suc s ∷ []
listed (Node lesser other) = listed lesser ++ (listed other ++ 0 ∷ [])

-- The stack of trees after one number: 0 joins the two top trees, and another number pushes a leaf.
abbrev pub stacked : ℕ → List Tree → List Tree
stacked (suc s) stack = Leaf s ∷ stack
stacked zero [] = []
stacked zero (t ∷ []) = t ∷ []
stacked zero (other ∷ lesser ∷ stack) = Node lesser other ∷ stack

-- The stack of trees after a list of numbers, each applied as in `stacked`.
abbrev pub unlisted : List ℕ → List Tree → List Tree
unlisted [] stack = stack
unlisted (n ∷ ns) stack = unlisted ns (stacked n stack)

-- The top of a stack of trees.
abbrev pub top : List Tree → Tree
top [] = Leaf 0
top (t ∷ stack) = t

listed_back : (t : Tree) (rest : List ℕ) (stack : List Tree) → unlisted (listed t ++ rest) stack ≡ unlisted rest (t ∷ stack)
listed_back (Leaf s) rest stack = refl
listed_back (Node lesser other) rest stack =
    let split : listed (Node lesser other) ++ rest ≡ listed lesser ++ (listed other ++ 0 ∷ rest) =
    append_assoc (listed lesser) (listed other ++ 0 ∷ []) rest ∙ ap (λ ns. listed lesser ++ ns) (append_assoc (listed other) (0 ∷ []) rest) in
    ap (λ ns. unlisted ns stack) split ∙ (listed_back lesser (listed other ++ 0 ∷ rest) stack ∙ listed_back other (0 ∷ rest) (lesser ∷ stack))

pub tree_back : (t : Tree) → top (unlisted (listed t) []) ≡ t
tree_back t = ap (λ ns. top (unlisted ns [])) (sym (append-nil (listed t))) ∙ ap top (listed_back t [] [])

abbrev pub tree_code : Coded Tree
tree_code = code_by (List ℕ) (coded_list coded_ℕ) listed (λ ns. top (unlisted ns [])) tree_back
