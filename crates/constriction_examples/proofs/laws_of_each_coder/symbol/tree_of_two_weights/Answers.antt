use Rattle.std.proofs.Common.{[], ◌∷◌, false, refl}
use Rattle.constriction_examples.proofs.laws_of_each_coder.symbol.tree_of_two_weights.Goals as goal

pub returns-clause-tree : goal.returns-clause-tree
returns-clause-tree c = refl

pub returns-clause-alone : goal.returns-clause-alone
returns-clause-alone c = λ symbol tail is. c.huffman_is_prefix_free.ensures (1 ∷ 1 ∷ []) 0 symbol (false ∷ []) tail refl is
