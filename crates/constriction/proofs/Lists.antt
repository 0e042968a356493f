-- Lists of symbols turned round, and under one model.
pub use Rattle.constriction_base.proofs.Turns.{map-reverse, all-append, all-reverse}
pub use Rattle.constriction_base.proofs.SameModel.{are_models, models-alike, symbols-items_of}
pub use Rattle.constriction_base.proofs.WordLists.{own_remainders, sum_of_remainders}
pub use Rattle.constriction_symbol.proofs.HuffmanMerge.{length_symbols}
