-- One symbol more from a coder, in a list that is being filled.
use Rattle.std.proofs.Common.{◌<◌, ◌+◌, ℕ, List, take, length, set}
use Rattle.std.proofs.lemmas.List.{take_more_set}
use Rattle.constriction_base.specs.Models.{Model, items_of}
use Rattle.constriction_base.proofs.Trace.{Trace-symbol}
use Rattle.constriction_stack.specs.Ans.{AnsState}
use Rattle.constriction_stack.specs.Symbols.{Decodes, DecodesAll}

pub one_more : (w s : ℕ) (model : Model ℕ) (symbols : List ℕ) (place symbol : ℕ) (first old new : AnsState) → place < length symbols
    → DecodesAll w s (items_of model (take place symbols)) first old → Decodes w s model symbol old new
    → DecodesAll w s (items_of model (take (place + 1) (set symbols place symbol))) first new
one_more w s model symbols place symbol first old new within all step =
    rw (take_more_set symbols place symbol within) (Trace-symbol (λ item. Decodes w s item.model item.symbol) model (take place symbols) symbol first old new all step)
