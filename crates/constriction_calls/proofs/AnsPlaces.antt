-- Steps of the stack coder for items at the positions of a list, from the last to the first.
use Rattle.std.proofs.Common.{ℕ, ◌-◌, ◌<◌, List, drop}
use Rattle.std.specs.Prelude.{reverse}
use Rattle.constriction_base.specs.Models.{Item}
use Rattle.constriction_stack.specs.Ans.{AnsState, IsPush}
use Rattle.constriction_stack.specs.Symbols.{Encodes, EncodesAll}
use Rattle.constriction_inputs.specs.Items.{HasAt, HasInterval}
use Rattle.constriction_inputs.proofs.Places.{further_back, has_more}

-- one encode more
pub codes_more : (w s precision bits : ℕ) (items : List (Item ℕ)) (left : ℕ) → 0 < left → (l p : ℕ) → HasAt items (left - 1) (HasInterval precision bits l p) → (a b c : AnsState)
    → EncodesAll w s (reverse (drop left items)) a b → IsPush w s (record { precision = precision; left = l; p = p }) b c → EncodesAll w s (reverse (drop (left - 1) items)) a c
codes_more w s precision bits items left some l p at a b c all push =
    further_back (λ item. Encodes w s item.model item.symbol) items left some a b c all
    (has_more items (left - 1) (HasInterval precision bits l p) (λ item. Encodes w s item.model item.symbol b c) (λ item e. (l, p, e.1.has, rw e.0 push)) at)
