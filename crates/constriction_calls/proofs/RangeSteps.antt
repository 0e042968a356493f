-- Steps of the range coder for items at the positions of a list, and where a decoder's numbers stand as they read on.
use Rattle.std.proofs.Common.{◌≡◌, ℕ, ◌+◌, List, take, ◌-◌, ◌/◌, length, drop, sym, ap, ◌∙◌, arith}
use Rattle.constriction_base.specs.Models.{Item}
use Rattle.constriction_queue.specs.Range.{Run, narrowed_by}
use Rattle.constriction_queue.specs.Symbols.{Narrows, NarrowsAll, FindsAll}
use Rattle.constriction_inputs.specs.Items.{HasAt, HasInterval}
use Rattle.constriction_inputs.proofs.Places.{further, has_more}
use Rattle.std.proofs.lemmas.List.{drop-drop}
use Rattle.constriction_queue.specs.Decoder.{Decoder, StandsAt}
use Rattle.constriction_calls.specs.RangeCalls.{IsRead, StandsOver}
use Rattle.constriction_calls.specs.declared.range.parts.DecoderParts.{DecoderParts}
use Rattle.constriction_queue.proofs.ReadingOn.{moves_on, rest_of}

-- one encode more
pub narrows_more : (w s precision bits : ℕ) (items : List (Item ℕ)) (k l p : ℕ) → HasAt items k (HasInterval precision bits l p) → (first a b : Run)
    → NarrowsAll w s (take k items) first a → b ≡ narrowed_by w s (record { precision = precision; left = l; p = p }) a → NarrowsAll w s (take (k + 1) items) first b
narrows_more w s precision bits items k l p at first a b all is =
    further (λ item. Narrows w s item.model item.symbol) items k first a b all
    (has_more items k (HasInterval precision bits l p) (λ item. Narrows w s item.model item.symbol a b) (λ item e. (l, p, e.1.has, rw e.0 is)) at)

module _ {State B : Type 0} (state : State → ℕ) (w s : ℕ) (buffer words : List ℕ) where
  -- a decoder of the numbers stands where these do
  pub stands_read : (run : Run) (d : DecoderParts State) (decoder : Decoder B) → StandsOver state w s buffer words run d → IsRead state buffer d decoder → StandsAt w s words run decoder
  stands_read run d decoder at is =
      record { lower_is = is.lower ∙ at.lower_is; range_is = is.range ∙ at.range_is; point_is = is.point ∙ at.point_is; rest_is = is.words ∙ at.rest_is }

  -- and so do the numbers of a decoder that read on
  pub stands_on : (items : List (Item ℕ)) (run last : Run) (old new : DecoderParts State) (d : Decoder B) → StandsOver state w s buffer words run old
      → FindsAll w s words items run last → StandsAt w s words last d → state new.lower ≡ d.lower → state new.range ≡ d.range → state new.point ≡ d.point
      → new.pos ≡ length buffer - length d.words → StandsOver state w s buffer words last new
  stands_on items run last old new d at all there lower_is range_is point_is pos_is =
      let k : ℕ = last.moves - run.moves in
      let sum : last.moves + s / w ≡ run.moves + s / w + k = omega (arith, (moves_on w s words items run last all)) in
      let left : d.words ≡ drop (old.pos + k) buffer =
      there.rest_is ∙ ap (λ n. drop n words) sum ∙ sym (drop-drop k (run.moves + s / w) words) ∙ ap (λ ws. drop k ws) (sym at.rest_is) ∙ drop-drop k old.pos buffer in
      let rest : drop new.pos buffer ≡ d.words =
      ap (λ n. drop n buffer) (pos_is ∙ ap (λ (ws : List ℕ). length buffer - length ws) left) ∙ rest_of (old.pos + k) buffer ∙ sym left in
      record { lower_is = lower_is ∙ there.lower_is; range_is = range_is ∙ there.range_is; point_is = point_is ∙ there.point_is; rest_is = rest ∙ there.rest_is }
