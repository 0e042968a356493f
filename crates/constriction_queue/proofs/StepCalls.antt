-- What one step of a range coder that went well does to its run.
use Rattle.std.proofs.Common.{◌≡◌, ℕ, ◌+◌, ◌-◌, ◌*◌, ◌<◌, ◌^◌, ◌⊎◌, List, [], Ok, Err, inl, inr, refl, ◌∙◌, arith}
use Rattle.constriction_base.specs.declared.backends.reading.Holds as holding
use Rattle.constriction_base.specs.declared.backends.reading.ReadWords as reading
use Rattle.constriction_base.specs.declared.backends.writing.WriteWords as writing
use Rattle.constriction_base.specs.Steps.{Step}
use Rattle.constriction_base.specs.Tables.{AtEntry}
use Rattle.constriction_base.specs.Models.{Model, IsModel}
use Rattle.constriction_base.proofs.Entries.{in_range}
use Rattle.constriction_stream.specs.Symbols.{EncodesSymbol, ByBackend}
use Rattle.constriction_queue.specs.Range.{Run, narrowed_by, offset}
use Rattle.constriction_queue.specs.Encoder.{Encoder, run_by}
use Rattle.constriction_queue.specs.Decoder.{Decoder, distance, quantile_read, StandsAt}
use Rattle.constriction_queue.specs.Calls as calls
use Rattle.constriction_queue.specs.Symbols.{Narrows, Finds, MayEnd, NearsEnd}
use Rattle.constriction_queue.proofs.Pointing.{takes_is, mod_sum}

-- ---- encodes
module _ {S W B E F Q : Type 0} (number : W → ℕ) (holds : holding.Ghosts B W Q) (writes : writing.Ghosts B W E) (w s : ℕ) (is_impossible : F → Type 0) where
  -- a step of the encoder that went well is an encode of the symbol
  pub encode_of : (model : Model S) (symbol : S) (old new : Encoder B)
      → EncodesSymbol {F = F} (ByBackend (calls.EncodeCall number holds writes w s)) is_impossible model.precision model.table symbol old (Ok tt) new
      → Narrows w s model symbol (run_by w s old) (run_by w s new)
  encode_of model symbol old new (inl (left, p, has, (Ok u, e, is))) = (left, p, has, e.narrowed)
  encode_of model symbol old new (inl (left, p, has, (Err x, e, is))) = absurd cc
  encode_of model symbol old new (inr (never, e, impossible, is, same)) = absurd cc

-- ---- decodes
module _ {S W B E Q : Type 0} (F : Type 0) (number : W → ℕ) (holds : holding.Ghosts B W Q) (reads : reading.Ghosts B W Q E) (w s : ℕ) (words : List ℕ) (known : holds.is_list) where
  -- a step of the decoder that went well is a decode of the symbol
  abbrev pub Given : Model S → S → Decoder B → Decoder B → Type 0
  Given model symbol old new = AtEntry model.precision model.table symbol (λ step. ByBackend {F = F} (calls.DecodeCall number holds reads w s) old step (Ok tt) new)

  pub decode_of : (model : Model S) (symbol : S) (r : Run) (old new : Decoder B) → StandsAt w s words r old → Given model symbol old new
      → (last : Run) × Finds w s words model symbol r last × StandsAt w s words last new
  decode_of model symbol r old new at (left, p, has, (Ok u, d, is)) =
      let e : Step = record { precision = model.precision; left = left; p = p } in
      let takes = takes_is w s model.precision left p words r old.lower old.range old.point (quantile_read s model.precision old) old.words refl d.from d.below at in
      (narrowed_by w s e r, (left, p, has, (takes, refl)), d.read known words r at)
  decode_of model symbol r old new at (left, p, has, (Err e, d, is)) = absurd cc

-- ---- where words may end
-- the distance that a decoder holds is that of its run
pub distance_is : {B : Type 0} (w s : ℕ) (words : List ℕ) (r : Run) (d : Decoder B) → 0 < 2 ^ s → StandsAt w s words r d → distance s d ≡ offset w s words r
distance_is w s words r d some at = rw (at.point_is, at.lower_is) (mod_sum _ _ (2 ^ s) some)

pub ended_of : {B : Type 0} (w s : ℕ) (words : List ℕ) (r : Run) (d : Decoder B) → 0 < 2 ^ s → StandsAt w s words r d → MayEnd w s words r
    → (d.words ≡ []) × ((d.range + 1 ≡ 2 ^ s) ⊎ (distance s d + 1 < 2 * 2 ^ (s - w)))
ended_of w s words r d some at (none, inl all) = (at.rest_is ∙ none, inl (omega (arith, at.range_is, all)))
ended_of w s words r d some at (none, inr near) = (at.rest_is ∙ none, inr (omega (arith, distance_is w s words r d some at, near)))

pub nears_of : {B : Type 0} (w s : ℕ) (words : List ℕ) (r : Run) (d : Decoder B) → 0 < 2 ^ s → StandsAt w s words r d
    → (d.range + 1 ≡ 2 ^ s) ⊎ (distance s d + 1 < 2 * 2 ^ (s - w)) → NearsEnd w s words r
nears_of w s words r d some at (inl all) = inl (omega (arith, at.range_is, all))
nears_of w s words r d some at (inr near) = inr (omega (arith, distance_is w s words r d some at, near))

-- what is read there is a quantile
pub found_quantile : {B : Type 0} (w s : ℕ) (words : List ℕ) (model : Model ℕ) (x : ℕ) (r next : Run) (d : Decoder B) → IsModel w model → 0 < 2 ^ s → StandsAt w s words r d
    → Finds w s words model x r next → quantile_read s model.precision d < 2 ^ model.precision
found_quantile w s words model x r next d m some at (left, p, has, (takes, is)) =
    let bound = in_range 0 (2 ^ model.precision) model.table x left p m.lawful.follow has in
    rw (distance_is w s words r d some at, at.range_is) (omega (arith, takes.below, bound.2))
