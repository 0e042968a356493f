-- What list calls of a stack coder do, in the words of the laws.
use Rattle.std.proofs.Common.{◌≡◌, ℕ, List, [], ◌∷◌, Ok, Err, inl, inr, map, ap}
use Rattle.constriction_base.specs.declared.errors.CoderError.{CoderError}
use Rattle.constriction_base.specs.declared.errors.CoderError.TheVariants.{Backend}
use Rattle.constriction_base.specs.Steps.{Trace}
use Rattle.constriction_base.specs.declared.backends.reading.Holds as holding
use Rattle.constriction_base.specs.declared.backends.reading.ReadWords as reading
use Rattle.constriction_base.specs.declared.backends.writing.WriteWords as writing
use Rattle.constriction_base.specs.Tables.{AtEntry}
use Rattle.constriction_stream.specs.Lists.{StepsAll}
use Rattle.constriction_stream.specs.Symbols.{DecodesSymbol, EncodesSymbol, ByBackend}
use Rattle.constriction_stack.specs.Ans.{AnsValue, IsNormalized}
use Rattle.constriction_stack.specs.Ans as calls
use Rattle.constriction_laws.specs.stack.Readings.{DecodesBy, DecodesAllBy}
use Rattle.constriction_base.specs.Models.{Model, Item}
use Rattle.constriction_stack.specs.Symbols.{Decodes, EncodesAll, DecodesAll}
use Rattle.constriction_stack.proofs.StepCalls.{encode_of}

-- ---- encodes
module _ {S W B E K F : Type 0} (number : W → ℕ) (holds : holding.Ghosts B W K) (writes : writing.Ghosts B W E) (w s : ℕ) (is_impossible : F → Type 0) where
  -- so is a list of them: what was given lends a symbol, or a pair, that stands for an item
  pub encodes_of : {A T : Type 0} (lent : A → T) (item : T → Item S) (xs : List A) (old new : AnsValue B) → IsNormalized w s old.state
      → StepsAll {E = CoderError F E} (λ old x answer new. EncodesSymbol (ByBackend (calls.EncodeCall number holds writes w s)) is_impossible
      (item (lent x)).model.precision (item (lent x)).model.table (item (lent x)).symbol old answer new) old xs new
      → EncodesAll w s (map item (map lent xs)) old.state new.state
  encodes_of lent item [] old new v all = ap (λ (c : AnsValue B). c.state) all
  encodes_of lent item (x ∷ xs) old new v all =
      let first = encode_of number holds writes w s is_impossible (item (lent x)).model (item (lent x)).symbol old all.0 v all.1 in
      (all.0.state, first, encodes_of lent item xs all.0 new first.3.valid all.2)

-- ---- decodes
module _ {S W B E K : Type 0} (F : Type 0) (number : W → ℕ) (holds : holding.Ghosts B W K) (reads : reading.Ghosts B W K E) (w s : ℕ) where
  -- a step of the coder that went well is a decode of the symbol
  abbrev Given : Model S → S → AnsValue B → AnsValue B → Type 0
  Given model symbol old new = AtEntry model.precision model.table symbol (λ step. ByBackend {F = F} (calls.DecodeCall number holds reads w s) old step (Ok tt) new)

  pub decode_of : (model : Model S) (symbol : S) (old new : AnsValue B) → Given model symbol old new
      → (holds.is_list → Decodes w s model symbol old.state new.state) × DecodesBy number reads.reads w s model symbol old new
  decode_of model symbol old new (left, p, has, (Ok u, d, is)) = ((λ known. (left, p, has, (d.is_next, d.popped known))), (left, p, has, (d.is_next, d.refilled)))
  decode_of model symbol old new (left, p, has, (Err e, d, is)) = absurd cc

  -- so is a list of them, each at the item that stands for what was given
  pub decodes_of : {T : Type 0} (item : T → Item S) (xs : List T) (old new : AnsValue B) → Trace (λ x. Given (item x).model (item x).symbol) xs old new
      → (holds.is_list → DecodesAll w s (map item xs) old.state new.state) × DecodesAllBy number reads.reads w s (map item xs) old new
  decodes_of item [] old new all = ((λ known. ap (λ (c : AnsValue B). c.state) all), all)
  decodes_of item (x ∷ xs) old new all =
      let first = decode_of (item x).model (item x).symbol old all.0 all.1 in
      let more = decodes_of item xs all.0 new all.2 in
      ((λ known. (all.0.state, first.0 known, more.0 known)), (all.0, first.1, more.1))

-- ---- steps that were refused
-- by a backend that knows its words: a decode leaves the state
pub refused_decode : {S W B E K F : Type 0} (number : W → ℕ) (holds : holding.Ghosts B W K) (reads : reading.Ghosts B W K E) (w s precision : ℕ) (table : List (S × ℕ × ℕ)) (old new : AnsValue B) (e : CoderError F E)
    → holds.is_list → DecodesSymbol {S = S} (ByBackend {F = F} (calls.DecodeCall number holds reads w s)) (λ before error after. ⊥) precision table old (Err e) new → new.state ≡ old.state
refused_decode number holds reads w s precision table old new e known (inl halt) = absurd halt
refused_decode number holds reads w s precision table old new e known (inr (symbol, (left, p, has, (Ok u, call, is)))) = absurd cc
refused_decode number holds reads w s precision table old new e known (inr (symbol, (left, p, has, (Err x, call, is)))) = call.kept known

-- and so does an encode
pub refused_encode : {S W B E K F : Type 0} (number : W → ℕ) (holds : holding.Ghosts B W K) (writes : writing.Ghosts B W E) (w s : ℕ) (is_impossible : F → Type 0) (precision : ℕ) (table : List (S × ℕ × ℕ)) (symbol : S) (old new : AnsValue B) (e : E)
    → EncodesSymbol (ByBackend (calls.EncodeCall number holds writes w s)) is_impossible precision table symbol old (Err (Backend e)) new → new.state ≡ old.state
refused_encode number holds writes w s is_impossible precision table symbol old new e (inl (left, p, has, (Ok u, call, is))) = absurd cc
refused_encode number holds writes w s is_impossible precision table symbol old new e (inl (left, p, has, (Err x, call, is))) = call.kept
refused_encode number holds writes w s is_impossible precision table symbol old new e (inr (never, f, impossible, is, same)) = absurd cc
