-- What list calls of a range coder do, in the words of the laws.
use Rattle.std.proofs.Common.{◌≡◌, ℕ, List, [], ◌∷◌, length, map, refl, sym, ap, ◌∙◌, subst, arith}
use Rattle.constriction_base.specs.declared.backends.reading.Holds as holding
use Rattle.constriction_base.specs.declared.backends.reading.ReadWords as reading
use Rattle.constriction_base.specs.declared.backends.writing.WriteWords as writing
use Rattle.constriction_base.specs.declared.errors.CoderError.{CoderError}
use Rattle.constriction_base.specs.Steps.{Trace}
use Rattle.constriction_base.specs.Models.{Item, IsModel, pairs_of}
use Rattle.constriction_stream.specs.Lists.{StepsAll}
use Rattle.constriction_stream.specs.Symbols.{EncodesSymbol, ByBackend}
use Rattle.constriction_queue.specs.Range.{Run}
use Rattle.constriction_queue.specs.Encoder.{Encoder, run_by}
use Rattle.constriction_queue.specs.Decoder.{Decoder, StandsAt}
use Rattle.constriction_queue.specs.Calls as calls
use Rattle.constriction_queue.proofs.StepCalls.{Given, decode_of, encode_of}
use Rattle.constriction_laws.specs.queue.Outcomes.{ReadTo}
use Rattle.constriction_queue.specs.Symbols.{NarrowsAll, FindsAll}
use Rattle.constriction_queue.proofs.ComingBack.{decodes_unique}
use Rattle.constriction_laws.proofs.PairCalls.{are_pairs, same_models, their_symbols}

-- ---- encodes
module _ {S W B E F Q : Type 0} (number : W → ℕ) (holds : holding.Ghosts B W Q) (writes : writing.Ghosts B W E) (w s : ℕ) (is_impossible : F → Type 0) where
  -- so is a list of them: what was given lends a symbol, or a pair, that stands for an item
  pub encodes_of : {A T : Type 0} (lent : A → T) (item : T → Item S) (xs : List A) (old new : Encoder B)
      → StepsAll {E = CoderError F E} (λ old x answer new. EncodesSymbol (ByBackend (calls.EncodeCall number holds writes w s)) is_impossible
      (item (lent x)).model.precision (item (lent x)).model.table (item (lent x)).symbol old answer new) old xs new
      → NarrowsAll w s (map item (map lent xs)) (run_by w s old) (run_by w s new)
  encodes_of lent item [] old new all = ap (λ (c : Encoder B). run_by w s c) all
  encodes_of lent item (x ∷ xs) old new all =
      let first = encode_of number holds writes w s is_impossible (item (lent x)).model (item (lent x)).symbol old all.0 all.1 in
      (run_by w s all.0, first, encodes_of lent item xs all.0 new all.2)

-- ---- decodes
module _ {S W B E Q : Type 0} (F : Type 0) (number : W → ℕ) (holds : holding.Ghosts B W Q) (reads : reading.Ghosts B W Q E) (w s : ℕ) (words : List ℕ) (known : holds.is_list) where
  -- so is a list of them, each at the item that stands for what was given
  pub decodes_of : {T : Type 0} (item : T → Item S) (xs : List T) (r : Run) (old new : Decoder B) → StandsAt w s words r old → Trace (λ x. Given F number holds reads w s words known (item x).model (item x).symbol) xs old new
      → ReadTo w s words (map item xs) r new
  decodes_of item [] r old new at all = (r, refl, subst (λ (d : Decoder B). StandsAt w s words r d) (sym all) at)
  decodes_of item (x ∷ xs) r old new at all =
      let first = decode_of F number holds reads w s words known (item x).model (item x).symbol r old all.0 at all.1 in
      let more = decodes_of item xs first.0 all.0 new first.2 all.2 in
      (more.0, (first.0, first.1, more.1), more.2)

-- ---- symbols that come back

-- under a model each
pub pairs_back : {S M B : Type 0} (precision : ℕ) (table : M → List (S × ℕ × ℕ)) (w s : ℕ) (words : List ℕ) (symbols again : List S) (ms : List M) (old last : Run) (new : Decoder B)
    → ((m : M) → IsModel w (record { precision = precision; table = table m })) → length symbols ≡ length ms → length again ≡ length ms
    → FindsAll w s words (pairs_of precision table symbols ms) old last → ReadTo w s words (pairs_of precision table again ms) old new
    → (again ≡ symbols) × StandsAt w s words last new
pairs_back {S} precision table w s words symbols again ms old last new lawful count many decoded read =
    let back = decodes_unique w s words (pairs_of precision table symbols ms) (pairs_of precision table again ms) old last read.0 (are_pairs precision table w symbols ms lawful)
    (same_models precision table again symbols ms (omega (arith, count, many))) decoded read.1 in (
      sym (their_symbols precision table again ms many) ∙ ap (λ (is : List (Item S)). map (λ (i : Item S). i.symbol) is) back.0 ∙ their_symbols precision table symbols ms count,
      subst (λ (r : Run). StandsAt w s words r new) back.1 read.2,
    )

-- no words where there are no numbers of them
pub none_mapped : {A B : Type 0} (f : A → B) (xs : List A) → map f xs ≡ [] → xs ≡ []
none_mapped f [] is = refl
none_mapped f (x ∷ xs) is = absurd cc
