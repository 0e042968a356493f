-- Outcomes of steps over backends, from those of their parts.
use Rattle.std.specs.Prelude.{◌≡◌, ℕ, ◌+◌, ◌-◌, ◌*◌, ◌^◌, ◌<◌, ◌≤◌, List, map, Result, Ok, Err, IfErr, IfOk, OnErr}
use Rattle.std.proofs.Common.{refl, ap, ◌∙◌, inl, inr, arith}
use Rattle.constriction_base.specs.Steps.{Step}
use Rattle.constriction_base.specs.declared.errors.CoderError.{CoderError}
use Rattle.constriction_base.specs.declared.errors.CoderError.TheVariants.{Backend}
use Rattle.constriction_base.specs.declared.backends.reading.Holds as holding
use Rattle.constriction_base.specs.declared.backends.reading.ReadWords as reading
use Rattle.constriction_base.specs.declared.backends.writing.WriteWords as writing
use Rattle.constriction_chain.specs.Chain.{ChainState, ChainValue, IsChainCoder, value_of}
use Rattle.constriction_chain.specs.Steps.{QuantileRead, Halts, Halted, ReadsQuantile, Renormalized, RenormalizeFailed, DecodeCall}
use Rattle.constriction_chain.specs.declared.errors.BackendError.{BackendError}
use Rattle.constriction_chain.specs.declared.errors.BackendError.TheVariants.{Remainders}
use Rattle.constriction_chain.specs.declared.errors.DecoderFrontendError.{DecoderFrontendError}
use Rattle.constriction_chain.proofs.Chains.{coder_of, decode_of, state_same}
use Rattle.constriction_base.proofs.Exporting.{no_room}

-- what an answer tells
pub told_ok : {T E : Type 0} (P P' : T → Type 0) (answer : Result T E) → ((x : T) → P x → P' x) → IfOk answer P → IfOk answer P'
told_ok P P' (Ok x) f m = f x m
told_ok P P' (Err e) f m = tt

pub told_err : {T E A B C : Type 0} (P P' : E → Type 0) (answer : Result T E) → ((e : E) → P e → A → B → C → P' e)
    → IfErr answer P → OnErr answer A → OnErr answer B → OnErr answer C → IfErr answer P'
told_err P P' (Ok x) f m a b c = tt
told_err P P' (Err e) f m a b c = f e m a b c

module _ {W C R S E F : Type 0} (number : W → ℕ) (compressed_holds : holding.Ghosts C W S) (compressed_reads : reading.Ghosts C W S E)
    (remainders_holds : holding.Ghosts R W S) (remainders_writes : writing.Ghosts R W F) where
  abbrev coder : ℕ → ℕ → C → R → ChainValue C R
  coder = value_of number compressed_holds remainders_holds

  -- the backends' part of a quantile, as the coder's
  pub took_of : (w s P h r : ℕ) (old new : C) (other other' : R) (quantile h' : ℕ)
      → IsChainCoder number compressed_holds remainders_holds w s P (coder h r old other)
      → QuantileRead number compressed_holds compressed_reads remainders_holds remainders_writes w P h old other quantile h' new other'
      → ReadsQuantile number compressed_holds compressed_reads remainders_holds remainders_writes w s P (coder h r old other) quantile h' (coder h r new other')
  took_of w s P h r old new other other' quantile h' before taken =
      let others : map number (remainders_holds.words other') ≡ map number (remainders_holds.words other) = ap (λ (ws : List W). map number ws) taken.others in
      record {
        before = before;
        walk = taken.walk;
        by = taken.by;
        below = taken.below;
        some = taken.some;
        h = refl;
        r = refl;
        remainders = others;
        unasked = taken.unasked;
        fails = taken.fails;
        room_left = taken.room_left;
        roomy = λ m. elim (taken.roomy m) [
          | inl same ↦ inl (state_same _ _ refl refl (ap (λ (b : C). map number (compressed_holds.words b)) same) others)
          | inr some ↦ inr some
        ];
      }

  -- both halves are a decode
  pub decoded : (w s : ℕ) → ((x : W) → number x < 2 ^ w) → (e : Step) (quantile h h' r r' : ℕ) (old new : C) (other other' other'' : R) → e.left ≤ quantile → quantile < e.left + e.p
      → h' < 2 ^ w
      → ReadsQuantile number compressed_holds compressed_reads remainders_holds remainders_writes w s e.precision (coder h r old other) quantile h' (coder h r new other')
      → Renormalized number remainders_holds remainders_writes w s e.precision (r * e.p + (quantile - e.left)) other' r' other''
      → DecodeCall number compressed_holds compressed_reads remainders_holds remainders_writes w s (coder h r old other) e (Ok tt) (coder h' r' new other'')
  decoded w s law e quantile h h' r r' old new other other' other'' from below fits took kept =
      let gain = rw took.remainders at kept.gain in
      record {
        before = took.before;
        after = coder_of w s e.precision number law compressed_holds remainders_holds h' r' new other'' took.before.sized took.some fits kept.window;
        outcome = record {
          decoded = λ list. decode_of w s e quantile _ _ from below (took.walk list) gain;
          quantile = quantile;
          from = from;
          below = below;
          by = took.by;
          gain = gain;
          untouched = λ none low. kept.untouched low ∙ took.unasked none;
          room_used = (let used = rw took.remainders at kept.room_used in omega (arith, used, took.room_left));
        };
      }

  -- or it found no place
  pub undecoded : ((b : R) (e : F) → 0 < remainders_writes.room b → remainders_writes.write_fails b e → ⊥) → (w s : ℕ) → ((x : W) → number x < 2 ^ w)
      → (e : Step) (quantile h h' r : ℕ) (old new : C) (other other' other'' : R) (error : F) → e.left ≤ quantile → quantile < e.left + e.p
      → ReadsQuantile number compressed_holds compressed_reads remainders_holds remainders_writes w s e.precision (coder h r old other) quantile h' (coder h r new other')
      → RenormalizeFailed remainders_holds remainders_writes w s e.precision (r * e.p + (quantile - e.left)) other' error other''
      → DecodeCall number compressed_holds compressed_reads remainders_holds remainders_writes w s (coder h r old other) e (Err (Backend (Remainders error))) (coder h r new other'')
  undecoded law w s law' e quantile h h' r old new other other' other'' error from below took lost =
      let words : map number (remainders_holds.words other'') ≡ map number (remainders_holds.words other') = ap (λ (ws : List W). map number ws) lost.words in
      let before = took.before in
      record {
        before = before;
        after = coder_of w s e.precision number law' compressed_holds remainders_holds h r new other'' before.sized before.chain.some before.chain.within_word before.chain.window;
        outcome = record {
          fails = took.fails error lost.fails;
          h = refl;
          r = refl;
          remainders = words ∙ took.remainders;
          quantile = quantile;
          h' = h';
          from = from;
          below = below;
          walk = took.walk;
          by = took.by;
          high = lost.high;
          kept = λ m. elim (took.roomy m) [
            | inl same ↦ state_same _ _ refl refl (ap (λ (x : ChainState). x.compressed) same) (words ∙ took.remainders)
            | inr some ↦ absurd (law other' error some lost.fails)
          ];
          room_left = (let none = no_room (remainders_writes.room other') (λ some. law other' error some lost.fails) in omega (arith, none, took.room_left));
        };
      }

  -- no quantile was taken
  pub halted_of : (w s P h r : ℕ) (old new : C) (other other' : R) (e : CoderError DecoderFrontendError (BackendError E F))
      → IsChainCoder number compressed_holds remainders_holds w s P (coder h r old other)
      → IsChainCoder number compressed_holds remainders_holds w s P (coder h r new other')
      → Halts number compressed_holds compressed_reads remainders_holds remainders_writes w P h old other e new other' → remainders_holds.words other' ≡ remainders_holds.words other
      → (compressed_holds.is_list → compressed_holds.words new ≡ compressed_holds.words old) → remainders_writes.room other ≤ remainders_writes.room other'
      → Halted number compressed_holds compressed_reads remainders_holds remainders_writes w s P (coder h r old other) e (coder h r new other')
  halted_of w s P h r old new other other' e before after halts same_others same room_left =
      let others : map number (remainders_holds.words other') ≡ map number (remainders_holds.words other) = ap (λ (ws : List W). map number ws) same_others in
      record {
        before = before;
        after = after;
        why = halts;
        stays = record {
          h = refl;
          r = refl;
          others = others;
          all = λ list. state_same _ _ refl refl (ap (λ (ws : List W). map number ws) (same list)) others;
        };
        room_left = room_left;
      }
