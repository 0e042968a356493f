-- Lists of steps of a chain coder that were refused.
use Rattle.std.specs.List.{zip}
use Rattle.std.proofs.Common.{◌≡◌, ◌∙◌, ℕ, ◌-◌, ◌*◌, ◌^◌, ◌<◌, List, ◌∷◌, ◌++◌, Result, Err, inl, inr, map, length, sym, ap, subst}
use Rattle.constriction_base.specs.Models.{Item, item_of, pairs_of}
use Rattle.constriction_base.specs.declared.backends.reading.Holds as holding
use Rattle.constriction_base.specs.declared.backends.reading.ReadWords as reading
use Rattle.constriction_base.specs.declared.backends.writing.WriteWords as writing
use Rattle.constriction_base.specs.declared.errors.CoderError.{CoderError}
use Rattle.constriction_base.specs.declared.errors.CoderError.TheVariants.{Frontend, Backend}
use Rattle.constriction_stream.specs.Lists.{StepsAll}
use Rattle.constriction_stream.specs.Symbols.{EncodesSymbol}
use Rattle.constriction_chain.specs.Chain.{ChainState, ChainValue}
use Rattle.constriction_chain.specs.Steps.{DecodeCall, EncodeCall, Halted}
use Rattle.constriction_chain.specs.Symbols.{ChainEncodesAll, ChainDecodesAll}
use Rattle.constriction_chain.specs.Walk.{NeedsWord}
use Rattle.constriction_chain.specs.declared.errors.BackendError.{BackendError}
use Rattle.constriction_chain.specs.declared.errors.DecoderFrontendError.{DecoderFrontendError}
use Rattle.constriction_chain.specs.declared.errors.EncoderFrontendError.{EncoderFrontendError}
use Rattle.constriction_chain.specs.declared.errors.EncoderFrontendError.TheVariants.{OutOfRemainders, ImpossibleSymbol}
use Rattle.constriction_laws.specs.declared.errors.Stopped.TheVariants.{Refused}
use Rattle.constriction_laws.specs.chain.Endings.{Ended, EndsEarly, IsImpossible, LacksWord, NotEncoded}
use Rattle.constriction_laws.specs.Outcomes.{StopsAmong}
use Rattle.constriction_laws.proofs.of_chain.ListCalls.{decodes_of, encodes_of}

-- ---- decodes
module _ {S W C R O E F : Type 0} (number : W → ℕ) (compressed_holds : holding.Ghosts C W O) (compressed_reads : reading.Ghosts C W O E)
    (remainders_holds : holding.Ghosts R W O) (remainders_writes : writing.Ghosts R W F) (w s : ℕ) where
  -- after a refusal of the coder itself the words have ended, and the state is that before it
  ended : (P : ℕ) (items : List S → List (Item S)) (given : List S) (taken : ℕ) (x : DecoderFrontendError) (old : ChainState) (mid new : ChainValue C R) → compressed_holds.is_list
      → length given ≡ taken → ChainDecodesAll w s (items given) old mid.state
      → Halted number compressed_holds compressed_reads remainders_holds remainders_writes w s P mid (Frontend x) new → Ended w s P items taken old new.state
  ended P items given taken x old mid new known count all halted = record {
    given = given;
    count = count;
    taken_off = subst (λ (z : ChainState). ChainDecodesAll w s (items given) old z) (sym (halted.stays.all known)) all;
    needs = subst (λ h. NeedsWord w P h) (sym halted.stays.h) halted.why.0;
    none = halted.after.compressed_are ∙ ap (λ (ws : List W). map number ws) (halted.why.1.1 known).1;
  }

  pub pairs_end_early : {M : Type 0} (P : ℕ) (table : M → List (S × ℕ × ℕ)) (models : List M) (taken : ℕ) (old new : ChainValue C R) (x : DecoderFrontendError)
      → StopsAmong {E = CoderError DecoderFrontendError (BackendError E F)} (DecodeCall number compressed_holds compressed_reads remainders_holds remainders_writes w s)
      (Halted number compressed_holds compressed_reads remainders_holds remainders_writes w s P) P table models taken old (Refused (Frontend x)) new
      → EndsEarly compressed_holds.is_list w s P (λ given. pairs_of P table given models) (length models) old.state taken new.state
  pairs_end_early P table models taken old new x (given, mid, model, rest, count, fewer, next, all, inl halted) = (
    fewer,
    λ known. ended P (λ given. pairs_of P table given models) given taken x old.state mid new known count
        (decodes_of number compressed_holds compressed_reads remainders_holds remainders_writes w s (λ pair. item_of (record { precision = P; table = table pair.1 }) pair.0) (zip given models) old mid known all) halted,
  )
  pairs_end_early P table models taken old new x (given, mid, model, rest, count, fewer, next, all, inr (symbol, (left, p, has, call))) = absurd call.outcome

-- ---- encodes
module _ {S W C R O E F : Type 0} (number : W → ℕ) (compressed_holds : holding.Ghosts C W O) (compressed_writes : writing.Ghosts C W E)
    (remainders_holds : holding.Ghosts R W O) (remainders_reads : reading.Ghosts R W O F) (w s : ℕ) where
  abbrev EncodesItem : Item S → ChainValue C R → Result (Unit {0}) (CoderError EncoderFrontendError (BackendError E F)) → ChainValue C R → Type 0
  EncodesItem item old answer new =
      EncodesSymbol (EncodeCall number compressed_holds compressed_writes remainders_holds remainders_reads w s) (λ error. error ≡ ImpossibleSymbol)
      item.model.precision item.model.table item.symbol old answer new

  impossible_at : (item : Item S) (old new : ChainValue C R) → EncodesItem item old (Err (Frontend ImpossibleSymbol)) new → IsImpossible item × (new ≡ old)
  impossible_at item old new (inl (left, p, has, call)) = absurd call.outcome
  impossible_at item old new (inr (never, e, impossible, is, same)) = (never, same)

  lacks_at : (item : Item S) (old new : ChainValue C R) → remainders_holds.is_list → EncodesItem item old (Err (Frontend OutOfRemainders)) new → LacksWord w s new.state item × (new.state ≡ old.state)
  lacks_at item old new known (inl (left, p, has, call)) =
      let same = call.outcome.stays.all known in
      let short = subst (λ (r : ℕ). r < p * 2 ^ (s - w - item.model.precision)) (sym call.outcome.stays.r) call.outcome.short in
      (((left, p, has, short), call.after.remainders_are ∙ ap (λ (ws : List W). map number ws) (call.outcome.answered.1 known).1), same)
  lacks_at item old new known (inr (never, e, impossible, is, same)) = (let other : ◌≡◌ {A = EncoderFrontendError} OutOfRemainders e = cc in absurd cc)

  -- encodes that went well and then one that was refused
  pub not_encoded : {A T : Type 0} (lent : A → T) (item : T → Item S) (xs : List A) (x : A) (items after : List (Item S)) (old mid new : ChainValue C R)
      (e : CoderError EncoderFrontendError (BackendError E F)) → remainders_holds.is_list → items ≡ map item (map lent xs) ++ item (lent x) ∷ after
      → StepsAll (λ old x answer new. EncodesItem (item (lent x)) old answer new) old xs mid → EncodesItem (item (lent x)) mid (Err e) new
      → NotEncoded w s items old.state e new.state
  not_encoded lent item xs x items after old mid new (Backend e) known is all refused = tt
  not_encoded lent item xs x items after old mid new (Frontend ImpossibleSymbol) known is all refused =
      let why = impossible_at (item (lent x)) mid new refused in
      let coded = encodes_of number compressed_holds compressed_writes remainders_holds remainders_reads w s _ lent item xs old mid known all in (
        map item (map lent xs),
        after,
        item (lent x),
        is,
        subst (λ (c : ChainValue C R). ChainEncodesAll w s (map item (map lent xs)) old.state c.state) (sym why.1) coded,
        why.0,
      )
  not_encoded lent item xs x items after old mid new (Frontend OutOfRemainders) known is all refused =
      let why = lacks_at (item (lent x)) mid new known refused in
      let coded = encodes_of number compressed_holds compressed_writes remainders_holds remainders_reads w s _ lent item xs old mid known all in (
        map item (map lent xs),
        after,
        item (lent x),
        is,
        subst (λ (c : ChainState). ChainEncodesAll w s (map item (map lent xs)) old.state c) (sym why.1) coded,
        why.0,
      )

-- ---- what is known of an end
