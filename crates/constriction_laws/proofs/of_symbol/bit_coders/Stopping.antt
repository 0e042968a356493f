-- Reads that were refused where codewords are there.
use Rattle.std.proofs.Common.{◌≡◌, ◌∙◌, ℕ, Bool, Option, Some, List, ◌++◌, Result, Ok, Err, ap, arith, append_assoc}
use Rattle.constriction_base.specs.declared.errors.CoderError.{CoderError}
use Rattle.constriction_base.specs.declared.errors.CoderError.TheVariants.{Frontend}
use Rattle.constriction_laws.specs.declared.errors.Stopped.TheVariants.{Refused}
use Rattle.constriction_symbol.specs.Codewords.{ComesBack, ReadsSymbol}
use Rattle.constriction_symbol.specs.declared.codebooks.SymbolCodeError.{SymbolCodeError}
use Rattle.constriction_laws.specs.symbol.Refusals.{NoCodewordsBegin, StopsReading}
use Rattle.constriction_symbol.proofs.CodewordLists.{none_stops}

-- by a law of single symbols, as `symbol_comes_back` has it
pub begins_with_none : {I S V E : Type 0} (next : I → Option (Result Bool E) → I → Type 0) (unread : I → List Bool) (codeword : S → Option (List Bool)) (same : S → S → Type 0) (reads_on : List Bool → Type 0) (is_invalid : List Bool → V → Type 0)
    → ((symbol : S) (first rest : List Bool) (old new : I) (answer : Result S (CoderError (SymbolCodeError V) E)) → codeword symbol ≡ Some first → unread old ≡ first ++ rest
    → ReadsSymbol next codeword reads_on is_invalid old answer new → ComesBack same symbol rest answer (unread new))
    → (amt : ℕ) (bits tail : List Bool) (old new : I) (e : SymbolCodeError V) → unread old ≡ bits ++ tail
    → StopsReading {E = E} next codeword reads_on is_invalid amt old (Refused (Frontend e)) new → NoCodewordsBegin codeword amt bits
begins_with_none {I} {S} {V} {E} next unread codeword same reads_on is_invalid law amt bits tail old new e all (given, mid, less, read, refused) = λ symbols code rest coded is count.
    none_stops unread codeword (λ t before after. ReadsSymbol {E = E} next codeword reads_on is_invalid before (Ok t) after) same (λ _ _. Unit {0})
    (λ t s first more before after free known here step. law s first more before after (Ok t) known here step)
    (λ before after. ReadsSymbol {S = S} {E = E} next codeword reads_on is_invalid before (Err (Frontend e)) after) (λ x y. tt)
    (λ s first more before after known here step. law s first more before after (Err (Frontend e)) known here step)
    given symbols code (rest ++ tail) old mid new (omega (arith, less, count)) coded (all ∙ (ap (λ bs. bs ++ tail) is ∙ append_assoc code rest tail)) read refused
