-- Lists of symbols as codewords: where each has one, and as they are read one after the other.
use Rattle.std.proofs.Common.{◌≡◌, ◌<◌, ◌≤◌, ◌-◌, ℕ, suc, All, Global, Vec, vec_capacity, vec_len, Bool, List, [], ◌∷◌, ◌++◌, Option, Some, None, Result, Ok, Err, length, map, reverse, ap, sym, arith, refl, ◌∙◌, append-nil, append_assoc}
use Rattle.std.specs.declared.alloc.AllocError.{AllocError}
use Rattle.std.proofs.lemmas.List.{map_push, reverse-append, reverse-reverse}
use Rattle.constriction_base.specs.declared.errors.CoderError.{CoderError}
use Rattle.constriction_base.specs.declared.errors.CoderError.TheVariants.{Frontend, Backend}
use Rattle.constriction_base.specs.Backends.{IsWrite, Writes}
use Rattle.constriction_symbol.specs.Bits.{BitsValue, YieldsBit, PutsOnto}
use Rattle.constriction_symbol.specs.Codewords.{ReadsSymbol}
use Rattle.constriction_symbol.specs.declared.codebooks.SymbolCodeError.{SymbolCodeError}
use Rattle.constriction_symbol.specs.declared.codebooks.SymbolCodeError.TheVariants.{OutOfCompressedData, InvalidCodeword}
use Rattle.constriction_symbol.proofs.ReadBack.{gives_front}
use Rattle.constriction_inputs.specs.declared.refusal.Refusal.{Refusal}
use Rattle.constriction_calls.specs.SymbolCalls.{BeginWithCodewords, AsStack, HoldNoBits, AllHaveCodewords, MapsError, SymbolReadFails}
use Rattle.constriction_symbol.proofs.CodewordLists.{codewords_push}

-- where each symbol has a codeword, a list has those of its symbols
pub all_have : {S : Type 0} (codeword : S → Option (List Bool)) (symbols : List S) → All (λ s. (bits : List Bool) × (codeword s ≡ Some bits)) symbols → AllHaveCodewords codeword symbols
all_have codeword [] all = ([], refl)
all_have codeword (s ∷ symbols) all =
    let first = all 0 s (omega arith) in
    let rest = all_have codeword symbols (λ k d inside. all (suc k) d (omega arith)) in
    (first.0 ++ rest.0, (first.0, rest.0, first.1, refl, rest.1))

module _ {I S E : Type 0} (next : I → Option (Result Bool E) → I → Type 0) (unread : I → List Bool) (codeword : S → Option (List Bool)) (reads_on : List Bool → Type 0)
    (law : (old : I) (item : Option (Result Bool E)) (new : I) → next old item new → YieldsBit (unread old) item (unread new))
    (xs : List S) (begun : List Bool) (old new : I) (so_far : BeginWithCodewords codeword xs begun (unread old)) where
  -- one symbol more was read
  pub read_one : {V : Type 0} (is_invalid : List Bool → V → Type 0) (x : S) → ReadsSymbol {E = E} next codeword reads_on is_invalid old (Ok x) new → BeginWithCodewords codeword (xs ++ x ∷ []) begun (unread new)
  read_one is_invalid x (bits, known, given) =
      let here = gives_front next unread law old bits new given in (
        so_far.0 ++ bits,
        codewords_push codeword xs x so_far.0 bits so_far.1 known,
        so_far.2 ∙ (ap (λ bs. so_far.0 ++ bs) here ∙ sym (append_assoc so_far.0 bits (unread new))),
      )

  -- no symbol was read
  pub read_none : {V : Type 0} (is_invalid : List Bool → V → Type 0) (amt : ℕ) → length xs < amt → (error : CoderError (SymbolCodeError V) E) (refusal : Refusal)
      → ReadsSymbol {E = E} next codeword reads_on is_invalid old (Err error) new → MapsError error refusal → SymbolReadFails codeword reads_on (λ bits. (v : V) × is_invalid bits v) amt begun refusal
  read_none is_invalid amt fewer (Frontend OutOfCompressedData) refusal (bits, on, (last, given, none)) told =
      let all : unread old ≡ bits = (gives_front next unread law old bits last given) ∙ (ap (λ bs. bits ++ bs) (law last None new none).0 ∙ append-nil bits) in
      rw told (xs, fewer, so_far.0, bits, so_far.1, so_far.2 ∙ ap (λ bs. so_far.0 ++ bs) all, on)
  read_none is_invalid amt fewer (Frontend (InvalidCodeword e)) refusal (bits, no_codeword, given) told =
      rw told (xs, fewer, so_far.0, unread old, so_far.1, so_far.2, (bits, unread new, (gives_front next unread law old bits new given), (e, no_codeword)))
  read_none is_invalid amt fewer (Backend e) refusal reads told = rw told tt

-- words of which the last is zero
pub end_in_zero : {W : Type 0} (number : W → ℕ) (words : List W) (word : W) (rest : List W) → reverse words ≡ word ∷ rest → number word ≡ 0 → HoldNoBits AsStack (map number words)
end_in_zero number words word rest is zero =
    let all : words ≡ reverse rest ++ word ∷ [] = sym (reverse-reverse words) ∙ (ap (λ ws. reverse ws) is ∙ reverse-append (word ∷ []) rest) in
    (map number (reverse rest), ap (λ ws. map number ws) all ∙ (map_push number (reverse rest) word ∙ ap (λ n. map number (reverse rest) ++ n ∷ []) zero))

-- ---- words that a vector takes
-- what puts a bit onto one
abbrev pub vec_puts : {W : Type 0} → ℕ → (W → ℕ) → BitsValue (Vec W Global) → Bool → Result (Unit {0}) AllocError → BitsValue (Vec W Global) → Type 0
vec_puts w number = PutsOnto w number (IsWrite (λ v. reverse v.items) (λ v. vec_capacity v - vec_len v)
    (λ old word r new. Writes (reverse old.items) word r (reverse new.items) × (vec_capacity old ≤ vec_capacity new)) (λ v e. vec_capacity v ≤ vec_len v))
