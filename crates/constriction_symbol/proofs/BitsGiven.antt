-- Bits that come from an iterator, one list after the other.
use Rattle.std.proofs.Common.{◌≡◌, ◌+◌, ◌<◌, ◌≤◌, ℕ, zero, suc, Bool, true, false, List, [], ◌∷◌, ◌++◌, Option, Result, Err, ap, subst, sym, refl, arith, replicate, add-one, ◌*◌, ◌-◌, ◌^◌, mul-le-mul, pow_pos}
use Rattle.std.proofs.Math.Nat.{pow-succ'}
use Rattle.constriction_symbol.specs.Codewords.{YieldsBits, EndsAfter, FailsAfter, StopsWithin, ReadsSymbol}
use Rattle.constriction_base.specs.declared.errors.CoderError.{CoderError}
use Rattle.constriction_base.specs.declared.errors.CoderError.TheVariants.{Frontend, Backend}
use Rattle.constriction_symbol.specs.declared.codebooks.SymbolCodeError.{SymbolCodeError}
use Rattle.constriction_symbol.specs.declared.codebooks.SymbolCodeError.TheVariants.{OutOfCompressedData, InvalidCodeword}
use Rattle.constriction_symbol.specs.Golomb.{number_after}

pub gives_then : {I E : Type 0} (next : I → Option (Result Bool E) → I → Type 0) (a b c : I) (xs ys : List Bool) → YieldsBits next a xs b → YieldsBits next b ys c → YieldsBits next a (xs ++ ys) c
gives_then next a b c [] ys e h = subst (λ from. YieldsBits next from ys c) (sym e) h
gives_then next a b c (x ∷ xs) ys (j, step, rest) h = (j, step, gives_then next j b c xs ys rest h)

pub zeros_push : (k : ℕ) → replicate (k + 1) false ≡ replicate k false ++ false ∷ []
zeros_push zero = refl
zeros_push (suc k) = rw add-one (ap (λ bs. false ∷ bs) (rw add-one at (zeros_push k)))

twice_as_much : (n left : ℕ) → 0 < left → (n + 1) * 2 ^ left ≡ (2 * n + 2) * 2 ^ (left - 1)
twice_as_much n zero some = absurd (omega arith)
twice_as_much n (suc k) some =
    let one : suc k - 1 ≡ k = omega arith in
    rw (one, pow-succ' 2 k) (grind arith)

-- there is room for a bit more
pub room_for_bit : (n left b : ℕ) → 0 < left → (n + 1) * 2 ^ left ≤ 2 ^ b → 2 * n + 1 < 2 ^ b
room_for_bit n left b some room =
    let all : (2 * n + 2) * 2 ^ (left - 1) ≤ 2 ^ b = rw (twice_as_much n left some) at room in
    let least : (2 * n + 2) * 1 ≤ (2 * n + 2) * 2 ^ (left - 1) = mul-le-mul (omega arith) (pow_pos (left - 1)) in
    omega (arith, all, least)

pub room_after_bit : (n left b : ℕ) (bit : Bool) → 0 < left → (n + 1) * 2 ^ left ≤ 2 ^ b → (number_after n (bit ∷ []) + 1) * 2 ^ (left - 1) ≤ 2 ^ b
room_after_bit n left b bit some room =
    let all : (2 * n + 2) * 2 ^ (left - 1) ≤ 2 ^ b = rw (twice_as_much n left some) at room in
    let less : number_after n (bit ∷ []) + 1 ≤ 2 * n + 2 = at_most bit in
    let product : (number_after n (bit ∷ []) + 1) * 2 ^ (left - 1) ≤ (2 * n + 2) * 2 ^ (left - 1) = mul-le-mul less (omega arith) in
    omega (arith, all, product)
  where
    at_most : (c : Bool) → number_after n (c ∷ []) + 1 ≤ 2 * n + 2
    at_most true = omega arith
    at_most false = omega arith

ends_then : {I E : Type 0} (next : I → Option (Result Bool E) → I → Type 0) (a b c : I) (xs ys : List Bool) → YieldsBits next a xs b → EndsAfter next b ys c → EndsAfter next a (xs ++ ys) c
ends_then next a b c xs ys e (last, gives, none) = (last, gives_then next a b last xs ys e gives, none)

fails_then : {I E : Type 0} (next : I → Option (Result Bool E) → I → Type 0) (a b c : I) (xs ys : List Bool) (d : E) → YieldsBits next a xs b → FailsAfter next b ys d c → FailsAfter next a (xs ++ ys) d c
fails_then next a b c xs ys d e (last, gives, refused) = (last, gives_then next a b last xs ys e gives, refused)

-- bits were given, and then reading stopped
pub stops_then : {I V E : Type 0} (next : I → Option (Result Bool E) → I → Type 0) (first all : List Bool → Type 0) (a b c : I) (xs : List Bool) (d : CoderError (SymbolCodeError V) E)
    → YieldsBits next a xs b → ((ys : List Bool) → first ys → all (xs ++ ys)) → StopsWithin next first b d c → StopsWithin next all a d c
stops_then next first all a b c xs (Frontend OutOfCompressedData) given on (ys, is, ends) = (xs ++ ys, on ys is, ends_then next a b c xs ys given ends)
stops_then next first all a b c xs (Frontend (InvalidCodeword v)) given on never = never
stops_then next first all a b c xs (Backend e) given on (ys, is, fails) = (xs ++ ys, on ys is, fails_then next a b c xs ys e given fails)

-- a codebook that stops where it reads on
pub stops_reading : {I S V E : Type 0} (next : I → Option (Result Bool E) → I → Type 0) (codeword : S → Option (List Bool)) (first all : List Bool → Type 0) (invalid : List Bool → V → Type 0) (a c : I) (d : CoderError (SymbolCodeError V) E)
    → ((ys : List Bool) → first ys → all ys) → StopsWithin next first a d c → ReadsSymbol next codeword all invalid a (Err d) c
stops_reading next codeword first all invalid a c (Frontend OutOfCompressedData) on (ys, is, ends) = (ys, on ys is, ends)
stops_reading next codeword first all invalid a c (Frontend (InvalidCodeword v)) on never = absurd never
stops_reading next codeword first all invalid a c (Backend e) on (ys, is, fails) = (ys, on ys is, fails)
