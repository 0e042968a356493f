-- Lemmas for the implementations of `Symbol`.
use Rattle.std.proofs.Common.{◌≡◌, ◌<◌, ℕ, ◌^◌, ◌%◌, suc, All, List, [], ◌∷◌, ◌++◌, refl, arith}
use Rattle.std.proofs.Math.Nat.{mod-eq_of_lt}
use Rattle.std.proofs.lemmas.List.{map-append}
use Rattle.constriction_inputs.specs.Narrow.{lowest_bits}

pub lowest_parts : (bits : ℕ) (ns ms : List ℕ) → lowest_bits bits (ns ++ ms) ≡ lowest_bits bits ns ++ lowest_bits bits ms
lowest_parts bits ns ms = map-append (λ n. n % 2 ^ bits) ns ms

-- A number of so many bits is its own lowest bits.
pub lowest_kept : (bits : ℕ) (ns : List ℕ) → All (λ n. n < 2 ^ bits) ns → lowest_bits bits ns ≡ ns
lowest_kept bits [] below = refl
lowest_kept bits (n ∷ ns) below = rw (mod-eq_of_lt (below 0 n (omega arith)), lowest_kept bits ns (λ k d inside. below (suc k) d (omega arith))) refl
