-- Bits below one that is set: one bit more, and reading them.
use Rattle.std.proofs.Common.{◌≡◌, ◌<◌, ◌≤◌, ◌+◌, ◌*◌, ◌-◌, ◌/◌, ◌%◌, ◌^◌, ◌==◌, ◌⊎◌, ℕ, zero, suc, Bool, List, Some, [], ◌∷◌, ◌++◌, refl, sym, subst, ap, ap₂, ◌∙◌, arith, inl, inr, get_or, length, reverse, set, Option, None, IfSome, OnSome}
use Rattle.std.proofs.Math.Pow.{pow_mono}
use Rattle.std.proofs.lemmas.Bool.{cases_eq}
use Rattle.std.proofs.lemmas.List.{get_or-set_other, get_or-set_same, reverse-append}
use Rattle.std.proofs.lemmas.Nat.{mod_low}
use Rattle.std.proofs.Math.Nat.{pow-succ'}
use native.Mathlib.Nat.{pow-zero}
use Rattle.constriction_symbol.specs.Bits.{bits_of}
use Rattle.constriction_symbol.specs.Codewords.{IsLowBits}
use Rattle.constriction_symbol.specs.EncoderTree.{ClimbsTree, HasBelowOne, HasCodewords, OneBitMore}
use Rattle.constriction_symbol.specs.Huffman.{GoesUp, Tree, climbed, path}
use Rattle.constriction_symbol.proofs.HuffmanParents.{climbed_root, climbed_step}

pub none_below_one : HasBelowOne [] 1
none_below_one = record { count = 0; low = 0; small = omega arith; is = refl; reads = refl }

pub one_more_below : (bits : List Bool) (number bit : ℕ) → bit < 2 → HasBelowOne bits number → HasBelowOne (bits ++ (bit == 1) ∷ []) (2 * number + bit)
one_more_below bits number bit some below = record {
  count = suc below.count;
  low = 2 * below.low + bit;
  small = omega (arith, some, below.small, pow-succ' 2 below.count);
  is = omega (arith, below.is, pow-succ' 2 below.count);
  reads = ap (λ bs. bs ++ (bit == 1) ∷ []) below.reads ∙ sym reversed;
}
  where
    first : (2 * below.low + bit) % 2 ≡ bit
    first = omega (arith, some)

    others : (2 * below.low + bit) / 2 ≡ below.low
    others = omega (arith, some)

    reversed : reverse (bits_of (suc below.count) (2 * below.low + bit)) ≡ reverse (bits_of below.count below.low) ++ (bit == 1) ∷ []
    reversed = ap₂ (λ b n. reverse ((b == 1) ∷ bits_of below.count n)) first others ∙ reverse-append ((bit == 1) ∷ []) (bits_of below.count below.low)

-- the number of bits is the one that a number has at least and at most
same_count : (number low count long : ℕ) → low < 2 ^ count → number ≡ low + 2 ^ count → number < 2 ^ long → 2 ^ long ≤ 2 * number + 1 → count + 1 ≡ long
same_count number low count long small is fits least =
    let not_less : long ≤ count → ⊥ = λ less. let up : 2 ^ long ≤ 2 ^ count = pow_mono less in omega (arith, up, is, fits) in
    let not_more : suc (suc count) ≤ long → ⊥ = λ more. let up : 2 ^ suc (suc count) ≤ 2 ^ long = pow_mono more in
    omega (arith, up, pow-succ' 2 (suc count), pow-succ' 2 count, is, small, least) in
    omega (arith, not_less, not_more)

-- a number of 2 or more has a bit
is_some : (number long : ℕ) → number < 2 ^ long → (number < 2 → ⊥) → 0 < long
is_some number zero fits some = absurd (some (omega (arith, fits, pow-zero 2)))
is_some number (suc long) fits some = omega arith

pub read_below_one : (w number long count low : ℕ) (bits : List Bool) → HasBelowOne bits number → (number < 2 → ⊥) → number < 2 ^ long → 2 ^ long ≤ 2 * number + 1 → count ≡ long - 1 → low ≡ number % 2 ^ count → count < w
    → IsLowBits w (Some bits) low count
read_below_one w number long count low bits below some fits least one rest part =
    let same : below.count ≡ count = omega (arith, one, is_some number long fits some, same_count number below.low below.count long below.small below.is fits least) in
    let is : number ≡ below.low + 2 ^ count = below.is ∙ ap (λ c. below.low + 2 ^ c) same in
    let small : below.low < 2 ^ count = subst (λ c. below.low < 2 ^ c) same below.small in
    let split : number ≡ 1 * 2 ^ count + below.low = omega (arith, is) in
    let lower : low ≡ below.low = rest ∙ (ap (λ n. n % 2 ^ count) split ∙ mod_low 1 count below.low small) in
    record {
      some = at_least_one count below.low small is;
      part = part;
      small = rw lower small;
      is = ap Some (below.reads ∙ ap₂ (λ c n. reverse (bits_of c n)) same (sym lower));
    }
  where
    at_least_one : (c n : ℕ) → n < 2 ^ c → number ≡ n + 2 ^ c → 0 < c
    at_least_one zero n tiny is = absurd (some (omega (arith, tiny, is)))
    at_least_one (suc c) n tiny is = omega arith

-- 0, or the climb from a node
abbrev pub IsNumbered : List ℕ → ℕ → ℕ → Type 0
IsNumbered nodes index number = (number ≡ 0) ⊎ HasBelowOne (climbed (length nodes) nodes index) number

-- the root's
pub numbered_root : (nodes : List ℕ) (index number : ℕ) → get_or nodes index 0 ≡ 0 → number ≡ 1 → IsNumbered nodes index number
numbered_root nodes index number root one =
    inr (subst (λ n. HasBelowOne (climbed (length nodes) nodes index) n) (sym one) (subst (λ bits. HasBelowOne bits 1) (sym (climbed_root (length nodes) nodes index root)) none_below_one))

-- the one of a node by its parent's
pub numbered_step : (nodes : List ℕ) (index above number : ℕ) → GoesUp (length nodes) nodes → (get_or nodes index 0 ≡ 0 → ⊥) → IsNumbered nodes (get_or nodes index 0 / 2) above
    → OneBitMore above (get_or nodes index 0 % 2) number → IsNumbered nodes index number
numbered_step nodes index above number up some parent (inl none) = inl none
numbered_step nodes index above number up some (inl none) (inr more) = absurd (omega (arith, none, more.0))
numbered_step nodes index above number up some (inr parent) (inr more) =
    let below = one_more_below (climbed (length nodes) nodes (get_or nodes index 0 / 2)) above (get_or nodes index 0 % 2) (omega arith) parent in
    inr (subst (λ n. HasBelowOne (climbed (length nodes) nodes index) n) (sym more.1) (subst (λ bits. HasBelowOne bits (2 * above + get_or nodes index 0 % 2)) (sym (climbed_step (length nodes) nodes index up some)) below))

-- one node more, where those from an index on have theirs
pub numbered_set : (nodes codewords : List ℕ) (index number : ℕ) → length codewords ≡ length nodes → index < length nodes
    → ((i : ℕ) → index + 1 ≤ i → i < length nodes → IsNumbered nodes i (get_or codewords i 0)) → IsNumbered nodes index number
    → (i : ℕ) → index ≤ i → i < length nodes → IsNumbered nodes i (get_or (set codewords index number) i 0)
numbered_set nodes codewords index number len within rest here i from low =
    elim (cases_eq i index) [
      | inl same ↦ subst (λ k. IsNumbered nodes k (get_or (set codewords index number) k 0)) (sym same) (subst (λ n. IsNumbered nodes index n) (sym (get_or-set_same codewords index number 0 (omega (arith, len, within)))) here)
      | inr other ↦ subst (λ n. IsNumbered nodes i n) (sym (get_or-set_other codewords index i number 0 other)) (rest i (omega (arith, from, other)) low)
    ]

-- the same where the array has it already
pub numbered_kept : (nodes codewords : List ℕ) (index : ℕ) → ((i : ℕ) → index + 1 ≤ i → i < length nodes → IsNumbered nodes i (get_or codewords i 0)) → IsNumbered nodes index (get_or codewords index 0)
    → (i : ℕ) → index ≤ i → i < length nodes → IsNumbered nodes i (get_or codewords i 0)
numbered_kept nodes codewords index rest here i from low =
    elim (cases_eq i index) [
      | inl same ↦ subst (λ k. IsNumbered nodes k (get_or codewords k 0)) (sym same) here
      | inr other ↦ rest i (omega (arith, from, other)) low
    ]

-- the codeword of a symbol that is read from its number
pub read_codeword : {W : Type 0} (word : W → ℕ) (w symbol number : ℕ) (nodes codewords : List ℕ) (tree : Tree) (found : Option (W × ℕ)) → ClimbsTree nodes tree → HasCodewords nodes codewords → symbol ≤ length nodes / 2
    → number ≡ get_or codewords symbol 0 → OnSome found (1 < number) → IfSome found (λ f. (bits : List Bool) → HasBelowOne bits number → IsLowBits w (Some bits) (word f.0) f.1)
    → IfSome found (λ f. IsLowBits w (path tree symbol) (word f.0) f.1)
read_codeword word w symbol number nodes codewords tree None climbs have within is some reads = tt
read_codeword word w symbol number nodes codewords tree (Some found) climbs have within is some reads =
    elim (have.each symbol (omega (arith, within, climbs.some))) [
      | inl none ↦ absurd (omega (arith, none, is, some))
      | inr below ↦ rw (climbs.known symbol within) (reads (climbed (length nodes) nodes symbol) (rw is below))
    ]
