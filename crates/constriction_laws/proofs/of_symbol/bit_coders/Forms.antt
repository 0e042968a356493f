-- The prefix form and the suffix form of a codeword.
use Rattle.std.proofs.Common.{◌≡◌, ℕ, Bool, false, List, ◌++◌, Option, Some, None, replicate, reverse, sym, ap, ◌∙◌}
use Rattle.std.proofs.lemmas.List.{reverse-append}
use Rattle.constriction_symbol.proofs.GolombLemmas.{reverse_zeros}
use Rattle.constriction_symbol.specs.Codewords.{formed}

-- of a symbol that has a codeword they are each other's reverse
pub suffix_turned : (known : Option (List Bool)) (prefix suffix : List Bool) → formed (λ bits. bits) known ≡ Some prefix → formed (λ bits. reverse bits) known ≡ Some suffix
    → suffix ≡ reverse prefix
suffix_turned None prefix suffix first second = absurd cc
suffix_turned (Some bits) prefix suffix first second =
    let one : bits ≡ prefix = cc in
    let other : reverse bits ≡ suffix = cc in
    sym other ∙ ap reverse one

-- bits behind zeros, turned round
pub behind_zeros : (n : ℕ) (bits : List Bool) → reverse (replicate n false ++ bits) ≡ reverse bits ++ replicate n false
behind_zeros n bits = reverse-append (replicate n false) bits ∙ ap (λ (bs : List Bool). reverse bits ++ bs) (reverse_zeros n)
