-- Trees of weights: which weights make one, and in which bits one reads on.
use Rattle.std.proofs.Common.{◌≡◌, ℕ, Bool, List, arith, map, ◌∙◌}
use Rattle.std.proofs.lemmas.List.{length-map}
use Rattle.std.proofs.lemmas.List.Sums.{sum-map}
use Rattle.constriction_symbol.specs.Merging.{FitTree}
use Rattle.constriction_symbol.specs.Codewords.{NoCodewordBegins}
use Rattle.constriction_symbol.specs.Huffman.{ReadsOnIn, Tree, huffman, path}
use Rattle.constriction_symbol.specs.HuffmanLaws.{inner_begins_none}

-- weights, as numbers, make a tree of the same size
pub fit_numbers : {P : Type 0} (number : P → ℕ) (bits most : ℕ) (weights : List P) → FitTree number bits most weights → FitTree (λ n. n) bits most (map number weights)
fit_numbers number bits most weights fit =
    let count = length-map weights number in
    record { some = omega (arith, count, fit.some); few = omega (arith, count, fit.few); fits = rw (sum-map number weights) fit.fits }

-- bits in which a tree that has the codewords of weights reads on
pub cut_by : (tree : Tree) (weights : List ℕ) → ((s : ℕ) → path tree s ≡ huffman weights s) → (bits : List Bool) → ReadsOnIn tree bits → NoCodewordBegins (huffman weights) bits
cut_by tree weights same bits on symbol code tail known is = inner_begins_none tree bits on symbol code tail (same symbol ∙ known) is
