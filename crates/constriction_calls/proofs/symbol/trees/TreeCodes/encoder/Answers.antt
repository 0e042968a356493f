use Rattle.std.proofs.Common.{◌≡◌, ◌∙◌, ◌-◌, ◌^◌, ap, map}
use Rattle.std.proofs.lemmas.Iterator.{items_from_drains, YieldsList-from_slice}
use Rattle.constriction_symbol.specs.Huffman.{huffman}
use Rattle.constriction_symbol.proofs.TreeWeights.{fit_numbers}
use Rattle.constriction_calls.proofs.symbol.trees.TreeCodes.encoder.Goals as goal

pub returns-in-Ok : goal.returns-in-Ok
returns-in-Ok g c =
    let made = c.in-Ok.ensures.ok in
    let weights = c.args.self.now.weights.now in
    let all : made.0 ≡ weights = made.1.4 ∙ items_from_drains made.1.2 (made.1.3.1.0, made.1.3.1.1, λ _. (made.1.3.0, made.1.3.1.2)) (YieldsList-from_slice weights made.1.1.0) in
    record {
      tree = fit_numbers g.P.Natural.number g.P.Natural.BITS (2 ^ 62 - 1) weights (rw all at made.2.0);
      codewords = λ s. made.2.1.1 s ∙ ap (λ ws. huffman (map g.P.Natural.number ws) s) all;
    }
