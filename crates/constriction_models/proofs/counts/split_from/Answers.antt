use Rattle.std.specs.Prelude.{ℕ, ◌<◌, ◌≤◌, length, slice_index}
use Rattle.std.proofs.Common.{sym, ◌∙◌, arith}
use Rattle.constriction_models.proofs.Sharing.{none_raised, all_kept}
use Rattle.constriction_models.proofs.counts.split_from.Goals as goal

pub returns-then-limit-least-clause-total : goal.returns-then-limit-least-clause-total
returns-then-limit-least-clause-total c =
    let xs = c.args.counts.now in
    let none : (k : ℕ) → k < length xs → 0 < slice_index xs k → c.args.limit ≤ slice_index xs k = λ k inside some. omega (arith, c.if-limit-least.true, c.requires.least k inside some) in
    record {
      raised_is = sym (none_raised xs c.args.limit c.requires.some none);
      kept_is = c.requires.total ∙ (all_kept xs 1 (omega arith) (λ k _ some. some) ∙ sym (all_kept xs c.args.limit c.requires.some none));
    }
