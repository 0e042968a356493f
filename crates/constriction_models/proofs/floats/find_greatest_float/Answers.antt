use Rattle.std.proofs.Common.{refl, sym, ◌∙◌, arith}
use Rattle.std.proofs.lemmas.Bool.{false≢true}
use Rattle.constriction_models.proofs.Floating.{is_broken, is_sound, is_none, is_some}
use Rattle.constriction_models.proofs.floats.find_greatest_float.Goals as goal

pub returns-then-most-ge-INFINITY-clause-invalid : goal.returns-then-most-ge-INFINITY-clause-invalid
returns-then-most-ge-INFINITY-clause-invalid c =
    (λ _. is_broken c.args.floats.now c.find_greatest_bits-most.result c.find_greatest_bits-most.ensures (omega arith), λ _. refl)

pub returns-then-most-ge-INFINITY-clause-empty : goal.returns-then-most-ge-INFINITY-clause-empty
returns-then-most-ge-INFINITY-clause-empty c =
    (λ e. cc, λ both. absurd (false≢true (sym (is_broken c.args.floats.now c.find_greatest_bits-most.result c.find_greatest_bits-most.ensures (omega arith)) ∙ both.0)))

pub returns-then-most-eq0-clause-invalid : goal.returns-then-most-eq0-clause-invalid
returns-then-most-eq0-clause-invalid c =
    (λ e. cc, λ some. absurd (false≢true (sym some ∙ is_sound c.args.floats.now c.find_greatest_bits-most.result c.find_greatest_bits-most.ensures (omega arith))))

pub returns-then-most-eq0-clause-empty : goal.returns-then-most-eq0-clause-empty
returns-then-most-eq0-clause-empty c =
    let xs = c.args.floats.now in
    let is = c.find_greatest_bits-most.ensures in
    (λ _. (is_sound xs c.find_greatest_bits-most.result is (omega arith), is_none xs c.find_greatest_bits-most.result is (omega arith)), λ _. refl)

pub returns-clause-invalid : goal.returns-clause-invalid
returns-clause-invalid c =
    (λ e. cc, λ some. absurd (false≢true (sym some ∙ is_sound c.args.floats.now c.find_greatest_bits-most.result c.find_greatest_bits-most.ensures (omega arith))))

pub returns-clause-empty : goal.returns-clause-empty
returns-clause-empty c =
    (λ e. cc, λ both. absurd (omega (arith, both.1, is_some c.args.floats.now c.find_greatest_bits-most.result c.find_greatest_bits-most.ensures (omega arith))))
