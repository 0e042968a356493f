use Rattle.std.proofs.Common.{◌<◌, ◌≤◌, ◌+◌, ◌%◌, ◌^◌, ◌∙◌, ℕ, length, ap, arith}
use Rattle.std.proofs.Math.Pow.{pow_mono}
use Rattle.constriction_inputs.proofs.Guiding.{left_small, next_left, symbol_rows_push, weight_most}
use Rattle.constriction_inputs.proofs.models.guided.symbol_rows_of.Goals as goal

pub reciprocal_of-requires : goal.reciprocal_of-requires
reciprocal_of-requires g c = λ divides.
    let number = g.P.Natural.number in
    let most : 2 ^ g.row.PRECISION ≤ 9223372036854775808 = pow_mono (c.requires.most divides) in
    let inside : c.loop-symbol.symbol < length c.args.weights.now = omega (arith, c.loop-symbol-test.true) in
    omega (arith, most, ap number c.index-weights-symbol.is, weight_most number g.row.PRECISION c.args.weights.now c.loop-symbol.symbol c.index-weights-symbol.result c.requires.total inside)

pub loop-symbol-preserved : goal.loop-symbol-preserved
loop-symbol-preserved g c =
    let number = g.P.Natural.number in
    let ws = c.args.weights.now in
    let l = c.loop-symbol in
    let i = l.invariant in
    let weight = c.index-weights-symbol.result in
    let is = ap number c.index-weights-symbol.is in
    let inside : l.symbol < length ws = omega (arith, c.loop-symbol-test.true) in
    record {
      capacity = omega (arith, c.push_reserved.ensures.capacity, i.capacity);
      counted = omega (arith, c.push_reserved.ensures.len, i.counted);
      left = next_left number g.row.PRECISION g.P.Natural.BITS ws l.symbol (number l.left) (number c.wrapping_plus-left.result) weight c.requires.fits inside i.left
          (c.wrapping_plus-left.ensures ∙ ap (λ (n : ℕ). (number l.left + n) % 2 ^ g.P.Natural.BITS) is);
      are = rw c.push_reserved.ensures.items (symbol_rows_push number ws c.args.divides l.rows.items _ l.symbol (omega (arith, i.counted, l.rows.ok.0)) i.are
          (record {
            weight = is;
            left = λ some. i.left (left_small number g.row.PRECISION ws l.symbol weight c.requires.total inside (omega (arith, some, is)));
            reciprocal = λ divides some. c.reciprocal_of.ensures divides some;
          }));
    }
