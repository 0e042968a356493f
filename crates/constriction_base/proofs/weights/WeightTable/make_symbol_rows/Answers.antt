use Rattle.std.proofs.Common.{◌<◌, ◌≤◌, ◌^◌, ℕ, map, length, subst, arith}
use Rattle.std.proofs.Math.Pow.{pow_mono}
use Rattle.std.proofs.lemmas.List.{length-map}
use Rattle.constriction_words.specs.Reciprocals.{IsReciprocalOf}
use Rattle.constriction_base.proofs.Made.{symbol_rows_push, weight_within}
use Rattle.constriction_base.proofs.weights.WeightTable.make_symbol_rows.Goals as goal

pub to_index-requires : goal.to_index-requires
to_index-requires g c =
    let t = c.args.self.now in
    let number = g.Probability.Natural.number in
    let most : 2 ^ g.row.PRECISION ≤ 9223372036854775808 = pow_mono c.requires in
    let inside : c.loop-symbol.symbol < length (map number t.starts.items) = omega (arith, length-map t.starts.items number, c.loop-symbol-test.true, c.len-symbol-end.ensures, t.starts.ok.0) in
    omega (arith, most, c.weight-weight.ensures, weight_within (map number t.starts.items) (2 ^ g.row.PRECISION) c.loop-symbol.symbol t.rising inside)

pub loop-symbol-preserved : goal.loop-symbol-preserved
loop-symbol-preserved g c =
    let number = g.Probability.Natural.number in
    let starts = map number c.args.self.now.starts.items in
    let i = c.loop-symbol.invariant in
    record {
      capacity = omega (arith, c.push_reserved.ensures.capacity, i.capacity);
      counted = omega (arith, c.push_reserved.ensures.len, i.counted);
      are = rw c.push_reserved.ensures.items (symbol_rows_push number starts (2 ^ g.row.PRECISION) c.loop-symbol.made.items _ c.loop-symbol.symbol (omega (arith, i.counted, c.loop-symbol.made.ok.0)) i.are
          (record {
            left = c.start.ensures;
            weight = c.weight-weight.ensures;
            reciprocal = λ some. subst (λ (n : ℕ). IsReciprocalOf c.new.result n) (omega (arith, some, c.max.ensures, c.to_index.ensures)) c.new.ensures;
          }));
    }
