use Rattle.std.proofs.Common.{◌*◌, ℕ, arith}
use Rattle.constriction_base.specs.Models.{Model}
use Rattle.constriction_interleaved.proofs.LaneFour.{four_lanes, row_behind, row_from, row_zero}
use Rattle.constriction_interleaved.proofs.decoding.decode_group_of_four.Goals as goal

pub returns : goal.returns
returns g c =
    let model : Model ℕ = record { precision = g.row.PRECISION; table = g.M.EntropyModel.table c.args.model.now } in
    let t = c.decode_four-a in
    let words = c.args.words.now in
    let width = c.args.width in
    let front = c.split_at_mut-first.ensures.front_len in
    let back = c.split_at_mut-first.ensures.back_len in
    let second = c.split_at_mut-second.ensures.front_len in
    let others = c.split_at_mut-second.ensures.back_len in
    let third = c.split_at_mut-third.ensures.front_len in
    let end = c.split_at_mut-third.ensures.back_len in
    record {
      decoded = four_lanes g.Word.Natural.number g.State.Natural.number g.Word.Natural.BITS g.State.Natural.BITS model width c.args.count words c.args.heads.now c.args.lens.now
          t.result.0 t.result.2 t.result.4 t.result.6 t.result.1 t.result.3 t.result.5 t.result.7 t.new.symbols_a t.new.symbols_b t.new.symbols_c t.new.symbols_d
          c.index-heads-0.result c.index-heads-1.result c.index-heads-2.result c.index-heads-3.result _ _ _ _ (omega (arith, c.requires.heads)) (omega (arith, c.requires.lens))
          (omega (arith, t.auto.symbols_a, front)) (omega (arith, t.auto.symbols_b, second)) (omega (arith, t.auto.symbols_c, third)) (omega (arith, t.auto.symbols_d, end, others, back, c.requires.symbols))
          c.index-heads-0.is c.index-heads-1.is c.index-heads-2.is c.index-heads-3.is
          (row_zero width words) (row_from width 1 width (2 * width) words (omega arith) (omega arith)) (row_from width 2 (2 * width) (3 * width) words (omega arith) (omega arith))
          (row_behind width words c.requires.words) t.ensures.first t.ensures.second t.ensures.third t.ensures.fourth;
    }
