use Rattle.std.proofs.Common.{◌≡◌, ℕ, length, map, rules, true}
use Rattle.constriction_base.specs.Models.{Model}
use Rattle.constriction_base.specs.Tables.{table_of}
use Rattle.constriction_inputs.specs.Weights.{IsTotal, by_weights}
use Rattle.constriction_lanes.proofs.Decoded.{lanes_decoded}
use Rattle.constriction_lanes.proofs.RowItems.{items_row}
use Rattle.constriction_lanes.proofs.decoding.decode_by_weights.Goals as goal

pub returns : goal.returns
returns g c =
    let P = g.row.PRECISION in
    let ws = map g.P.Natural.number c.args.weights.now in
    let model : Model ℕ = record { precision = P; table = table_of ws } in
    let call = c.decode_lanes in
    let news = call.new.symbols in
    let found = c.in-Some.ensures.lanes in
    let long : length news ≡ length c.args.symbols.now = call.auto.symbols in
    let yes : c.is_total.result ≡ true = search rules in
    let total : IsTotal P ws = c.is_total.ensures.0 yes in
    let decoded = rw (found.1, found.2, c.in-Some-decoder_by.ensures) at call.ensures.decoded in
    record {
      call = lanes_decoded g.Word.Natural.number g.State.Natural.number g.Word.Natural.BITS g.State.Natural.BITS P (by_weights ws) c.args.heads.now call.new.heads c.args.words.now c.args.lens.now call.new.lens c.args.symbols.now news
          found.0 (tt, tt, total) (tt, tt, total) call.auto.heads call.auto.lens long
          (λ j lt d. rw (items_row model _ j news) (decoded j lt d));
    }
