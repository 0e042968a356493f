use Rattle.std.proofs.Common.{◌≡◌, length, refl}
use Rattle.constriction_inputs.specs.Coded.{items}
use Rattle.constriction_inputs.proofs.Asking.{fit_ok}
use Rattle.constriction_lanes.proofs.Decoded.{lanes_decoded}
use Rattle.constriction_lanes.proofs.RowItems.{pairs, pairs_row}
use Rattle.constriction_lanes.proofs.decoding.decode.Goals as goal

pub returns : goal.returns
returns g c =
    let P = g.row.PRECISION in
    let coded = g.G.Models.coded c.args.models.now in
    let olds = c.args.symbols.now in
    let call = c.decode_rows in
    let news = call.new.symbols in
    let found = c.in-Some.ensures.lanes in
    let tables = g.G.DecoderList.DecoderModelList.tables c.in-Some-decoder_list.list in
    let long : length news ≡ length olds = call.auto.symbols in
    let is : items P (coded news) ≡ pairs P news tables = c.in-Some-decoder_list.ensures.items news long in
    let decoded = rw (found.1, found.2) at call.ensures.decoded in
    record {
      call = lanes_decoded g.Word.Natural.number g.State.Natural.number g.Word.Natural.BITS g.State.Natural.BITS P coded c.args.heads.now call.new.heads c.args.words.now c.args.lens.now call.new.lens olds news
          found.0 (fit_ok P (coded olds) (c.in_ok-check.ensures olds refl)) (fit_ok P (coded news) (c.in_ok-check.ensures news long)) call.auto.heads call.auto.lens long
          (λ j lt d. rw (is, pairs_row P _ j news tables) (decoded j lt d));
    }
