use Rattle.std.proofs.Common.{arith, pow_pos}
use Rattle.std.specs.List.{zip}
use Rattle.constriction_base.specs.Models.{item_of}
use Rattle.constriction_laws.proofs.of_queue.ListCalls.{decodes_of, pairs_back}
use Rattle.constriction_laws.proofs.of_queue.Told.{never_among}
use Rattle.constriction_laws.proofs.queue.round_trips.coding.decode_pairs.Goals as goal

pub returns-in-Ok-clause-decoded : goal.returns-in-Ok-clause-decoded
returns-in-Ok-clause-decoded g c = λ known words old at.
    let table = g.M.EntropyModel.table in
    decodes_of _ g.Word.Natural.number g.Backend.Holds g.Backend.ReadWords g.Word.Natural.BITS g.State.Natural.BITS words known
    (λ pair. item_of (record { precision = g.row.PRECISION; table = table pair.1 }) pair.0) (zip c.in-Ok.again.items c.args.models.now) old c.args.decoder.now c.decode_by_models.new.decoder at c.in-Ok.ensures.steps

pub returns-in-Ok-clause-back : goal.returns-in-Ok-clause-back
returns-in-Ok-clause-back g c = λ known words symbols old last at decoded count.
    let w = g.Word.Natural.BITS in
    let s = g.State.Natural.BITS in
    let table = g.M.EntropyModel.table in
    let again = c.in-Ok.again.items in
    pairs_back g.row.PRECISION table w s words symbols again c.args.models.now old last c.decode_by_models.new.decoder
    (λ m. (let sized = g.met.M.EntropyModel.sized m in record { some_bits = sized.0; within_word = omega (arith, sized.1, g.met.M.Probability.WordOf.width_law); lawful = g.M.EntropyModel.lawful m }))
    count c.in-Ok.ensures.count decoded
    (decodes_of _ g.Word.Natural.number g.Backend.Holds g.Backend.ReadWords w s words known
    (λ pair. item_of (record { precision = g.row.PRECISION; table = table pair.1 }) pair.0) (zip again c.args.models.now) old c.args.decoder.now c.decode_by_models.new.decoder at c.in-Ok.ensures.steps)

pub returns-in-Err-default-Refused-Frontend-clause-err : goal.returns-in-Err-default-Refused-Frontend-clause-err
returns-in-Err-default-Refused-Frontend-clause-err g c = λ known words old at symbols last count found.
    let w = g.Word.Natural.BITS in
    let s = g.State.Natural.BITS in
    let table = g.M.EntropyModel.table in
    let here = c.in-Err-default-Refused-Frontend in
    let stopped = rw here.field-0-1-0-is at (rw here.field-0-1-is at here.ensures.err) in
    never_among g.Word.Natural.number _ _ w s words known g.row.PRECISION table
    (λ m. (let sized = g.met.M.EntropyModel.sized m in record { some_bits = sized.0; within_word = omega (arith, sized.1, g.met.M.Probability.WordOf.width_law); lawful = g.M.EntropyModel.lawful m }))
    (pow_pos s) symbols c.args.models.now _ old last c.args.decoder.now c.decode_by_models.new.decoder _ count at found stopped
