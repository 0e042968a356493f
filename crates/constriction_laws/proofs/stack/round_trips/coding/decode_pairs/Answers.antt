use Rattle.std.proofs.Common.{arith}
use Rattle.std.specs.List.{zip}
use Rattle.constriction_base.specs.Models.{item_of}
use Rattle.constriction_laws.proofs.of_stack.ListCalls.{decodes_of}
use Rattle.constriction_laws.proofs.of_stack.PairCalls.{pairs_back}
use Rattle.constriction_laws.proofs.stack.round_trips.coding.decode_pairs.Goals as goal

pub returns-in-Ok-clause-decoded : goal.returns-in-Ok-clause-decoded
returns-in-Ok-clause-decoded g c = λ known.
    (decodes_of _ g.Word.Natural.number g.Backend.Holds g.Backend.ReadWords g.Word.Natural.BITS g.State.Natural.BITS
    (λ pair. item_of (record { precision = g.row.PRECISION; table = g.M.EntropyModel.table pair.1 }) pair.0) (zip c.in-Ok.again.items c.args.models.now)
    c.args.coder.now c.decode_by_models.new.decoder c.in-Ok.ensures.steps).0 known

pub returns-in-Ok-clause-read : goal.returns-in-Ok-clause-read
returns-in-Ok-clause-read g c =
    (decodes_of _ g.Word.Natural.number g.Backend.Holds g.Backend.ReadWords g.Word.Natural.BITS g.State.Natural.BITS
    (λ pair. item_of (record { precision = g.row.PRECISION; table = g.M.EntropyModel.table pair.1 }) pair.0) (zip c.in-Ok.again.items c.args.models.now)
    c.args.coder.now c.decode_by_models.new.decoder c.in-Ok.ensures.steps).1

pub returns-in-Ok-clause-back : goal.returns-in-Ok-clause-back
returns-in-Ok-clause-back g c = λ known symbols before encoded count.
    let w = g.Word.Natural.BITS in
    let s = g.State.Natural.BITS in
    let table = g.M.EntropyModel.table in
    pairs_back g.row.PRECISION table w s symbols c.in-Ok.again.items c.args.models.now before c.args.coder.now.state c.decode_by_models.new.decoder.state
    (λ m. (let sized = g.met.M.EntropyModel.sized m in record { some_bits = sized.0; within_word = omega (arith, sized.1, g.met.M.Probability.WordOf.width_law); lawful = g.M.EntropyModel.lawful m }))
    count c.in-Ok.ensures.count encoded
    ((decodes_of _ g.Word.Natural.number g.Backend.Holds g.Backend.ReadWords w s
    (λ pair. item_of (record { precision = g.row.PRECISION; table = table pair.1 }) pair.0) (zip c.in-Ok.again.items c.args.models.now)
    c.args.coder.now c.decode_by_models.new.decoder c.in-Ok.ensures.steps).0 known)
