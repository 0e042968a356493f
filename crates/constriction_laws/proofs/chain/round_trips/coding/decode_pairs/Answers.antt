use Rattle.std.specs.List.{zip}
use Rattle.std.proofs.Common.{inl}
use Rattle.constriction_base.specs.Models.{item_of}
use Rattle.constriction_laws.proofs.of_chain.Ending.{pairs_end_early}
use Rattle.constriction_laws.proofs.of_chain.ListCalls.{decodes_of}
use Rattle.constriction_laws.proofs.chain.round_trips.coding.decode_pairs.Goals as goal

pub returns-in-Ok-clause-decoded : goal.returns-in-Ok-clause-decoded
returns-in-Ok-clause-decoded g c = λ known.
    decodes_of g.Word.Natural.number g.C.Holds g.C.ReadWords g.R.Holds g.R.WriteWords
    g.Word.Natural.BITS g.State.Natural.BITS (λ pair. item_of (record { precision = g.row.PRECISION; table = g.M.EntropyModel.table pair.1 }) pair.0)
    (zip c.in-Ok.symbols.items c.args.models.now) c.args.coder.now c.decode_by_models.new.decoder known c.in-Ok.ensures.steps

pub returns-in-Err-default-Refused-Frontend-clause-err : goal.returns-in-Err-default-Refused-Frontend-clause-err
returns-in-Err-default-Refused-Frontend-clause-err g c =
    let here = c.in-Err-default-Refused-Frontend in
    let stopped = rw here.field-0-1-0-is at (rw here.field-0-1-is at here.ensures.err) in
    pairs_end_early g.Word.Natural.number g.C.Holds g.C.ReadWords g.R.Holds g.R.WriteWords
    g.Word.Natural.BITS g.State.Natural.BITS g.row.PRECISION g.M.EntropyModel.table c.args.models.now _ c.args.coder.now c.decode_by_models.new.decoder _ stopped

pub returns-in-Err-default-Refused-Backend-clause-refused : goal.returns-in-Err-default-Refused-Backend-clause-refused
returns-in-Err-default-Refused-Backend-clause-refused g c =
    let here = c.in-Err-default-Refused-Backend in
    inl (here.field-0-0, here.field-0-1-0-0, rw here.field-0-1-0-is at (rw here.field-0-1-is at here.ensures.err))
