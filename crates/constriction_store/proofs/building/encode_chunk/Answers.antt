use Rattle.std.proofs.Common.{ℕ, arith}
use Rattle.constriction_base.specs.Models.{Model}
use Rattle.constriction_queue.specs.Encoder.{run_by}
use Rattle.constriction_queue.proofs.StepCalls.{encode_of}
use Rattle.constriction_store.proofs.Symbols.{known_more, narrowed_more}
use Rattle.constriction_store.proofs.building.encode_chunk.Goals as goal

pub loop-place-preserved : goal.loop-place-preserved
loop-place-preserved g c =
    let w = g.Word.Natural.BITS in
    let s = g.State.Natural.BITS in
    let model : Model ℕ = record { precision = g.row.PRECISION; table = g.M.EntropyModel.table c.args.model.now } in
    let inv = c.loop-place.invariant in
    let symbols = c.args.symbols.now in
    let k = c.loop-place.place in
    let one = encode_of _ _ _ w s _ model _ c.loop-place.encoder c.encode_symbol.new.self c.in-Ok.ensures.step in
    record {
      coded = narrowed_more w s model symbols k (run_by w s c.args.encoder.now) (run_by w s c.loop-place.encoder) (run_by w s c.encode_symbol.new.self) c.loop-place-test.true inv.coded one;
      known = known_more model symbols k c.loop-place-test.true inv.known (one.0, one.1, one.2);
      left = omega (arith, inv.left, c.in-Ok.ensures.fewer_left);
    }
