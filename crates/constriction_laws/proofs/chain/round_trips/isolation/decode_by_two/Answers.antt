use Rattle.std.proofs.Common.{arith}
use Rattle.constriction_base.specs.Models.{IsModel}
use Rattle.constriction_laws.proofs.of_chain.Isolating.{isolated_by}
use Rattle.constriction_laws.proofs.chain.round_trips.isolation.decode_by_two.Goals as goal

pub returns-clause-isolated : goal.returns-clause-isolated
returns-clause-isolated g c = λ known h compressed.
    let w = g.Word.Natural.BITS in
    let P = g.row.PRECISION in
    let table = g.M.EntropyModel.table in
    let other = g.L.EntropyModel.table in
    let law : (m : g.row.M.Denot) → IsModel w (record { precision = P; table = table m }) =
    λ m. (let sized = g.met.M.EntropyModel.sized m in
    record { some_bits = sized.0; within_word = omega (arith, sized.1, g.met.M.Probability.WordOf.width_law); lawful = g.M.EntropyModel.lawful m }) in
    let also : (m : g.row.L.Denot) → IsModel w (record { precision = P; table = other m }) =
    λ m. (let sized = g.met.L.EntropyModel.sized m in
    record { some_bits = sized.0; within_word = omega (arith, sized.1, g.met.L.Probability.WordOf.width_law); lawful = g.L.EntropyModel.lawful m }) in
    isolated_by w g.State.Natural.BITS P table other law also c.symbols_are_isolated.ensures _ _ c.args.models.now c.args.others.now
    c.args.coder.now.state c.args.same.now.state _ _ h compressed (c.in_ok-one.ensures.decoded known) (c.in_ok-two.ensures.decoded known)
