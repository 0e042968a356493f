use Rattle.constriction_calls.proofs.ChainPlaces.{puts_at}
use Rattle.constriction_inputs.proofs.Places.{is_step_at}
use Rattle.constriction_calls.proofs.chain.encoding.encode_item.Goals as goal

pub put-requires-clause-step : goal.put-requires-clause-step
put-requires-clause-step g c =
    is_step_at g.C.Put.word_bits g.row.PRECISION g.P.Natural.BITS (g.L.ItemList.list_items c.args.list.now) c.args.place _ _ c.in-Some.ensures.found g.met.C.Put.width_law

pub returns-clause-put : goal.returns-clause-put
returns-clause-put g c =
    puts_at g.C.Put.word_bits g.C.Put.state_bits g.row.PRECISION g.P.Natural.BITS (g.L.ItemList.list_items c.args.list.now) c.args.place _ _ c.in-Some.ensures.found
    (g.C.Put.chain c.args.coder.now) (g.C.Put.chain c.put.new.self) c.put.result c.put.ensures
