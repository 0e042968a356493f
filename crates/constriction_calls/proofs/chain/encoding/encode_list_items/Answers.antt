use Rattle.std.proofs.Common.{arith}
use Rattle.constriction_calls.proofs.ChainPlaces.{single_put}
use Rattle.constriction_calls.proofs.chain.encoding.encode_list_items.Goals as goal

pub returns-then-count-eq1 : goal.returns-then-count-eq1
returns-then-count-eq1 g c =
    single_put g.C.Put.word_bits g.C.Put.state_bits (g.L.ItemList.list_items c.args.list.now) (g.C.Put.chain c.args.coder.now) (g.C.Put.chain c.encode_item.new.coder) c.encode_item.result
    (omega (arith, c.count.ensures, c.if-count-eq1.true)) c.encode_item.ensures.put
