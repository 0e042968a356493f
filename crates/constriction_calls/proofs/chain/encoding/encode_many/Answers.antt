use Rattle.std.proofs.Common.{◌≡◌, ◌∙◌, arith, length, refl}
use Rattle.std.proofs.lemmas.List.{drop_all}
use Rattle.constriction_calls.proofs.ChainPlaces.{put_more, refused_more}
use Rattle.constriction_calls.proofs.chain.encoding.encode_many.Goals as goal

pub loop-left-init : goal.loop-left-init
loop-left-init g c =
    let items = g.L.ItemList.list_items c.args.list.now in
    record {
      within = omega (arith, c.count-left.ensures);
      put = rw (c.count-left.ensures, drop_all (length items) items (omega arith)) refl;
      items = refl;
    }

pub loop-left-preserved : goal.loop-left-preserved
loop-left-preserved g c =
    let kept = c.loop-left.invariant in
    record {
      within = omega (arith, kept.within);
      put = put_more g.C.Put.word_bits g.C.Put.state_bits (g.L.ItemList.list_items c.args.list.now) c.loop-left.left c.loop-left-test.true (g.C.Put.chain c.args.coder.now) (g.C.Put.chain c.loop-left.coder) (g.C.Put.chain c.encode_item.new.coder)
          kept.put (rw kept.items at c.in-Ok.ensures.put.put);
      items = c.in-Ok.ensures.items ∙ kept.items;
    }

pub returns-in-Err : goal.returns-in-Err
returns-in-Err g c =
    let kept = c.loop-left.invariant in
    refused_more g.C.Put.word_bits g.C.Put.state_bits (g.L.ItemList.list_items c.args.list.now) c.loop-left.left c.loop-left-test.true (g.C.Put.chain c.args.coder.now) (g.C.Put.chain c.loop-left.coder) (g.C.Put.chain c.encode_item.new.coder)
    (g.C.Put.chain c.encode_item.new.coder) c.in-Err.refusal kept.put (rw kept.items at c.in-Err.ensures.put)

pub returns : goal.returns
returns g c =
    let zero : c.loop-left.left ≡ 0 = omega (arith, c.loop-left-test.false) in
    record { put = rw zero at c.loop-left.invariant.put; refused = tt }
