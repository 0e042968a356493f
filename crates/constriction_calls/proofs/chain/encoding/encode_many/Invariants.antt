use Rattle.std.proofs.Common.{◌≡◌, ◌≤◌, length, drop}
use Rattle.std.specs.Prelude.{reverse}
use Rattle.constriction_chain.specs.Symbols.{ChainEncodesAll}
use Rattle.constriction_calls.proofs.chain.encoding.encode_many.Given as goal

abbrev pub invariant-loop-left : goal.invariant-loop-left
invariant-loop-left g l =
    let items = g.L.ItemList.list_items l.fn.list in
    record {
      within : l.left ≤ length items;
      put : ChainEncodesAll g.C.Put.word_bits g.C.Put.state_bits (reverse (drop l.left items)) (g.C.Put.chain l.fn.coder) (g.C.Put.chain l.coder);
      items : g.L.ItemList.list_items l.list ≡ items;
    }

abbrev pub decreases-loop-left : goal.decreases-loop-left
decreases-loop-left g l = l.left
