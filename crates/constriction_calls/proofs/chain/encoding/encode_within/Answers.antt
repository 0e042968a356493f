use Rattle.std.proofs.Common.{refl, ◌≡◌, take, [], reverse, inl, inr}
use Rattle.std.proofs.Math.Seq.{take-length}
use Rattle.constriction_chain.proofs.Chains.{state}
use Rattle.constriction_inputs.specs.Buffers.{stack_in}
use Rattle.constriction_calls.specs.ChainCalls.{chain_buffers}
use Rattle.constriction_calls.proofs.ChainAnswers.{items_stopped, of_room}
use Rattle.constriction_calls.proofs.ChainFrame.{lacks_in, needs_room_in, put_in}
use Rattle.constriction_calls.proofs.chain.encoding.encode_within.Goals as goal

pub returns-in-Err : goal.returns-in-Err
returns-in-Err g c =
    let number = g.Word.Natural.number in
    let w = g.Word.Natural.BITS in
    let s = g.State.Natural.BITS in
    let items = g.L.ItemList.list_items c.args.list.now in
    let old = chain_buffers c.args.heads.now c.args.compressed.now c.args.len.now c.args.remainders.now c.args.rest.now in
    let is : c.from_raw_parts-coder.result.state ≡ state (number c.args.heads.now.compressed) (g.State.Natural.number c.args.heads.now.remainders) [] (stack_in number c.args.remainders.now c.args.rest.now)
    = rw (c.from_raw_parts-coder.ensures.value, c.requires.heads, c.new_at_write_end-lent.ensures, c.new_at_write_beginning.ensures, take-length (take c.args.rest.now c.args.remainders.now)) refl in
    items_stopped number g.State.Natural.number w s g.row.PRECISION old items c.in-Err.refusal (elim c.in-Err.ensures.refused [
      | inl memory ↦ inr (rw memory tt)
      | inr (inl never) ↦ inl never
      | inr (inr ends) ↦ inr (rw ends.0 (lacks_in number w s _ _ c.args.compressed.now c.args.len.now c.args.remainders.now c.args.rest.now g.met.Word.Natural.number_law (reverse items) (rw is at ends.1)))
    ]) old refl

pub returns-in-Err-finish_encoding : goal.returns-in-Err-finish_encoding
returns-in-Err-finish_encoding g c =
    let number = g.Word.Natural.number in
    let w = g.Word.Natural.BITS in
    let s = g.State.Natural.BITS in
    let items = g.L.ItemList.list_items c.args.list.now in
    let old = chain_buffers c.args.heads.now c.args.compressed.now c.args.len.now c.args.remainders.now c.args.rest.now in
    let is : c.from_raw_parts-coder.result.state ≡ state (number c.args.heads.now.compressed) (g.State.Natural.number c.args.heads.now.remainders) [] (stack_in number c.args.remainders.now c.args.rest.now)
    = rw (c.from_raw_parts-coder.ensures.value, c.requires.heads, c.new_at_write_end-lent.ensures, c.new_at_write_beginning.ensures, take-length (take c.args.rest.now c.args.remainders.now)) refl in
    let now = c.finish_encoding.new in
    let kept = c.in-Err-finish_encoding.ensures.kept in
    items_stopped number g.State.Natural.number w s g.row.PRECISION old items c.in-Err-finish_encoding.error (inr (of_room _ _ _ _ c.in-Err-finish_encoding.ensures.err
    (needs_room_in number w s _ _ c.args.compressed.now c.args.len.now c.args.remainders.now c.args.rest.now g.met.Word.Natural.number_law (reverse items) c.encode_list_items.new.coder.state
    c.requires.within.0 (rw is at c.in-Ok.ensures.put))))
    (chain_buffers now.heads now.compressed now.len c.args.remainders.now now.rest) (rw (kept.0, kept.1, kept.2, kept.3) refl)

pub returns-in-Ok-finish_encoding : goal.returns-in-Ok-finish_encoding
returns-in-Ok-finish_encoding g c =
    let number = g.Word.Natural.number in
    let items = g.L.ItemList.list_items c.args.list.now in
    let is : c.from_raw_parts-coder.result.state ≡ state (number c.args.heads.now.compressed) (g.State.Natural.number c.args.heads.now.remainders) [] (stack_in number c.args.remainders.now c.args.rest.now)
    = rw (c.from_raw_parts-coder.ensures.value, c.requires.heads, c.new_at_write_end-lent.ensures, c.new_at_write_beginning.ensures, take-length (take c.args.rest.now c.args.remainders.now)) refl in
    let e = c.in-Ok-finish_encoding.ensures in
    let now = c.finish_encoding.new in
    let put = put_in number g.Word.Natural.BITS g.State.Natural.BITS _ _ c.args.compressed.now c.args.len.now c.args.remainders.now c.args.rest.now g.met.Word.Natural.number_law (reverse items) _ _ now.rest
    e.compressed.0 now.compressed now.len c.encode_list_items.new.coder.state c.requires.within.1 (rw is at c.in-Ok.ensures.put) e.heads.0 e.heads.1 e.remainders e.compressed.1 e.compressed.2 in
    record {
      put = put.1;
      taken = (refl, put.0);
      appended = (e.compressed.0, e.compressed.2);
      refused = tt;
      kept = tt;
    }
