use Rattle.std.proofs.Common.{◌≡◌, ◌≤◌, [], arith, length, refl}
use Rattle.constriction_calls.proofs.AnsAnswers.{binary_exported}
use Rattle.constriction_calls.proofs.ans.words.into_binary.Goals as goal

pub returns-in-Ok : goal.returns-in-Ok
returns-in-Ok g c =
    let within : c.args.len.now ≤ length c.args.words.now = omega (arith, c.if-len-words.false) in
    let state : c.from_raw_parts-binary.result.state ≡ record { head = g.State.Natural.number c.args.head; words = [] } = rw (c.from_raw_parts-binary.ensures.state, c.new.ensures.items) refl in
    binary_exported g.Word.Natural.number g.State.Natural.number g.Word.Natural.BITS (record { head = c.args.head; words = c.args.words.now; len = c.args.len.now }) within c.in-Ok.added.items
    (rw state at c.in-Ok.ensures.ok) _ c.append.new.buffer c.append.new.len c.append.result (rw c.deref.ensures.value at c.append.ensures.ok) (rw c.deref.ensures.value at c.append.ensures.err)
    (rw c.deref.ensures.value at c.append.ensures.full) c.append.ensures.kept
