use Rattle.std.proofs.Common.{◌≡◌, ◌≤◌, ◌∙◌, ℕ, [], Err, ap, arith, inr, length, refl}
use Rattle.constriction_chain.proofs.Chains.{state}
use Rattle.constriction_inputs.specs.Buffers.{stack_in}
use Rattle.constriction_calls.specs.declared.chain.Form.TheVariants.{InBinary, InCompressed, InRemainders}
use Rattle.constriction_calls.proofs.ChainWords.{binary_heads, ends_at}
use Rattle.constriction_chain.proofs.Starts.{binary_above, compressed_above, heads_above}
use Rattle.constriction_calls.proofs.chain.words.into_words.Goals as goal

pub returns-in-Ok : goal.returns-in-Ok
returns-in-Ok g c =
    let number = g.Word.Natural.number in
    let right = c.in-Some.ensures.variant.0 refl in
    let h : ℕ = number c.args.heads.now.compressed in
    let r : ℕ = g.State.Natural.number c.args.heads.now.remainders in
    let is : c.from_raw_parts-coder.result.state ≡ state h r [] [] = rw (c.from_raw_parts-coder.ensures.value, c.in-Some.ensures.value, c.new-2.ensures.items, c.new-3.ensures.items) refl in
    let found = compressed_above number g.Word.Natural.BITS h r c.in-Ok.added.items (stack_in number c.args.words.now c.args.len.now) c.from_raw_parts-coder.result.state is c.in-Ok.ensures.ok in
    record {
      call = rw c.in-InCompressed.is (ends_at number g.State.Natural.number g.Word.Natural.BITS g.State.Natural.BITS g.row.PRECISION InCompressed c.args.heads.now (record { words = c.args.words.now; len = c.args.len.now })
          (record { words = c.append.new.buffer; len = c.append.new.len }) c.in-Ok.added.items (omega (arith, c.if-len-words.false)) (record { heads = record { some = right.0; window = right.1 }; whole = found.0 }) found.1 c.append.result
          (rw c.deref.ensures.value at c.append.ensures.ok) (rw c.deref.ensures.value at c.append.ensures.full) _ (rw c.deref.ensures.value at c.append.ensures.err) c.append.ensures.kept);
    }

pub returns-in-Ok-into_binary : goal.returns-in-Ok-into_binary
returns-in-Ok-into_binary g c =
    let number = g.Word.Natural.number in
    let within : c.args.len.now ≤ length c.args.words.now = omega (arith, c.if-len-words.false) in
    let right = c.in-Some.ensures.variant.0 refl in
    let h : ℕ = number c.args.heads.now.compressed in
    let r : ℕ = g.State.Natural.number c.args.heads.now.remainders in
    let is : c.from_raw_parts-coder.result.state ≡ state h r [] [] = rw (c.from_raw_parts-coder.ensures.value, c.in-Some.ensures.value, c.new-2.ensures.items, c.new-3.ensures.items) refl in
    let found = binary_above number g.Word.Natural.BITS h r c.in-Ok-into_binary.added.items (stack_in number c.args.words.now c.args.len.now) c.from_raw_parts-coder.result.state is c.in-Ok-into_binary.ensures.ok in
    record {
      call = rw c.in-InBinary.is (ends_at number g.State.Natural.number g.Word.Natural.BITS g.State.Natural.BITS g.row.PRECISION InBinary c.args.heads.now (record { words = c.args.words.now; len = c.args.len.now })
          (record { words = c.append-in-Ok-into_binary.new.buffer; len = c.append-in-Ok-into_binary.new.len }) c.in-Ok-into_binary.added.items within (record { heads = record { some = right.0; window = right.1 }; whole = found.0; above = (found.1.0, found.1.1) }) found.1 c.append-in-Ok-into_binary.result
          (rw c.deref-in-Ok-into_binary.ensures.value at c.append-in-Ok-into_binary.ensures.ok) (rw c.deref-in-Ok-into_binary.ensures.value at c.append-in-Ok-into_binary.ensures.full) _ (rw c.deref-in-Ok-into_binary.ensures.value at c.append-in-Ok-into_binary.ensures.err) c.append-in-Ok-into_binary.ensures.kept);
    }

pub returns-in-Ok-into_remainders : goal.returns-in-Ok-into_remainders
returns-in-Ok-into_remainders g c =
    let number = g.Word.Natural.number in
    let within : c.args.len.now ≤ length c.args.words.now = omega (arith, c.if-len-words.false) in
    let right = c.in-Some.ensures.variant.0 refl in
    let h : ℕ = number c.args.heads.now.compressed in
    let r : ℕ = g.State.Natural.number c.args.heads.now.remainders in
    let is : c.from_raw_parts-coder.result.state ≡ state h r [] [] = rw (c.from_raw_parts-coder.ensures.value, c.in-Some.ensures.value, c.new-2.ensures.items, c.new-3.ensures.items) refl in
    let found = heads_above number g.Word.Natural.BITS h r c.in-Ok-into_remainders.added.items (stack_in number c.args.words.now c.args.len.now) c.from_raw_parts-coder.result.state is c.in-Ok-into_remainders.ensures.ok.1 in
    record {
      call = rw c.in-InRemainders.is (ends_at number g.State.Natural.number g.Word.Natural.BITS g.State.Natural.BITS g.row.PRECISION InRemainders c.args.heads.now (record { words = c.args.words.now; len = c.args.len.now })
          (record { words = c.append-in-Ok-into_remainders.new.buffer; len = c.append-in-Ok-into_remainders.new.len }) c.in-Ok-into_remainders.added.items within (record { some = right.0; window = right.1 }) found c.append-in-Ok-into_remainders.result
          (rw c.deref-in-Ok-into_remainders.ensures.value at c.append-in-Ok-into_remainders.ensures.ok) (rw c.deref-in-Ok-into_remainders.ensures.value at c.append-in-Ok-into_remainders.ensures.full) _ (rw c.deref-in-Ok-into_remainders.ensures.value at c.append-in-Ok-into_remainders.ensures.err) c.append-in-Ok-into_remainders.ensures.kept);
    }

pub returns-in-InBinary : goal.returns-in-InBinary
returns-in-InBinary g c =
    let within : c.args.len.now ≤ length c.args.words.now = omega (arith, c.if-len-words.false) in
    let right = c.in-Some.ensures.variant.0 refl in
    let h : ℕ = g.Word.Natural.number c.args.heads.now.compressed in
    let r : ℕ = g.State.Natural.number c.args.heads.now.remainders in
    let is : c.from_raw_parts-coder.result.state ≡ state h r [] [] = rw (c.from_raw_parts-coder.ensures.value, c.in-Some.ensures.value, c.new-2.ensures.items, c.new-3.ensures.items) refl in
    let have = binary_heads g.Word.Natural.BITS g.State.Natural.BITS g.row.PRECISION h r c.from_raw_parts-coder.result.state is (record { some = right.0; window = right.1 }) (rw (c.in-Err-Backend-into_binary.is ∙ ap Err c.in-Err-Backend-into_binary.field-0-is) at c.into_binary.ensures.err) in
    record { call = rw c.in-InBinary.is (record { ended = tt; appended = tt; asked = inr (within, inr (have, tt)); kept = refl }) }
