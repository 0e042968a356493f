use Rattle.std.proofs.Common.{◌≡◌, ◌==◌, ap, map, reverse, take}
use Rattle.std.specs.declared.convert.Infallible.{Infallible}
use Rattle.constriction_base.specs.Backends.{Reads}
use Rattle.constriction_base.specs.declared.backends.semantics.Stack.{Stack}
use Rattle.constriction_calls.specs.declared.chain.Form.TheVariants.{InBinary, InCompressed, InRemainders}
use Rattle.constriction_calls.proofs.ChainWords.{begins_at, begins_none, of_binary, of_compressed, of_remainders}
use Rattle.constriction_chain.proofs.Starts.{no_binary, no_compressed, no_remainders}
use Rattle.constriction_inputs.proofs.Stacked.{all_taken}
use Rattle.constriction_calls.proofs.chain.words.from_words.Goals as goal

pub returns-in-Ok : goal.returns-in-Ok
returns-in-Ok g c =
    let raw = c.into_raw_parts-rest.result in
    let n = g.Word.Natural.number in
    let made = of_compressed n g.Word.Natural.BITS g.State.Natural.BITS g.row.PRECISION c.args.words.now raw.0.buf.now raw.1.items (n raw.2.0) (g.State.Natural.number raw.2.1) raw.0.pos c.in-Ok.coder.state
    c.keep.ensures.within c.in-Ok.ensures.coder.chain (ap (λ v. v.state) c.into_raw_parts-rest.ensures.value) c.in-Ok.ensures.ok.0 c.in-Ok.ensures.ok.1 (rw c.new_at_write_end-lent.ensures at (c.in-Ok.ensures.ok.2 tt)) in
    record {
      call = rw (c.in-InCompressed.is, c.keep.ensures.heads, c.keep.ensures.len) (begins_at n g.State.Natural.number g.Word.Natural.BITS g.State.Natural.BITS g.row.PRECISION InCompressed c.args.words.now
          (record { heads = c.args.heads.now; len = c.args.len.now }) (record { heads = record { remainders = raw.2.1; compressed = raw.2.0 }; len = raw.0.pos }) made);
    }

pub returns-in-Err : goal.returns-in-Err
returns-in-Err g c =
    let n = g.Word.Natural.number in
    let words : map n (reverse (take c.new_at_write_end-lent.result.pos c.new_at_write_end-lent.result.buf.now)) ≡ map n (reverse c.args.words.now) = rw c.new_at_write_end-lent.ensures (all_taken n c.args.words.now) in
    record {
      call = rw c.in-InCompressed.is (begins_none n g.State.Natural.number g.Word.Natural.BITS g.State.Natural.BITS g.row.PRECISION InCompressed c.args.words.now (record { heads = c.args.heads.now; len = c.args.len.now })
          (no_compressed {O = Stack} {E = Infallible} n (record { words = λ cursor. reverse (take cursor.pos cursor.buf.now); is_list = Unit {0} })
          (record { reads = λ old answer new. Reads (reverse (take old.pos old.buf.now)) answer (reverse (take new.pos new.buf.now)) × (new.buf ≡ old.buf); seems_exhausted = λ cursor. cursor.pos == 0 }) _ _ _
          tt c.requires.sized (λ never. elim never [ ]) c.new_at_write_end-lent.result _ c.in-Err.ensures.err _ words));
    }

pub returns-in-Ok-from_binary : goal.returns-in-Ok-from_binary
returns-in-Ok-from_binary g c =
    let raw = c.into_raw_parts-rest-in-Ok-from_binary.result in
    let n = g.Word.Natural.number in
    let made = of_binary n g.Word.Natural.BITS g.State.Natural.BITS g.row.PRECISION c.args.words.now raw.0.buf.now raw.1.items (n raw.2.0) (g.State.Natural.number raw.2.1) raw.0.pos c.in-Ok-from_binary.coder.state
    c.keep-in-Ok-from_binary.ensures.within c.in-Ok-from_binary.ensures.coder.chain (ap (λ v. v.state) c.into_raw_parts-rest-in-Ok-from_binary.ensures.value) c.in-Ok-from_binary.ensures.ok.0 c.in-Ok-from_binary.ensures.ok.1 (rw c.new_at_write_end-lent.ensures at (c.in-Ok-from_binary.ensures.ok.2 tt)) in
    record {
      call = rw (c.in-InBinary.is, c.keep-in-Ok-from_binary.ensures.heads, c.keep-in-Ok-from_binary.ensures.len) (begins_at n g.State.Natural.number g.Word.Natural.BITS g.State.Natural.BITS g.row.PRECISION InBinary c.args.words.now
          (record { heads = c.args.heads.now; len = c.args.len.now }) (record { heads = record { remainders = raw.2.1; compressed = raw.2.0 }; len = raw.0.pos }) made);
    }

pub returns-in-Err-from_binary : goal.returns-in-Err-from_binary
returns-in-Err-from_binary g c =
    let n = g.Word.Natural.number in
    let words : map n (reverse (take c.new_at_write_end-lent.result.pos c.new_at_write_end-lent.result.buf.now)) ≡ map n (reverse c.args.words.now) = rw c.new_at_write_end-lent.ensures (all_taken n c.args.words.now) in
    record {
      call = rw c.in-InBinary.is (begins_none n g.State.Natural.number g.Word.Natural.BITS g.State.Natural.BITS g.row.PRECISION InBinary c.args.words.now (record { heads = c.args.heads.now; len = c.args.len.now })
          (no_binary {E = Infallible} n _ _ _ _ _ tt c.requires.sized (λ never. elim never [ ]) c.new_at_write_end-lent.result _ c.in-Err-from_binary.ensures.err _ words));
    }

pub returns-in-Ok-from_remainders : goal.returns-in-Ok-from_remainders
returns-in-Ok-from_remainders g c =
    let raw = c.into_raw_parts-rest-in-Ok-from_remainders.result in
    let n = g.Word.Natural.number in
    let made = of_remainders n g.Word.Natural.BITS g.State.Natural.BITS g.row.PRECISION c.args.words.now raw.1.buf.now raw.0.items (n raw.2.0) (g.State.Natural.number raw.2.1) raw.1.pos c.in-Ok-from_remainders.coder.state
    c.keep-in-Ok-from_remainders.ensures.within c.in-Ok-from_remainders.ensures.coder.chain (ap (λ v. v.state) c.into_raw_parts-rest-in-Ok-from_remainders.ensures.value) c.in-Ok-from_remainders.ensures.ok.0 (rw c.new_at_write_end-lent.ensures at (c.in-Ok-from_remainders.ensures.ok.1 tt)) in
    record {
      call = rw (c.in-InRemainders.is, c.keep-in-Ok-from_remainders.ensures.heads, c.keep-in-Ok-from_remainders.ensures.len) (begins_at n g.State.Natural.number g.Word.Natural.BITS g.State.Natural.BITS g.row.PRECISION InRemainders c.args.words.now
          (record { heads = c.args.heads.now; len = c.args.len.now }) (record { heads = record { remainders = raw.2.1; compressed = raw.2.0 }; len = raw.1.pos }) made);
    }

pub returns-in-Err-from_remainders : goal.returns-in-Err-from_remainders
returns-in-Err-from_remainders g c =
    let n = g.Word.Natural.number in
    let words : map n (reverse (take c.new_at_write_end-lent.result.pos c.new_at_write_end-lent.result.buf.now)) ≡ map n (reverse c.args.words.now) = rw c.new_at_write_end-lent.ensures (all_taken n c.args.words.now) in
    record {
      call = rw c.in-InRemainders.is (begins_none n g.State.Natural.number g.Word.Natural.BITS g.State.Natural.BITS g.row.PRECISION InRemainders c.args.words.now (record { heads = c.args.heads.now; len = c.args.len.now })
          (no_remainders {O = Stack} {E = Infallible} n (record { words = λ cursor. reverse (take cursor.pos cursor.buf.now); is_list = Unit {0} })
          (record { reads = λ old answer new. Reads (reverse (take old.pos old.buf.now)) answer (reverse (take new.pos new.buf.now)) × (new.buf ≡ old.buf); seems_exhausted = λ cursor. cursor.pos == 0 }) _ _ _
          tt c.requires.sized (λ never. elim never [ ]) c.new_at_write_end-lent.result _ c.in-Err-from_remainders.ensures.err _ words));
    }
