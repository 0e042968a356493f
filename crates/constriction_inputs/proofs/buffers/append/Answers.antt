use Rattle.std.proofs.Common.{◌≡◌, ◌+◌, ◌-◌, length, arith, ap}
use Rattle.std.proofs.lemmas.Slice.{take-put_mid, drop-put_mid}
use Rattle.constriction_inputs.proofs.buffers.append.Goals as goal

pub returns-else-added-eq1-clause-ok : goal.returns-else-added-eq1-clause-ok
returns-else-added-eq1-clause-ok g c =
    let old = c.args.buffer.now in
    let len = c.args.len.now in
    let new = c.copy_from_slice.new.self in
    let within = c.requires in
    let end : c.in-Some.end ≡ len + length c.args.added.now = c.in-Some.ensures.1 in
    let counted : length new ≡ length c.args.added.now = ap length c.copy_from_slice.ensures.after in
    record {
      count = end;
      words = rw (take-put_mid len (c.in-Some.end - len) old new c.in-Some.end (omega (arith, end, counted)) within, c.copy_from_slice.ensures.after);
      behind = drop-put_mid len (c.in-Some.end - len) old new c.in-Some.end (omega (arith, end)) within (omega (arith, end, counted));
    }
