use Rattle.std.specs.Prelude.{Ok}
use Rattle.std.proofs.Common.{◌≡◌, ◌-◌, ℕ, [], ◌∷◌, arith, replicate, subst}
use Rattle.std.proofs.lemmas.Result.{err_from_is_err_and}
use Rattle.std.specs.Int.NonZero.{non_zero_usize_get}
use Rattle.constriction_base.specs.Writing.{WritesAll}
use Rattle.constriction_queue.specs.Encoder.{repeated_words}
use Rattle.constriction_queue.proofs.Owed.{one_written, one_refused, part_refused, held_written, held_refused}
use Rattle.constriction_queue.proofs.writing.write_run.Goals as goal

pub returns-in_err-write : goal.returns-in_err-write
returns-in_err-write g c =
    let number = g.Word.Natural.number in
    let holds = g.Backend.Holds in
    let writes = g.Backend.WriteWords in
    let held = c.args.held in
    let refused = c.in_err-write.ensures in
    let told = err_from_is_err_and c.from_residual.result c.from_residual.ensures.1 in
    rw (told.1, told.2)
    (part_refused number holds writes (number held.first ∷ []) (replicate (non_zero_usize_get held.count - 1) (number held.others)) _ _ _
    (one_refused number holds writes g.met.Backend.WriteWords.room_law held.first _ _ _ refused.writes refused.kept refused.err))

pub loop-i-init : goal.loop-i-init
loop-i-init g c =
    let wrote = c.in_ok-write.ensures in
    record { written = one_written g.Word.Natural.number g.Backend.Holds g.Backend.WriteWords c.args.held.first _ _ wrote.writes wrote.ok wrote.room }

pub returns-in_err-write-2 : goal.returns-in_err-write-2
returns-in_err-write-2 g c =
    let number = g.Word.Natural.number in
    let holds = g.Backend.Holds in
    let writes = g.Backend.WriteWords in
    let held = c.args.held in
    let refused = c.in_err-write-2.ensures in
    let told = err_from_is_err_and c.from_residual-in_err-write-2.result c.from_residual-in_err-write-2.ensures.1 in
    rw (told.1, told.2)
    (held_refused number holds writes (number held.others) (non_zero_usize_get held.count) (number held.first) c.loop-i.i (omega arith) (omega arith) _ _ _ _ c.loop-i.invariant.written
    (one_refused number holds writes g.met.Backend.WriteWords.room_law held.others _ _ _ refused.writes refused.kept refused.err))

pub loop-i-preserved : goal.loop-i-preserved
loop-i-preserved g c =
    let number = g.Word.Natural.number in
    let holds = g.Backend.Holds in
    let writes = g.Backend.WriteWords in
    let held = c.args.held in
    let wrote = c.in_ok-write-2.ensures in
    record {
      written = held_written number holds writes (number held.others) (number held.first) c.loop-i.i (omega arith) _ _ _ c.loop-i.invariant.written
          (one_written number holds writes held.others _ _ wrote.writes wrote.ok wrote.room);
    }

pub returns : goal.returns
returns g c =
    let number = g.Word.Natural.number in
    let held = c.args.held in
    let all : c.loop-i.i ≡ non_zero_usize_get held.count = omega (arith, c.get-i-end.ensures.value, c.get-i-end.ensures.nonzero, c.loop-i.auto.i-end, c.loop-i-test.false) in
    subst (λ (n : ℕ). WritesAll number g.Backend.Holds g.Backend.WriteWords (repeated_words (number held.others) n (number held.first)) c.args.bulk.now (Ok tt) c.loop-i.bulk) all c.loop-i.invariant.written
