use Rattle.std.proofs.Common.{◌≡◌, ◌+◌, ◌++◌, ℕ, arith, length, length-append, subst}
use Rattle.std.proofs.lemmas.Result.{err_from_is_err_and}
use Rattle.constriction_base.proofs.Written.{appended, not_prepared, prepared}
use Rattle.constriction_queue.specs.Encoder.{released_of, word_of}
use Rattle.constriction_queue.proofs.Owed.{part_refused, then_all}
use Rattle.constriction_queue.proofs.writing.flush_words.Goals as goal

pub returns-in_err-prepare : goal.returns-in_err-prepare
returns-in_err-prepare g c =
    let number = g.Word.Natural.number in
    let holds = g.Backend.Holds in
    let writes = g.Backend.WriteWords in
    let held = released_of number c.args.held in
    let top = word_of number c.args.top in
    let last = word_of number c.args.last in
    let behind = released_of number c.args.behind in
    let owed = last ++ (top ++ held) in
    let count : c.flushed_count.result + c.released_count.result ≡ length (behind ++ owed) = omega (arith, length-append behind owed, c.flushed_count.ensures, c.released_count.ensures) in
    let told = err_from_is_err_and c.from_residual.result c.from_residual.ensures.1 in
    rw (told.1, told.2) (not_prepared number holds writes g.met.Backend.WriteWords.prepare_law (behind ++ owed) c.args.bulk.now _ _
    (subst (λ (n : ℕ). writes.prepare_fails c.args.bulk.now n c.in_err-prepare.field-0.0) count c.in_err-prepare.ensures.err) c.prepare.ensures.words (omega (arith, count)))

pub returns-in_err-write_released : goal.returns-in_err-write_released
returns-in_err-write_released g c =
    let number = g.Word.Natural.number in
    let holds = g.Backend.Holds in
    let writes = g.Backend.WriteWords in
    let held = released_of number c.args.held in
    let top = word_of number c.args.top in
    let last = word_of number c.args.last in
    let behind = released_of number c.args.behind in
    let owed = last ++ (top ++ held) in
    let count : c.flushed_count.result + c.released_count.result ≡ length (behind ++ owed) = omega (arith, length-append behind owed, c.flushed_count.ensures, c.released_count.ensures) in
    let made = c.in_ok-prepare.ensures in
    let ready = prepared number holds writes (behind ++ owed) _ _ _ count made.words made.room made.made made.fails in
    let told = err_from_is_err_and c.from_residual-in_err-write_released.result c.from_residual-in_err-write_released.ensures.1 in
    rw (told.1, told.2) (appended number holds writes (behind ++ owed) c.args.bulk.now c.prepare.new.self _ _ ready (omega (arith, count))
    (part_refused number holds writes owed behind _ _ _
    (part_refused number holds writes (top ++ held) last _ _ _ (part_refused number holds writes held top _ _ _ c.in_err-write_released.ensures))))

pub returns-in_err-write_word : goal.returns-in_err-write_word
returns-in_err-write_word g c =
    let number = g.Word.Natural.number in
    let holds = g.Backend.Holds in
    let writes = g.Backend.WriteWords in
    let held = released_of number c.args.held in
    let top = word_of number c.args.top in
    let last = word_of number c.args.last in
    let behind = released_of number c.args.behind in
    let owed = last ++ (top ++ held) in
    let count : c.flushed_count.result + c.released_count.result ≡ length (behind ++ owed) = omega (arith, length-append behind owed, c.flushed_count.ensures, c.released_count.ensures) in
    let made = c.in_ok-prepare.ensures in
    let ready = prepared number holds writes (behind ++ owed) _ _ _ count made.words made.room made.made made.fails in
    let told = err_from_is_err_and c.from_residual-in_err-write_word.result c.from_residual-in_err-write_word.ensures.1 in
    rw (told.1, told.2) (appended number holds writes (behind ++ owed) c.args.bulk.now c.prepare.new.self _ _ ready (omega (arith, count))
    (part_refused number holds writes owed behind _ _ _
    (part_refused number holds writes (top ++ held) last _ _ _
    (then_all number holds writes held top _ _ _ _ c.in_ok-write_released.ensures c.in_err-write_word.ensures))))

pub returns-in_err-write_word-2 : goal.returns-in_err-write_word-2
returns-in_err-write_word-2 g c =
    let number = g.Word.Natural.number in
    let holds = g.Backend.Holds in
    let writes = g.Backend.WriteWords in
    let held = released_of number c.args.held in
    let top = word_of number c.args.top in
    let last = word_of number c.args.last in
    let behind = released_of number c.args.behind in
    let owed = last ++ (top ++ held) in
    let count : c.flushed_count.result + c.released_count.result ≡ length (behind ++ owed) = omega (arith, length-append behind owed, c.flushed_count.ensures, c.released_count.ensures) in
    let made = c.in_ok-prepare.ensures in
    let ready = prepared number holds writes (behind ++ owed) _ _ _ count made.words made.room made.made made.fails in
    let told = err_from_is_err_and c.from_residual-in_err-write_word-2.result c.from_residual-in_err-write_word-2.ensures.1 in
    rw (told.1, told.2) (appended number holds writes (behind ++ owed) c.args.bulk.now c.prepare.new.self _ _ ready (omega (arith, count))
    (part_refused number holds writes owed behind _ _ _
    (then_all number holds writes (top ++ held) last _ _ _ _
    (then_all number holds writes held top _ _ _ _ c.in_ok-write_released.ensures c.in_ok-write_word.ensures) c.in_err-write_word-2.ensures)))

pub returns : goal.returns
returns g c =
    let number = g.Word.Natural.number in
    let holds = g.Backend.Holds in
    let writes = g.Backend.WriteWords in
    let held = released_of number c.args.held in
    let top = word_of number c.args.top in
    let last = word_of number c.args.last in
    let behind = released_of number c.args.behind in
    let owed = last ++ (top ++ held) in
    let count : c.flushed_count.result + c.released_count.result ≡ length (behind ++ owed) = omega (arith, length-append behind owed, c.flushed_count.ensures, c.released_count.ensures) in
    let made = c.in_ok-prepare.ensures in
    let ready = prepared number holds writes (behind ++ owed) _ _ _ count made.words made.room made.made made.fails in
    appended number holds writes (behind ++ owed) c.args.bulk.now c.prepare.new.self _ _ ready (omega (arith, count))
    (then_all number holds writes owed behind _ _ _ _
    (then_all number holds writes (top ++ held) last _ _ _ _
    (then_all number holds writes held top _ _ _ _ c.in_ok-write_released.ensures c.in_ok-write_word.ensures) c.in_ok-write_word-2.ensures) c.write_released-2.ensures)
