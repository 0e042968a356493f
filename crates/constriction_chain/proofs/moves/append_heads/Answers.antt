use Rattle.std.specs.Prelude.{◌^◌, ◌+◌, ◌≡◌, [], ◌∷◌, List, length}
use Rattle.std.proofs.Common.{arith, ap, sym, inl, inr}
use Rattle.std.proofs.lemmas.Bool.{cases_lt}
use Rattle.std.specs.Int.Digits.{digits_of}
use Rattle.constriction_base.proofs.Exporting.{base_two, digits_within, no_room}
use Rattle.constriction_base.proofs.Guards.{all_digits}
use Rattle.constriction_base.proofs.Written.{begun_below, last_missing, prepared, stops_at_once, stops_before, stops_later}
use Rattle.constriction_chain.proofs.moves.append_heads.Goals as goal

pub returns-in-Err-clause-err : goal.returns-in-Err-clause-err
returns-in-Err-clause-err g c =
    let all = g.Word.Natural.number c.args.h ∷ digits_of (2 ^ g.Word.Natural.BITS) (g.State.Natural.number c.args.r) in
    let len : length all ≡ c.count_of_words-count.result + 1 = omega (arith, c.count_of_words-count.ensures) in
    let fails = rw (← len) at c.in-Err.ensures.err in (
      elim (cases_lt (g.B.WriteWords.room c.args.backend.now) (length all)) [
        | inl less ↦ less
        | inr more ↦ absurd (g.met.B.WriteWords.prepare_law _ (length all) _ more fails)
      ],
      inl fails,
    )

pub returns-in-Err-write_words-clause-err : goal.returns-in-Err-write_words-clause-err
returns-in-Err-write_words-clause-err g c =
    let w = g.Word.Natural.BITS in
    let r = g.State.Natural.number c.args.r in
    let h = g.Word.Natural.number c.args.h in
    let digits = digits_of (2 ^ w) r in
    let len : length (h ∷ digits) ≡ c.count_of_words-count.result + 1 = omega (arith, c.count_of_words-count.ensures) in
    let refused = rw (all_digits (2 ^ w) c.count_of_words-count.result r (base_two w c.requires.some_bits) (sym c.count_of_words-count.ensures)) at c.in-Err-write_words.ensures.written in
    let room = c.in-Ok.ensures.room in
    let ready = prepared g.Word.Natural.number g.B.Holds g.B.WriteWords (h ∷ digits) _ _ _ (sym len) c.prepare.ensures.words room c.in-Ok.ensures.made c.prepare.ensures.fails in (
      omega (arith, room, refused.short),
      inr (
        _,
        rw (← c.prepare.ensures.words) (begun_below h digits _ _ refused.begun),
        (
          λ m. (let made = c.in-Ok.ensures.made m in omega (arith, len, made, refused.short)),
          (c.prepare.new.self, ready, stops_before g.Word.Natural.number g.B.Holds g.B.WriteWords (h ∷ []) digits _ _ _ refused.error),
        ),
      ),
    )

pub returns-in-Ok-write-clause-ok : goal.returns-in-Ok-write-clause-ok
returns-in-Ok-write-clause-ok g c =
    let w = g.Word.Natural.BITS in
    let r = g.State.Natural.number c.args.r in
    let h = g.Word.Natural.number c.args.h in
    let done = rw (all_digits (2 ^ w) c.count_of_words-count.result r (base_two w c.requires.some_bits) (sym c.count_of_words-count.ensures)) at c.in-Ok-write_words.ensures.written in
    let words = rw c.prepare.ensures.words at done.words in
    rw c.in-Ok-write.ensures.ok (ap (λ (ws : List _). h ∷ ws) words)

pub returns-in-Err-write-clause-err : goal.returns-in-Err-write-clause-err
returns-in-Err-write-clause-err g c =
    let w = g.Word.Natural.BITS in
    let r = g.State.Natural.number c.args.r in
    let h = g.Word.Natural.number c.args.h in
    let digits = digits_of (2 ^ w) r in
    let len : length (h ∷ digits) ≡ c.count_of_words-count.result + 1 = omega (arith, c.count_of_words-count.ensures) in
    let done = rw (all_digits (2 ^ w) c.count_of_words-count.result r (base_two w c.requires.some_bits) (sym c.count_of_words-count.ensures)) at c.in-Ok-write_words.ensures.written in
    let words = rw c.prepare.ensures.words at done.words in
    let at_once = stops_at_once g.Word.Natural.number g.B.Holds g.B.WriteWords c.args.h _ _ _ c.in-Err-write.ensures.writes c.in-Err-write.ensures.err c.in-Err-write.ensures.kept in
    let none = no_room _ (λ some. g.met.B.WriteWords.room_law c.write_words.new.bulk c.in-Err-write.last some c.in-Err-write.ensures.err) in
    let room = c.in-Ok.ensures.room in
    let ready = prepared g.Word.Natural.number g.B.Holds g.B.WriteWords (h ∷ digits) _ _ _ (sym len) c.prepare.ensures.words room c.in-Ok.ensures.made c.prepare.ensures.fails in (
      omega (arith, room, none, done.room_used),
      inr (
        c.write.new.self,
        rw c.in-Err-write.ensures.kept (last_missing h digits _ _ words),
        (
          λ m. (let made = c.in-Ok.ensures.made m in omega (arith, len, made, none, done.room_used)),
          (c.prepare.new.self, ready, stops_later g.Word.Natural.number g.B.Holds g.B.WriteWords (h ∷ []) digits _ _ _ _ done.in_turn at_once),
        ),
      ),
    )

pub overflow_add-count : goal.overflow_add-count
overflow_add-count g c =
    let within = digits_within g.Word.Natural.BITS g.State.Natural.BITS (g.State.Natural.number c.args.r) c.requires.some_bits (g.met.State.Natural.number_law _) in
    omega (arith, within, g.met.State.Natural.bits_law.1, c.count_of_words-count.ensures)
