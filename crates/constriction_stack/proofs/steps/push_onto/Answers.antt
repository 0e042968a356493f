use Rattle.std.specs.Prelude.{◌≡◌, ◌+◌, length, map}
use Rattle.std.proofs.Common.{arith, refl, ◌∙◌, ap, inl, inr, lt-ltb, le-ltb}
use Rattle.std.proofs.lemmas.List.{length-map}
use Rattle.constriction_base.specs.Steps.{Step}
use Rattle.constriction_stack.specs.Ans.{AnsState}
use Rattle.constriction_stack.proofs.Coders.{is_coder, not_less}
use Rattle.constriction_stack.proofs.Pushing.{push_kept, push_written}
use Rattle.constriction_base.proofs.Sizes.{above_table}
use Rattle.constriction_base.proofs.Heads.{room_of_low, no_room_of_high, room_after_word}
use Rattle.constriction_stack.proofs.steps.push_onto.Goals as goal

pub push_head-requires-clause-room : goal.push_head-requires-clause-room
push_head-requires-clause-room g c =
    let is = rw c.BITS.ensures at c.shift_right.ensures in
    room_of_low _ _ _ (rw is at (c.if-is_below.ensures.0 refl))

pub push_head-requires-2-clause-room : goal.push_head-requires-2-clause-room
push_head-requires-2-clause-room g c =
    let is = rw c.BITS-2.ensures at c.shift_right-2.ensures in
    rw is (room_after_word _ _ _ _ _ (omega (arith, c.requires.sizes.two_words)) c.requires.step.within_word c.requires.step.not_empty (g.met.State.Natural.number_law _))

pub returns-then-is_below : goal.returns-then-is_below
returns-then-is_below g c =
    let w = g.Word.Natural.BITS in
    let s = g.State.Natural.BITS in
    let e : Step = record { precision = c.args.precision; left = g.State.Natural.number c.args.left; p = g.State.Natural.number c.args.p } in
    let old : AnsState = record { head = g.State.Natural.number c.args.head; words = map g.Word.Natural.number (g.Backend.Holds.words c.args.bulk.now) } in
    let is = rw c.BITS.ensures at c.shift_right.ensures in
    let less = rw is at (c.if-is_below.ensures.0 refl) in
    let low = room_of_low _ _ _ less in
    record {
      before = is_coder _ _ w s _ c.args.bulk.now c.requires.sizes (g.met.State.Natural.number_law _);
      after = is_coder _ _ w s _ c.args.bulk.now c.requires.sizes (g.met.State.Natural.number_law _);
      pushed = λ valid. rw c.push_head.ensures (push_kept w s e c.requires.sizes c.requires.step old valid (rw (← above_table w s e c.requires.sizes c.requires.step) low));
      words = rw (lt-ltb _ _ less) refl;
      room_used = omega arith;
      owes = λ owed. refl;
      kept = tt;
      error = tt;
    }

pub returns-in-Err : goal.returns-in-Err
returns-in-Err g c =
    let w = g.Word.Natural.BITS in
    let s = g.State.Natural.BITS in
    let is = rw c.BITS.ensures at c.shift_right.ensures in
    let owed = not_less _ _ (λ less. let no = c.if-is_below.ensures.1 (rw is less) in cc) in
    record {
      before = is_coder _ _ w s _ c.args.bulk.now c.requires.sizes (g.met.State.Natural.number_law _);
      after = is_coder _ _ w s _ c.prepare.new.self c.requires.sizes (g.met.State.Natural.number_law _);
      pushed = tt;
      words = tt;
      room_used = tt;
      owes = λ none. absurd (none owed);
      kept = rw c.in-Err.ensures.words refl;
      error = (owed, inl c.in-Err.ensures.err);
    }

pub returns-in-Err-write : goal.returns-in-Err-write
returns-in-Err-write g c =
    let w = g.Word.Natural.BITS in
    let s = g.State.Natural.BITS in
    let is = rw c.BITS.ensures at c.shift_right.ensures in
    let owed = not_less _ _ (λ less. let no = c.if-is_below.ensures.1 (rw is less) in cc) in
    record {
      before = is_coder _ _ w s _ c.args.bulk.now c.requires.sizes (g.met.State.Natural.number_law _);
      after = is_coder _ _ w s _ c.write.new.self c.requires.sizes (g.met.State.Natural.number_law _);
      pushed = tt;
      words = tt;
      room_used = tt;
      owes = λ none. absurd (none owed);
      kept = rw (c.in-Err-write.ensures.kept, c.in-Ok.ensures.words) refl;
      error = (owed, inr (λ makes. g.met.Backend.WriteWords.room_law c.prepare.new.self _ (c.in-Ok.ensures.made makes) c.in-Err-write.ensures.err, c.in-Ok.ensures.fails _ c.in-Err-write.ensures.err));
    }

pub returns : goal.returns
returns g c =
    let w = g.Word.Natural.BITS in
    let s = g.State.Natural.BITS in
    let e : Step = record { precision = c.args.precision; left = g.State.Natural.number c.args.left; p = g.State.Natural.number c.args.p } in
    let old : AnsState = record { head = g.State.Natural.number c.args.head; words = map g.Word.Natural.number (g.Backend.Holds.words c.args.bulk.now) } in
    let is = rw c.BITS.ensures at c.shift_right.ensures in
    let owed = not_less _ _ (λ less. let no = c.if-is_below.ensures.1 (rw is less) in cc) in
    let high = no_room_of_high _ _ _ (λ less. let no = c.if-is_below.ensures.1 (rw is less) in cc) in
    let shift = rw c.BITS-2.ensures at c.shift_right-2.ensures in
    let one : length (g.Backend.Holds.words c.write.new.self) ≡ length (g.Backend.Holds.words c.args.bulk.now) + 1 =
    ap length c.in-Ok-write.ensures.ok ∙ omega (arith, ap length c.in-Ok.ensures.words) in
    record {
      before = is_coder _ _ w s _ c.args.bulk.now c.requires.sizes (g.met.State.Natural.number_law _);
      after = is_coder _ _ w s _ c.write.new.self c.requires.sizes (g.met.State.Natural.number_law _);
      pushed = λ valid. rw (c.push_head-2.ensures, shift, c.in-Ok-write.ensures.ok, c.in-Ok.ensures.words, c.narrow.ensures)
          (push_written w s e c.requires.sizes c.requires.step old valid (rw (← above_table w s e c.requires.sizes c.requires.step) high));
      words = rw (le-ltb _ _ owed, c.in-Ok-write.ensures.ok, c.in-Ok.ensures.words, c.narrow.ensures) refl;
      room_used = simp length-map (omega (arith, one, c.in-Ok.ensures.room, c.in-Ok-write.ensures.room));
      owes = λ none. absurd (none owed);
      kept = tt;
      error = tt;
    }
