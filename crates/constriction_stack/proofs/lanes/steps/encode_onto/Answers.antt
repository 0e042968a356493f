use Rattle.std.proofs.Common.{arith, drop-set-lt, inl, inr, refl, ◌+◌, []}
use Rattle.std.proofs.lemmas.List.{take-set-le}
use Rattle.constriction_base.specs.Steps.{Step}
use Rattle.constriction_base.proofs.Heads.{no_room_of_high, room_after_word, room_of_low}
use Rattle.constriction_base.proofs.Sizes.{above_table}
use Rattle.constriction_stack.proofs.Pushing.{push_kept, push_written}
use Rattle.constriction_stack.specs.Ans.{AnsState, IsNormalized}
use Rattle.constriction_stack.specs.Lanes.{lane}
use Rattle.constriction_stack.proofs.LaneWords.{more_in, none_behind, one_behind, same_in}
use Rattle.constriction_stack.proofs.lanes.steps.encode_onto.Goals as goal

pub push_head-requires-clause-room : goal.push_head-requires-clause-room
push_head-requires-clause-room g c = elim c.make_room-base.ensures [
  | inl fits ↦ rw fits.1 (room_of_low _ _ _ fits.0)
  | inr above ↦ rw above.1 (room_after_word _ _ _ _ _ (omega (arith, c.requires.sizes.two_words)) c.requires.step.within_word c.requires.step.not_empty (g.met.State.Natural.number_law _))
]

pub returns-clause-encoded : goal.returns-clause-encoded
returns-clause-encoded g c = λ valid.
    let w = g.Word.Natural.BITS in
    let s = g.State.Natural.BITS in
    let e : Step = record { precision = c.args.precision; left = g.State.Natural.number c.args.left; p = g.State.Natural.number c.args.p } in
    let old = lane g.Word.Natural.number g.State.Natural.number c.args.head c.args.words.now c.args.len in
    elim c.make_room-base.ensures [
      | inl fits ↦ rw (c.push_head.ensures, fits.1, fits.2, same_in g.Word.Natural.number c.args.words.now c.args.len c.narrow.result)
          (push_kept w s e c.requires.sizes c.requires.step old valid (rw (← above_table w s e c.requires.sizes c.requires.step) (room_of_low _ _ _ fits.0)))
      | inr above ↦ rw (c.push_head.ensures, above.1, above.2, more_in g.Word.Natural.number c.args.words.now c.args.len c.narrow.result c.requires.room, c.narrow.ensures)
          (push_written w s e c.requires.sizes c.requires.step old valid (rw (← above_table w s e c.requires.sizes c.requires.step) (no_room_of_high _ _ _ (λ less. omega (arith, above.0, less)))))
    ]

pub returns-clause-kept : goal.returns-clause-kept
returns-clause-kept g c =
    let words = c.args.words.now in
    let len = c.args.len in
    (take-set-le len words len c.narrow.result (omega arith), drop-set-lt (len + 1) words len c.narrow.result (omega arith))

pub returns-clause-alone : goal.returns-clause-alone
returns-clause-alone g c =
    let w = g.Word.Natural.BITS in
    let s = g.State.Natural.BITS in
    let e : Step = record { precision = c.args.precision; left = g.State.Natural.number c.args.left; p = g.State.Natural.number c.args.p } in
    let old : AnsState = record { head = g.State.Natural.number c.args.head; words = [] } in
    let valid : IsNormalized w s old = record { state = record { fits = g.met.State.Natural.number_law _; are_words = tt }; full = inr refl } in
    elim c.make_room-base.ensures [
      | inl fits ↦ rw (c.push_head.ensures, fits.1, fits.2, none_behind g.Word.Natural.number c.args.words.now c.args.len c.narrow.result)
          (push_kept w s e c.requires.sizes c.requires.step old valid (rw (← above_table w s e c.requires.sizes c.requires.step) (room_of_low _ _ _ fits.0)))
      | inr above ↦ rw (c.push_head.ensures, above.1, above.2, one_behind g.Word.Natural.number c.args.words.now c.args.len c.narrow.result c.requires.room, c.narrow.ensures)
          (push_written w s e c.requires.sizes c.requires.step old valid (rw (← above_table w s e c.requires.sizes c.requires.step) (no_room_of_high _ _ _ (λ less. omega (arith, above.0, less)))))
    ]
