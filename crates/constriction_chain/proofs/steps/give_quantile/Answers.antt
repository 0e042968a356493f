use Rattle.std.proofs.Common.{◌-◌, ◌%◌, ◌^◌, ◌<◌, arith, ◌∙◌, refl}
use Rattle.std.proofs.Math.Nat.{mod-lt}
use Rattle.std.proofs.lemmas.Nat.{pow_pos}
use Rattle.constriction_chain.proofs.Sizes.{room_for_quantile, high_of_owed}
use Rattle.constriction_chain.proofs.Walks.{give_bits, give_word, give_whole}
use Rattle.constriction_chain.proofs.steps.give_quantile.Goals as goal

pub shift_left-requires-clause-fits : goal.shift_left-requires-clause-fits
shift_left-requires-clause-fits g c =
    let test = c.if-not-owes_word.ensures in
    let fits = room_for_quantile _ _ _ _ c.requires.sized.1 test.1 c.requires.below in
    omega arith

pub plus-requires : goal.plus-requires
plus-requires g c =
    let test = c.if-not-owes_word.ensures in
    rw c.shift_left.ensures (room_for_quantile _ _ _ _ c.requires.sized.1 test.1 c.requires.below)

pub returns-then-not-owes_word-clause-ok : goal.returns-then-not-owes_word-clause-ok
returns-then-not-owes_word-clause-ok g c =
    let test = c.if-not-owes_word.ensures in
    record {
      walk = rw (c.plus.ensures, c.shift_left.ensures)
          (give_bits g.Word.Natural.BITS c.args.precision c.requires.sized.1 _ _ _ test.0 c.requires.some test.1 c.requires.below);
      untouched = λ none. refl;
      room_used = omega arith;
    }

pub returns-then-precision-BITS-clause-ok : goal.returns-then-precision-BITS-clause-ok
returns-then-precision-BITS-clause-ok g c = record {
  walk = rw c.in_ok-write.ensures.ok
      (give_whole g.Word.Natural.BITS c.args.precision c.requires.sized.1 _ _ _ _ (c.if-precision-BITS.true ∙ c.BITS.ensures) c.requires.some (g.met.Word.Natural.number_law _) c.requires.below refl);
  untouched = λ none. absurd (none c.if-not-owes_word.ensures);
  room_used = rw c.in_ok-write.ensures.ok (omega (arith, c.in_ok-write.ensures.room));
}

pub shift_left-requires-2-clause-fits : goal.shift_left-requires-2-clause-fits
shift_left-requires-2-clause-fits g c =
    let below = mod-lt (g.Word.Natural.number c.args.h) (pow_pos (g.Word.Natural.BITS - c.args.precision)) in
    let fits = room_for_quantile g.Word.Natural.BITS c.args.precision (g.Word.Natural.number c.args.h % 2 ^ (g.Word.Natural.BITS - c.args.precision)) _ c.requires.sized.1 below c.requires.below in
    rw (c.low_bits-others.ensures, c.BITS-2.ensures) (omega (arith, fits))

pub plus-word-requires : goal.plus-word-requires
plus-word-requires g c =
    let below = mod-lt (g.Word.Natural.number c.args.h) (pow_pos (g.Word.Natural.BITS - c.args.precision)) in
    rw (c.shift_left-2.ensures, c.low_bits-others.ensures, c.BITS-2.ensures) (room_for_quantile g.Word.Natural.BITS c.args.precision _ _ c.requires.sized.1 below c.requires.below)

pub returns-clause-ok : goal.returns-clause-ok
returns-clause-ok g c =
    let less : c.args.precision < g.Word.Natural.BITS = omega arith in
    let owed = c.if-not-owes_word.ensures in
    record {
      walk = rw (c.shift_right.ensures, c.BITS-3.ensures, c.in_ok-write-2.ensures.ok, c.plus-word.ensures, c.shift_left-2.ensures, c.low_bits-others.ensures, c.BITS-2.ensures)
          (give_word g.Word.Natural.BITS c.args.precision c.requires.sized.1 _ _ _ _ less (g.met.Word.Natural.number_law _) (high_of_owed _ _ _ less owed) c.requires.below refl);
      untouched = λ none. absurd (none owed);
      room_used = rw c.in_ok-write-2.ensures.ok (omega (arith, c.in_ok-write-2.ensures.room));
    }
