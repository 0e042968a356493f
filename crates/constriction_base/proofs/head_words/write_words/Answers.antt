use Rattle.std.specs.Prelude.{◌≡◌, ◌-◌, ◌/◌, ◌%◌, ◌^◌, [], ◌∷◌, ◌++◌, List, ℕ, map}
use Rattle.std.proofs.Common.{arith, ◌∙◌, ap, refl, sym, subst, append-nil}
use Rattle.constriction_base.specs.Digits.{fixed_digits}
use Rattle.constriction_base.specs.Writing.{WriteTrace}
use Rattle.constriction_base.proofs.Exporting.{no_room}
use Rattle.constriction_base.proofs.Guards.{drop_written, drop_nothing, fixed-length}
use Rattle.constriction_base.proofs.Written.{fixed_less}
use Rattle.constriction_base.proofs.head_words.write_words.Goals as goal

pub loop-left-init : goal.loop-left-init
loop-left-init g c =
    record {
      within = omega arith;
      written = [];
      digits = append-nil _;
      holds = refl;
      in_turn = refl;
      back = drop_nothing c.args.count _;
      room = omega arith;
    }

pub loop-left-preserved : goal.loop-left-preserved
loop-left-preserved g c =
    let w = g.Word.Natural.BITS in
    let rest = g.State.Natural.number c.loop-left.rest in
    record {
      within = omega (arith, c.loop-left.invariant.within);
      written = rest % 2 ^ w ∷ c.loop-left.invariant.written;
      digits = rw (c.shift_right-rest.ensures, c.BITS.ensures) (fixed_less (2 ^ w) c.loop-left.left rest c.loop-left.invariant.written (omega arith) ∙ c.loop-left.invariant.digits);
      holds = rw (c.in-Ok.ensures.ok, c.narrow.ensures) (ap (λ ws. rest % 2 ^ w ∷ ws) c.loop-left.invariant.holds);
      in_turn = (c.loop-left.bulk, c.loop-left.invariant.in_turn, (c.narrow.result, c.narrow.ensures, c.in-Ok.ensures.writes));
      back = drop_written c.args.count c.loop-left.left c.narrow.result (g.Backend.Holds.words c.args.bulk.now) (g.Backend.Holds.words c.loop-left.bulk) (g.Backend.Holds.words c.write.new.self) (omega arith) c.loop-left.invariant.within c.in-Ok.ensures.ok c.loop-left.invariant.back;
      room = omega (arith, c.loop-left.invariant.room, c.in-Ok.ensures.room);
    }

pub returns-in-Err-clause-written : goal.returns-in-Err-clause-written
returns-in-Err-clause-written g c =
    let b = 2 ^ g.Word.Natural.BITS in
    let len = fixed-length b c.args.count (g.State.Natural.number c.args.head) in
    let none = no_room _ (λ some. g.met.Backend.WriteWords.room_law c.loop-left.bulk c.in-Err.refusal some c.in-Err.ensures.err) in
    record {
      words = tt;
      in_turn = tt;
      room_used = tt;
      begun = record {
        later = fixed_digits b c.loop-left.left (g.State.Natural.number c.loop-left.rest);
        written = c.loop-left.invariant.written;
        missing = omega (arith, fixed-length b c.loop-left.left (g.State.Natural.number c.loop-left.rest));
        parts = sym c.loop-left.invariant.digits;
        is = ap (λ ws. map g.Word.Natural.number ws) c.in-Err.ensures.kept ∙ c.loop-left.invariant.holds;
      };
      short = omega (arith, none, c.loop-left.invariant.room, len);
      error = record {
        later = fixed_digits b (c.loop-left.left - 1) (g.State.Natural.number c.loop-left.rest / b);
        word = c.narrow.result;
        written = c.loop-left.invariant.written;
        parts = rw c.narrow.ensures (sym (fixed_less b c.loop-left.left (g.State.Natural.number c.loop-left.rest) c.loop-left.invariant.written (omega arith) ∙ c.loop-left.invariant.digits));
        last = c.loop-left.bulk;
        led = c.loop-left.invariant.in_turn;
        refused = c.in-Err.ensures.writes;
        fails = c.in-Err.ensures.err;
        kept = sym c.in-Err.ensures.kept;
      };
    }

pub returns-clause-written : goal.returns-clause-written
returns-clause-written g c =
    let b = 2 ^ g.Word.Natural.BITS in
    let len = fixed-length b c.args.count (g.State.Natural.number c.args.head) in
    let none : c.loop-left.left ≡ 0 = omega arith in
    record {
      in_turn = subst (λ (ws : List ℕ). WriteTrace g.Word.Natural.number g.Backend.WriteWords ws c.args.bulk.now c.loop-left.bulk) (rw none at c.loop-left.invariant.digits) c.loop-left.invariant.in_turn;
      words = c.loop-left.invariant.holds ∙ ap (λ (ws : List ℕ). ws ++ map g.Word.Natural.number (g.Backend.Holds.words c.args.bulk.now)) (rw none at c.loop-left.invariant.digits);
      room_used = omega (arith, c.loop-left.invariant.room, len, none);
      begun = tt;
      short = tt;
      error = tt;
    }
