use Rattle.std.specs.Prelude.{◌≡◌, ℕ, ◌+◌, ◌-◌, ◌≤◌, ◌^◌, List, ◌++◌, drop, map}
use Rattle.constriction_base.specs.Digits.{fixed_digits}
use Rattle.constriction_base.specs.Writing.{WriteTrace}
use Rattle.constriction_base.proofs.head_words.write_words.Given as goal

abbrev pub invariant-loop-left : goal.invariant-loop-left
invariant-loop-left g l =
    let b = 2 ^ g.Word.Natural.BITS in
    record {
      within : l.left ≤ l.fn.count;
      written : List ℕ;
      digits : fixed_digits b l.left (g.State.Natural.number l.rest) ++ written ≡ fixed_digits b l.fn.count (g.State.Natural.number l.fn.head);
      holds : map g.Word.Natural.number (g.Backend.Holds.words l.bulk) ≡ written ++ map g.Word.Natural.number (g.Backend.Holds.words l.initial.bulk);
      in_turn : WriteTrace g.Word.Natural.number g.Backend.WriteWords written l.initial.bulk l.bulk;
      back : drop (l.fn.count - l.left) (g.Backend.Holds.words l.bulk) ≡ g.Backend.Holds.words l.initial.bulk;
      room : g.Backend.WriteWords.room l.initial.bulk + l.left ≤ g.Backend.WriteWords.room l.bulk + l.fn.count;
    }

abbrev pub decreases-loop-left : goal.decreases-loop-left
decreases-loop-left g l = l.left
