use Rattle.std.proofs.Common.{◌≡◌, ◌*◌, drop, length}
use Rattle.constriction_lanes.specs.LaneCalls.{AppendsRows}
use Rattle.constriction_lanes.proofs.encoding.append_rows.Given as goal

abbrev pub invariant-loop-j : goal.invariant-loop-j
invariant-loop-j g l = record {
  done : AppendsRows l.width l.count l.fn.words l.fn.lens l.added l.counts l.words l.lens l.j;
  words_left : drop (l.j * l.width) l.words ≡ drop (l.j * l.width) l.fn.words;
  lens_left : drop l.j l.lens ≡ drop l.j l.fn.lens;
  words_count : length l.words ≡ length l.fn.words;
  lens_count : length l.lens ≡ length l.fn.lens;
}
