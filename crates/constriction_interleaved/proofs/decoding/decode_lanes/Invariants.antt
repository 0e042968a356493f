use Rattle.std.proofs.Common.{◌≡◌, ◌+◌, ◌*◌, drop, length}
use Rattle.constriction_interleaved.specs.Rows.{DecodesLanes}
use Rattle.constriction_interleaved.proofs.decoding.decode_lanes.Given as goal

abbrev pub invariant-loop-group : goal.invariant-loop-group
invariant-loop-group g l = record {
  done : DecodesLanes g.Word.Natural.number g.State.Natural.number g.Word.Natural.BITS g.State.Natural.BITS (record { precision = g.row.PRECISION; table = g.M.EntropyModel.table l.model }) l.width l.count l.words
      l.fn.heads l.fn.lens l.heads l.lens l.symbols (l.first + l.group * 3);
  heads_left : drop (l.first + l.group * 3) l.heads ≡ drop (l.first + l.group * 3) l.fn.heads;
  lens_left : drop (l.first + l.group * 3) l.lens ≡ drop (l.first + l.group * 3) l.fn.lens;
  heads_count : length l.heads ≡ length l.fn.heads;
  lens_count : length l.lens ≡ length l.fn.lens;
  symbols_count : length l.symbols ≡ length l.fn.symbols;
}

abbrev pub invariant-loop-j : goal.invariant-loop-j
invariant-loop-j g l = record {
  done : DecodesLanes g.Word.Natural.number g.State.Natural.number g.Word.Natural.BITS g.State.Natural.BITS (record { precision = g.row.PRECISION; table = g.M.EntropyModel.table l.model }) l.width l.count l.words
      l.fn.heads l.fn.lens l.heads l.lens l.symbols (l.j);
  heads_left : drop (l.j) l.heads ≡ drop (l.j) l.fn.heads;
  lens_left : drop (l.j) l.lens ≡ drop (l.j) l.fn.lens;
  heads_count : length l.heads ≡ length l.fn.heads;
  lens_count : length l.lens ≡ length l.fn.lens;
  symbols_count : length l.symbols ≡ length l.fn.symbols;
}
