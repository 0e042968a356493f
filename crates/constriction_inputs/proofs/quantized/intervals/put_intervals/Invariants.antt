use Rattle.std.proofs.Common.{◌≡◌, ℕ, Some, List, length, map, take}
use Rattle.constriction_base.specs.Models.{pairs_of}
use Rattle.constriction_models.specs.Quantizers.{symbol_count, first_symbol}
use Rattle.constriction_inputs.specs.Quantized.{AreIntervalsOf, tables_by}
use Rattle.constriction_inputs.proofs.quantized.intervals.put_intervals.Given as goal

abbrev pub invariant-loop-i : goal.invariant-loop-i
invariant-loop-i g l = record {
  done : AreIntervalsOf (take l.i (pairs_of g.row.PRECISION (λ (t : List (ℕ × ℕ × ℕ)). t) l.symbols (tables_by g.row.PRECISION (Some l.family) (first_symbol l.quantizer) (symbol_count l.quantizer) l.locations l.scales)))
      (map g.P.Natural.number (take l.i l.lefts)) (map g.P.Natural.number (take l.i l.ps));
  lefts_counted : length l.lefts ≡ length l.symbols;
  ps_counted : length l.ps ≡ length l.symbols;
}
