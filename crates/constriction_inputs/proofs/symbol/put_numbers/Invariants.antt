use Rattle.std.proofs.Common.{◌≡◌, length, take}
use Rattle.constriction_inputs.proofs.symbol.put_numbers.Given as goal

abbrev pub invariant-loop-i : goal.invariant-loop-i
invariant-loop-i g l = record {
  kept : g.S.Symbol.numbers (take l.i l.symbols) ≡ g.S.Symbol.kept (take l.i l.fn.wide);
  count : length l.symbols ≡ length l.fn.symbols;
}
