use Rattle.std.proofs.Common.{◌≡◌, length}
use Rattle.constriction_commands.specs.commands.ChainSplit.{ChainDecodes}
use Rattle.constriction_commands.proofs.commands.chain_split.decode.Given as goal

-- the symbols so far are decoded
abbrev pub invariant-loop : goal.invariant-loop
invariant-loop g l = record {
  counted : length l.symbols.items ≡ l.counter;
  decoded : ChainDecodes (g.M.EntropyModel.table l.model) l.symbols.items l.fn.coder.state l.coder.state;
}
