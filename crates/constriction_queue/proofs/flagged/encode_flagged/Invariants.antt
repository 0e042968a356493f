use Rattle.std.proofs.Common.{◌≡◌, ◌+◌, ◌≤◌, Ok, take}
use Rattle.constriction_base.specs.Steps.{Trace}
use Rattle.constriction_queue.specs.Encoder.{left_to_encode}
use Rattle.constriction_queue.specs.Flagged.{EncodesItem, flagged, has_flag}
use Rattle.constriction_queue.proofs.flagged.encode_flagged.Given as goal

-- the symbols so far are encoded, and the flag is among them where the models were switched
abbrev pub invariant-loop-symbol : goal.invariant-loop-symbol
invariant-loop-symbol g l =
    record {
      coded : Trace (λ item old new. EncodesItem g.Word.Natural.number g.Backend.Holds g.Backend.WriteWords g.Word.Natural.BITS g.State.Natural.BITS old item (Ok tt) new)
          (flagged l.flag (record { precision = g.row.P1; table = g.M1.EntropyModel.table l.first }) (record { precision = g.row.P2; table = g.M2.EntropyModel.table l.second }) (take l.symbol-index l.symbols))
          l.fn.encoder l.encoder;
      switched : l.switched ≡ has_flag l.flag (take l.symbol-index l.symbols);
      left : left_to_encode l.fn.encoder ≤ left_to_encode l.encoder + l.symbol-index;
    }
