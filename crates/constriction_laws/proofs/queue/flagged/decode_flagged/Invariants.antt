use Rattle.std.proofs.Common.{◌≡◌, ◌||◌, ℕ, List, Ok, length}
use Rattle.constriction_base.specs.Models.{Model, Item}
use Rattle.constriction_base.specs.Steps.{Trace}
use Rattle.constriction_queue.specs.Decoder.{Decoder, StandsAt}
use Rattle.constriction_queue.specs.Flagged.{DecodesUnder, has_flag}
use Rattle.constriction_queue.specs.Range.{Run}
use Rattle.constriction_queue.specs.Symbols.{FindsAll}
use Rattle.constriction_laws.specs.queue.Flagging.{flagged_behind}
use Rattle.constriction_laws.proofs.queue.flagged.decode_flagged.Given as goal

-- the symbols so far are read, and the models were switched before, or where the flag is among them
abbrev pub invariant-loop : goal.invariant-loop
invariant-loop g l =
    let w = g.Word.Natural.BITS in
    let s = g.State.Natural.BITS in
    let first : Model ℕ = record { precision = g.row.P1; table = g.M1.EntropyModel.table l.first } in
    let second : Model ℕ = record { precision = g.row.P2; table = g.M2.EntropyModel.table l.second } in
    record {
      count : length l.symbols.items ≡ l.counter;
      flag : l.switch.flag ≡ l.fn.switch.flag;
      switched : l.switch.switched ≡ (l.fn.switch.switched || has_flag l.fn.switch.flag l.symbols.items);
      taken : Trace (λ (item : Item ℕ) (before after : Decoder g.row.Backend.Denot). DecodesUnder g.Word.Natural.number g.Backend.Holds g.Backend.ReadWords w s item.model before (Ok item.symbol) after)
          (flagged_behind l.fn.switch.switched l.fn.switch.flag first second l.symbols.items) l.fn.switch.decoder l.switch.decoder;
      read : g.Backend.Holds.is_list → (words : List ℕ) (old : Run) → StandsAt w s words old l.fn.switch.decoder
          → (last : Run) × FindsAll w s words (flagged_behind l.fn.switch.switched l.fn.switch.flag first second l.symbols.items) old last × StandsAt w s words last l.switch.decoder;
    }
