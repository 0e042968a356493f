use Rattle.std.proofs.Common.{◌≡◌, ℕ, List, length}
use Rattle.constriction_base.specs.Models.{Model, items_of}
use Rattle.constriction_queue.specs.Decoder.{StandsAt}
use Rattle.constriction_queue.specs.Range.{Run}
use Rattle.constriction_queue.specs.Symbols.{FindsAll}
use Rattle.constriction_store.proofs.looking_up.decode_chunk.Given as goal

-- the symbols so far are read, and the decoder is at the moment behind them
abbrev pub invariant-loop : goal.invariant-loop
invariant-loop g l =
    let w = g.Word.Natural.BITS in
    let s = g.State.Natural.BITS in
    let model : Model ℕ = record { precision = g.row.PRECISION; table = g.M.EntropyModel.table l.model } in
    record {
      count : length l.symbols.items ≡ l.counter;
      read : (words : List ℕ) (there : Run) → StandsAt w s words there l.fn.decoder
          → (run : Run) × FindsAll w s words (items_of model l.symbols.items) there run × StandsAt w s words run l.decoder;
    }
