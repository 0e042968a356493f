use Rattle.std.proofs.Common.{◌≡◌, ◌≤◌, length, take}
use Rattle.constriction_base.specs.Models.{items_of}
use Rattle.constriction_stack.specs.Symbols.{DecodesAll}
use Rattle.constriction_stack.specs.Lanes.{lane}
use Rattle.constriction_interleaved.proofs.decoding.decode_four.Given as goal

abbrev pub invariant-loop-place : goal.invariant-loop-place
invariant-loop-place g l = record {
  decoded_a : DecodesAll g.Word.Natural.BITS g.State.Natural.BITS (items_of (record { precision = g.row.PRECISION; table = g.M.EntropyModel.table l.model }) (take l.place l.symbols_a))
      (lane g.Word.Natural.number g.State.Natural.number l.fn.head_a l.words_a l.fn.len_a) (lane g.Word.Natural.number g.State.Natural.number l.x_a l.words_a l.left_a);
  left_a : l.left_a ≤ l.fn.len_a;
  count_a : length l.symbols_a ≡ length l.fn.symbols_a;
  decoded_b : DecodesAll g.Word.Natural.BITS g.State.Natural.BITS (items_of (record { precision = g.row.PRECISION; table = g.M.EntropyModel.table l.model }) (take l.place l.symbols_b))
      (lane g.Word.Natural.number g.State.Natural.number l.fn.head_b l.words_b l.fn.len_b) (lane g.Word.Natural.number g.State.Natural.number l.x_b l.words_b l.left_b);
  left_b : l.left_b ≤ l.fn.len_b;
  count_b : length l.symbols_b ≡ length l.fn.symbols_b;
  decoded_c : DecodesAll g.Word.Natural.BITS g.State.Natural.BITS (items_of (record { precision = g.row.PRECISION; table = g.M.EntropyModel.table l.model }) (take l.place l.symbols_c))
      (lane g.Word.Natural.number g.State.Natural.number l.fn.head_c l.words_c l.fn.len_c) (lane g.Word.Natural.number g.State.Natural.number l.x_c l.words_c l.left_c);
  left_c : l.left_c ≤ l.fn.len_c;
  count_c : length l.symbols_c ≡ length l.fn.symbols_c;
  decoded_d : DecodesAll g.Word.Natural.BITS g.State.Natural.BITS (items_of (record { precision = g.row.PRECISION; table = g.M.EntropyModel.table l.model }) (take l.place l.symbols_d))
      (lane g.Word.Natural.number g.State.Natural.number l.fn.head_d l.words_d l.fn.len_d) (lane g.Word.Natural.number g.State.Natural.number l.x_d l.words_d l.left_d);
  left_d : l.left_d ≤ l.fn.len_d;
  count_d : length l.symbols_d ≡ length l.fn.symbols_d;
}
