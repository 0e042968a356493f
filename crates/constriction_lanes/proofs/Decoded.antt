-- What the calls that decode say, from what each coder decoded.
use Rattle.std.proofs.Common.{◌≡◌, ◌∙◌, ◌/◌, ◌<◌, ◌≤◌, ℕ, List, Ok, length, get_or, refl, inr, sym, arith}
use Rattle.constriction_interleaved.specs.Rows.{row}
use Rattle.constriction_stack.specs.Lanes.{lane}
use Rattle.constriction_stack.specs.Symbols.{DecodesAll}
use Rattle.constriction_interleaved.proofs.LaneRows.{row_long}
use Rattle.constriction_inputs.specs.Coded.{AreFit, Coded, items}
use Rattle.constriction_inputs.proofs.Asking.{fit_then}
use Rattle.constriction_lanes.specs.LaneCalls.{AreLanes, LanesDecodeList, lanes_of, row_of}

module _ {Word State : Type 0} (number : Word → ℕ) (state : State → ℕ) (w s precision : ℕ) (coded : List ℕ → Coded)
    (heads new_heads : List State) (words : List Word) (lens new_lens olds news : List ℕ) (are : AreLanes (length heads) (length words) lens (length olds))
    (fit_old : AreFit precision (coded olds)) (fit_new : AreFit precision (coded news))
    (heads_long : length new_heads ≡ length heads) (lens_long : length new_lens ≡ length lens) (long : length news ≡ length olds) where
  abbrev width : ℕ
  width = length words / length heads

  abbrev count : ℕ
  count = length olds / length heads

  pub lanes_decoded : ((j : ℕ) → j < length heads → (d : State) → DecodesAll w s (row count j (items precision (coded news)))
      (lane number state (get_or heads j d) (row width j words) (get_or lens j 0)) (lane number state (get_or new_heads j d) (row width j words) (get_or new_lens j 0))
      × (get_or new_lens j 0 ≤ get_or lens j 0))
      → LanesDecodeList number state w s precision coded (lanes_of heads words lens) (lanes_of new_heads words new_lens) olds news (Ok tt)
  lanes_decoded takes = record {
    each = λ j lt d.
        let taken = takes j lt d in
        let word_row : length (row width j words) ≡ width = row_long width j (length heads) words lt are.word_rows in
        let old_row : length (row count j olds) ≡ count = row_long count j (length heads) olds lt are.symbol_rows in
        let new_row : length (row count j news) ≡ count = row_long count j (length heads) news lt (long ∙ are.symbol_rows) in
        let below = are.within j lt in
        record {
          taken = taken.0;
          within = (refl, taken.1, new_row ∙ sym old_row);
          asked = inr (omega (arith, below, word_row), fit_then precision (row_of count j (coded news)) fit_new tt);
          kept = tt;
        };
    lengths = (record { heads = heads_long; words = refl; lens = lens_long }, refl, long);
    asked = inr (are, fit_then precision (coded olds) fit_old tt);
    kept = tt;
  }
