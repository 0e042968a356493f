-- What the call that encodes says, from what each coder encoded and what was written.
use Rattle.std.proofs.Common.{◌≡◌, ◌∙◌, ◌*◌, ◌/◌, ◌<◌, ◌≤◌, ℕ, List, [], ◌∷◌, Ok, Err, Result, length, get_or, take, refl, inr, arith}
use Rattle.std.specs.Prelude.{IfErr, OnErr, OnOk}
use Rattle.std.proofs.lemmas.List.{length-take-le}
use Rattle.constriction_base.specs.Models.{AreKnown, Item, Knows}
use Rattle.constriction_base.specs.Steps.{IsSizes}
use Rattle.constriction_interleaved.specs.Rows.{row}
use Rattle.constriction_interleaved.proofs.LaneRows.{row_long}
use Rattle.constriction_calls.specs.AnsCalls.{AnsBuffers}
use Rattle.constriction_inputs.specs.Coded.{AreFit, Coded, items}
use Rattle.constriction_inputs.specs.Refusals.{NoMemoryOrSpace}
use Rattle.constriction_inputs.specs.declared.refusal.Refusal.{Refusal}
use Rattle.constriction_inputs.specs.declared.refusal.Refusal.TheVariants.{ImpossibleSymbol, InvalidData, NoMemory, NoSpace, OutOfData, WrongInterval, WrongLength, WrongWeights}
use Rattle.constriction_inputs.proofs.Asking.{fit_then}
use Rattle.constriction_lanes.specs.LaneCalls.{AppendsRows, AreLanes, CodesRows, IsGreatestSum, LanesEncodeList, TooShortRows, coder_at, lanes_of, row_of}
use Rattle.constriction_lanes.proofs.OneLane.{lane_done, lane_fits, lane_short, xs_known}
use Rattle.constriction_lanes.proofs.RowItems.{all_rows}

-- the head of a coder that there is
some_head : {V : Type 0} (heads : List V) (j : ℕ) → j < length heads → V
some_head [] j lt = absurd (omega arith)
some_head (head ∷ heads) j lt = head

-- a coder writes at most a word for each item of its row
pub few_written : {W V : Type 0} (number : W → ℕ) (state : V → ℕ) (w s : ℕ) (items : List (Item ℕ)) (count : ℕ) (heads new_heads : List V) (added : List W) (counts : List ℕ) → length counts ≡ length heads → length added ≡ length heads * count
    → CodesRows number state w s items count heads new_heads added counts (length heads) → (j : ℕ) → j < length counts → get_or counts j 0 ≤ count
few_written number state w s items count heads new_heads added counts counts_long added_long codes j lt =
    let here : j < length heads = omega (arith, lt, counts_long) in
    let code = codes j here (some_head heads j here) in
    omega (arith, code.within, row_long count j (length heads) added here added_long)

-- a number of words that is needed for one reason is needed for another
needs_too : {A B : ℕ → Type 0} → ((n : ℕ) → A n → B n) → (e : Refusal) → NoMemoryOrSpace A e → NoMemoryOrSpace B e
needs_too f ImpossibleSymbol a = a
needs_too f WrongWeights a = a
needs_too f WrongInterval a = a
needs_too f WrongLength a = a
needs_too f (NoSpace n) a = f n a
needs_too f NoMemory a = a
needs_too f InvalidData a = a
needs_too f OutOfData a = a

module _ {Word State : Type 0} (number : Word → ℕ) (state : State → ℕ) (w s precision total : ℕ) (coded : Coded) (heads : List State) (words : List Word) (lens : List ℕ)
    (z : IsSizes w s) (are : AreLanes (length heads) (length words) lens total) (fit : AreFit precision coded) (long : length (items precision coded) ≡ total)
    (new_heads : List State) (added : List Word) (counts : List ℕ)
    (codes : CodesRows number state w s (items precision coded) (total / length heads) heads new_heads added counts (length heads)) where
  abbrev width : ℕ
  width = length words / length heads

  abbrev count : ℕ
  count = total / length heads

  abbrev xs : ℕ → List (Item ℕ)
  xs j = row count j (items precision coded)

  abbrev written : ℕ → List Word
  written j = take (get_or counts j 0) (row count j added)

  abbrev old : State → ℕ → AnsBuffers Word State
  old d j = coder_at width d (lanes_of heads words lens) j

  in_row : (j : ℕ) → j < length heads → (d : State) → (old d j).len ≤ length (old d j).words
  in_row j lt d =
      let row_of_words : length (row width j words) ≡ width = row_long width j (length heads) words lt are.word_rows in
      let below = are.within j lt in
      omega (arith, below, row_of_words)

  written_long : (j : ℕ) (lt : j < length heads) (d : State) → length (written j) ≡ get_or counts j 0
  written_long j lt d = length-take-le (get_or counts j 0) (row count j added) (codes j lt d).within

  known : AreKnown (items precision coded)
  known = all_rows (λ item. Knows item.model item.symbol) count (length heads) (items precision coded) (long ∙ are.symbol_rows)
      (λ (j : ℕ) (lt : j < length heads).
      let d = some_head heads j lt in
      let code = codes j lt d in
      xs_known number state w s (old d j) (in_row j lt d) z (xs j) code.models (written j) (get_or new_heads j d) code.coded)

  lanes_done : (new_words : List Word) (new_lens : List ℕ) → AppendsRows width count words lens added counts new_words new_lens (length heads)
      → length new_heads ≡ length heads → length new_words ≡ length words → length new_lens ≡ length lens
      → LanesEncodeList number state w s precision total coded (lanes_of heads words lens) (lanes_of new_heads new_words new_lens) (Ok tt)
  lanes_done new_words new_lens appends heads_long words_long lens_long = record {
    each = λ j lt d.
        let code = codes j lt d in
        lane_done number state w s (old d j) (in_row j lt d) z (xs j) code.models (written j) (get_or new_heads j d) code.coded precision (row_of count j coded) fit refl
        (row width j new_words) (get_or new_lens j 0) (appends j lt);
    lengths = record { heads = heads_long; words = words_long; lens = lens_long };
    asked = inr (are, fit_then precision coded fit (inr (known, tt)));
    kept = tt;
  }

  lanes_short : (needed : ℕ) → (width < needed) × IsGreatestSum lens counts (length heads) needed → TooShortRows number state w s (items precision coded) count (lanes_of heads words lens) needed
  lanes_short needed short =
      let found = short.1.one (omega (arith, short.0)) in
      record {
        one = (
          found.0,
          found.1,
          λ d.
              let code = codes found.0 found.1 d in
              lane_short number state w s (old d found.0) (in_row found.0 found.1 d) z (xs found.0) code.models (written found.0) (get_or new_heads found.0 d) code.coded width needed short.0
              (omega (arith, found.2, written_long found.0 found.1 d)),
        );
        each = λ j lt d.
            let code = codes j lt d in
            lane_fits number state w s (old d j) (in_row j lt d) z (xs j) code.models (written j) (get_or new_heads j d) code.coded needed
            (omega (arith, short.1.each j lt, written_long j lt d));
      }

  pub lanes_put : (end_heads : List State) (end_words : List Word) (end_lens : List ℕ) (r : Result (Unit {0}) Refusal) → length new_heads ≡ length heads → OnOk r (end_heads ≡ new_heads)
      → OnOk r (AppendsRows width count words lens added counts end_words end_lens (length heads)) → OnOk r ((length end_words ≡ length words) × (length end_lens ≡ length lens))
      → IfErr r (NoMemoryOrSpace (λ needed. (width < needed) × IsGreatestSum lens counts (length heads) needed))
      → OnErr r ((end_heads ≡ heads) × (end_words ≡ words) × (end_lens ≡ lens))
      → LanesEncodeList number state w s precision total coded (lanes_of heads words lens) (lanes_of end_heads end_words end_lens) r
  lanes_put end_heads end_words end_lens (Ok u) heads_long is appends longs why same = rw is (lanes_done end_words end_lens appends heads_long longs.0 longs.1)
  lanes_put end_heads end_words end_lens (Err e) heads_long is appends longs why same = record {
    each = tt;
    lengths = tt;
    asked = inr (are, fit_then precision coded fit (inr (known, needs_too lanes_short e why)));
    kept = rw (same.0, same.1, same.2) refl;
  }
