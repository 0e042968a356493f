use Rattle.std.proofs.Common.{◌≡◌, ◌+◌, ◌-◌, ◌*◌, ◌%◌, ◌^◌, ◌∷◌, pow_pos, arith, refl, ◌∙◌, sym, inl, inr}
use Rattle.std.proofs.lemmas.Result.{err_from_is_err_and}
use Rattle.constriction_base.proofs.Heads.{large_of_shr, small_of_shr}
use Rattle.constriction_queue.proofs.Parts.{lower_fits, range_fits}
use Rattle.constriction_queue.proofs.Pointing.{at_long, at_short}
use Rattle.constriction_queue.proofs.Distances.{point_shifted, room_for_word}
use Rattle.constriction_queue.proofs.reading.grow_and_read.Goals as goal

pub shift_left-lower-requires-clause-fits : goal.shift_left-lower-requires-clause-fits
shift_left-lower-requires-clause-fits g c =
    rw (c.low_bits.ensures, c.BITS.ensures, c.BITS-2.ensures, c.BITS-3.ensures) (lower_fits _ _ _ (omega arith))

pub shift_left-range-requires-clause-fits : goal.shift_left-range-requires-clause-fits
shift_left-range-requires-clause-fits g c =
    let is = rw (c.BITS.ensures, c.BITS-2.ensures) at c.shift_right.ensures in
    let short = small_of_shr _ _ (sym is ∙ c.if-not-is_nothing.ensures.0 refl) in
    let fits = range_fits g.Word.Natural.BITS g.State.Natural.BITS _ (omega arith) (omega (arith, g.met.Word.Natural.bits_law)) short in
    rw c.BITS-4.ensures (omega arith)

pub shift_left-requires-clause-fits : goal.shift_left-requires-clause-fits
shift_left-requires-clause-fits g c =
    let is = rw (c.BITS.ensures, c.BITS-2.ensures) at c.shift_right.ensures in
    let short = small_of_shr _ _ (sym is ∙ c.if-not-is_nothing.ensures.0 refl) in
    let room = room_for_word g.Word.Natural.BITS g.State.Natural.BITS (g.State.Natural.number c.args.distance) 0 (omega arith) (omega (arith, short, c.requires.below)) (pow_pos g.Word.Natural.BITS) in
    rw c.BITS-5.ensures (omega (arith, room))

pub plus-distance-requires : goal.plus-distance-requires
plus-distance-requires g c =
    let is = rw (c.BITS.ensures, c.BITS-2.ensures) at c.shift_right.ensures in
    let short = small_of_shr _ _ (sym is ∙ c.if-not-is_nothing.ensures.0 refl) in
    rw (c.shift_left.ensures, c.BITS-5.ensures, c.widen.ensures)
    (room_for_word g.Word.Natural.BITS g.State.Natural.BITS (g.State.Natural.number c.args.distance) _ (omega arith) (omega (arith, short, c.requires.below)) (g.met.Word.Natural.number_law _))

pub returns-then-not-is_nothing : goal.returns-then-not-is_nothing
returns-then-not-is_nothing g c =
    let is = rw (c.BITS.ensures, c.BITS-2.ensures) at c.shift_right.ensures in
    let long = large_of_shr _ _ (λ e. let off = c.if-not-is_nothing.ensures.1 (is ∙ e) in cc) in
    record {
      wide = long;
      list = λ list ws r h. at_long _ _ ws r _ _ _ _ long h;
      kept = λ _. tt;
      reads = inr (λ short. absurd (omega (arith, short, long)), refl, λ ws r rest h. at_long _ _ ws r _ _ _ _ long h);
      err = tt;
    }

pub returns-in_err-word : goal.returns-in_err-word
returns-in_err-word g c =
    let is = rw (c.BITS.ensures, c.BITS-2.ensures) at c.shift_right.ensures in
    let short = small_of_shr _ _ (sym is ∙ c.if-not-is_nothing.ensures.0 refl) in
    let told = err_from_is_err_and c.from_residual.result c.from_residual.ensures.1 in
    rw (told.1, told.2) record {
      wide = tt;
      list = λ _. tt;
      kept = λ list. c.in_err-word.ensures.kept list;
      reads = tt;
      err = (short, c.in_err-word.ensures.err);
    }

pub returns : goal.returns
returns g c =
    let is = rw (c.BITS.ensures, c.BITS-2.ensures) at c.shift_right.ensures in
    let short = small_of_shr _ _ (sym is ∙ c.if-not-is_nothing.ensures.0 refl) in
    let lower = rw (c.low_bits.ensures, c.BITS.ensures, c.BITS-2.ensures, c.BITS-3.ensures) at c.shift_left-lower.ensures in
    let range = rw c.BITS-4.ensures at c.shift_left-range.ensures in
    let distance = rw (c.shift_left.ensures, c.BITS-5.ensures, c.widen.ensures) at c.plus-distance.ensures in
    let point : (g.State.Natural.number c.plus-distance.result + g.State.Natural.number c.shift_left-lower.result) % 2 ^ g.State.Natural.BITS
    ≡ (g.State.Natural.number c.args.distance + g.State.Natural.number c.args.lower) % 2 ^ g.State.Natural.BITS % 2 ^ (g.State.Natural.BITS - g.Word.Natural.BITS) * 2 ^ g.Word.Natural.BITS + g.Word.Natural.number c.in_ok-word.word =
    rw (distance, lower) (point_shifted g.Word.Natural.BITS g.State.Natural.BITS (g.State.Natural.number c.args.distance) (g.State.Natural.number c.args.lower) _ (omega arith) (g.met.Word.Natural.number_law c.in_ok-word.word)) in
    record {
      wide = rw range c.requires.wide;
      list = λ list ws r h.
          at_short _ _ ws r _ _ _ _ _ _ _ _ _ (omega arith) (g.met.Word.Natural.number_law _) short lower range point (c.in_ok-word.ensures.word list) (c.in_ok-word.ensures.rest list) h;
      kept = λ _. tt;
      reads = inl (
        short,
        (
          g.Word.Natural.number c.in_ok-word.word,
          c.in_ok-word.ensures.reads,
          λ ws r rest h.
              at_short _ _ ws r _ _ _ _ _ _ _ (g.Word.Natural.number c.in_ok-word.word ∷ rest) rest (omega arith) (g.met.Word.Natural.number_law _) short lower range point refl refl h,
        ),
      );
      err = tt;
    }
