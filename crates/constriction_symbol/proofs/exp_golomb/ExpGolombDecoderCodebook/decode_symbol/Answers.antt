use Rattle.std.proofs.Common.{◌≡◌, ◌≤◌, ◌<◌, ◌++◌, ◌∷◌, [], ap, arith, sym, ◌∙◌, true, false, replicate, length, Some, List, Bool, inr, append_assoc}
use Rattle.constriction_symbol.specs.Golomb.{golomb, number_after, zeros_one, WantsBit, IsInvalid}
use Rattle.constriction_symbol.specs.GolombLaws.{no_bits}
use Rattle.constriction_symbol.proofs.GolombLemmas.{number_zeros, fits_below, some_after, golomb_read, golomb_read_greatest}
use Rattle.constriction_symbol.proofs.BitsGiven.{gives_then, stops_then, stops_reading}
use Rattle.constriction_symbol.proofs.exp_golomb.ExpGolombDecoderCodebook.decode_symbol.Goals as goal

pub read_bits-requires-clause-fits : goal.read_bits-requires-clause-fits
read_bits-requires-clause-fits g c = fits_below _ _ _ c.unit.ensures (rw c.BITS-2.ensures at c.if-count-BITS.true)

pub minus-requires : goal.minus-requires
minus-requires g c =
    let b = c.in-Ok.ensures.bits in
    omega (arith, c.unit-in-Ok.ensures, b.2, some_after (g.N.Natural.number c.unit.result) b.0 (omega (arith, c.unit.ensures)))

pub returns-in-Ok-clause-reads : goal.returns-in-Ok-clause-reads
returns-in-Ok-clause-reads g c =
    let b = c.in-Ok.ensures.bits in
    let zeros = rw c.in-Some.is at c.in_ok-count.ensures.zeros in
    let value = rw c.unit.ensures at b.2 in
    let is : golomb (g.N.Natural.number c.minus.result) ≡ (replicate c.in-Some.count false ++ true ∷ []) ++ b.0 =
    rw (c.minus.ensures, c.unit-in-Ok.ensures) (golomb_read (g.N.Natural.number c.in-Ok.after) c.in-Some.count b.0 b.1 value) in (
      (replicate c.in-Some.count false ++ true ∷ []) ++ b.0,
      ap (λ bs. Some bs) is,
      gives_then g.I.Iterator.next_gives c.args.source.now c.count_zeros.new.source c.read_bits.new.source (replicate c.in-Some.count false ++ true ∷ []) b.0 zeros.1 b.3,
    )

pub returns-then-is_nothing-clause-reads : goal.returns-then-is_nothing-clause-reads
returns-then-is_nothing-clause-reads g c =
    let b = c.in-Ok-read_bits.ensures.bits in
    let zeros = rw c.in-Some.is at c.in_ok-count.ensures.zeros in
    let value = rw c.nothing.ensures at b.2 in
    let none = no_bits 0 b.0 (sym value ∙ c.is_nothing.ensures.0 c.if-is_nothing.true) in
    let all : c.in-Some.count ≡ g.N.Natural.BITS = omega (arith, zeros.0, c.BITS.ensures, c.BITS-2.ensures, c.if-count-BITS.false) in
    let is : golomb (g.N.Natural.number c.greatest.result) ≡ (replicate c.in-Some.count false ++ true ∷ []) ++ b.0 =
    golomb_read_greatest _ g.N.Natural.BITS c.in-Some.count b.0 c.greatest.ensures all b.1 none.1 in (
      (replicate c.in-Some.count false ++ true ∷ []) ++ b.0,
      ap (λ bs. Some bs) is,
      gives_then g.I.Iterator.next_gives c.args.source.now c.count_zeros.new.source c.read_bits-2.new.source (replicate c.in-Some.count false ++ true ∷ []) b.0 zeros.1 b.3,
    )

pub returns-else-is_nothing-clause-reads : goal.returns-else-is_nothing-clause-reads
returns-else-is_nothing-clause-reads g c =
    let b = c.in-Ok-read_bits.ensures.bits in
    let zeros = rw c.in-Some.is at c.in_ok-count.ensures.zeros in
    let value = rw c.nothing.ensures at b.2 in
    let all : c.in-Some.count ≡ g.N.Natural.BITS = omega (arith, zeros.0, c.BITS.ensures, c.BITS-2.ensures, c.if-count-BITS.false) in
    let set : b.0 ≡ replicate g.N.Natural.BITS false → ⊥ = λ none.
    let clear = c.if-is_nothing.false in
    let is = c.is_nothing.ensures.1 (value ∙ (ap (number_after 0) none ∙ number_zeros g.N.Natural.BITS)) in
    cc in (
      (replicate c.in-Some.count false ++ true ∷ []) ++ b.0,
      inr (b.0, b.1 ∙ all, set, append_assoc (replicate c.in-Some.count false) (true ∷ []) b.0 ∙ ap (λ k. zeros_one k b.0) all),
      gives_then g.I.Iterator.next_gives c.args.source.now c.count_zeros.new.source c.read_bits-2.new.source (replicate c.in-Some.count false ++ true ∷ []) b.0 zeros.1 b.3,
    )

pub returns-in-Err-clause-reads : goal.returns-in-Err-clause-reads
returns-in-Err-clause-reads g c =
    let zeros = rw c.in-Some.is at c.in_ok-count.ensures.zeros in
    let count = c.in-Some.count in
    let begun : List Bool = replicate count false ++ true ∷ [] in
    let fewer : List Bool → Type 0 = λ bits. length bits < count in
    let on : List Bool → Type 0 = λ bits. WantsBit g.N.Natural.BITS bits in
    let within : count ≤ g.N.Natural.BITS = omega (arith, zeros.0, c.BITS.ensures) in
    stops_reading g.I.Iterator.next_gives (λ (n : g.row.N.Denot). Some (golomb (g.N.Natural.number n))) on on (λ bits _. IsInvalid g.N.Natural.BITS bits) c.args.source.now c.read_bits.new.source c.in-Err.error (λ ys is. is)
    (stops_then g.I.Iterator.next_gives fewer on c.args.source.now c.count_zeros.new.source c.read_bits.new.source begun c.in-Err.error zeros.1
    (λ ys few. inr (count, ys, within, few, append_assoc (replicate count false) (true ∷ []) ys)) c.in-Err.ensures.stops)

pub returns-in-Err-read_bits-clause-reads : goal.returns-in-Err-read_bits-clause-reads
returns-in-Err-read_bits-clause-reads g c =
    let zeros = rw c.in-Some.is at c.in_ok-count.ensures.zeros in
    let count = c.in-Some.count in
    let begun : List Bool = replicate count false ++ true ∷ [] in
    let fewer : List Bool → Type 0 = λ bits. length bits < count in
    let on : List Bool → Type 0 = λ bits. WantsBit g.N.Natural.BITS bits in
    let within : count ≤ g.N.Natural.BITS = omega (arith, zeros.0, c.BITS.ensures) in
    stops_reading g.I.Iterator.next_gives (λ (n : g.row.N.Denot). Some (golomb (g.N.Natural.number n))) on on (λ bits _. IsInvalid g.N.Natural.BITS bits) c.args.source.now c.read_bits-2.new.source c.in-Err-read_bits.error (λ ys is. is)
    (stops_then g.I.Iterator.next_gives fewer on c.args.source.now c.count_zeros.new.source c.read_bits-2.new.source begun c.in-Err-read_bits.error zeros.1
    (λ ys few. inr (count, ys, within, few, append_assoc (replicate count false) (true ∷ []) ys)) c.in-Err-read_bits.ensures.stops)
