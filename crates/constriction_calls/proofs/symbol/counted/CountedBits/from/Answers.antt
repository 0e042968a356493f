use Rattle.std.proofs.Common.{◌≡◌, ◌∙◌, ◌*◌, ◌-◌, ◌/◌, ◌%◌, ap, ap₂, drop, length, map, rules, sym, take}
use Rattle.std.proofs.lemmas.List.{length-map, take_rest}
use Rattle.constriction_symbol.specs.Bits.{bits_of_words}
use Rattle.constriction_symbol.proofs.Lengths.{length_words}
use Rattle.constriction_symbol.proofs.BitPlaces.{from_bit}
use Rattle.constriction_calls.proofs.symbol.counted.CountedBits.from.Goals as goal

pub invariant_of-bits : goal.invariant_of-bits
invariant_of-bits g c =
    let w = g.Word.Natural.BITS in
    let words = c.args.words.now in
    let first = c.args.bit / c.BITS-width.result in
    let rest = take (length words - first) (drop first words) in
    let given : c.from_compressed.result.bits ≡ bits_of_words w (map g.Word.Natural.number rest) = search rules in
    ap (λ n. length rest * n) c.BITS-width.ensures
    ∙ (ap (λ n. n * w) (sym (length-map rest g.Word.Natural.number)) ∙ (sym (length_words w (map g.Word.Natural.number rest)) ∙ sym (ap length given)))

pub returns : goal.returns
returns g c =
    let w = g.Word.Natural.BITS in
    let number = g.Word.Natural.number in
    let words = c.args.words.now in
    let first = c.args.bit / c.BITS-width.result in
    let rest = take (length words - first) (drop first words) in
    let given : c.from_compressed.result.bits ≡ bits_of_words w (map number rest) = search rules in
    let all : rest ≡ drop (c.args.bit / w) words = take_rest words first ∙ ap (λ n. drop (c.args.bit / n) words) c.BITS-width.ensures in
    c.pass_over.ensures
    ∙ (ap₂ (λ n bs. drop (c.args.bit % n) bs) c.BITS-width.ensures (given ∙ ap (λ ws. bits_of_words w (map number ws)) all) ∙ sym (from_bit number w c.args.bit words c.requires.0))
