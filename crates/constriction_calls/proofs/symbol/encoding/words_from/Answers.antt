use Rattle.std.proofs.Common.{◌≡◌, ◌∙◌, ◌+◌, ◌*◌, ◌-◌, ◌/◌, ◌%◌, ap, ap₂, drop, length, map, take}
use Rattle.std.proofs.lemmas.List.{take_rest}
use Rattle.constriction_symbol.specs.Bits.{bits_of_words}
use Rattle.constriction_calls.proofs.SymbolPlaces.{end_bit, words_from}
use Rattle.constriction_calls.proofs.symbol.encoding.words_from.Goals as goal

pub returns-clause-words : goal.returns-clause-words
returns-clause-words g c =
    let w = g.Word.Natural.BITS in
    let number = g.Word.Natural.number in
    let words = c.args.words.now in
    let bit = c.args.bit in
    let first = bit / c.BITS-width.result in
    let rest : take (length words - first) (drop first words) ≡ drop (bit / w) words = take_rest words first ∙ ap (λ n. drop (bit / n) words) c.BITS-width.ensures in
    let begun : c.in_ok-begun.begun.bits ≡ take (bit % w) (bits_of_words w (map number (drop (bit / w) words))) = c.in_ok-begun.ensures
    ∙ ap₂ (λ n ws. take (bit % n) (bits_of_words w (map number ws))) c.BITS-width.ensures rest in
    let made = c.in_ok-added.ensures.words in
    let end : c.in_ok-end.end ≡ first * c.BITS-width.result + c.in_ok-added.count = c.in_ok-end.ensures.1 in (
      made.0,
      made.1,
      words_from number w bit words c.requires.0 c.in_ok-begun.begun.bits made.0 begun c.in_ok-added.added.items made.2,
      end ∙ (ap (λ n. bit / n * n + c.in_ok-added.count) c.BITS-width.ensures ∙ end_bit number w bit words c.requires.0 c.in_ok-begun.begun.bits made.0 begun c.in_ok-added.count made.3),
    )
