use Rattle.std.proofs.Common.{◌∙◌, ◌++◌, ap, length, map, reverse, sym, subst}
use Rattle.std.proofs.lemmas.Iterator.{items_from_drains, YieldsList-from_slice}
use Rattle.std.proofs.lemmas.List.{reverse-reverse}
use Rattle.constriction_symbol.specs.Bits.{IsQueueWords}
use Rattle.constriction_symbol.specs.Lists.{AreCodewords}
use Rattle.constriction_symbol.proofs.CodewordLists.{codewords_map, written_first}
use Rattle.constriction_symbol.proofs.TreeCodewords.{same_codewords}
use Rattle.constriction_calls.specs.SymbolCalls.{codeword_in}
use Rattle.constriction_calls.proofs.SymbolLists.{vec_puts}
use Rattle.constriction_calls.proofs.symbol.encoding.queue_words.Goals as goal

pub returns-in-Ok-into_compressed-clause-words : goal.returns-in-Ok-into_compressed-clause-words
returns-in-Ok-into_compressed-clause-words g c =
    let w = g.Word.Natural.BITS in
    let number = g.Word.Natural.number in
    let code = g.C.Encoder.Codebook.codeword c.in_ok-codebook.codebook in
    let symbols = c.args.symbols.now in
    let e = c.in-Ok.ensures in
    let p = e.5 in
    let all = items_from_drains e.2 (p.1.1.0, p.1.1.1, λ _. (p.1.0, p.1.1.2)) (YieldsList-from_slice symbols e.1.0) in
    let written = written_first (λ s. s.bits) (vec_puts w number) _ (λ x. code x.now) e.2 c.args.begun e.3 e.4 in
    let coded = subst (λ xs. AreCodewords code xs written.0) all (codewords_map (λ x. x.now) code e.2 written.0 written.1) in
    let held = sym (ap (λ s. s.bits) p.0) ∙ written.2 in
    let words = c.in-Ok-into_compressed.words.items in (
      written.0,
      same_codewords code (codeword_in g.C.Codes.number (g.C.Codes.book c.args.codes.now)) c.in_ok-codebook.ensures.codewords symbols written.0 coded,
      subst (λ ws. IsQueueWords w (c.args.begun.bits ++ written.0) (map number ws)) (reverse-reverse words) (subst (λ bs. IsQueueWords w bs (map number (reverse (reverse words)))) held c.in-Ok-into_compressed.ensures.ok),
      c.len-count.ensures ∙ ap length held,
    )
