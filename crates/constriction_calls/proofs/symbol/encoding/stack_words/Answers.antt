use Rattle.std.proofs.Common.{◌≡◌, ◌∙◌, ◌++◌, ap, append-nil, map, reverse, sym, subst}
use Rattle.std.proofs.lemmas.List.{reverse-reverse}
use Rattle.constriction_base.proofs.FromBack.{all_from_back}
use Rattle.constriction_symbol.specs.Bits.{IsStackWords}
use Rattle.constriction_symbol.specs.Lists.{AreCodewords}
use Rattle.constriction_symbol.proofs.CodewordLists.{codewords_map, written_last}
use Rattle.constriction_symbol.proofs.TreeCodewords.{same_codewords}
use Rattle.constriction_calls.specs.SymbolCalls.{codeword_in}
use Rattle.constriction_calls.proofs.SymbolLists.{vec_puts}
use Rattle.constriction_calls.proofs.symbol.encoding.stack_words.Goals as goal
use Rattle.constriction_base.proofs.Turns.{map-reverse}

pub returns-in-Ok-into_compressed-clause-words : goal.returns-in-Ok-into_compressed-clause-words
returns-in-Ok-into_compressed-clause-words g c =
    let w = g.Word.Natural.BITS in
    let number = g.Word.Natural.number in
    let code = g.C.Encoder.Codebook.codeword c.in_ok-codebook.codebook in
    let symbols = c.args.symbols.now in
    let e = c.in-Ok.ensures in
    let p = e.5 in
    let all : map (λ x. x.now) (reverse e.2) ≡ symbols = map-reverse (λ x. x.now) e.2 ∙ (ap (λ xs. reverse xs) (rw e.1.0 at (all_from_back e.0 e.2 p.1)) ∙ reverse-reverse symbols) in
    let written = written_last (λ s. s.bits) (vec_puts w number) _ (λ x. code x.now) e.2 c.new-coder.result e.3 e.4 in
    let coded = subst (λ xs. AreCodewords code xs written.0) all (codewords_map (λ x. x.now) code (reverse e.2) written.0 written.1) in
    let turned = sym (ap (λ s. reverse s.bits) p.0) ∙ (written.2 ∙ (ap (λ bs. written.0 ++ reverse bs) c.new-coder.ensures ∙ append-nil written.0)) in
    let held = sym (reverse-reverse _) ∙ ap (λ bs. reverse bs) turned in
    let words = c.in-Ok-into_compressed.words.items in (
      written.0,
      same_codewords code (codeword_in g.C.Codes.number (g.C.Codes.book c.args.codes.now)) c.in_ok-codebook.ensures.codewords symbols written.0 coded,
      subst (λ ws. IsStackWords w (reverse written.0) (map number ws)) (reverse-reverse words) (subst (λ bs. IsStackWords w bs (map number (reverse (reverse words)))) held c.in-Ok-into_compressed.ensures.ok),
    )
