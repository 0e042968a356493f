use Rattle.std.proofs.Common.{◌≡◌, ℕ, List, [], ◌∷◌, ◌++◌, length, map, ◌∙◌, ap, arith}
use Rattle.std.specs.List.{join_with_byte}
use Rattle.std.proofs.lemmas.List.{length-map}
use Rattle.constriction_symbol.specs.Huffman.{path, symbols_from}
use Rattle.constriction_commands.specs.commands.Huffman.{codeword_text}
use Rattle.constriction_commands.proofs.TreeTexts.{texts_more}
use Rattle.constriction_commands.proofs.Writing.{written-more, written-first}
use Rattle.constriction_symbol.proofs.HuffmanMerge.{length_symbols}
use Rattle.constriction_commands.proofs.commands.huffman.line_of_codewords.Goals as goal
use Rattle.constriction_commands.proofs.commands.huffman.line_of_codewords.Goals.{then-symbol-gt0+in_ok-push, else-symbol-gt0}

pub loop-symbol-preserved : goal.loop-symbol-preserved
loop-symbol-preserved c =
    let text : ℕ → List ℕ = λ symbol. codeword_text (path c.args.tree.now symbol) in
    let symbol = c.loop-symbol.symbol in
    let texts = map text (symbols_from 0 symbol) in
    let more = texts_more text symbol in
    let written = c.in_ok-push_codeword.ensures in
    elim c.if-symbol-gt0.branch [
      | then-symbol-gt0+in_ok-push w ↦
          let count : length texts ≡ symbol = length-map (symbols_from 0 symbol) text ∙ length_symbols 0 symbol in
          written-more [] c.loop-symbol.line.items c.if-symbol-gt0.line.items c.push_codeword.new.line.items (text symbol) texts _ (omega (arith, count, w.if-symbol-gt0.true)) c.loop-symbol.invariant (ap (λ v. v.items) w.line-is ∙ w.in_ok-push.ensures.items) written more
      | else-symbol-gt0 w ↦
          let none : symbol ≡ 0 = omega (arith, w.if-symbol-gt0.false) in
          written-first [] c.loop-symbol.line.items c.push_codeword.new.line.items (text symbol) texts _ (ap (λ n. map text (symbols_from 0 n)) none) c.loop-symbol.invariant (written ∙ ap (λ v. v.items ++ text symbol) w.line-is) more
    ]

pub returns : goal.returns
returns c =
    let end : c.loop-symbol.symbol ≡ c.num_symbols-symbol-end.result = omega (arith, c.loop-symbol-test.false, c.loop-symbol.auto.symbol-end) in
    let text : ℕ → List ℕ = λ symbol. codeword_text (path c.args.tree.now symbol) in
    c.in_ok-push-2.ensures.items ∙ ap (λ (line : List ℕ). line ++ 10 ∷ []) (c.loop-symbol.invariant ∙ ap (λ (n : ℕ). join_with_byte 32 (map text (symbols_from 0 n))) (end ∙ c.num_symbols-symbol-end.ensures.value))
