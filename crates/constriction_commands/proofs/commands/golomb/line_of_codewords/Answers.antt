use Rattle.std.proofs.Common.{◌≡◌, ℕ, List, [], ◌++◌, length, map, take, get_or, ◌∙◌, ap, arith}
use Rattle.std.proofs.lemmas.List.{length-map, length-take-le}
use Rattle.constriction_symbol.specs.Golomb.{golomb}
use Rattle.constriction_commands.specs.Codewords.{digits}
use Rattle.constriction_commands.proofs.CodewordTexts.{text-more}
use Rattle.constriction_commands.proofs.Writing.{written-more, written-first}
use Rattle.constriction_commands.proofs.commands.golomb.line_of_codewords.Goals as goal
use Rattle.constriction_commands.proofs.commands.golomb.line_of_codewords.Goals.{then-place-gt0+in_ok-push, else-place-gt0}

pub loop-place-preserved : goal.loop-place-preserved
loop-place-preserved c =
    let text : ℕ → List ℕ = λ n. digits (golomb n) in
    let numbers = c.args.numbers.now in
    let place = c.loop-place.place in
    let texts = map text (take place numbers) in
    let more = text-more numbers place c.loop-place-test.true in
    let written = c.in_ok-push_codeword.ensures in
    elim c.if-place-gt0.branch [
      | then-place-gt0+in_ok-push w ↦
          let count : length texts ≡ place = length-map (take place numbers) text ∙ length-take-le place numbers (omega arith) in
          written-more [] c.loop-place.line.items c.if-place-gt0.line.items c.push_codeword.new.line.items (text (get_or numbers place 0)) texts _ (omega (arith, count, w.if-place-gt0.true)) c.loop-place.invariant (ap (λ v. v.items) w.line-is ∙ w.in_ok-push.ensures.items) written more
      | else-place-gt0 w ↦
          let none : place ≡ 0 = omega (arith, w.if-place-gt0.false) in
          written-first [] c.loop-place.line.items c.push_codeword.new.line.items (text (get_or numbers place 0)) texts _ (ap (λ n. map text (take n numbers)) none) c.loop-place.invariant (written ∙ ap (λ v. v.items ++ text (get_or numbers place 0)) w.line-is) more
    ]
