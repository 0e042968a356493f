use Rattle.std.proofs.Common.{ℕ, ◌-◌, ◌^◌, ◌%◌, Some, List, ◌++◌, map, sym, ◌∙◌, ap}
use Rattle.std.proofs.lemmas.List.{map-id}
use Rattle.constriction_commands.specs.Lines.{numbers_of, line_of}
use Rattle.constriction_commands.specs.commands.Golomb.{golomb_line}
use Rattle.constriction_commands.proofs.CodewordTexts.{words_fit}
use Rattle.constriction_commands.proofs.commands.golomb.answer.Goals as goal

pub returns-clause-ok : goal.returns-clause-ok
returns-clause-ok c =
    let numbers = c.in_ok-numbers.numbers.items in record {
      numbers = numbers;
      words = map (λ word. word % 2 ^ 32) c.in_ok-words.words.items;
      numbers_line = ap (numbers_of (2 ^ 32 - 1)) (sym c.split_line.ensures.first) ∙ c.in_ok-numbers.ensures.ok ∙ ap Some (map-id numbers);
      held = rw c.as_slice-2.ensures.value at c.in_ok-words.ensures;
      fit = words_fit c.in_ok-words.words.items;
      printed =
          c.in_ok-push_words.ensures
          ∙ ap (λ (front : List ℕ). front ++ line_of (map (λ word. word % 2 ^ 32) c.as_slice-3.result.now)) (c.in_ok-lines.ensures ∙ ap (λ (ns : List ℕ). golomb_line ns) c.as_slice.ensures.value)
          ∙ ap (λ (words : List ℕ). golomb_line numbers ++ line_of (map (λ word. word % 2 ^ 32) words)) c.as_slice-3.ensures.value;
    }
