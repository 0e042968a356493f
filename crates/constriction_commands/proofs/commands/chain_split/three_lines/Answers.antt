use Rattle.std.proofs.Common.{ℕ, ◌%◌, ◌^◌, List, ◌++◌, map, ap, ◌∙◌}
use Rattle.constriction_commands.specs.Lines.{line_of}
use Rattle.constriction_commands.proofs.commands.chain_split.three_lines.Goals as goal

pub returns : goal.returns
returns c =
    let line : List ℕ → List ℕ = λ words. line_of (map (λ word. word % 2 ^ 32) words) in
    c.in_ok-push_words-2.ensures
    ∙ ap (λ (front : List ℕ). front ++ line c.args.suffix.now) (c.in_ok-push_words.ensures ∙ ap (λ (front : List ℕ). front ++ line c.args.prefix.now) c.in_ok-lines.ensures)
