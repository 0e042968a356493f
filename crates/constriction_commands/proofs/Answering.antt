-- What a named command answers is an answer to the arguments that name it.
use Rattle.std.specs.Prelude.{ℕ, List, Option, None, Some, IfSome}
use Rattle.constriction_commands.specs.Answers.{Answers, IsAnswered, Names}
use Rattle.constriction_commands.specs.declared.commands.Command.{Command}

pub answered : (arguments : List (List ℕ)) (command : Command) (written : List ℕ → Type 0) (known : Option (List ℕ)) → Names arguments command
    → IfSome known (λ text. (answer : List ℕ) × Answers command text answer × written answer)
    → IfSome known (λ text. (answer : List ℕ) × IsAnswered arguments text answer × written answer)
answered arguments command written None names h = h
answered arguments command written (Some text) names h = (h.0, (command, names, h.1), h.2)
