-- The output and the faults of the program, for the arguments that the system gives.
use Rattle.std.specs.Prelude.{Option, ◌≡◌, ◌≢◌, ◌⊎◌, ℕ, List, Result, IfErr, IfOk, IfSome, IsOkAnd, MatchResult}
use Rattle.std.specs.Io.KnownBytes.{Appends}
use Rattle.std.specs.IoError.{error_kind}
use Rattle.std.specs.Vec.Iter.{into_iter_items}
use Rattle.std.specs.declared.io.Error.{Error}
use Rattle.std.specs.declared.io.ErrorKind.TheVariants as kind
use Rattle.std.specs.declared.string.String.{String}
use Rattle.std.specs.declared.vec.IntoIter.{IntoIter}
use Rattle.constriction_commands.specs.Answers.{IsAnswered, IsUnknownCommand, Stops, words_behind_name}
use Rattle.constriction_commands.specs.Written.{BeginsFault, GrowsByBeginning}
use Rattle.constriction_commands.specs.declared.fault.Fault.{Fault}
use Rattle.constriction_commands.specs.declared.fault.Fault.TheVariants.{OutOfMemory}

-- ---- what a run writes, with the arguments after the program's name

-- If the text is known, the writer's contents grow by the named command's answer.
abbrev pub AppendsAnswer : {D : Type 0} → List (List ℕ) → Option (List ℕ) → (D → Option (List ℕ)) → D → D → Type 0
AppendsAnswer arguments known contents old new = IfSome known (λ text. (answer : List ℕ)
    × IsAnswered arguments text answer × Appends (contents old) (contents new) answer)

-- If the text is known, the writer's contents grow by a beginning of the named command's answer.
abbrev pub BeginsAnswer : {D : Type 0} → List (List ℕ) → Option (List ℕ) → (D → Option (List ℕ)) → D → D → Type 0
BeginsAnswer arguments known contents old new = IfSome known (λ text. (answer : List ℕ)
    × IsAnswered arguments text answer × GrowsByBeginning (contents old) (contents new) answer)

-- ---- what the system gives: a list of words in UTF-8, or an error

-- If the system gives words, the statement holds for the words after the program's name.
abbrev pub IfText : {Z X : Type 0} → Result (IntoIter (String Z) Z) X → (List (List ℕ) → Type 0) → Type 0
IfText given holds = IfOk given (λ words. holds (words_behind_name (into_iter_items words)))

-- The system gives words, and the statement holds for the words after the program's name.
abbrev pub IsTextAnd : {Z X : Type 0} → Result (IntoIter (String Z) Z) X → (List (List ℕ) → Type 0) → Type 0
IsTextAnd given holds = IsOkAnd given (λ words. holds (words_behind_name (into_iter_items words)))

-- If the system gives words, and those after the program's name name no command, the statement holds.
abbrev pub IfUnknownCommand : {Z X : Type 0} → Result (IntoIter (String Z) Z) X → Type 0 → Type 0
IfUnknownCommand given holds = IfText given (λ arguments. IsUnknownCommand arguments → holds)

-- If a word isn't UTF-8, the statement holds.
abbrev pub IfNotText : {A : Type 0} → Result A Error → Type 0 → Type 0
IfNotText given holds = IfErr given (λ error. error_kind error ≢ kind.OutOfMemory → holds)

-- If the system has no memory for the words, the statement holds.
abbrev pub IfNoMemory : {A : Type 0} → Result A Error → Type 0 → Type 0
IfNoMemory given holds = IfErr given (λ error. error_kind error ≡ kind.OutOfMemory → holds)

-- ---- what the program writes

-- The system gives words. If the text is known, the writer's contents grow by the named command's answer.
abbrev pub ProgramAnswers : {D Z X : Type 0} → Result (IntoIter (String Z) Z) X → Option (List ℕ)
    → (D → Option (List ℕ)) → D → D → Type 0
ProgramAnswers given known contents old new = IsTextAnd given (λ arguments. AppendsAnswer arguments known contents old new)

-- The writer is unchanged, or its contents grow by a beginning of the named command's answer.
abbrev pub ProgramWrites : {D Z X : Type 0} → Result (IntoIter (String Z) Z) X → Option (List ℕ)
    → (D → Option (List ℕ)) → D → D → Type 0
ProgramWrites given known contents old new =
    (new ≡ old) ⊎ IsTextAnd given (λ arguments. BeginsAnswer arguments known contents old new)

-- The program stops with this fault: the run of a command stops, or there is no memory for the arguments.
abbrev pub ProgramStops : {Z X : Type 0} → Result (IntoIter (String Z) Z) X → Option (List ℕ) → Fault → Type 0
ProgramStops given known fault =
    MatchResult given (λ words. Stops (words_behind_name (into_iter_items words)) known fault) (λ _. fault ≡ OutOfMemory)

-- The program stops with a fault, and the writer's contents grow by a beginning of the fault's line.
abbrev pub ProgramReports : {D Z X : Type 0} → Result (IntoIter (String Z) Z) X → Option (List ℕ)
    → (D → Option (List ℕ)) → D → D → Type 0
ProgramReports given known contents old new = BeginsFault (ProgramStops given known) contents old new
