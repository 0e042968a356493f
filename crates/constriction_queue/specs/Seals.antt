-- Correct seals: after any earlier words, the words of the seal complete the sealed or self-delimiting export of a run.
use Rattle.std.specs.Prelude.{◌≡◌, ℕ, List, ◌++◌, reverse}
use Rattle.constriction_base.specs.Steps.{AreWords}
use Rattle.constriction_queue.specs.declared.seal.Seal.{Seal}
use Rattle.constriction_queue.specs.declared.situation.EncoderSituation.{EncoderSituation}
use Rattle.constriction_queue.specs.Encoder.{pending_of, flushed_of, released_of, run_of}
use Rattle.constriction_queue.specs.Range.{sealed}
use Rattle.constriction_queue.specs.SelfDelimiting.{SelfDelimits}

-- Writing the seal's words `held`, `point` and `zero` after any earlier words gives the sealed words of the run.
abbrev pub SealsRun : {Word : Type 0} → (Word → ℕ) → ℕ → ℕ → EncoderSituation Word → ℕ → ℕ → Seal Word → Type 0
SealsRun number w s situation lower range seal =
    (words : List ℕ) → AreWords w words → reverse (flushed_of number seal.held seal.point seal.zero ++ words)
    ≡ sealed w s (run_of w s (pending_of number w situation ++ words) lower range)

-- Writing the seal's words `held`, `point`, `zero` and then `behind` after any earlier words gives a self-delimiting
-- export of the run (`SelfDelimits`).
abbrev pub SelfDelimitsRun : {Word : Type 0} → (Word → ℕ) → ℕ → ℕ → EncoderSituation Word → ℕ → ℕ → Seal Word → Type 0
SelfDelimitsRun number w s situation lower range seal =
    (words : List ℕ) → AreWords w words → SelfDelimits w s (run_of w s (pending_of number w situation ++ words) lower range)
    (reverse ((released_of number seal.behind ++ flushed_of number seal.held seal.point seal.zero) ++ words))
