-- Which refusal (error) a call returns. The call checks its requirements in order, and the first one that fails
-- determines the refusal. If all hold, the call can still return another refusal, for example for lack of memory.
use Rattle.std.specs.Prelude.{◌≡◌, ℕ, ◌⊎◌, Result, Err, IfErr}
use Rattle.constriction_inputs.specs.declared.refusal.Refusal.{Refusal}
use Rattle.constriction_inputs.specs.declared.refusal.Refusal.TheVariants.{InvalidData, NoMemory, NoSpace, OutOfData}

-- The call requires `holds`. If `holds` is false, the call returns `refusal`. Otherwise `others` states the answer.
abbrev pub Asks : {T : Type 0} → Refusal → Type 0 → (Result T Refusal → Type 0) → Result T Refusal → Type 0
Asks refusal holds others answer = ((holds → ⊥) × (answer ≡ Err refusal)) ⊎ (holds × others answer)

-- The call has no further requirement. If it fails, `why` states which refusals can come.
abbrev pub Otherwise : {T : Type 0} → (Refusal → Type 0) → Result T Refusal → Type 0
Otherwise why answer = IfErr answer why

-- ---- refusals that can still come
-- No refusal can come.
abbrev pub NoRefusal : Refusal → Type 0
NoRefusal refusal = ⊥

-- Only `NoMemory` can come. The contract doesn't state when.
abbrev pub OnlyNoMemory : Refusal → Type 0
OnlyNoMemory NoMemory = Unit {0}
OnlyNoMemory other = ⊥

-- Only `NoMemory` or `NoSpace` can come. If `NoSpace` comes, `needs` holds for the number of words in it.
abbrev pub NoMemoryOrSpace : (ℕ → Type 0) → Refusal → Type 0
NoMemoryOrSpace needs (NoSpace needed) = needs needed
NoMemoryOrSpace needs NoMemory = Unit {0}
NoMemoryOrSpace needs other = ⊥

-- The refusals of `NoMemoryOrSpace` or `OutOfData` can come. `OutOfData` comes only if `ends` holds.
abbrev pub NoMemorySpaceOrData : Type 0 → (ℕ → Type 0) → Refusal → Type 0
NoMemorySpaceOrData ends needs OutOfData = ends
NoMemorySpaceOrData ends needs other = NoMemoryOrSpace needs other

-- Only `NoMemory` or `InvalidData` can come. `InvalidData` comes only if `none` holds: no such symbols are encoded.
abbrev pub NoMemoryOrInvalid : Type 0 → Refusal → Type 0
NoMemoryOrInvalid none InvalidData = none
NoMemoryOrInvalid none other = OnlyNoMemory other
