-- The codes that C functions return, and the results that the codes stand for.
use Rattle.std.specs.Prelude.{◌≡◌, ℕ, zero, suc, ◌+◌, ◌*◌, Result, Ok, Err}
use Rattle.constriction_inputs.specs.declared.refusal.Refusal.{Refusal}
use Rattle.constriction_inputs.specs.declared.refusal.Refusal.TheVariants.{ImpossibleSymbol, WrongWeights, WrongInterval, WrongLength, NoSpace, NoMemory, InvalidData, OutOfData}

-- The result that a code stands for. `needed` is the number of words that `NoSpace` reports.
abbrev pub answer_by_code : ℕ → ℕ → Result (Unit {0}) Refusal
answer_by_code zero needed = Ok tt
answer_by_code (suc zero) needed = Err ImpossibleSymbol
answer_by_code (suc (suc zero)) needed = Err WrongWeights
answer_by_code (suc (suc (suc zero))) needed = Err WrongInterval
answer_by_code (suc (suc (suc (suc zero)))) needed = Err WrongLength
answer_by_code (suc (suc (suc (suc (suc zero))))) needed = Err (NoSpace needed)
answer_by_code (suc (suc (suc (suc (suc (suc zero)))))) needed = Err NoMemory
answer_by_code (suc (suc (suc (suc (suc (suc (suc zero))))))) needed = Err InvalidData
answer_by_code (suc (suc (suc (suc (suc (suc (suc (suc zero)))))))) needed = Err OutOfData
-- No function returns another code. The result here is `NoSpace zero`, which no call returns.
answer_by_code (suc (suc (suc (suc (suc (suc (suc (suc (suc code))))))))) needed = Err (NoSpace zero)

-- The value of `needed` after a call: the number that `NoSpace` reports, or the old value for any other result.
abbrev pub needed_by : Result (Unit {0}) Refusal → ℕ → ℕ
needed_by (Err (NoSpace count)) old = count
needed_by answer old = old

-- The contract of a C function: the result that `code` stands for satisfies `call`, the contract of the call.
-- For `NoSpace` the function sets `needed`, and otherwise it leaves `needed` unchanged.
abbrev pub ReturnsCodeOf : ℕ → ℕ → ℕ → (Result (Unit {0}) Refusal → Type 0) → Type 0
ReturnsCodeOf code old_needed needed call = call (answer_by_code code needed) × (needed ≡ needed_by (answer_by_code code needed) old_needed)

-- A version as a number.
abbrev pub version_number : ℕ → ℕ → ℕ → ℕ
version_number major minor patch = 10000 * major + 100 * minor + patch
