-- The steps that a coder makes for the items of an iterator, in order, up to the first refused step. Also the results
-- of a decoding iterator's `next`, and bounds on the number of items and on the number of symbols left.
use Rattle.std.specs.Prelude.{◌≡◌, ℕ, ◌+◌, ◌≤◌, List, Option, None, Some, Result, Ok, Err, MatchOption, MatchResult}
use Rattle.std.specs.Iterator.{Count, IsFinite, size, Drains, YieldsThen}
use Rattle.constriction_base.specs.Steps.{Trace}
use Rattle.constriction_stream.specs.declared.errors.TryCodingError.{TryCodingError}
use Rattle.constriction_stream.specs.declared.errors.TryCodingError.TheVariants.{InvalidEntropyModel, CodingError}

-- The coder makes the step of each item, in order. No step is refused, and the steps lead from `old` to `new`.
abbrev pub StepsAll : {C A E : Type 0} → (C → A → Result (Unit {0}) E → C → Type 0) → C → List A → C → Type 0
StepsAll step old items new = Trace (λ item before after. step before item (Ok tt) after) items old new

-- The coder makes the step of each item of an iterator, in order, and stops at the first refused step. The result is
-- the error of this step, and exactly the items before it are coded. Without a refusal, all items are coded.
abbrev pub StepsUntilFault : {C I A E : Type 0} → (C → A → Result (Unit {0}) E → C → Type 0) → (I → Type 0) → (I → Option A → I → Type 0)
    → C → Result (Unit {0}) E → C → Type 0
StepsUntilFault {C} {I} {A} step gives next old result new =
    (iterator : I) × gives iterator × (coded : List A) × (mid : C) × StepsAll step old coded mid
    × MatchResult result
    (λ _. (mid ≡ new) × Drains next iterator coded)
    (λ e. (item : A) × (rest : I) × YieldsThen next iterator coded (Some item) rest × step mid item (Err e) new)

-- Each iterator for which `gives` holds can be called, and ends. If `counts` holds, it returns at most `most` items.
abbrev pub YieldsUpTo : {I : Type 0} → (I → Type 0) → (I → Type 0) → (I → Count) → Type 0 → ℕ → Type 0
YieldsUpTo {I} gives can_next remaining counts most =
    (iterator : I) → gives iterator → can_next iterator × IsFinite (remaining iterator) × (counts → size (remaining iterator) ≤ most)

-- `old` and `new` are the numbers of symbols left before and after a call. If every iterator for which `gives` holds
-- has at most `count` items, the number of symbols left falls by at most `count`.
abbrev pub LowersByItems : {I : Type 0} → (I → Type 0) → (I → Count) → ℕ → ℕ → Type 0
LowersByItems {I} gives remaining old new =
    (count : ℕ) → ((iterator : I) → gives iterator → size (remaining iterator) ≤ count) → old ≤ new + count

-- Converts the answer of a step to the answer of a call whose items may be errors: an error becomes a `CodingError`.
abbrev pub as_tried : {T E Q : Type 0} → Result T E → Result T (TryCodingError E Q)
as_tried (Ok x) = Ok x
as_tried (Err e) = Err (CodingError e)

-- The coder makes the step of an item `Ok`. At an item `Err`, the result is this error, as `InvalidEntropyModel`, and
-- the coder is unchanged.
abbrev pub TriesItem : {C A T E Q : Type 0} → (C → A → Result T E → C → Type 0) → C → Result A Q → Result T (TryCodingError E Q) → C → Type 0
TriesItem {T = T} {E = E} step old (Ok item) result new = (answer : Result T E) × step old item answer new × (result ≡ as_tried answer)
TriesItem step old (Err q) result new = (result ≡ Err (InvalidEntropyModel q)) × (new ≡ old)

-- A call of a decoding iterator's `next` takes one model, makes a step under this model, and returns the step's answer.
-- If no model is left, the call returns `None` and leaves the coder unchanged.
abbrev pub AnswersNext : {C I A T : Type 0} → (C → A → T → C → Type 0) → (I → Option A → I → Type 0) → I → C → Option T → I → C → Type 0
AnswersNext {A = A} step next models old result rest new =
    MatchOption result
    (next models None rest × (new ≡ old))
    (λ answer. (model : A) × next models (Some model) rest × step old model answer new)

-- A call of `next` where `amt` symbols under one model are left. The call makes one step, returns the step's answer,
-- and lowers this number by 1. If the number is 0, the call returns `None` and changes nothing.
abbrev pub CountsDown : {C T : Type 0} → (C → T → C → Type 0) → ℕ → C → Option T → ℕ → C → Type 0
CountsDown step amt old result rest new =
    MatchOption result
    ((amt ≡ 0) × (rest ≡ 0) × (new ≡ old))
    (λ answer. (amt ≡ rest + 1) × step old answer new)
