-- Upper bounds on the number of words that a list of steps takes, as inequalities between integers. k = s - w - P is
-- the number of spare bits: a head has s bits, a word has w bits, and a table has a precision of P bits. Encoding a
-- step of probability p / 2 ^ P multiplies the bound by two factors. The factor 2 ^ P / p accounts for the step's
-- information content. The factor (2 ^ k + 1) / 2 ^ k accounts for rounding.
use Rattle.std.specs.Prelude.{◌≡◌, ℕ, ◌+◌, ◌-◌, ◌*◌, ◌<◌, ◌≤◌, ◌^◌, List, [], ◌∷◌, ⊤, length}
use Rattle.std.specs.List.{AllByRecursion}
use Rattle.constriction_base.specs.Steps.{Step, IsStep}
use Rattle.constriction_base.specs.Tables.{AtEntry}
use Rattle.constriction_base.specs.Models.{Item}
use Rattle.constriction_stack.specs.Ans.{AnsState, IsPush, IsPop, exported}

-- The product of the numbers f e over all items e of the list.
abbrev pub product : {E : Type 0} → (E → ℕ) → List E → ℕ
product f [] = 1
product f (e ∷ es) = f e * product f es

-- 2 ^ k, where k is the number of spare bits of the step e.
abbrev pub spare : ℕ → ℕ → Step → ℕ
spare w s e = 2 ^ (s - w - e.precision)

-- The weight p of the step, times 2 ^ k.
abbrev pub share : ℕ → ℕ → Step → ℕ
share w s e = e.p * spare w s e

-- The sum of all weights, 2 ^ P, times 2 ^ k + 1.
abbrev pub rounded_whole : ℕ → ℕ → Step → ℕ
rounded_whole w s e = 2 ^ e.precision * (spare w s e + 1)

-- A step that is encoded or decoded.
pub data Act : Type 0 where
  Encode : Step → Act
  Decode : Step → Act

abbrev pub IsAllowed : ℕ → Act → Type 0
IsAllowed w (Encode e) = IsStep w e
IsAllowed w (Decode e) = IsStep w e

abbrev pub AreAllowed : ℕ → List Act → Type 0
AreAllowed w acts = AllByRecursion (IsAllowed w) acts

-- An encode is a push. A decode is a pop after which the head is at least 2 ^ (s - w).
abbrev pub Acts : ℕ → ℕ → Act → AnsState → AnsState → Type 0
Acts w s (Encode e) old new = IsPush w s e old new
Acts w s (Decode e) old new = IsPop w s e old new × (2 ^ (s - w) ≤ new.head)

-- The factor of an act on the lower side of the bound. It is the share for an encode, and 2 ^ P * 2 ^ k for a decode.
abbrev pub net_share : ℕ → ℕ → Act → ℕ
net_share w s (Encode e) = share w s e
net_share w s (Decode e) = 2 ^ e.precision * spare w s e

-- The factor of an act on the upper side of the bound. It is the rounded whole for an encode, and p * (2 ^ k + 1) for a
-- decode.
abbrev pub net_whole : ℕ → ℕ → Act → ℕ
net_whole w s (Encode e) = rounded_whole w s e
net_whole w s (Decode e) = e.p * (spare w s e + 1)

-- Bounds the words of the new state by the words of the old state and one factor for each act. One word of the new
-- state doesn't count.
abbrev pub IsNetBounded : ℕ → ℕ → List Act → AnsState → AnsState → Type 0
IsNetBounded w s acts old new =
    2 ^ (w * (length (exported w new) - 1)) * product (net_share w s) acts < 2 ^ (w * length (exported w old)) * product (net_whole w s) acts

-- The steps and the items correspond in order. Each step is the entry of its item's symbol in the item's table.
abbrev pub AreEntries : {S : Type 0} → List (Item S) → List Step → Type 0
AreEntries [] [] = ⊤
AreEntries [] (e ∷ es) = ⊥
AreEntries (item ∷ items) [] = ⊥
AreEntries (item ∷ items) (e ∷ es) = AtEntry item.model.precision item.model.table item.symbol (λ step. step ≡ e) × AreEntries items es

-- ---- bounds on a number of words

-- These words of a stack coder that started empty and encoded the steps aren't more than the bound.
abbrev pub IsStackBounded : {A : Type 0} → ℕ → ℕ → List Step → List A → Type 0
IsStackBounded w s steps words =
    2 ^ (w * (length words - 1)) * product (share w s) steps ≤ 2 ^ (s - w) * product (rounded_whole w s) steps

-- The same where all steps have one precision, and so the same spare bits.
abbrev pub IsStackBoundedAt : {A : Type 0} → ℕ → ℕ → ℕ → List Step → List A → Type 0
IsStackBoundedAt w s precision steps words =
    2 ^ (w * (length words - 1)) * (product (λ e. e.p) steps * (2 ^ (s - w - precision)) ^ length steps)
    ≤ 2 ^ (s - w) * ((2 ^ precision) ^ length steps * (2 ^ (s - w - precision) + 1) ^ length steps)

-- These words of a range encoder that encoded the steps aren't more than the bound, if they are `seal` words at least.
abbrev pub IsRangeBounded : {A : Type 0} → ℕ → ℕ → ℕ → List Step → List A → Type 0
IsRangeBounded w s seal steps words = seal ≤ length words
    → 2 ^ (w * (length words - seal)) * (2 ^ s - 1) * product (share w s) steps
    < 2 ^ s * product (rounded_whole w s) steps

-- The words are bounded by steps, which are those of the items.
abbrev pub AreBoundedBy : {S A : Type 0} → (List Step → List A → Type 0) → List (Item S) → List A → Type 0
AreBoundedBy bounded items words = (steps : List Step) × AreEntries items steps × bounded steps words
