-- Which symbol of a table a step takes.
use Rattle.std.proofs.Common.{◌≡◌, ℕ, ◌+◌, ◌%◌, ◌^◌, ◌<◌, ◌≤◌, List, [], ◌∷◌, refl, sym, ◌∙◌, arith, inl, inr, pow_pos, mod-lt}
use Rattle.std.proofs.lemmas.Bool.{cases_lt}
use Rattle.constriction_base.specs.Steps.{Step, IsStep, IsSizes}
use Rattle.constriction_base.specs.Tables.{Has, IsTable, Follow, Covers}
use Rattle.constriction_base.proofs.Entries.{one_at, one_of}
use Rattle.constriction_stack.specs.Ans.{AnsState, IsNormalized, pop}
use Rattle.constriction_stack.proofs.Pushing.{push_exists, push_unique}
use Rattle.constriction_base.specs.Models.{Model, IsModel, Knows}
use Rattle.constriction_stack.specs.Symbols.{Encodes, Decodes}
use Rattle.constriction_laws.specs.stack.Undone.{decode_back, encode_back}
use Rattle.constriction_base.proofs.Entering.{entry_is_step}

-- each number that is cut lies in an entry
covering : {S : Type 0} (low high q : ℕ) (es : List (S × ℕ × ℕ)) → Follow low es high → low ≤ q → q < high
    → (symbol : S) × (left p : ℕ) × Has es symbol left p × Covers left p q
covering low high q [] f from below = absurd (omega arith)
covering low high q (e ∷ es) f from below = elim (cases_lt q (low + e.2)) [
  | inl here ↦ (e.0, e.1, e.2, inl refl, (omega (arith, f.0), omega (arith, f.0)))
  | inr later ↦ (let more = covering (low + e.2) high q es f.2 later below in (more.0, more.1, more.2, inr more.3, more.4))
]

module _ {S : Type 0} (w s : ℕ) (model : Model S) where
  -- an entry of a model is a step
  pub step_of : (symbol : S) (left p : ℕ) → IsModel w model → Has model.table symbol left p → IsStep w (record { precision = model.precision; left = left; p = p })
  step_of symbol left p m has = entry_is_step w model.precision model.precision left p model.table symbol m.lawful has (m.some_bits, omega arith) m.within_word

  pub encode_exists : (symbol : S) (old : AnsState) → IsSizes w s → IsModel w model → Knows model symbol → IsNormalized w s old
      → (new : AnsState) × Encodes w s model symbol old new
  encode_exists symbol old z m k v =
      let push = push_exists w s (record { precision = model.precision; left = k.0; p = k.1 }) z (step_of symbol k.0 k.1 m k.2) old v in
      (push.0, (k.0, k.1, k.2, push.1))

  pub encode_unique : (symbol : S) (old new other : AnsState) → IsSizes w s → IsModel w model
      → Encodes w s model symbol old new → Encodes w s model symbol old other → new ≡ other
  encode_unique symbol old new other z m i j =
      let same = one_of model.table symbol j.0 i.0 j.1 i.1 m.lawful.distinct j.2 i.2 in
      push_unique w s (record { precision = model.precision; left = i.0; p = i.1 }) z (step_of symbol i.0 i.1 m i.2) old new other i.3 (rw (same.0, same.1) at j.3)

  pub decode_exists : (old : AnsState) → IsTable model.precision model.table → (symbol : S) × (new : AnsState) × Decodes w s model symbol old new
  decode_exists old t =
      let found = covering 0 (2 ^ model.precision) (old.head % 2 ^ model.precision) model.table t.follow (omega arith) (mod-lt old.head (pow_pos model.precision)) in
      let step : Step = record { precision = model.precision; left = found.1; p = found.2 } in
      (found.0, pop w s step old, (found.1, found.2, found.3, (record { from = found.4.0; below = found.4.1 }, refl)))

  pub decode_unique : (symbol other : S) (old new last : AnsState) → IsTable model.precision model.table
      → Decodes w s model symbol old new → Decodes w s model other old last → (symbol ≡ other) × (new ≡ last)
  decode_unique symbol other old new last t i j =
      let same = one_at 0 (2 ^ model.precision) (old.head % 2 ^ model.precision) model.table symbol other i.0 j.0 i.1 j.1 t.follow i.2 j.2 (i.3.0.from, i.3.0.below) (j.3.0.from, j.3.0.below) in
      (same.0, rw (same.1, same.2) at i.3.1 ∙ sym j.3.1)

  pub decode_only : (symbol again : S) (old new last : AnsState) → IsTable model.precision model.table
      → Encodes w s model symbol old new → Decodes w s model again new last → (again ≡ symbol) × (last ≡ old)
  decode_only symbol again old new last t i j = decode_unique again symbol new last old t j (decode_back w s model symbol old new i)

  pub encode_only : (symbol : S) (old new last : AnsState) → IsSizes w s → IsModel w model → IsNormalized w s old
      → Decodes w s model symbol old new → Encodes w s model symbol new last → last ≡ old
  encode_only symbol old new last z m v i j = encode_unique symbol new last old z m j (encode_back w s model symbol old new v i)
