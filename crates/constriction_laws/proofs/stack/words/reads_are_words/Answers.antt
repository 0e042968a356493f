use Rattle.std.specs.Prelude.{◌≡◌, ℕ, List, Option, Some, None, Result, Ok, map}
use Rattle.std.proofs.Common.{inl, inr, refl}
use Rattle.constriction_base.specs.Backends.{Reads}
use Rattle.constriction_stack.specs.Ans.{refilled, RefillsBy}
use Rattle.constriction_stack.proofs.Pushing.{refilled_full, refilled_low}
use Rattle.constriction_laws.proofs.stack.words.reads_are_words.Goals as goal

taken : {W E B : Type 0} (number : W → ℕ) (reads : B → Result (Option W) E → B → Type 0) (words : B → List W) (w s head new_head : ℕ) (old new : B)
    → ((before after : B) (answer : Result (Option W) E) → reads before answer after → Reads (words before) answer (words after))
    → RefillsBy number reads w s head old new_head new → refilled w s head (map number (words old)) ≡ record { head = new_head; words = map number (words new) }
taken number reads words w s head new_head old new h (inl k) = rw (k.1, k.2) (refilled_full w s head (map number (words old)) (inl k.0))
taken number reads words w s head new_head old new h (inr (inl k)) = let r = h old new (Ok None) k.2 in rw (r.0, r.1, k.1) refl
taken number reads words w s head new_head old new h (inr (inr k)) = let r = h old new (Ok (Some k.1.0)) k.1.2 in rw (r, k.1.1) (refilled_low w s head (number k.1.0) (map number (words new)) k.0)

pub returns : goal.returns
returns g c = λ words w s head new_head old new h r. taken g.Word.Natural.number g.Backend.ReadWords.reads words w s head new_head old new h r
