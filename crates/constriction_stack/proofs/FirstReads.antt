-- Imports that their first read decides.
use Rattle.std.specs.Prelude.{Option, None, Result, Ok, Err, map}
use Rattle.std.proofs.Common.{◌≡◌, ℕ, ◌+◌, ◌-◌, ◌*◌, ◌^◌, ◌<◌, List, [], ◌∷◌, refl, sym, subst, ap, ◌∙◌, arith, inr, pow_pos}
use Rattle.constriction_base.specs.Backends.{Reads}
use Rattle.constriction_base.specs.Readings.{BeginsHigh}
use Rattle.constriction_stack.specs.Ans.{AnsState, filled}
use Rattle.constriction_stack.specs.Imports.{FilledBy, ImportRefused, ListRefused}
use Rattle.constriction_stack.proofs.Importing.{filled_low}

-- it answers an error
pub refused_at_once : {W E B : Type 0} (number : W → ℕ) (reads : B → Result (Option W) E → B → Type 0) (w s : ℕ) (old new : B) (e : E) → reads old (Err e) new → ImportRefused number reads w s old new
refused_at_once number reads w s old new e r =
    inr (0, old, e, record { words = []; given = refl; high = tt; is = refl }, pow_pos (s - w), r)

pub list_refused_at_once : {W E : Type 0} (number : W → ℕ) (ws vs : List W) (e : E) → Reads ws (Err e) vs → ListRefused E number ws vs
list_refused_at_once number ws vs e is = inr ([], e, sym is)

-- there is no word
pub none_filled : {W E B : Type 0} (number : W → ℕ) (reads : B → Result (Option W) E → B → Type 0) (w s n : ℕ) (old new : B) → n ≡ 0 → reads old (Ok None) new → FilledBy number reads w s old n new
none_filled number reads w s n old new none r =
    rw none (old, record { words = []; given = refl; high = tt; is = refl }, inr (pow_pos (s - w), r))

pub none_imported : {W : Type 0} (number : W → ℕ) (w s n : ℕ) (ws vs : List W) → n ≡ 0 → (ws ≡ []) × (vs ≡ []) → ◌≡◌ {A = AnsState} (record { head = n; words = map number vs }) (filled w s 0 (map number ws))
none_imported number w s n ws vs none (e, f) = rw (none, e, f) refl

pub none_high : {W : Type 0} (number : W → ℕ) (ws : List W) → ws ≡ [] → BeginsHigh (map number ws)
none_high number ws e = subst (λ xs. BeginsHigh (map number xs)) (sym e) tt

-- it gives a word
pub first_imported : {W : Type 0} (number : W → ℕ) (w s n : ℕ) (word : W) (ws mid : List W) (state : AnsState) → ws ≡ word ∷ mid → n ≡ number word → filled w s n (map number mid) ≡ state → state ≡ filled w s 0 (map number ws)
first_imported number w s n word ws mid state is n_is rest =
    let same : 0 * 2 ^ w + number word ≡ n = omega (arith, n_is) in
    sym (ap (λ xs. filled w s 0 (map number xs)) is ∙ filled_low w s 0 (number word) (map number mid) (pow_pos (s - w)) ∙ ap (λ k. filled w s k (map number mid)) same ∙ rest)

pub first_high : {W : Type 0} (number : W → ℕ) (word : W) (ws mid : List W) → ws ≡ word ∷ mid → 0 < number word → BeginsHigh (map number ws)
first_high number word ws mid is some = subst (λ xs. BeginsHigh (map number xs)) (sym is) some
