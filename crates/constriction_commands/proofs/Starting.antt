-- What a run with the arguments behind the program's name says of the arguments that the system gave.
use Rattle.std.specs.Prelude.{Option, ◌≡◌, ◌⊎◌, ℕ, List, [], drop, length, map, string_bytes, Result, Ok, Err, IfErr, IfOk, IsOkAnd}
use Rattle.std.specs.Vec.Iter.{into_iter_items}
use Rattle.std.specs.declared.string.String.{String}
use Rattle.std.specs.declared.vec.IntoIter.{IntoIter}
use Rattle.std.proofs.Common.{inl, inr, sym, ap, subst, ◌∙◌, arith}
use Rattle.constriction_commands.specs.Answers.{IsUnknownCommand, Stops, words_behind_name}
use Rattle.constriction_commands.specs.Starting.{ProgramStops}
use Rattle.constriction_commands.specs.declared.fault.Fault.{Fault}
use Rattle.constriction_commands.specs.declared.fault.Fault.TheVariants.{OutOfMemory}

nothing_named : IsUnknownCommand []
nothing_named command named = omega (arith, ap length named)

module _ {Z X : Type 0} where
  pub whole_by_run : {D : Type 0} (given : Result (IntoIter (String Z) Z) X) (items : List (String Z)) (old made new : D) (begins : D → List (List ℕ) → Type 0)
      → IfOk given (λ words. items ≡ drop 1 (into_iter_items words)) → IfErr given (λ _. items ≡ [])
      → (IsUnknownCommand (map string_bytes items) → made ≡ old)
      → (made ≡ old) ⊎ begins made (map string_bytes items)
      → new ≡ made
      → (new ≡ old) ⊎ IsOkAnd given (λ words. begins new (words_behind_name (into_iter_items words)))
  whole_by_run (Ok words) items old made new begins is none unnamed (inl kept) same = inl (same ∙ kept)
  whole_by_run (Ok words) items old made new begins is none unnamed (inr grew) same =
      inr (subst (λ d. begins d (words_behind_name (into_iter_items words))) (sym same) (subst (λ xs. begins made (map string_bytes xs)) is grew))
  whole_by_run (Err error) items old made new begins is none unnamed whole same =
      inl (same ∙ unnamed (subst (λ xs. IsUnknownCommand (map string_bytes xs)) (sym none) nothing_named))

  pub stops_by_run : (given : Result (IntoIter (String Z) Z) X) (items : List (String Z)) (known : Option (List ℕ)) (status : ℕ) (says : Fault → Type 0)
      → IfOk given (λ words. items ≡ drop 1 (into_iter_items words)) → IfErr given (λ _. items ≡ [])
      → (IsUnknownCommand (map string_bytes items) → status ≡ 2)
      → status ≡ 1
      → (fault : Fault) × Stops (map string_bytes items) known fault × says fault
      → (fault : Fault) × ProgramStops given known fault × says fault
  stops_by_run (Ok words) items known status says is none unnamed one stop =
      (stop.0, subst (λ xs. Stops (map string_bytes xs) known stop.0) is stop.1, stop.2)
  stops_by_run (Err error) items known status says is none unnamed one stop =
      absurd (omega (arith, one, unnamed (subst (λ xs. IsUnknownCommand (map string_bytes xs)) (sym none) nothing_named)))

  pub stops_by_memory : (given : Result (IntoIter (String Z) Z) X) (known : Option (List ℕ)) (fault : Fault)
      → fault ≡ OutOfMemory → ProgramStops given known fault
  stops_by_memory (Ok words) known fault is = inr (inr (inl is))
  stops_by_memory (Err error) known fault is = is
