-- An entry of a lawful model is a step of a coder.
use Rattle.std.specs.Prelude.{ℕ, ◌≤◌, ◌^◌, List}
use Rattle.std.proofs.Common.{arith}
use Rattle.constriction_base.specs.Steps.{IsStep}
use Rattle.constriction_base.specs.Tables.{Has, IsTable}
use Rattle.constriction_base.proofs.Entries.{in_range}

pub entry_is_step : {S : Type 0} (w precision bits left p : ℕ) (table : List (S × ℕ × ℕ)) (symbol : S) → IsTable precision table → Has table symbol left p
    → (1 ≤ precision) × (precision ≤ bits) → bits ≤ w → IsStep w (record { precision = precision; left = left; p = p })
entry_is_step w precision bits left p table symbol lawful entry sized narrow =
    let within = in_range 0 (2 ^ precision) table symbol left p lawful.follow entry in
    record { some_bits = sized.0; within_word = omega (arith, sized.1); not_empty = within.1; inside = within.2 }
