use Rattle.std.proofs.Common.{◌%◌, ◌^◌, sym, ◌∙◌, refl, inl, inr, arith}
use Rattle.constriction_commands.proofs.Chain.{all_read, last_zero}
use Rattle.constriction_base.proofs.Turns.{map-reverse}
use Rattle.constriction_commands.proofs.commands.chain_split.coder_of.Goals as goal

pub returns-in-Ok-clause-ok : goal.returns-in-Ok-clause-ok
returns-in-Ok-clause-ok c =
    let begun = c.in-Ok.ensures.ok in record {
      whole = begun.0;
      none = begun.1;
      chain = c.in-Ok.ensures.coder.chain;
      are = sym (map-reverse (λ word. word % 2 ^ 32) c.args.words.items) ∙ begun.2 tt;
    }

pub returns-in-Err-Frontend-clause-err : goal.returns-in-Err-Frontend-clause-err
returns-in-Err-Frontend-clause-err c = (
  refl,
  elim (rw c.in-Err-Frontend.field-0-is at c.in-Err-Frontend.ensures.err) [
    | inl zero ↦ inl (last_zero (λ word. word % 2 ^ 32) c.args.words.items _ zero.0 zero.1 (zero.2.1 tt))
    | inr few ↦
        all_read (2 ^ 32) c.args.words.items few.2.words _ few.0 (omega arith) (omega arith) (few.2.taken tt) (few.4.1 tt).0 few.2.high few.2.is few.3
  ],
)
