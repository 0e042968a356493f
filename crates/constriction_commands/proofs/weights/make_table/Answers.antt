use Rattle.std.proofs.Common.{Err, sym, ◌∙◌, ap}
use Rattle.constriction_base.specs.Tables.{table_of}
use Rattle.constriction_commands.proofs.OwnNumbers.{own_numbers, own_sum}
use Rattle.constriction_commands.proofs.weights.make_table.Goals as goal

pub returns-in-Ok-clause-ok : goal.returns-in-Ok-clause-ok
returns-in-Ok-clause-ok c = c.in-Ok.ensures.ok ∙ ap table_of (own_numbers c.args.weights.now c.type_inv.weights)

pub returns-in-Ok-clause-total : goal.returns-in-Ok-clause-total
returns-in-Ok-clause-total c = sym (own_sum c.args.weights.now c.type_inv.weights) ∙ c.in-Ok.ensures.total

pub returns-in-Err-WrongTotal-clause-wrong_total : goal.returns-in-Err-WrongTotal-clause-wrong_total
returns-in-Err-WrongTotal-clause-wrong_total c =
    let wrong = c.new.ensures.wrong_total.0 (c.in-Err-WrongTotal.is ∙ ap Err c.in-Err-WrongTotal.field-0-is) in
    λ _. (wrong.0, λ is. wrong.1 (own_sum c.args.weights.now c.type_inv.weights ∙ is))
