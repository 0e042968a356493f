use Rattle.std.specs.Prelude.{Result, Ok, Err, IsErrAnd}
use Rattle.std.proofs.Common.{◌≡◌, map, ◌<◌, length, [], ◌∷◌, ap, ◌∙◌, sym}
use Rattle.std.proofs.lemmas.List.{map-append}
use Rattle.constriction_commands.specs.declared.fault.Fault.{Fault}
use Rattle.constriction_commands.specs.declared.fault.Fault.TheVariants.{BadNumber}
use Rattle.constriction_commands.specs.Lines.{numbers_of}
use Rattle.constriction_commands.proofs.TextLines.{after_list, at_bad_line, some_left}
use Rattle.constriction_commands.proofs.input.parse_lines.Goals as goal

-- the fault that was passed on
passed : {T : Type 0} (answer : Result T Fault) (fault named : Fault) → IsErrAnd answer (λ error. error ≡ fault) → answer ≡ Err named → fault ≡ named
passed (Ok x) fault named is e = absurd is
passed (Err error) fault named is e = cc

pub returns-in_err-parse_numbers-clause-bad : goal.returns-in_err-parse_numbers-clause-bad
returns-in_err-parse_numbers-clause-bad g c = λ bad.
    let greatest = g.N.Number.GREATEST in
    let lists = map (λ list. map g.N.Number.number list.items) c.loop-rest.lists.items in
    let some : 0 < length c.loop-rest.rest.now = some_left _ c.loop-rest-test.ensures in
    let none = c.in_err-parse_numbers.ensures.bad (ap Err (passed _ c.in_err-parse_numbers.field-0.0 BadNumber c.from_residual.ensures.1 bad)) in
    at_bad_line greatest c.loop-rest.rest.now lists _ some (ap (numbers_of greatest) (sym c.split_line.ensures.first) ∙ none) c.loop-rest.invariant

pub loop-rest-preserved : goal.loop-rest-preserved
loop-rest-preserved g c =
    let greatest = g.N.Number.GREATEST in
    let items = map (λ list. map g.N.Number.number list.items) in
    let some : 0 < length c.loop-rest.rest.now = some_left _ c.loop-rest-test.ensures in
    after_list greatest c.loop-rest.rest.now c.split_line.result.1.now (map g.N.Number.number c.in_ok-parse_numbers.field-0.items) (items c.loop-rest.lists.items) (items c.push.new.self.items) _ some c.split_line.ensures.rest
    (ap (numbers_of greatest) (sym c.split_line.ensures.first) ∙ c.in_ok-parse_numbers.ensures.ok)
    (ap items c.in_ok-push.ensures.items ∙ map-append _ c.loop-rest.lists.items (c.in_ok-parse_numbers.field-0 ∷ []))
    c.loop-rest.invariant
