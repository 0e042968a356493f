use Rattle.std.proofs.Common.{◌≡◌, ℕ, Some, unwrap_or, get_or, List, [], ◌∷◌, ◌++◌, map, sym, ◌∙◌, ap, arith}
use Rattle.std.proofs.lemmas.List.{map-append}
use Rattle.constriction_commands.specs.Lines.{with_digit}
use Rattle.constriction_commands.proofs.Reading.{read_on-numbers, before-none, with_digit-small, after_number, after_blank, after_digit, at_number, at_none}
use Rattle.constriction_commands.proofs.input.parse_numbers.Goals as goal
use Rattle.constriction_commands.proofs.input.parse_numbers.Goals.{then-is_blank+in-Some+in_ok-push, then-is_blank+in_default, else-is_blank+in-Some-with_digit, in-Some-begun+in_ok-push-2, in_default-begun}

pub loop-byte-init : goal.loop-byte-init
loop-byte-init g c = record {
  small = λ n is. cc;
  rest = rw c.new-numbers.ensures.items (before-none _ ∙ read_on-numbers g.N.Number.GREATEST c.args.line.now);
}

-- one more number is one more of the numbers seen
map-push : {X : Type 0} (number : X → ℕ) (old new : List X) (x : X) (n : ℕ) → new ≡ old ++ x ∷ [] → number x ≡ n → map number new ≡ map number old ++ n ∷ []
map-push number old new x n more is =
    ap (map number) more ∙ map-append number old (x ∷ []) ∙ ap (λ (m : ℕ). map number old ++ m ∷ []) is

pub loop-byte-preserved : goal.loop-byte-preserved
loop-byte-preserved g c =
    let number = g.N.Number.number in
    let greatest = g.N.Number.GREATEST in
    let items = c.loop-byte.numbers.items in
    let kept = c.loop-byte.invariant.rest in
    elim c.if-is_blank.branch [
      | then-is_blank+in-Some+in_ok-push w ↦ record {
        small = λ n is. cc;
        rest = after_number greatest w.in-Some.value c.args.line.now (map number items) _ _ c.loop-byte.byte-index c.loop-byte.begun _ c.loop-byte-test.true (sym c.is_blank.ensures ∙ w.if-is_blank.true) w.in-Some.is w.begun-is (map-push number items c.if-is_blank.numbers.items w.from_value.result w.in-Some.value (ap (λ v. v.items) w.numbers-is ∙ w.in_ok-push.ensures.items) w.from_value.ensures) kept;
      }
      | then-is_blank+in_default w ↦ record {
        small = λ n is. cc;
        rest = after_blank greatest c.args.line.now (map number items) _ _ c.loop-byte.byte-index c.loop-byte.begun _ c.loop-byte-test.true (sym c.is_blank.ensures ∙ w.if-is_blank.true) w.in_default.is w.begun-is (ap (λ v. map number v.items) w.numbers-is) kept;
      }
      | else-is_blank+in-Some-with_digit w ↦
          let digit : with_digit greatest (unwrap_or c.loop-byte.begun 0) (get_or c.args.line.now c.loop-byte.byte-index 0) ≡ Some w.in-Some-with_digit.value = cc in
          record {
            small = λ n is.
                let same : w.in-Some-with_digit.value ≡ n = cc in
                omega (arith, with_digit-small greatest (unwrap_or c.loop-byte.begun 0) (get_or c.args.line.now c.loop-byte.byte-index 0) w.in-Some-with_digit.value digit);
            rest = after_digit greatest w.in-Some-with_digit.value c.args.line.now (map number items) _ _ c.loop-byte.byte-index c.loop-byte.begun _ c.loop-byte-test.true (sym c.is_blank.ensures ∙ w.if-is_blank.false) digit w.begun-is (ap (λ v. map number v.items) w.numbers-is) kept;
          }
    ]

pub returns-clause-ok : goal.returns-clause-ok
returns-clause-ok g c =
    let number = g.N.Number.number in
    let greatest = g.N.Number.GREATEST in
    let items = c.loop-byte.numbers.items in
    let kept = c.loop-byte.invariant.rest in
    elim c.match-begun-2.branch [
      | in-Some-begun+in_ok-push-2 w ↦ at_number greatest w.in-Some-begun.value c.args.line.now (map number items) _ _ c.loop-byte.byte-index c.loop-byte.begun c.loop-byte-test.false w.in-Some-begun.is (map-push number items c.match-begun-2.numbers.items w.from_value-in-Some-begun.result w.in-Some-begun.value (ap (λ v. v.items) w.numbers-is ∙ w.in_ok-push-2.ensures.items) w.from_value-in-Some-begun.ensures) kept
      | in_default-begun w ↦ at_none greatest c.args.line.now (map number items) _ _ c.loop-byte.byte-index c.loop-byte.begun c.loop-byte-test.false w.in_default-begun.is (ap (λ v. map number v.items) w.numbers-is) kept
    ]
