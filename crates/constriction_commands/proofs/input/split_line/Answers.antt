use Rattle.std.proofs.Common.{◌≡◌, ℕ, ◌+◌, ◌-◌, ◌≤◌, cond, Bool, true, false, Option, Some, None, List, length, length-drop, take, drop, sym, ◌∙◌, ap, refl, arith, rules, tests}
use Rattle.std.specs.List.{position_or_len}
use Rattle.std.proofs.lemmas.Bool.{ltb-false}
use Rattle.std.proofs.lemmas.List.{take_all, drop_all}
use Rattle.std.proofs.lemmas.Iterator.{YieldsList-from_slice}
use Rattle.std.proofs.lemmas.Iterator.Search.{position_from_yields_List}
use Rattle.constriction_commands.specs.Lines.{is_line_feed}
use Rattle.constriction_commands.proofs.input.split_line.Goals as goal

-- a place that was found is the first
found : (test : Bool) (place end : ℕ) (r : Option ℕ) → r ≡ cond test (Some place) None → r ≡ Some end → end ≡ place
found true place end r e is = cc
found false place end r e is = cc

-- where no place was found, the test failed
none : (test : Bool) (place : ℕ) (r : Option ℕ) → r ≡ cond test (Some place) None → r ≡ None → test ≡ false
none true place r e is = cc
none false place r e is = refl

-- the rest of a list behind a place
rest : (text : List ℕ) (end place : ℕ) → end ≡ place → take (length text - (end + 1)) (drop (end + 1) text) ≡ drop (place + 1) text
rest text end place is = take_all (length text - (end + 1)) (drop (end + 1) text) (omega (arith, length-drop (end + 1) text)) ∙ ap (λ (n : ℕ). drop (n + 1) text) is

pub returns-in-Some-clause-first : goal.returns-in-Some-clause-first
returns-in-Some-clause-first c =
    let at = position_from_yields_List is_line_feed _ _ c.position.result c.position.ensures.ran (YieldsList-from_slice c.args.text.now cc) (λ x b q k. search (rules, tests)) in
    ap (λ (n : ℕ). take n c.args.text.now) (found _ _ _ c.position.result at c.in-Some.is)

pub returns-in-Some-clause-rest : goal.returns-in-Some-clause-rest
returns-in-Some-clause-rest c =
    let at = position_from_yields_List is_line_feed _ _ c.position.result c.position.ensures.ran (YieldsList-from_slice c.args.text.now cc) (λ x b q k. search (rules, tests)) in
    rest c.args.text.now c.in-Some.end _ (found _ _ _ c.position.result at c.in-Some.is)

pub returns-in-None-clause-first : goal.returns-in-None-clause-first
returns-in-None-clause-first c =
    let at = position_from_yields_List is_line_feed _ _ c.position.result c.position.ensures.ran (YieldsList-from_slice c.args.text.now cc) (λ x b q k. search (rules, tests)) in
    let past = ltb-false _ _ (none _ _ c.position.result at c.in-None.is) in
    sym (take_all (position_or_len is_line_feed c.args.text.now) c.args.text.now past)

pub returns-in-None-clause-rest : goal.returns-in-None-clause-rest
returns-in-None-clause-rest c =
    let at = position_from_yields_List is_line_feed _ _ c.position.result c.position.ensures.ran (YieldsList-from_slice c.args.text.now cc) (λ x b q k. search (rules, tests)) in
    let past : length c.args.text.now ≤ position_or_len is_line_feed c.args.text.now = ltb-false _ _ (none _ _ c.position.result at c.in-None.is) in
    sym (drop_all (position_or_len is_line_feed c.args.text.now + 1) c.args.text.now (omega arith))
