use Rattle.std.specs.Prelude.{◌+◌, ◌≤◌, length}
use Rattle.std.proofs.Common.{arith}
use Rattle.std.proofs.lemmas.Grind.{common_steps}
use Rattle.constriction_models.proofs.Dividing.{AreBetween, are_between, all_long, none_reach, divider_in, divider_among_all, divider_of_nothing}
use Rattle.constriction_models.proofs.counts.Share.find_divider.Goals as goal

pub returns-then-left-eq0 : goal.returns-then-left-eq0
returns-then-left-eq0 c =
    let d = divider_of_nothing c.args.overs.now c.args.self.now.rest c.args.left c.args.self.now.some c.requires.below c.if-left-eq0.true in
    record { divides = d.separates; tie = d.tied }

pub returns-then-left-near-clause-divides : goal.returns-then-left-near-clause-divides
returns-then-left-near-clause-divides c =
    let s = c.args.self.now in
    let b = c.range-low.ensures in
    let near = c.in_ok-near.near in
    let are : AreBetween c.range-low.result.0 c.range-low.result.1 c.args.overs.now near.measures.items = are_between c.args.overs.now near.measures.items c.range-low.result.0 c.range-low.result.1 near.above c.in_ok-near.ensures.above c.in_ok-near.ensures.count c.in_ok-near.ensures.parts in
    let long : c.args.left ≤ near.above + length near.measures.items = grind (arith, common_steps) in
    let d = divider_in c.args.overs.now near.measures.items s.rest c.range-low.result.0 c.range-low.result.1 c.args.left near.above c.divider.result.least c.divider.result.ties b.0 b.1 b.2 are c.in_ok-near.ensures.above c.if-near-left.true long c.divider.ensures.enough c.divider.ensures.tied c.divider.ensures.tie in
    d.separates

pub returns-then-left-near-clause-tie : goal.returns-then-left-near-clause-tie
returns-then-left-near-clause-tie c =
    let s = c.args.self.now in
    let b = c.range-low.ensures in
    let near = c.in_ok-near.near in
    let are : AreBetween c.range-low.result.0 c.range-low.result.1 c.args.overs.now near.measures.items = are_between c.args.overs.now near.measures.items c.range-low.result.0 c.range-low.result.1 near.above c.in_ok-near.ensures.above c.in_ok-near.ensures.count c.in_ok-near.ensures.parts in
    let long : c.args.left ≤ near.above + length near.measures.items = grind (arith, common_steps) in
    let d = divider_in c.args.overs.now near.measures.items s.rest c.range-low.result.0 c.range-low.result.1 c.args.left near.above c.divider.result.least c.divider.result.ties b.0 b.1 b.2 are c.in_ok-near.ensures.above c.if-near-left.true long c.divider.ensures.enough c.divider.ensures.tied c.divider.ensures.tie in
    d.tied

pub divider-requires-2-clause-above : goal.divider-requires-2-clause-above
divider-requires-2-clause-above c =
    omega (arith, c.in_ok-all.ensures.above, none_reach c.args.self.now.rest c.args.overs.now c.requires.below, c.if-left-eq0.false)

pub divider-requires-2-clause-enough : goal.divider-requires-2-clause-enough
divider-requires-2-clause-enough c =
    let s = c.args.self.now in
    let all = c.in_ok-all.all in
    let are : AreBetween 1 s.rest c.args.overs.now all.measures.items = are_between c.args.overs.now all.measures.items 1 s.rest all.above c.in_ok-all.ensures.above c.in_ok-all.ensures.count c.in_ok-all.ensures.parts in
    omega (arith, all_long c.args.overs.now all.measures.items s.rest c.args.left s.some c.requires.below c.requires.enough are)

pub returns-clause-divides : goal.returns-clause-divides
returns-clause-divides c =
    let s = c.args.self.now in
    let all = c.in_ok-all.all in
    let are : AreBetween 1 s.rest c.args.overs.now all.measures.items = are_between c.args.overs.now all.measures.items 1 s.rest all.above c.in_ok-all.ensures.above c.in_ok-all.ensures.count c.in_ok-all.ensures.parts in
    let d = divider_among_all c.args.overs.now all.measures.items s.rest c.args.left all.above c.divider-2.result.least c.divider-2.result.ties s.some c.requires.below (omega (arith, c.if-left-eq0.false)) c.requires.enough are c.in_ok-all.ensures.above c.divider-2.ensures.enough c.divider-2.ensures.tied c.divider-2.ensures.tie in
    d.separates

pub returns-clause-tie : goal.returns-clause-tie
returns-clause-tie c =
    let s = c.args.self.now in
    let all = c.in_ok-all.all in
    let are : AreBetween 1 s.rest c.args.overs.now all.measures.items = are_between c.args.overs.now all.measures.items 1 s.rest all.above c.in_ok-all.ensures.above c.in_ok-all.ensures.count c.in_ok-all.ensures.parts in
    let d = divider_among_all c.args.overs.now all.measures.items s.rest c.args.left all.above c.divider-2.result.least c.divider-2.result.ties s.some c.requires.below (omega (arith, c.if-left-eq0.false)) c.requires.enough are c.in_ok-all.ensures.above c.divider-2.ensures.enough c.divider-2.ensures.tied c.divider-2.ensures.tie in
    d.tied
