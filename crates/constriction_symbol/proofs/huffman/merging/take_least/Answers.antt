use Rattle.std.proofs.Common.{◌<◌, arith}
use Rattle.constriction_symbol.specs.Merging.{key_of}
use Rattle.constriction_symbol.proofs.TwoQueues.{leaf_below_union, leaf_goes, leaf_without_unions, union_below_leaf, union_goes, union_moves, union_without_leaves}
use Rattle.constriction_symbol.proofs.huffman.merging.take_least.Goals as goal

pub returns-in_default-clause-queues : goal.returns-in_default-clause-queues
returns-in_default-clause-queues g c = union_goes (key_of g.P.Natural.number) _ _ _ c.pop_front.result c.pop_front.ensures.items

pub returns-in_default-clause-least : goal.returns-in_default-clause-least
returns-in_default-clause-least g c = union_without_leaves (key_of g.P.Natural.number) _ _ _ c.pop_front.result c.in_default.ensures.item.3 c.pop_front.ensures.items c.requires

pub returns-in_default-front-clause-queues : goal.returns-in_default-front-clause-queues
returns-in_default-front-clause-queues g c = leaf_goes (key_of g.P.Natural.number) _ _ _ c.pop_front-in_default-front.result c.pop_front-in_default-front.ensures.items

pub returns-in_default-front-clause-least : goal.returns-in_default-front-clause-least
returns-in_default-front-clause-least g c = leaf_without_unions (key_of g.P.Natural.number) _ _ _ c.pop_front-in_default-front.result c.in_default-front.ensures.item.3 c.pop_front-in_default-front.ensures.items c.requires

pub returns-then-is_below-clause-queues : goal.returns-then-is_below-clause-queues
returns-then-is_below-clause-queues g c = union_goes (key_of g.P.Natural.number) _ _ _ c.pop_front-then-is_below.result c.pop_front-then-is_below.ensures.items

pub returns-then-is_below-clause-rest : goal.returns-then-is_below-clause-rest
returns-then-is_below-clause-rest g c = union_moves (key_of g.P.Natural.number) _ _ _ c.pop_front-then-is_below.result c.pop_front-then-is_below.ensures.items

pub returns-then-is_below-clause-least : goal.returns-then-is_below-clause-least
returns-then-is_below-clause-least g c =
    union_below_leaf (key_of g.P.Natural.number) _ _ _ c.pop_front-then-is_below.result c.in-Some.leaf.now c.in-Some-front.union.now c.in-Some.ensures.item.3.0 c.in-Some.ensures.lookup c.in-Some-front.ensures.lookup (c.is_below.ensures.0 c.if-is_below.true) c.pop_front-then-is_below.ensures.items c.requires

pub returns-else-is_below-clause-queues : goal.returns-else-is_below-clause-queues
returns-else-is_below-clause-queues g c = leaf_goes (key_of g.P.Natural.number) _ _ _ c.pop_front-else-is_below.result c.pop_front-else-is_below.ensures.items

pub returns-else-is_below-clause-least : goal.returns-else-is_below-clause-least
returns-else-is_below-clause-least g c =
    let n = g.P.Natural.number in
    let above : n c.in-Some-front.union.now.weight < n c.in-Some.leaf.now.weight → ⊥ = λ less. let is = c.is_below.ensures.1 less in let no = c.if-is_below.false in cc in
    leaf_below_union (key_of g.P.Natural.number) _ _ _ c.pop_front-else-is_below.result c.in-Some.leaf.now c.in-Some-front.union.now c.in-Some-front.ensures.item.3.0 c.in-Some.ensures.lookup c.in-Some-front.ensures.lookup (omega (arith, above)) c.pop_front-else-is_below.ensures.items c.requires
