use Rattle.std.proofs.Common.{◌≡◌, ◌+◌, ◌++◌, ◌∷◌, [], ℕ, All, map, arith, ap, subst, sym, length, length-append, append-nil, IsPermutation, ◌∙◌}
use Rattle.std.proofs.lemmas.List.{length-map, map_push}
use Rattle.std.proofs.lemmas.List.Sums.{sum-map}
use Rattle.constriction_symbol.specs.Huffman.{keys_from}
use Rattle.constriction_symbol.specs.Merging.{as_pair, key_of, keys_of}
use Rattle.constriction_symbol.specs.Queues.{AreQueues}
use Rattle.constriction_symbol.proofs.TwoQueues.{IsInTurn, queues_start, queues_step, union_put}
use Rattle.constriction_symbol.proofs.HuffmanMerging.{Merging, merging_start, merging_step, merging_done, merging_fits, merging_count, merging_some}
use Rattle.constriction_symbol.proofs.huffman.merging.merge_all.Goals as goal

pub plus-requires : goal.plus-requires
plus-requires g c =
    let fits = merging_fits _ _ _ _ _ _ _ c.loop-lesser.invariant.merging c.in-Some.ensures.rest c.in-Some-take_least.ensures.rest in
    omega (arith, fits, sum-map g.P.Natural.number c.args.weights.now, c.requires.total)

pub loop-lesser-init : goal.loop-lesser-init
loop-lesser-init g c =
    let number = g.P.Natural.number in
    let weights = map number c.args.weights.now in
    let n = length-map c.args.weights.now number in
    let leaves = keys_of number c.in_ok-leaves.leaves.items in
    let none = c.in_ok-pairs.ensures.items in
    let no_unions : [] ≡ keys_of number c.in_ok-unions.unions.items = sym (ap (keys_of number) c.in_ok-unions.ensures.items) in
    let start = queues_start (length c.args.weights.now) weights leaves n c.in_ok-leaves.ensures.items c.in_ok-leaves.ensures.rising in
    let all : IsPermutation (keys_from 0 weights) (leaves ++ []) = subst (IsPermutation (keys_from 0 weights)) (sym (append-nil leaves)) c.in_ok-leaves.ensures.items in
    record {
      count = rw none (omega arith);
      queues = subst (λ us. AreQueues (length c.args.weights.now) leaves us) no_unions start.0;
      turn = (0, subst (λ us. All (IsInTurn (length c.args.weights.now) (length c.args.weights.now) 0) (leaves ++ us)) no_unions start.1);
      merging = rw none (subst (λ us. Merging weights (leaves ++ us) []) no_unions (merging_start weights (leaves ++ []) (omega (arith, n, c.requires.some)) all));
    }

pub take_least-requires-in-Some : goal.take_least-requires-in-Some
take_least-requires-in-Some g c = (length c.args.weights.now, c.in-Some.ensures.queues _ c.loop-lesser.invariant.queues)

pub overflow_add-next : goal.overflow_add-next
overflow_add-next g c =
    let count = merging_count _ _ _ c.loop-lesser.invariant.merging in
    let n = length-map c.args.weights.now g.P.Natural.number in
    let m = length-map c.loop-lesser.pairs.items as_pair in
    record { fits = omega (arith, c.loop-lesser.invariant.count, count, n, m, c.requires.fits) }

pub loop-lesser-preserved : goal.loop-lesser-preserved
loop-lesser-preserved g c =
    let number = g.P.Natural.number in
    let symbols = length c.args.weights.now in
    let next = c.loop-lesser.next in
    let both : ℕ × ℕ = (c.in-Some.lesser.index, c.in-Some-take_least.other.index) in
    let a : ℕ × ℕ = key_of number c.in-Some.lesser in
    let b : ℕ × ℕ = key_of number c.in-Some-take_least.other in
    let leaves = keys_of number c.take_least-in-Some.new.leaves.items in
    let unions = keys_of number c.take_least-in-Some.new.unions.items in
    let invariant = c.loop-lesser.invariant in
    let n = length-map c.args.weights.now number in
    let m = length-map c.loop-lesser.pairs.items as_pair in
    let index : next ≡ length (map number c.args.weights.now) + length (map as_pair c.loop-lesser.pairs.items) = omega (arith, n, m, invariant.count) in
    let put : keys_of number c.push_back.new.self.items ≡ unions ++ (a.0 + b.0, next) ∷ [] =
    ap (keys_of number) c.in_ok-push_back.ensures.items ∙ (map_push (key_of number) c.take_least-in-Some.new.unions.items _ ∙ ap (λ w. unions ++ (w, next) ∷ []) c.plus.ensures) in
    let pushed : map as_pair c.push.new.self.items ≡ map as_pair c.loop-lesser.pairs.items ++ both ∷ [] = ap (map as_pair) c.in_ok-push.ensures.items ∙ map_push as_pair c.loop-lesser.pairs.items _ in
    let queues = c.in-Some-take_least.ensures.queues symbols (c.in-Some.ensures.queues symbols invariant.queues) in
    let step = queues_step symbols next invariant.turn.0 _ _ leaves unions a b (omega (arith, invariant.count)) invariant.turn.1 c.in-Some.ensures.rest c.in-Some.ensures.least c.in-Some-take_least.ensures.rest c.in-Some-take_least.ensures.least queues in
    let moved = subst (λ k. IsPermutation ((a.0 + b.0, k) ∷ (leaves ++ unions)) (leaves ++ (unions ++ (a.0 + b.0, next) ∷ []))) index (union_put leaves unions (a.0 + b.0, next)) in
    let merging = merging_step _ _ _ _ _ _ a b invariant.merging c.in-Some.ensures.rest c.in-Some.ensures.least c.in-Some-take_least.ensures.rest c.in-Some-take_least.ensures.least moved in
    record {
      count = omega (arith, invariant.count, ap length c.in_ok-push.ensures.items, length-append c.loop-lesser.pairs.items ((c.in-Some.lesser.index ∷ c.in-Some-take_least.other.index ∷ []) ∷ []));
      queues = subst (λ us. AreQueues symbols leaves us) (sym put) step.0;
      turn = (b.0, subst (λ us. All (IsInTurn symbols (next + 1) b.0) (leaves ++ us)) (sym put) step.1);
      merging = rw pushed (subst (λ us. Merging (map number c.args.weights.now) (leaves ++ us) (map as_pair c.loop-lesser.pairs.items ++ both ∷ [])) (sym put) merging);
    }

pub returns-in_default-take_least : goal.returns-in_default-take_least
returns-in_default-take_least g c =
    let number = g.P.Natural.number in
    let first = c.in-Some.ensures.count in
    let none = c.in_default-take_least.ensures.none in
    let leaves_ok = c.loop-lesser.leaves.ok in
    let unions_ok = c.loop-lesser.unions.ok in
    let leaves = keys_of number c.loop-lesser.leaves.items in
    let unions = keys_of number c.loop-lesser.unions.items in
    let one : length (leaves ++ unions) ≡ 1 =
    omega (arith, length-append leaves unions, length-map c.loop-lesser.leaves.items (key_of number), length-map c.loop-lesser.unions.items (key_of number), first, none) in
    merging_done _ _ _ c.loop-lesser.invariant.merging one

pub returns : goal.returns
returns g c =
    let number = g.P.Natural.number in
    let some = merging_some _ _ _ c.loop-lesser.invariant.merging in
    let none = c.in_default.ensures.none in
    let leaves_ok = c.loop-lesser.leaves.ok in
    let unions_ok = c.loop-lesser.unions.ok in
    let leaves = keys_of number c.loop-lesser.leaves.items in
    let unions = keys_of number c.loop-lesser.unions.items in
    absurd (omega (arith, some, none, length-append leaves unions, length-map c.loop-lesser.leaves.items (key_of number), length-map c.loop-lesser.unions.items (key_of number)))
