use Rattle.std.proofs.Common.{◌≡◌, ◌++◌, ◌∷◌, [], IsPermutation, map, take, take_all, ap, sym, subst, arith, ◌∙◌}
use Rattle.std.proofs.lemmas.List.{map_push}
use Rattle.std.proofs.lemmas.List.Sorted.{IsPermutation-map}
use Rattle.constriction_symbol.specs.Huffman.{keys_from}
use Rattle.constriction_symbol.specs.Merging.{key_of, keys_of}
use Rattle.constriction_symbol.specs.Queues.{AreRising}
use Rattle.constriction_symbol.proofs.Merged.{keys_step, rising_from_sorted}
use Rattle.constriction_symbol.proofs.huffman.merging.sorted_leaves.Goals as goal

pub loop-index-preserved : goal.loop-index-preserved
loop-index-preserved g c =
    let n = g.P.Natural.number in
    let i = c.loop-index.index in
    let front = keys_from 0 (map n (take i c.args.weights.now)) in
    let pushed = ap (keys_of n) c.in_ok-push.ensures.items ∙ map_push (key_of n) c.loop-index.leaves.items _ in
    let step = keys_step n c.args.weights.now i c.index-weights-index.result c.loop-index-test.true in
    pushed ∙ (ap (λ ks. ks ++ (n c.index-weights-index.result, i) ∷ []) c.loop-index.invariant ∙ (ap (λ w. front ++ (n w, i) ∷ []) c.index-weights-index.is ∙ sym step))

pub returns-clause-rising : goal.returns-clause-rising
returns-clause-rising g c =
    let n = g.P.Natural.number in
    subst (λ xs. AreRising (keys_of n xs)) (sym c.from_vec.ensures.items) (rising_from_sorted n _ c.sort_unstable.ensures.sorted)

pub returns-clause-items : goal.returns-clause-items
returns-clause-items g c =
    let n = g.P.Natural.number in
    let all : take c.loop-index.index c.args.weights.now ≡ c.args.weights.now = take_all c.loop-index.index c.args.weights.now (omega (arith, c.loop-index-test.false)) in
    let before : keys_of n c.loop-index.leaves.items ≡ keys_from 0 (map n c.args.weights.now) = c.loop-index.invariant ∙ ap (λ ws. keys_from 0 (map n ws)) all in
    let sorted = IsPermutation-map (key_of n) _ _ c.sort_unstable.ensures.permutation in
    subst (λ xs. IsPermutation (keys_from 0 (map n c.args.weights.now)) (keys_of n xs)) (sym c.from_vec.ensures.items) (subst (λ ks. IsPermutation ks (keys_of n c.sort_unstable.new.self.items)) before sorted)
