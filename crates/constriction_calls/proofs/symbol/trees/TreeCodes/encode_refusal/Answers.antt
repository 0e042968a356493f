use Rattle.std.proofs.Common.{◌<◌, All, arith, inl, inr, map, refl, subst}
use Rattle.std.proofs.lemmas.List.{length-map}
use Rattle.constriction_symbol.specs.Huffman.{huffman}
use Rattle.constriction_symbol.proofs.TreeCodewords.{known_symbol}
use Rattle.constriction_calls.proofs.SymbolLists.{all_have}
use Rattle.constriction_calls.proofs.SymbolTrees.{below_have}
use Rattle.constriction_calls.proofs.symbol.trees.TreeCodes.encode_refusal.Goals as goal

pub returns-then-are_below : goal.returns-then-are_below
returns-then-are_below g c =
    let weights = map g.P.Natural.number c.args.self.now.weights.now in
    let long = length-map c.args.self.now.weights.now g.P.Natural.number in
    inr (c.make_tree.ensures.0 c.if-not-make_tree.false, inr (all_have (huffman weights) c.args.symbols.now (λ k d inside. known_symbol weights _ (omega (arith, (c.are_below.ensures.0 c.if-are_below.true) k d inside, long))), tt))

pub returns-else-are_below : goal.returns-else-are_below
returns-else-are_below g c =
    let weights = c.args.self.now.weights.now in
    inr (
      c.make_tree.ensures.0 c.if-not-make_tree.false,
      inl (
        λ have. (
            let below = subst (λ n. All (λ s. s < n) c.args.symbols.now) (length-map weights g.P.Natural.number) (below_have (map g.P.Natural.number weights) c.args.symbols.now have) in
            let is = c.are_below.ensures.1 below in
            let off = c.if-are_below.false in
            absurd cc
            ),
        refl,
      ),
    )
