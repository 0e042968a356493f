use Rattle.std.proofs.Common.{ℕ, ◌<◌, ◌≤◌, List, length, take, get_or, sym, refl, subst, arith}
use Rattle.std.proofs.lemmas.List.{take_more, take_all}
use Rattle.constriction.specs.Steps.{Trace}
use Rattle.constriction.proofs.Trace.{Trace-more}
use Rattle.constriction_examples.specs.Hiding.{Hides}
use Rattle.constriction_examples.proofs.bits_back.Mixture.hide_all.Goals as goal

pub loop-symbol-init : goal.loop-symbol-init
loop-symbol-init c = λ valid. (refl, valid)

pub loop-symbol-preserved : goal.loop-symbol-preserved
loop-symbol-preserved c = λ valid.
    let symbols : List ℕ = c.args.symbols.now in
    let i : ℕ = c.loop-symbol.symbol-index in
    let inside : i < length symbols = omega (arith, c.loop-symbol-test.true) in
    let before = c.loop-symbol.invariant valid in (
      subst (λ (hidden : List ℕ). Trace (Hides c.args.self.now) hidden c.args.coder.now.state c.hide.new.coder.state) (sym (take_more symbols i 0 inside))
          (Trace-more (Hides c.args.self.now) (take i symbols) (get_or symbols i 0) c.args.coder.now.state c.loop-symbol.coder.state c.hide.new.coder.state before.0 (c.in_ok-hide.ensures.hides before.1)),
      c.in_ok-hide.ensures.valid before.1,
    )

pub returns : goal.returns
returns c = record {
  hides = λ valid.
      let all : length c.args.symbols.now ≤ c.loop-symbol.symbol-index = omega (arith, c.loop-symbol-test.false) in
      subst (λ (symbols : List ℕ). Trace (Hides c.args.self.now) symbols c.args.coder.now.state c.loop-symbol.coder.state)
      (take_all c.loop-symbol.symbol-index c.args.symbols.now all) (c.loop-symbol.invariant valid).0;
}
