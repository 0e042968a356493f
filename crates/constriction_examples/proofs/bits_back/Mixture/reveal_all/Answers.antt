use Rattle.std.proofs.Common.{[], ◌∷◌, length, reverse, ap, arith, refl}
use Rattle.std.proofs.lemmas.List.{length-append, length-reverse}
use Rattle.constriction.proofs.Trace.{Trace-back}
use Rattle.constriction_examples.specs.Hiding.{Hides}
use Rattle.constriction_examples.proofs.Runs.{revealed-more, revealed-all}
use Rattle.constriction_examples.proofs.bits_back.Mixture.reveal_all.Goals as goal

pub loop-init : goal.loop-init
loop-init c = record {
  counted = omega arith;
  revealed = λ hidden before count valid h. (reverse hidden, rw c.new-symbols.ensures.items refl, Trace-back (Hides c.args.self.now) hidden before c.args.coder.now.state h);
}

pub loop-preserved : goal.loop-preserved
loop-preserved c =
    let more = c.in_ok-push.ensures.items in
    let symbols = c.loop.symbols.items in
    record {
      counted = omega (arith, ap length more, length-append symbols (c.in_ok-reveal.field-0 ∷ []), c.loop.invariant.counted);
      revealed = λ hidden before count valid h.
          rw more (revealed-more c.args.self.now (reverse hidden) symbols c.in_ok-reveal.field-0 before c.loop.coder.state c.reveal.new.coder.state
          (omega (arith, count, length-reverse hidden, c.loop.invariant.counted, c.loop-test.true)) valid (c.loop.invariant.revealed hidden before count valid h)
          c.in_ok-reveal.ensures.reveals);
    }

pub returns : goal.returns
returns c = record {
  reveals = λ hidden before count valid h.
      revealed-all c.args.self.now (reverse hidden) c.loop.symbols.items before c.loop.coder.state
      (omega (arith, count, length-reverse hidden, c.loop.invariant.counted, c.loop-test.false)) (c.loop.invariant.revealed hidden before count valid h);
}
