use Rattle.std.proofs.Common.{◌≡◌, ◌++◌, length, map, take, ◌∙◌, ap, arith}
use Rattle.std.proofs.lemmas.List.{length-map, length-take-le}
use Rattle.constriction_commands.proofs.Writing.{text-more, written-more, written-first}
use Rattle.constriction_commands.proofs.output.push_numbers.Goals as goal
use Rattle.constriction_commands.proofs.output.push_numbers.Goals.{then-place-gt0+in_ok-push, else-place-gt0}

pub loop-place-preserved : goal.loop-place-preserved
loop-place-preserved g c =
    let text = g.I.Integer.text in
    let numbers = c.args.numbers.now in
    let place = c.loop-place.place in
    let texts = map text (take place numbers) in
    let more = text-more text numbers place c.index-numbers-place.result c.loop-place-test.true c.index-numbers-place.is in
    let written = c.in_ok-extend_from_slice.ensures.items in
    let shown : c.as_bytes.result.now ≡ text c.index-numbers-place.result = cc in
    elim c.if-place-gt0.branch [
      | then-place-gt0+in_ok-push w ↦
          let count : length texts ≡ place = length-map (take place numbers) text ∙ length-take-le place numbers (omega arith) in
          written-more c.args.out.now.items c.loop-place.out.items c.if-place-gt0.out.items c.extend_from_slice.new.self.items (text c.index-numbers-place.result) texts _ (omega (arith, count, w.if-place-gt0.true)) c.loop-place.invariant (ap (λ v. v.items) w.out-is ∙ w.in_ok-push.ensures.items) (written ∙ ap (λ t. c.if-place-gt0.out.items ++ t) shown) more
      | else-place-gt0 w ↦
          let none : place ≡ 0 = omega (arith, w.if-place-gt0.false) in
          written-first c.args.out.now.items c.loop-place.out.items c.extend_from_slice.new.self.items (text c.index-numbers-place.result) texts _ (ap (λ n. map text (take n numbers)) none) c.loop-place.invariant (written ∙ ap (λ t. c.if-place-gt0.out.items ++ t) shown ∙ ap (λ v. v.items ++ text c.index-numbers-place.result) w.out-is) more
    ]
