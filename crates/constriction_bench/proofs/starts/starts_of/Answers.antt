use Rattle.std.proofs.Common.{◌≡◌, ◌∙◌, ℕ, ◌+◌, ◌++◌, ◌∷◌, [], sym, arith}
use Rattle.std.proofs.lemmas.Grind.{common_steps}
use Rattle.std.proofs.lemmas.List.{get_or_push}
use Rattle.constriction_bench.proofs.Starting.{one_more}
use Rattle.constriction_bench.proofs.starts.starts_of.Goals as goal

pub loop-symbol-preserved : goal.loop-symbol-preserved
loop-symbol-preserved g c =
    let before = c.loop-symbol.invariant in
    let end : ℕ = c.loop-symbol.end + c.widen-p.result in
    let starts = c.loop-symbol.starts.items in
    let items : c.push-in-loop-symbol.new.self.items ≡ starts ++ end ∷ [] = grind (arith, common_steps) in
    let p : c.widen-p.result ≡ g.M.Probability.BitArray.nonzero_number c.in_ok-left.p = omega (arith, c.widen-p.ensures, c.widen-p.type_inv, c.from_nonzero.ensures) in
    let l : c.loop-symbol.end ≡ g.M.Probability.Natural.number c.in_ok-left.left = omega (arith, c.widen.ensures, c.widen.type_inv, c.if-widen-end.false) in
    let some = g.met.M.Probability.BitArray.nonzero_law c.in_ok-left.p in
    let room = before.0.within c.loop-symbol.symbol-counter (omega arith) in
    let more = one_more _ _ starts c.loop-symbol.symbol-counter _ _ end before.0 (g.M.EntropyModel.lawful c.args.model.now).distinct
    c.in_ok-left.ensures.found (sym l ∙ before.1) some (omega (arith, l, p)) (omega (arith, c.if-p-total.false, room, before.1, before.2)) in
    (rw items more, rw items (sym (get_or_push starts end 0 (c.loop-symbol.symbol-counter + 1) before.0.len)), before.2)
