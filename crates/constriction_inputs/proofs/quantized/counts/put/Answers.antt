use Rattle.std.proofs.Common.{◌≡◌, ◌∙◌, ℕ, ◌+◌, ◌<◌, ◌^◌, ◌%◌, List, [], ◌∷◌, ◌++◌, length, get_or, map, take, set, sym, ap, arith, rules, mod-eq_of_lt}
use Rattle.std.proofs.lemmas.List.{map_push, take_more, take_more_set}
use Rattle.constriction_inputs.proofs.quantized.counts.put.Goals as goal

more : {P : Type 0} (number : P → ℕ) (ws : List P) (ns : List ℕ) (i : ℕ) (w : P) → i < length ws → i < length ns → number w ≡ get_or ns i 0
    → map number (take i ws) ≡ take i ns → map number (take (i + 1) (set ws i w)) ≡ take (i + 1) ns
more number ws ns i w within within' is before =
    ap (map number) (take_more_set ws i w within) ∙ map_push number (take i ws) w
    ∙ (ap (λ (xs : List ℕ). xs ++ number w ∷ []) before ∙ (ap (λ (n : ℕ). take i ns ++ n ∷ []) is ∙ sym (take_more ns i 0 within')))

pub loop-i-preserved : goal.loop-i-preserved
loop-i-preserved g c =
    let within : c.loop-i.i < length c.args.made.now = omega arith in
    let fits : get_or c.args.made.now c.loop-i.i 0 < 2 ^ g.P.Natural.BITS = c.requires.fit c.loop-i.i within in
    let low : get_or c.args.made.now c.loop-i.i 0 < 4294967296 = omega (arith, c.type_inv.made c.loop-i.i) in
    record {
      done = more g.P.Natural.number c.loop-i.weights c.args.made.now c.loop-i.i c.narrow.result (omega arith) within (c.narrow.ensures ∙ ap (λ (n : ℕ). n % 2 ^ g.P.Natural.BITS) (mod-eq_of_lt low) ∙ mod-eq_of_lt fits) c.loop-i.invariant.done;
      counted = search rules;
    }
