use Rattle.std.proofs.Common.{◌≡◌, ◌<◌, length, ap, ◌∙◌, get_or, ℕ, arith, rules}
use Rattle.constriction_models.specs.Floats.{float_count, weight_count, binary_length, units}
use Rattle.constriction_models.proofs.Floating.{reaches_most, weight_count_is, weight_counts_are, put_more, put_all}
use Rattle.constriction_models.proofs.floats.Scale.put_all_above_0.Goals as goal

pub count-requires : goal.count-requires
count-requires c =
    let inside : c.loop-i.i < length c.args.floats.now = omega arith in
    reaches_most c.args.floats.now c.args.self.now.most c.loop-i.i c.requires.most inside

pub loop-i-preserved : goal.loop-i-preserved
loop-i-preserved c =
    let s = c.args.self.now in
    let xs = c.args.floats.now in
    let i : ℕ = c.loop-i.i in
    let inside : i < length xs = omega arith in
    let count : c.count.result ≡ float_count (binary_length 2098 (units s.most)) 62 (get_or xs i 0) = c.count.ensures.count ∙ ap (λ (b : ℕ). float_count (binary_length 2098 (units s.most)) b (get_or xs i 0)) c.requires.bits in
    record {
      done = put_more (weight_count (binary_length 2098 (units s.most))) xs c.loop-i.counts i c.max.result inside (omega arith) (weight_count_is _ _ c.count.result c.max.result count c.max.ensures) c.loop-i.invariant.done;
      counted = search rules;
    }

pub returns : goal.returns
returns c =
    let s = c.args.self.now in
    put_all (weight_count (binary_length 2098 (units s.most))) c.args.floats.now c.loop-i.counts c.loop-i.i (omega arith) (omega arith) c.loop-i.invariant.done
    ∙ weight_counts_are c.args.floats.now s.most c.requires.most
