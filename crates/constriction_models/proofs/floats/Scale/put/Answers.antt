use Rattle.std.proofs.Common.{◌<◌, length, ◌∙◌, arith}
use Rattle.constriction_models.specs.Floats.{float_count, binary_length, units}
use Rattle.constriction_models.proofs.Floating.{reaches_most, counts_are, put_all}
use Rattle.constriction_models.proofs.floats.Scale.put.Goals as goal

pub count-requires : goal.count-requires
count-requires c =
    let inside : c.loop-i.i < length c.args.floats.now = omega arith in
    reaches_most c.args.floats.now c.args.self.now.most c.loop-i.i c.requires.most inside

pub returns : goal.returns
returns c =
    let s = c.args.self.now in
    put_all (float_count (binary_length 2098 (units s.most)) s.bits) c.args.floats.now c.loop-i.counts c.loop-i.i (omega arith) (omega arith) c.loop-i.invariant.done
    ∙ counts_are c.args.floats.now s.most s.bits c.requires.most
