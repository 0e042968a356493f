use Rattle.std.proofs.Common.{◌-◌, false, replicate}
use Rattle.constriction_symbol.proofs.GolombLemmas.{emits_then, emits_stopped, golomb_reversed, golomb_once}
use Rattle.constriction_symbol.proofs.exp_golomb.emit_reversed_number.Goals as goal

pub returns-then-length-BITS : goal.returns-then-length-BITS
returns-then-length-BITS g c =
    let is = golomb_once _ _ c.requires.some c.bit_length-length.ensures.below c.bit_length-length.ensures.least in
    rw is c.emit_up.ensures.emits

pub returns-in-Err : goal.returns-in-Err
returns-in-Err g c =
    let is = golomb_reversed _ _ c.requires.some c.bit_length-length.ensures.below c.bit_length-length.ensures.least in
    rw is (emits_stopped g.F.FnMut c.args.emit.now _ _ (replicate (c.bit_length-length.result - 1) false) _ c.in-Err.ensures.emits)

pub returns : goal.returns
returns g c =
    let is = golomb_reversed _ _ c.requires.some c.bit_length-length.ensures.below c.bit_length-length.ensures.least in
    rw is (emits_then g.F.FnMut c.args.emit.now c.emit_up-2.new.emit _ _ _ _ c.in-Ok.ensures.emits c.emit_zeros.ensures.emits)
