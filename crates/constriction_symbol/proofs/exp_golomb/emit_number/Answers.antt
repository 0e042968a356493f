use Rattle.std.proofs.Common.{reverse}
use Rattle.constriction_symbol.specs.Bits.{bits_of}
use Rattle.constriction_symbol.proofs.GolombLemmas.{emits_then, emits_stopped, golomb_before, golomb_once_down}
use Rattle.constriction_symbol.proofs.exp_golomb.emit_number.Goals as goal

pub returns-then-length-BITS : goal.returns-then-length-BITS
returns-then-length-BITS g c =
    let is = golomb_once_down _ _ c.requires.some c.bit_length-length.ensures.below c.bit_length-length.ensures.least in
    rw is c.emit_down.ensures.emits

pub returns-in-Err : goal.returns-in-Err
returns-in-Err g c =
    let is = golomb_before _ _ c.requires.some c.bit_length-length.ensures.below c.bit_length-length.ensures.least in
    rw is (emits_stopped g.F.FnMut c.args.emit.now _ _ (reverse (bits_of c.bit_length-length.result (g.N.Natural.number c.args.after))) _ c.in-Err.ensures.emits)

pub returns : goal.returns
returns g c =
    let is = golomb_before _ _ c.requires.some c.bit_length-length.ensures.below c.bit_length-length.ensures.least in
    rw is (emits_then g.F.FnMut c.args.emit.now c.emit_zeros.new.emit _ _ _ _ c.in-Ok.ensures.emits c.emit_down-2.ensures.emits)
