use Rattle.std.proofs.Common.{rules, arith, refl, pow_pos, ◌<◌, ◌-◌}
use Rattle.constriction_chain.proofs.Chains.{coder_of}
use Rattle.constriction_chain.proofs.Moving.{digits_begin}
use Rattle.constriction_chain.proofs.coder.words.ChainCoder+Word+State+C+Vec+Word+PRECISION.from_compressed.Goals as goal

pub returns-in-Ok-Some-clause-ok : goal.returns-in-Ok-Some-clause-ok
returns-in-Ok-Some-clause-ok g c =
    let found = rw c.in-Ok-Some.field-0-is at c.in-Ok-Some.ensures.ok in
    let window = rw c.in-Ok-Some.field-0-is at c.in-Ok-Some.ensures.window in
    let some : 0 < g.State.Natural.number c.in-Ok-Some.r = omega (arith, window.from, pow_pos (g.State.Natural.BITS - g.Word.Natural.BITS - g.row.PRECISION)) in
    rw (c.of.ensures, c.unit.ensures) (refl, search rules, λ list. digits_begin g.Word.Natural.number g.C.Holds g.C.ReadWords _ _ _ _ c.requires.sizes.some_bits g.met.Word.Natural.number_law some found list)

pub returns-in-Ok-Some-clause-reads : goal.returns-in-Ok-Some-clause-reads
returns-in-Ok-Some-clause-reads g c =
    let found = rw c.in-Ok-Some.field-0-is at c.in-Ok-Some.ensures.ok in
    rw c.of.ensures found

pub returns-in-Ok-Some-clause-coder : goal.returns-in-Ok-Some-clause-coder
returns-in-Ok-Some-clause-coder g c =
    let law = g.met.Word.Natural.number_law in
    let window = rw c.in-Ok-Some.field-0-is at c.in-Ok-Some.ensures.window in
    rw c.of.ensures (coder_of _ _ _ g.Word.Natural.number law _ _ _ _ _ _ c.requires (rw c.unit.ensures (omega arith)) (law _) window)

pub returns-in-Ok-None-clause-err : goal.returns-in-Ok-None-clause-err
returns-in-Ok-None-clause-err g c = rw c.in-Ok-None.field-0-is at c.in-Ok-None.ensures.none

pub returns-in-Err-clause-err : goal.returns-in-Err-clause-err
returns-in-Err-clause-err g c = c.in-Err.ensures.err
