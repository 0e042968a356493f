use Rattle.std.proofs.Common.{◌≡◌, ◌<◌, ◌∷◌, [], ◌++◌, sym, arith, refl, length, length-append, List, Bool}
use Rattle.constriction_symbol.specs.GolombLaws.{number_push}
use Rattle.constriction_symbol.proofs.BitsGiven.{gives_then, stops_then, room_for_bit, room_after_bit}
use Rattle.constriction_symbol.proofs.taking.read_bits.Goals as goal

pub doubled-number-requires : goal.doubled-number-requires
doubled-number-requires g c = room_for_bit _ _ _ c.loop-left-test.true c.loop-left.invariant.fits

pub loop-left-init : goal.loop-left-init
loop-left-init g c = record {
  can = c.requires.can;
  finite = λ ends. ends;
  fits = c.requires.fits;
  taken = [];
  len = omega arith;
  value = refl;
  gives = refl;
}

pub returns-in-Err-clause-stops : goal.returns-in-Err-clause-stops
returns-in-Err-clause-stops g c =
    let h = c.loop-left.invariant in
    let all : List Bool → Type 0 = λ bits. length bits < c.args.count in
    stops_then g.I.Iterator.next_gives (λ bits. bits ≡ []) all c.args.source.now c.loop-left.source c.next_bit.new.source h.taken c.in-Err.error h.gives
    (λ ys none. rw none (omega (arith, length-append h.taken [], h.len, c.loop-left-test.true)))
    c.in-Err.ensures.stops

pub loop-left-preserved : goal.loop-left-preserved
loop-left-preserved g c =
    let h = c.loop-left.invariant in
    let ok = c.in-Ok.ensures in
    record {
      can = ok.can;
      finite = λ ends. ok.finite (h.finite ends);
      fits = rw c.doubled-number.ensures (room_after_bit _ _ _ _ c.loop-left-test.true h.fits);
      taken = h.taken ++ c.in-Ok.bit ∷ [];
      len = omega (arith, h.len, length-append h.taken (c.in-Ok.bit ∷ []), c.loop-left-test.true);
      value = rw (c.doubled-number.ensures, h.value) (sym (number_push (g.N.Natural.number c.args.start) h.taken c.in-Ok.bit));
      gives = gives_then g.I.Iterator.next_gives c.args.source.now c.loop-left.source c.next_bit.new.source h.taken (c.in-Ok.bit ∷ []) h.gives ok.bit;
    }
