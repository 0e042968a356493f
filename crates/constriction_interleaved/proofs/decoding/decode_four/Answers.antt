use Rattle.std.proofs.Common.{◌≡◌, ◌∙◌, ℕ, arith, take}
use Rattle.std.proofs.lemmas.List.{length-set, take_all}
use Rattle.constriction_base.specs.Models.{Model}
use Rattle.constriction_interleaved.proofs.LaneTurns.{one_more}
use Rattle.constriction_interleaved.proofs.decoding.decode_four.Goals as goal

pub loop-place-preserved : goal.loop-place-preserved
loop-place-preserved g c =
    let l = c.loop-place in
    let model : Model ℕ = record { precision = g.row.PRECISION; table = g.M.EntropyModel.table c.args.model.now } in
    record {
      decoded_a = one_more g.Word.Natural.BITS g.State.Natural.BITS model l.symbols_a l.place c.decode_from-symbol_a.result.0 _ _ _ (omega (arith, c.loop-place-test.true, l.invariant.count_a)) l.invariant.decoded_a c.decode_from-symbol_a.ensures.decoded;
      left_a = omega (arith, c.decode_from-symbol_a.ensures.rest, l.invariant.left_a);
      count_a = length-set l.symbols_a l.place c.decode_from-symbol_a.result.0 ∙ l.invariant.count_a;
      decoded_b = one_more g.Word.Natural.BITS g.State.Natural.BITS model l.symbols_b l.place c.decode_from-symbol_b.result.0 _ _ _ (omega (arith, c.loop-place-test.true, l.invariant.count_b, l.invariant.count_a, c.requires.count.0)) l.invariant.decoded_b c.decode_from-symbol_b.ensures.decoded;
      left_b = omega (arith, c.decode_from-symbol_b.ensures.rest, l.invariant.left_b);
      count_b = length-set l.symbols_b l.place c.decode_from-symbol_b.result.0 ∙ l.invariant.count_b;
      decoded_c = one_more g.Word.Natural.BITS g.State.Natural.BITS model l.symbols_c l.place c.decode_from-symbol_c.result.0 _ _ _ (omega (arith, c.loop-place-test.true, l.invariant.count_c, l.invariant.count_a, c.requires.count.1)) l.invariant.decoded_c c.decode_from-symbol_c.ensures.decoded;
      left_c = omega (arith, c.decode_from-symbol_c.ensures.rest, l.invariant.left_c);
      count_c = length-set l.symbols_c l.place c.decode_from-symbol_c.result.0 ∙ l.invariant.count_c;
      decoded_d = one_more g.Word.Natural.BITS g.State.Natural.BITS model l.symbols_d l.place c.decode_from-symbol_d.result.0 _ _ _ (omega (arith, c.loop-place-test.true, l.invariant.count_d, l.invariant.count_a, c.requires.count.2)) l.invariant.decoded_d c.decode_from-symbol_d.ensures.decoded;
      left_d = omega (arith, c.decode_from-symbol_d.ensures.rest, l.invariant.left_d);
      count_d = length-set l.symbols_d l.place c.decode_from-symbol_d.result.0 ∙ l.invariant.count_d;
    }

pub returns-clause-first : goal.returns-clause-first
returns-clause-first g c =
    let l = c.loop-place in
    let all : take l.place l.symbols_a ≡ l.symbols_a = take_all l.place l.symbols_a (omega (arith, c.loop-place-test.false, l.invariant.count_a)) in
    (rw all at l.invariant.decoded_a, l.invariant.left_a)

pub returns-clause-second : goal.returns-clause-second
returns-clause-second g c =
    let l = c.loop-place in
    let all : take l.place l.symbols_b ≡ l.symbols_b = take_all l.place l.symbols_b (omega (arith, c.loop-place-test.false, l.invariant.count_b, c.requires.count.0, l.invariant.count_a)) in
    (rw all at l.invariant.decoded_b, l.invariant.left_b)

pub returns-clause-third : goal.returns-clause-third
returns-clause-third g c =
    let l = c.loop-place in
    let all : take l.place l.symbols_c ≡ l.symbols_c = take_all l.place l.symbols_c (omega (arith, c.loop-place-test.false, l.invariant.count_c, c.requires.count.1, l.invariant.count_a)) in
    (rw all at l.invariant.decoded_c, l.invariant.left_c)

pub returns-clause-fourth : goal.returns-clause-fourth
returns-clause-fourth g c =
    let l = c.loop-place in
    let all : take l.place l.symbols_d ≡ l.symbols_d = take_all l.place l.symbols_d (omega (arith, c.loop-place-test.false, l.invariant.count_d, c.requires.count.2, l.invariant.count_a)) in
    (rw all at l.invariant.decoded_d, l.invariant.left_d)
