use Rattle.std.proofs.Common.{◌∙◌, ◌<◌, arith, get_or, length, take}
use Rattle.std.proofs.lemmas.List.{length-set, take_more, take_more_set}
use Rattle.constriction_inputs.proofs.Kept.{kept_more}
use Rattle.constriction_inputs.proofs.symbol.put_numbers.Goals as goal

pub loop-i-preserved : goal.loop-i-preserved
loop-i-preserved g c =
    let l = c.loop-i in
    let wide = c.args.wide.now in
    let n = get_or wide l.i 0 in
    let within : l.i < length l.symbols = omega (arith, c.loop-i-test.true, l.invariant.count) in
    record {
      kept = rw (take_more_set l.symbols l.i c.of.result within, take_more wide l.i 0 (omega (arith, within, l.invariant.count, c.requires)))
          (kept_more g.S.Symbol.numbers g.S.Symbol.kept g.S.Symbol.parts_law g.S.Symbol.kept_parts_law (take l.i l.symbols) c.of.result (take l.i wide) n l.invariant.kept c.of.ensures);
      count = length-set l.symbols l.i c.of.result ∙ l.invariant.count;
    }
