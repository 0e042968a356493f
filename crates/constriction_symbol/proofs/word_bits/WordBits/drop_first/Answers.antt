use Rattle.std.proofs.Common.{◌<◌, ◌∙◌, ap, length, reverse, arith}
use Rattle.std.proofs.lemmas.List.{length-reverse}
use Rattle.constriction_symbol.proofs.WordLemmas.{reverse_kept}
use Rattle.constriction_symbol.proofs.word_bits.WordBits.drop_first.Goals as goal

pub returns : goal.returns
returns g c =
    let all = c.self.inside.reversed in
    let fewer : c.args.count < length (reverse all) = rw (← c.self.view_is) at c.requires.within in
    rw (← c.self.view_is) (ap reverse c.drop_last.ensures ∙ reverse_kept c.args.count all (omega (arith, fewer, length-reverse all)))
