use Rattle.std.proofs.Common.{rules, sym, List, Bool, Option}
use Rattle.constriction_symbol.proofs.ReversedCodewords.{put_reversed, stacks_along}
use Rattle.constriction_symbol.proofs.reversed.put_suffix.Goals as goal

pub returns : goal.returns
returns g c =
    let code : Option (List Bool) = g.C.Codebook.codeword c.args.codebook.now c.args.symbol.now in
    let all = put_reversed code c.emit_suffix.result c.emit_suffix.ensures (λ f. f.0.now) (λ s. s.bits) 128 (λ f. f.0.ghost_name)
    (record { grows = λ f b r next called. search rules; steps = λ f b r next called. search rules; same = λ f b r next called. search rules }) c.requires in
    stacks_along 128 code c.emit_suffix.result _ _ (search (rules, sym all.1)) all.0
