use Rattle.std.proofs.Common.{rules, sym, List, Bool, Option}
use Rattle.constriction_symbol.specs.Codewords.{formed}
use Rattle.constriction_symbol.proofs.Emitted.{put_all, along}
use Rattle.constriction_symbol.proofs.writing.write_emitted.Goals as goal

pub returns : goal.returns
returns g c =
    let code : Option (List Bool) = formed g.S.BitOrder.form (g.C.Codebook.codeword c.args.codebook c.args.symbol.now) in
    let all = put_all _ code c.emit_symbol.result c.emit_symbol.ensures (λ f. f.0.now) g.W.BitSink.bits g.W.BitSink.puts (λ f. f.0.ghost_name)
    (record { grows = λ f b r next called. search rules; steps = λ f b r next called. search rules; same = λ f b r next called. search rules }) in
    along g.W.BitSink.bits g.W.BitSink.puts _ c.args.stream.now code c.emit_symbol.result _ _ (search (rules, sym all.1)) all.0
