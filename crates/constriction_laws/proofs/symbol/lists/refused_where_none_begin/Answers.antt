use Rattle.constriction_symbol.proofs.ReadBack.{symbol_back}
use Rattle.constriction_laws.proofs.of_symbol.bit_coders.Stopping.{begins_with_none}
use Rattle.constriction_laws.proofs.symbol.lists.refused_where_none_begin.Goals as goal

pub returns : goal.returns
returns g c = λ codebook amt bits tail old new e is stopped.
    let gives = g.R.ReadBitStream.gives in
    let unread = g.R.ReadBitStream.unread in
    let codeword = g.C.Codebook.codeword codebook in
    let same = g.C.Codebook.is_same codebook in
    let on = g.C.DecoderCodebook.reads_on codebook in
    let invalid = g.C.DecoderCodebook.is_invalid codebook in
    begins_with_none gives unread codeword same on invalid
    (λ symbol first rest before after answer known here step.
    symbol_back gives unread codeword same on invalid (g.met.R.ReadBitStream.list_law c.requires) (g.C.Codebook.prefix_law codebook) (g.C.Codebook.same_law codebook) (g.met.C.DecoderCodebook.on_law codebook) (g.met.C.DecoderCodebook.invalid_law codebook)
    symbol first rest before after answer known here step)
    amt bits tail old new e is stopped
