use Rattle.std.proofs.Common.{Ok}
use Rattle.constriction_symbol.specs.Codewords.{ReadsSymbol}
use Rattle.constriction_symbol.proofs.ReadBack.{symbol_back}
use Rattle.constriction_symbol.proofs.CodewordLists.{all_back, each_free}
use Rattle.constriction_laws.proofs.symbol.lists.symbols_come_back.Goals as goal

pub returns : goal.returns
returns g c = λ codebook symbols again code rest old new coded is count reads.
    let gives = g.R.ReadBitStream.gives in
    let unread = g.R.ReadBitStream.unread in
    let codeword = g.C.Codebook.codeword codebook in
    let same = g.C.Codebook.is_same codebook in
    let on = g.C.DecoderCodebook.reads_on codebook in
    let invalid = g.C.DecoderCodebook.is_invalid codebook in
    all_back unread codeword (λ t before after. ReadsSymbol gives codeword on invalid before (Ok t) after) same (λ _ _. Unit {0})
    (λ t s first more before after free known here given.
    symbol_back gives unread codeword same on invalid (g.met.R.ReadBitStream.list_law c.requires) (g.C.Codebook.prefix_law codebook) (g.C.Codebook.same_law codebook) (g.met.C.DecoderCodebook.on_law codebook) (g.met.C.DecoderCodebook.invalid_law codebook)
    s first more before after (Ok t) known here given)
    again symbols code rest old new (each_free again symbols count) coded is reads
