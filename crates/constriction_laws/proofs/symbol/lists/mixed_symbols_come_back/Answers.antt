use Rattle.std.proofs.Common.{◌≡◌, Ok, subst}
use Rattle.std.specs.List.{zip}
use Rattle.constriction_symbol.specs.Codewords.{ReadsSymbol}
use Rattle.constriction_symbol.proofs.ReadBack.{symbol_back}
use Rattle.constriction_symbol.specs.Lists.{IsSamePair}
use Rattle.constriction_symbol.proofs.CodewordLists.{all_back, each_zip}
use Rattle.constriction_laws.proofs.symbol.lists.mixed_symbols_come_back.Goals as goal

pub returns : goal.returns
returns g c = λ codebooks symbols again code rest old new first_count count coded is reads.
    let gives = g.R.ReadBitStream.gives in
    let unread = g.R.ReadBitStream.unread in
    let codeword = g.C.Codebook.codeword in
    let same = g.C.Codebook.is_same in
    let on = g.C.DecoderCodebook.reads_on in
    let invalid = g.C.DecoderCodebook.is_invalid in
    all_back unread (λ p. codeword p.1 p.0) (λ p before after. ReadsSymbol gives (codeword p.1) (on p.1) (invalid p.1) before (Ok p.0) after) (IsSamePair same) (λ p q. p.1 ≡ q.1)
    (λ p q first more before after alike known here given.
    let read = subst (λ k. ReadsSymbol gives (codeword k) (on k) (invalid k) before (Ok p.0) after) alike given in
    symbol_back gives unread (codeword q.1) (same q.1) (on q.1) (invalid q.1) (g.met.R.ReadBitStream.list_law c.requires) (g.C.Codebook.prefix_law q.1) (g.C.Codebook.same_law q.1) (g.met.C.DecoderCodebook.on_law q.1) (g.met.C.DecoderCodebook.invalid_law q.1)
    q.0 first more before after (Ok p.0) known here read)
    (zip again codebooks) (zip symbols codebooks) code rest old new (each_zip again symbols codebooks count first_count) coded is reads
