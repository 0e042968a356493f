use Rattle.std.proofs.Common.{◌≡◌, ◌∙◌, ap, ap₂, map, sym, subst}
use Rattle.std.specs.List.{zip}
use Rattle.std.specs.Iterator.Adapters.{zip_first, zip_second}
use Rattle.std.specs.Slice.Iter.{iter_rest}
use Rattle.std.proofs.lemmas.Result.{MatchResult-weaker}
use Rattle.constriction_symbol.specs.Lists.{AreCodewords}
use Rattle.constriction_symbol.proofs.CodewordLists.{codewords_map, written_first}
use Rattle.constriction_laws.proofs.of_symbol.bit_coders.Pairs.{all_pairs}
use Rattle.constriction_laws.proofs.of_symbol.bit_coders.Unwritten.{pair_stands_front, stops_front}
use Rattle.constriction_laws.proofs.PairCalls.{rest_of, both_now}
use Rattle.constriction_laws.proofs.symbol.round_trips.pairs.encode_pairs.Goals as goal

pub returns-clause-words : goal.returns-clause-words
returns-clause-words g c =
    let codeword = g.C.Codebook.codeword in
    let symbols = c.args.symbols.now in
    let books = c.args.codebooks.now in
    let bits = g.W.WriteBitStream.bits in
    let e = c.encode_symbols.ensures in
    let first : iter_rest (zip_first e.0) ≡ symbols = ap (λ i. iter_rest (zip_first i)) e.1 ∙ (ap iter_rest c.zip.ensures.first ∙ c.iter.ensures.rest) in
    let second : iter_rest (zip_second e.0) ≡ books = ap (λ i. iter_rest (zip_second i)) e.1 ∙ (ap iter_rest c.zip.ensures.second ∙ c.iter-2.ensures.rest) in
    MatchResult-weaker c.encode_symbols.result e.5
    (λ _ p.
    let all = all_pairs e.0 e.2 p.1 ∙ ap₂ (λ xs ks. zip xs ks) first second in
    let written = written_first bits g.W.WriteBitStream.puts _ (λ q. codeword q.1.now q.0.now) e.2 c.args.stream.now e.3 e.4 in
    (written.0, subst (λ ps. AreCodewords (λ q. codeword q.1 q.0) ps written.0) all (codewords_map both_now (λ q. codeword q.1 q.0) e.2 written.0 written.1), sym (ap bits p.0) ∙ written.2))
    (λ _ _. tt)

pub returns-clause-err : goal.returns-clause-err
returns-clause-err g c =
    let codeword = g.C.Codebook.codeword in
    let symbols = c.args.symbols.now in
    let books = c.args.codebooks.now in
    let bits = g.W.WriteBitStream.bits in
    let e = c.encode_symbols.ensures in
    let first : iter_rest (zip_first e.0) ≡ symbols = ap (λ i. iter_rest (zip_first i)) e.1 ∙ (ap iter_rest c.zip.ensures.first ∙ c.iter.ensures.rest) in
    let second : iter_rest (zip_second e.0) ≡ books = ap (λ i. iter_rest (zip_second i)) e.1 ∙ (ap iter_rest c.zip.ensures.second ∙ c.iter-2.ensures.rest) in
    MatchResult-weaker c.encode_symbols.result e.5
    (λ _ _. tt)
    (λ refusal p.
    stops_front bits g.W.WriteBitStream.puts _ codeword (zip symbols books) (rest_of p.1) e.2 p.0 c.args.stream.now e.3 _ refusal
    (sym (ap₂ (λ xs ks. zip xs ks) first second) ∙ pair_stands_front e.0 e.2 p.0 p.1 p.2) e.4 p.3)
