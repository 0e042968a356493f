use Rattle.std.proofs.Common.{◌≡◌, ◌∙◌, ap, ap₂, arith, length, map, sym, subst}
use Rattle.std.specs.Prelude.{reverse}
use Rattle.std.specs.List.{zip}
use Rattle.std.specs.Iterator.Adapters.{zip_first, zip_second}
use Rattle.std.specs.Slice.Iter.{iter_rest}
use Rattle.std.proofs.lemmas.List.{reverse-reverse}
use Rattle.std.proofs.lemmas.Result.{MatchResult-weaker}
use Rattle.constriction_base.specs.Backends.{IsWrite}
use Rattle.constriction_symbol.specs.Bits.{PutsOnto}
use Rattle.constriction_symbol.specs.Lists.{AreCodewords}
use Rattle.constriction_laws.proofs.PairCalls.{all_pairs_from_back, rest_of, both_now}
use Rattle.constriction_symbol.proofs.CodewordLists.{codewords_map, written_last}
use Rattle.constriction_laws.proofs.of_symbol.bit_coders.Unwritten.{pair_stands_back, stops_back}
use Rattle.constriction_laws.proofs.symbol.round_trips.pairs.encode_pairs_reverse.Goals as goal
use Rattle.constriction_base.proofs.Turns.{map-reverse}

pub returns-clause-words : goal.returns-clause-words
returns-clause-words g c =
    let codeword = g.C.Codebook.codeword in
    let symbols = c.args.symbols.now in
    let books = c.args.codebooks.now in
    let e = c.encode_symbols_reverse.ensures in
    let first : iter_rest (zip_first e.0) ≡ symbols = ap (λ i. iter_rest (zip_first i)) e.1 ∙ (ap iter_rest c.zip.ensures.first ∙ c.iter.ensures.rest) in
    let second : iter_rest (zip_second e.0) ≡ books = ap (λ i. iter_rest (zip_second i)) e.1 ∙ (ap iter_rest c.zip.ensures.second ∙ c.iter-2.ensures.rest) in
    let same : length (iter_rest (zip_first e.0)) ≡ length (iter_rest (zip_second e.0)) = omega (arith, ap length first, ap length second, c.requires) in
    MatchResult-weaker c.encode_symbols_reverse.result e.5
    (λ _ p.
    let back = all_pairs_from_back e.0 e.2 same p.1 ∙ ap₂ (λ xs ks. reverse (zip xs ks)) first second in
    let all : map both_now (reverse e.2) ≡ zip symbols books = map-reverse both_now e.2 ∙ (ap (λ ps. reverse ps) back ∙ reverse-reverse (zip symbols books)) in
    let written = written_last (λ s. s.bits) (PutsOnto g.Word.Natural.BITS g.Word.Natural.number (IsWrite g.B.Holds.words g.B.WriteWords.room g.B.WriteWords.writes g.B.WriteWords.write_fails)) _ (λ q. codeword q.1.now q.0.now) e.2 c.args.coder.now e.3 e.4 in
    (written.0, subst (λ ps. AreCodewords (λ q. codeword q.1 q.0) ps written.0) all (codewords_map both_now (λ q. codeword q.1 q.0) (reverse e.2) written.0 written.1), sym (ap (λ s. reverse s.bits) p.0) ∙ written.2))
    (λ _ _. tt)

pub returns-clause-err : goal.returns-clause-err
returns-clause-err g c =
    let codeword = g.C.Codebook.codeword in
    let symbols = c.args.symbols.now in
    let books = c.args.codebooks.now in
    let e = c.encode_symbols_reverse.ensures in
    let first : iter_rest (zip_first e.0) ≡ symbols = ap (λ i. iter_rest (zip_first i)) e.1 ∙ (ap iter_rest c.zip.ensures.first ∙ c.iter.ensures.rest) in
    let second : iter_rest (zip_second e.0) ≡ books = ap (λ i. iter_rest (zip_second i)) e.1 ∙ (ap iter_rest c.zip.ensures.second ∙ c.iter-2.ensures.rest) in
    let same : length (iter_rest (zip_first e.0)) ≡ length (iter_rest (zip_second e.0)) = omega (arith, ap length first, ap length second, c.requires) in
    MatchResult-weaker c.encode_symbols_reverse.result e.5
    (λ _ _. tt)
    (λ refusal p.
    stops_back (λ s. s.bits) (PutsOnto g.Word.Natural.BITS g.Word.Natural.number (IsWrite g.B.Holds.words g.B.WriteWords.room g.B.WriteWords.writes g.B.WriteWords.write_fails)) _ codeword
    (zip symbols books) (rest_of p.1) e.2 p.0 c.args.coder.now e.3 _ refusal
    (sym (ap₂ (λ xs ks. zip xs ks) first second) ∙ pair_stands_back e.0 e.2 p.0 p.1 same p.2) e.4 p.3)
