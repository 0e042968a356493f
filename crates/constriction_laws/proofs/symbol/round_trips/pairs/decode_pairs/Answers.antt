use Rattle.std.proofs.Common.{◌≡◌, ◌∙◌, [], ◌∷◌, ◌++◌, Ok, length, drop, sym, ap, subst, arith, rules}
use Rattle.std.specs.List.{zip}
use Rattle.std.specs.Slice.Iter.{iter_rest}
use Rattle.std.proofs.lemmas.List.{length-append}
use Rattle.constriction_symbol.specs.Codewords.{ReadsSymbol}
use Rattle.constriction_symbol.specs.Lists.{IsSamePair, ReadsPairs}
use Rattle.constriction_symbol.proofs.ReadBack.{symbol_back}
use Rattle.constriction_symbol.proofs.CodewordLists.{all_back, each_zip}
use Rattle.constriction_laws.proofs.ListsGiven.{rest_after}
use Rattle.constriction_laws.proofs.of_symbol.bit_coders.Pairs.{reads_pairs_more}
use Rattle.constriction_laws.proofs.symbol.round_trips.pairs.decode_pairs.Goals as goal

pub loop-answer-preserved : goal.loop-answer-preserved
loop-answer-preserved g c =
    let gives = g.R.ReadBitStream.gives in
    let codeword = g.C.Codebook.codeword in
    let on = g.C.DecoderCodebook.reads_on in
    let invalid = g.C.DecoderCodebook.is_invalid in
    let books = c.args.codebooks.now in
    let kept = c.loop-answer.invariant in
    let next = c.in-Some.ensures.goes.on kept.1 in
    let given = c.in-Some.ensures.steps in
    let xs = c.loop-answer.symbols.items in
    let x = c.in-Ok.symbol in
    let before = c.loop-answer.answer-iterator in
    let after = c.next.new.self in
    let book = given.1.0 in
    let left : drop (length xs) books ≡ book.now ∷ iter_rest after.codebooks = sym kept.3 ∙ given.1.1 in
    let more : c.push.new.self.items ≡ xs ++ x ∷ [] = c.in-Ok-push.ensures.items in (
      next.0,
      next.1,
      given.0 ∙ kept.2,
      rest_after books xs x (iter_rest after.codebooks) book.now left ∙ ap (λ ys. drop (length ys) books) (sym more),
      omega (arith, ap length more, length-append xs (x ∷ []), kept.4, ap length given.1.1),
      subst (λ ys. ReadsPairs gives codeword on invalid (zip ys books) c.into_iter-answer-iterator.result.bit_stream.now after.bit_stream.now) (sym more)
          (reads_pairs_more gives codeword on invalid books c.into_iter-answer-iterator.result.bit_stream.now xs before.bit_stream.now x book.now (iter_rest after.codebooks) c.in-Some.answer after.bit_stream.now kept.5 left c.in-Ok.is given.1.2),
    )

pub returns-clause-steps : goal.returns-clause-steps
returns-clause-steps g c =
    let books = c.args.codebooks.now in
    let gives = g.R.ReadBitStream.gives in
    let begun = ap (λ i. i.bit_stream.now) c.into_iter-answer-iterator.ensures.into_iter_gives ∙ c.decode_symbols-answer-items.ensures.stream in
    let all = subst (λ d. ReadsPairs gives g.C.Codebook.codeword g.C.DecoderCodebook.reads_on g.C.DecoderCodebook.is_invalid (zip c.loop-answer.symbols.items books) d c.loop-answer.answer-iterator.bit_stream.now) begun c.loop-answer.invariant.5 in
    subst (λ d. ReadsPairs gives g.C.Codebook.codeword g.C.DecoderCodebook.reads_on g.C.DecoderCodebook.is_invalid (zip c.loop-answer.symbols.items books) c.args.stream.now d) (search (rules, c.in-None.ensures.steps.1.1)) all

pub returns-clause-count : goal.returns-clause-count
returns-clause-count g c = omega (arith, c.loop-answer.invariant.4, c.in-None.ensures.steps.1.0.0)

pub returns-in-Err-clause-err : goal.returns-in-Err-clause-err
returns-in-Err-clause-err g c =
    let books = c.args.codebooks.now in
    let given = c.in-Some.ensures.steps in
    let kept = c.loop-answer.invariant in
    let begun = ap (λ i. i.bit_stream.now) c.into_iter-answer-iterator.ensures.into_iter_gives ∙ c.decode_symbols-answer-items.ensures.stream in (
      c.loop-answer.symbols.items,
      c.loop-answer.answer-iterator.bit_stream.now,
      given.1.0.now,
      _,
      sym kept.3 ∙ given.1.1,
      subst (λ d. ReadsPairs g.R.ReadBitStream.gives g.C.Codebook.codeword g.C.DecoderCodebook.reads_on g.C.DecoderCodebook.is_invalid (zip c.loop-answer.symbols.items books) d c.loop-answer.answer-iterator.bit_stream.now) begun kept.5,
      search (rules, given.1.2, c.in-Err.is),
    )

pub returns-in_default-clause-err : goal.returns-in_default-clause-err
returns-in_default-clause-err g c =
    let gives = g.R.ReadBitStream.gives in
    let codeword = g.C.Codebook.codeword in
    let on = g.C.DecoderCodebook.reads_on in
    let invalid = g.C.DecoderCodebook.is_invalid in
    let books = c.args.codebooks.now in
    let kept = c.loop-answer.invariant in
    let given = c.in-Some.ensures.steps in
    let xs = c.loop-answer.symbols.items in
    let x = c.in-Ok.symbol in
    let before = c.loop-answer.answer-iterator in
    let after = c.next.new.self in
    let book = given.1.0 in
    let begun = ap (λ i. i.bit_stream.now) c.into_iter-answer-iterator.ensures.into_iter_gives ∙ c.decode_symbols-answer-items.ensures.stream in
    let left : drop (length xs) books ≡ book.now ∷ iter_rest after.codebooks = sym kept.3 ∙ given.1.1 in
    let read = subst (λ d. ReadsPairs gives codeword on invalid (zip xs books) d before.bit_stream.now) begun kept.5 in
    let all = reads_pairs_more gives codeword on invalid books c.args.stream.now xs before.bit_stream.now x book.now (iter_rest after.codebooks) c.in-Some.answer after.bit_stream.now read left c.in-Ok.is given.1.2 in (
      xs ++ x ∷ [],
      omega (arith, length-append xs (x ∷ []), kept.4, ap length given.1.1),
      subst (λ d. ReadsPairs gives codeword on invalid (zip (xs ++ x ∷ []) books) c.args.stream.now d) (search rules) all,
    )

pub returns-clause-back : goal.returns-clause-back
returns-clause-back g c = λ known symbols code rest first_count coded is.
    let gives = g.R.ReadBitStream.gives in
    let unread = g.R.ReadBitStream.unread in
    let codeword = g.C.Codebook.codeword in
    let same = g.C.Codebook.is_same in
    let on = g.C.DecoderCodebook.reads_on in
    let invalid = g.C.DecoderCodebook.is_invalid in
    let books = c.args.codebooks.now in
    let again = c.loop-answer.symbols.items in
    all_back unread (λ p. codeword p.1 p.0) (λ p before after. ReadsSymbol gives (codeword p.1) (on p.1) (invalid p.1) before (Ok p.0) after) (IsSamePair same) (λ p q. p.1 ≡ q.1)
    (λ p q first more before after alike here_known here given.
    let read = subst (λ k. ReadsSymbol gives (codeword k) (on k) (invalid k) before (Ok p.0) after) alike given in
    symbol_back gives unread (codeword q.1) (same q.1) (on q.1) (invalid q.1) (g.met.R.ReadBitStream.list_law known) (g.C.Codebook.prefix_law q.1) (g.C.Codebook.same_law q.1) (g.met.C.DecoderCodebook.on_law q.1) (g.met.C.DecoderCodebook.invalid_law q.1)
    q.0 first more before after (Ok p.0) here_known here read)
    (zip again books) (zip symbols books) code rest c.args.stream.now _ (each_zip again symbols books (returns-clause-count g c) first_count) coded is (returns-clause-steps g c)
