use Rattle.std.proofs.Common.{◌≡◌, sym, subst, arith, map}
use Rattle.std.specs.Prelude.{false, reverse}
use Rattle.constriction_laws.specs.Readings.{words_left}
use Rattle.constriction_laws.specs.stack.Readings.{state_by_words}
use Rattle.constriction_stack.specs.Ans.{AnsState, filled}
use Rattle.constriction_stack.specs.Symbols.{DecodesAll}
use Rattle.constriction_base.specs.Models.{IsModel, pairs_of}
use Rattle.constriction_laws.proofs.ListsGiven.{ok_both, ok_weaker}
use Rattle.constriction_laws.proofs.of_stack.PairCalls.{are_turned, models_alike, symbols_alike}
use Rattle.constriction_laws.proofs.stack.round_trips.words.pairs_from_items.Goals as goal

pub returns-clause-read : goal.returns-clause-read
returns-clause-read g c = λ words tells.
    let w = g.Word.Natural.BITS in
    let s = g.State.Natural.BITS in
    let number = g.Word.Natural.number in
    let start = c.in-Ok.decoder in
    let last = c.decode_pairs.new.coder in
    let law = c.items_are_words.ensures words tells in
    let imported : filled w s 0 (map number (words c.args.items)) ≡ state_by_words number (words_left words) start =
    c.imports_are_words.ensures (words_left words) w s start.state.head (c.args.items, false) start.backend c.requires.sizes c.in-Ok.ensures.coder.head_fits law c.in-Ok.ensures.reads in
    ok_weaker c.decode_pairs.result c.decode_pairs.ensures.read
    (λ again read. (let items = pairs_of g.row.PRECISION g.M.EntropyModel.table again.items c.args.models.now in (
      state_by_words number (words_left words) last,
      subst (λ (x : AnsState). DecodesAll w s items x (state_by_words number (words_left words) last)) (sym imported)
          (c.decodes_are_words.ensures.all (words_left words) w s items start last law read),
    )))

pub returns-clause-back : goal.returns-clause-back
returns-clause-back g c = λ words symbols state tells coded same count.
    let w = g.Word.Natural.BITS in
    let s = g.State.Natural.BITS in
    let P = g.row.PRECISION in
    let table = g.M.EntropyModel.table in
    let models = c.args.models.now in
    let lawful : (m : g.row.M.Denot) → IsModel w (record { precision = P; table = table m }) =
    λ m. (let sized = g.met.M.EntropyModel.sized m in record { some_bits = sized.0; within_word = omega (arith, sized.1, g.met.M.Probability.WordOf.width_law); lawful = g.M.EntropyModel.lawful m }) in
    let items = reverse (pairs_of P table symbols models) in
    ok_both c.decode_pairs.result c.decode_pairs.ensures.count c.decode_pairs.ensures.read (λ again many read.
    (let back = c.symbols_come_back_by_reads.ensures (words_left words) w s items (pairs_of P table again.items models) (c.args.items, false) c.decode_pairs.new.coder
    c.requires.sizes (are_turned P table w symbols models lawful) (c.items_are_words.ensures words tells, (state, coded, same)) (c.in-Ok.decoder, c.in-Ok.ensures.reads, c.in-Ok.ensures.coder.head_fits, read)
    (models_alike P table symbols again.items models count many) in
    symbols_alike P table symbols again.items models count many back.0))

pub returns-clause-reads : goal.returns-clause-reads
returns-clause-reads g c =
    ok_weaker c.decode_pairs.result c.decode_pairs.ensures.read
    (λ again read. (c.decode_pairs.new.coder, (c.in-Ok.decoder, c.in-Ok.ensures.reads, c.in-Ok.ensures.coder.head_fits, read)))
