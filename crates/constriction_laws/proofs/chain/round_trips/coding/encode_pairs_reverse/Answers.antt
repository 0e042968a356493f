use Rattle.std.proofs.Common.{◌≡◌, ◌∙◌, ◌∷◌, ap, ap₂, arith, map, length, subst, sym}
use Rattle.std.specs.Prelude.{reverse}
use Rattle.std.specs.List.{zip}
use Rattle.std.specs.Iterator.Adapters.{zip_first, zip_second}
use Rattle.std.specs.Slice.Iter.{iter_rest}
use Rattle.std.proofs.lemmas.List.{map-append}
use Rattle.std.proofs.lemmas.Result.{MatchResult-weaker}
use Rattle.constriction_base.specs.Models.{Item, item_of}
use Rattle.constriction_chain.specs.Symbols.{ChainEncodesAll}
use Rattle.constriction_laws.proofs.of_chain.Ending.{not_encoded}
use Rattle.constriction_laws.proofs.of_chain.FromBack.{stopped_pairs}
use Rattle.constriction_laws.proofs.of_chain.ListCalls.{encodes_of}
use Rattle.constriction_laws.proofs.PairCalls.{all_pairs_from_back}
use Rattle.constriction_laws.proofs.chain.round_trips.coding.encode_pairs_reverse.Goals as goal
use Rattle.constriction_base.proofs.Turns.{map-reverse}

pub returns-clause-encoded : goal.returns-clause-encoded
returns-clause-encoded g c = λ known.
    let w = g.Word.Natural.BITS in
    let s = g.State.Natural.BITS in
    let table = g.M.EntropyModel.table in
    let symbols = c.args.symbols.now in
    let models = c.args.models.now in
    let old = c.args.coder.now in
    let new = c.encode_symbols_reverse.new.self in
    let e = c.encode_symbols_reverse.ensures.steps in
    let item : g.row.M-Symbol.Denot × g.row.M.Denot → Item g.row.M-Symbol.Denot = λ pair. item_of (record { precision = g.row.PRECISION; table = table pair.1 }) pair.0 in
    let first : iter_rest (zip_first e.0) ≡ symbols = ap (λ i. iter_rest (zip_first i)) e.1 ∙ (ap iter_rest c.zip.ensures.first ∙ c.iter.ensures.rest) in
    let second : iter_rest (zip_second e.0) ≡ models = ap (λ i. iter_rest (zip_second i)) e.1 ∙ (ap iter_rest c.zip.ensures.second ∙ c.iter-2.ensures.rest) in
    let same : length (iter_rest (zip_first e.0)) ≡ length (iter_rest (zip_second e.0)) = omega (arith, ap length first, ap length second, c.requires) in
    MatchResult-weaker c.encode_symbols_reverse.result e.5
    (λ _ p.
    (let given = all_pairs_from_back e.0 e.2 same p.1 ∙ ap₂ (λ xs ms. reverse (zip xs ms)) first second in
    let all = ap (λ pairs. map item pairs) given ∙ map-reverse item (zip symbols models) in
    let coded = encodes_of g.Word.Natural.number g.C.Holds g.C.WriteWords g.R.Holds g.R.ReadWords
    w s _ (λ p. (p.0.now, p.1.now)) item e.2 old e.3 known e.4 in
    subst (λ items. ChainEncodesAll w s items old.state new.state) all
    (subst (λ x. ChainEncodesAll w s (map item (map (λ p. (p.0.now, p.1.now)) e.2)) old.state x.state) p.0 coded)))
    (λ _ _. tt)

pub returns-clause-err : goal.returns-clause-err
returns-clause-err g c = λ known.
    let table = g.M.EntropyModel.table in
    let symbols = c.args.symbols.now in
    let models = c.args.models.now in
    let e = c.encode_symbols_reverse.ensures.steps in
    let item : g.row.M-Symbol.Denot × g.row.M.Denot → Item g.row.M-Symbol.Denot = λ pair. item_of (record { precision = g.row.PRECISION; table = table pair.1 }) pair.0 in
    let first : iter_rest (zip_first e.0) ≡ symbols = ap (λ i. iter_rest (zip_first i)) e.1 ∙ (ap iter_rest c.zip.ensures.first ∙ c.iter.ensures.rest) in
    let second : iter_rest (zip_second e.0) ≡ models = ap (λ i. iter_rest (zip_second i)) e.1 ∙ (ap iter_rest c.zip.ensures.second ∙ c.iter-2.ensures.rest) in
    let same : length (iter_rest (zip_first e.0)) ≡ length (iter_rest (zip_second e.0)) = omega (arith, ap length first, ap length second, c.requires) in
    MatchResult-weaker c.encode_symbols_reverse.result e.5
    (λ _ _. tt)
    (λ refusal p.
    let left = reverse (zip (iter_rest (zip_first p.1)) (iter_rest (zip_second p.1))) in
    let stopped = sym (ap₂ (λ xs ms. reverse (zip xs ms)) first second) ∙ stopped_pairs e.0 e.2 p.0 p.1 same p.2 in
    let is = sym (map-reverse item (zip symbols models)) ∙ ap (λ pairs. map item pairs) stopped ∙ map-append item (map (λ p. (p.0.now, p.1.now)) e.2) ((p.0.0.now, p.0.1.now) ∷ left) in
    not_encoded g.Word.Natural.number g.C.Holds g.C.WriteWords g.R.Holds g.R.ReadWords
    g.Word.Natural.BITS g.State.Natural.BITS (λ p. (p.0.now, p.1.now)) item e.2 p.0 _ (map item left) c.args.coder.now e.3 c.encode_symbols_reverse.new.self refusal known is e.4 p.3)
