use Rattle.std.proofs.Common.{◌≡◌, ◌∙◌, ap, ap₂, arith, map, length, subst}
use Rattle.std.specs.Prelude.{reverse}
use Rattle.std.specs.List.{zip}
use Rattle.std.specs.Iterator.Adapters.{zip_first, zip_second}
use Rattle.std.specs.Slice.Iter.{iter_rest}
use Rattle.constriction_base.specs.Models.{Item, item_of}
use Rattle.constriction_stack.specs.Ans.{EncodeCall}
use Rattle.constriction_stack.specs.Symbols.{EncodesAll}
use Rattle.constriction_laws.proofs.of_stack.ListCalls.{encodes_of}
use Rattle.constriction_laws.proofs.PairCalls.{all_pairs_from_back}
use Rattle.constriction_laws.proofs.Refused.{pair_impossible_from_back}
use Rattle.constriction_laws.proofs.stack.round_trips.coding.encode_pairs_reverse.Goals as goal
use Rattle.constriction_base.proofs.Turns.{map-reverse}

pub returns-in-Ok-clause-coded : goal.returns-in-Ok-clause-coded
returns-in-Ok-clause-coded g c = λ valid.
    let w = g.Word.Natural.BITS in
    let s = g.State.Natural.BITS in
    let table = g.M.EntropyModel.table in
    let symbols = c.args.symbols.now in
    let models = c.args.models.now in
    let old = c.args.coder.now in
    let new = c.encode_symbols_reverse.new.self in
    let e = c.in-Ok.ensures.steps in
    let p = e.5 in
    let item : g.row.M-Symbol.Denot × g.row.M.Denot → Item g.row.M-Symbol.Denot = λ pair. item_of (record { precision = g.row.PRECISION; table = table pair.1 }) pair.0 in
    let first : iter_rest (zip_first e.0) ≡ symbols = ap (λ i. iter_rest (zip_first i)) e.1 ∙ (ap iter_rest c.zip.ensures.first ∙ c.iter.ensures.rest) in
    let second : iter_rest (zip_second e.0) ≡ models = ap (λ i. iter_rest (zip_second i)) e.1 ∙ (ap iter_rest c.zip.ensures.second ∙ c.iter-2.ensures.rest) in
    let same : length (iter_rest (zip_first e.0)) ≡ length (iter_rest (zip_second e.0)) = omega (arith, ap length first, ap length second, c.requires) in
    let given = all_pairs_from_back e.0 e.2 same p.1 ∙ ap₂ (λ xs ms. reverse (zip xs ms)) first second in
    let all = ap (λ pairs. map item pairs) given ∙ map-reverse item (zip symbols models) in
    let coded = encodes_of g.Word.Natural.number g.Backend.Holds g.Backend.WriteWords w s _ (λ p. (p.0.now, p.1.now)) item e.2 old e.3 valid e.4 in
    subst (λ items. EncodesAll w s items old.state new.state) all
    (subst (λ x. EncodesAll w s (map item (map (λ p. (p.0.now, p.1.now)) e.2)) old.state x.state) p.0 coded)

pub returns-in-Err-Frontend-clause-err : goal.returns-in-Err-Frontend-clause-err
returns-in-Err-Frontend-clause-err g c =
    let symbols = c.args.symbols.now in
    let models = c.args.models.now in
    let e = c.in-Err-Frontend.ensures.steps in
    let p = rw c.in-Err-Frontend.field-0-is at e.5 in
    let first : iter_rest (zip_first e.0) ≡ symbols = ap (λ i. iter_rest (zip_first i)) e.1 ∙ (ap iter_rest c.zip.ensures.first ∙ c.iter.ensures.rest) in
    let second : iter_rest (zip_second e.0) ≡ models = ap (λ i. iter_rest (zip_second i)) e.1 ∙ (ap iter_rest c.zip.ensures.second ∙ c.iter-2.ensures.rest) in
    let same : length (iter_rest (zip_first e.0)) ≡ length (iter_rest (zip_second e.0)) = omega (arith, ap length first, ap length second, c.requires) in
    pair_impossible_from_back (EncodeCall g.Word.Natural.number g.Backend.Holds g.Backend.WriteWords g.Word.Natural.BITS g.State.Natural.BITS) g.row.PRECISION g.M.EntropyModel.table symbols models e.0
    (ap₂ (λ xs ms. zip xs ms) first second) e.2 p.0 p.1 e.3 c.encode_symbols_reverse.new.self _ same p.2 p.3
