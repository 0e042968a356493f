use Rattle.std.proofs.Common.{◌≡◌, ◌∙◌, ap, ap₂, arith, length, map, subst}
use Rattle.std.specs.List.{zip}
use Rattle.std.specs.Iterator.Adapters.{zip_first, zip_second}
use Rattle.std.specs.Slice.Iter.{iter_rest}
use Rattle.constriction_base.specs.Models.{Item, item_of}
use Rattle.constriction_queue.specs.Encoder.{run_by}
use Rattle.constriction_queue.specs.Symbols.{NarrowsAll}
use Rattle.constriction_laws.proofs.of_queue.ListCalls.{encodes_of}
use Rattle.constriction_laws.proofs.of_queue.Pairs.{all_pairs_given}
use Rattle.constriction_laws.proofs.of_queue.Told.{unknown_among}
use Rattle.constriction_laws.proofs.queue.round_trips.coding.encode_pairs.Goals as goal

pub returns-in-Ok-clause-narrowed : goal.returns-in-Ok-clause-narrowed
returns-in-Ok-clause-narrowed g c =
    let w = g.Word.Natural.BITS in
    let s = g.State.Natural.BITS in
    let table = g.M.EntropyModel.table in
    let symbols = c.args.symbols.now in
    let models = c.args.models.now in
    let old = c.args.encoder.now in
    let new = c.encode_symbols.new.self in
    let e = c.in-Ok.ensures.steps in
    let p = e.5 in
    let item : g.row.M-Symbol.Denot × g.row.M.Denot → Item g.row.M-Symbol.Denot = λ pair. item_of (record { precision = g.row.PRECISION; table = table pair.1 }) pair.0 in
    let first : iter_rest (zip_first e.0) ≡ symbols = ap (λ i. iter_rest (zip_first i)) e.1 ∙ (ap iter_rest c.zip.ensures.first ∙ c.iter.ensures.rest) in
    let second : iter_rest (zip_second e.0) ≡ models = ap (λ i. iter_rest (zip_second i)) e.1 ∙ (ap iter_rest c.zip.ensures.second ∙ c.iter-2.ensures.rest) in
    let given = all_pairs_given e.0 e.2 p.1 ∙ ap₂ (λ xs ms. zip xs ms) first second in
    let all = ap (λ pairs. map item pairs) given in
    let coded = encodes_of g.Word.Natural.number g.Backend.Holds g.Backend.WriteWords w s _ (λ p. (p.0.now, p.1.now)) item e.2 old e.3 e.4 in
    subst (λ items. NarrowsAll w s items (run_by w s old) (run_by w s new)) all
    (subst (λ x. NarrowsAll w s (map item (map (λ p. (p.0.now, p.1.now)) e.2)) (run_by w s old) (run_by w s x)) p.0 coded)

pub returns-in-Err-Frontend-clause-err : goal.returns-in-Err-Frontend-clause-err
returns-in-Err-Frontend-clause-err g c =
    let e = c.in-Err-Frontend.ensures.steps in
    let p = rw c.in-Err-Frontend.field-0-is at e.5 in
    let first : iter_rest (zip_first e.0) ≡ c.args.symbols.now = ap (λ i. iter_rest (zip_first i)) e.1 ∙ (ap iter_rest c.zip.ensures.first ∙ c.iter.ensures.rest) in
    let second : iter_rest (zip_second e.0) ≡ c.args.models.now = ap (λ i. iter_rest (zip_second i)) e.1 ∙ (ap iter_rest c.zip.ensures.second ∙ c.iter-2.ensures.rest) in
    unknown_among g.Word.Natural.number _ _ g.Word.Natural.BITS g.State.Natural.BITS g.row.PRECISION g.M.EntropyModel.table c.args.symbols.now c.args.models.now e.0 e.2 p.0 p.1 e.3 c.encode_symbols.new.self _
    (ap₂ (λ xs ms. zip xs ms) first second) p.2 p.3

pub returns-in-Ok-clause-fewer_left : goal.returns-in-Ok-clause-fewer_left
returns-in-Ok-clause-fewer_left g c =
    c.encode_symbols.ensures.fewer_left (length c.args.symbols.now)
    (λ iterator is. omega (arith, ap length (ap (λ i. iter_rest (zip_first i)) is ∙ (ap iter_rest c.zip.ensures.first ∙ c.iter.ensures.rest))))

pub returns-in-Err-Frontend-clause-fewer_left : goal.returns-in-Err-Frontend-clause-fewer_left
returns-in-Err-Frontend-clause-fewer_left g c =
    c.encode_symbols.ensures.fewer_left (length c.args.symbols.now)
    (λ iterator is. omega (arith, ap length (ap (λ i. iter_rest (zip_first i)) is ∙ (ap iter_rest c.zip.ensures.first ∙ c.iter.ensures.rest))))

pub returns-clause-fewer_left : goal.returns-clause-fewer_left
returns-clause-fewer_left g c =
    c.encode_symbols.ensures.fewer_left (length c.args.symbols.now)
    (λ iterator is. omega (arith, ap length (ap (λ i. iter_rest (zip_first i)) is ∙ (ap iter_rest c.zip.ensures.first ∙ c.iter.ensures.rest))))
