use Rattle.std.proofs.Common.{◌<◌, length, get_or, map, arith}
use Rattle.std.proofs.lemmas.List.{length-map}
use Rattle.constriction_base.specs.Models.{Knows}
use Rattle.constriction_inputs.specs.Indexed.{row_count}
use Rattle.constriction_inputs.specs.Mixtures.{row_at_index}
use Rattle.constriction_inputs.specs.Weights.{weights_model}
use Rattle.constriction_inputs.proofs.IndexedTables.{all_at, known_joined, known_split}
use Rattle.constriction_inputs.proofs.MixtureTables.{row_ends}
use Rattle.constriction_inputs.proofs.RowTables.{not_all}
use Rattle.constriction_inputs.proofs.models.indexed.IndexedEncoderModels.know.Goals as goal

pub weights_at-row-requires : goal.weights_at-row-requires
weights_at-row-requires g c =
    let self = c.args.self.now in
    let i = c.loop-i.i in
    let fit = c.requires.0 in
    let inside : i < length self.indexes.now = omega (arith, c.loop-i-test.true, g.S.Symbol.count_law c.args.symbols.now, fit.counted) in
    let index = get_or self.indexes.now i 0 in
    let tables = row_count self.width (map g.P.Natural.number self.weights.now) in
    let at : index < tables = all_at (λ n. n < tables) self.indexes.now i 0 fit.within inside in
    omega (arith, fit.rows, length-map self.weights.now g.P.Natural.number, row_ends self.width index tables at)

pub returns-then-not-is_known : goal.returns-then-not-is_known
returns-then-not-is_known g c =
    let self = c.args.self.now in
    let l = c.loop-i in
    let xs = g.S.Symbol.numbers c.args.symbols.now in
    let inside : l.i < length xs = omega (arith, c.loop-i-test.true, g.S.Symbol.count_law c.args.symbols.now) in
    not_all c.is_known.result _ _ c.is_known.ensures c.if-not-is_known.true
    (λ every. rw (c.weights_at-row.ensures, c.number_at.ensures)
    (known_split self.width (map g.P.Natural.number self.weights.now) g.row.PRECISION self.indexes.now xs l.i inside (omega (arith, inside, c.requires.0.counted)) (l.invariant.behind every)).0)

pub loop-i-preserved : goal.loop-i-preserved
loop-i-preserved g c =
    let self = c.args.self.now in
    let l = c.loop-i in
    let ws = map g.P.Natural.number self.weights.now in
    let xs = g.S.Symbol.numbers c.args.symbols.now in
    let inside : l.i < length xs = omega (arith, c.loop-i-test.true, g.S.Symbol.count_law c.args.symbols.now) in
    let within : l.i < length self.indexes.now = omega (arith, inside, c.requires.0.counted) in
    let known : Knows (weights_model g.row.PRECISION (row_at_index self.width (get_or self.indexes.now l.i 0) ws)) (get_or xs l.i 0) =
    rw (← c.weights_at-row.ensures, ← c.number_at.ensures) (c.is_known.ensures.0 c.if-not-is_known.false) in
    record {
      before = λ others. l.invariant.before (known_joined self.width ws g.row.PRECISION self.indexes.now xs l.i inside within known others);
      behind = λ every. (known_split self.width ws g.row.PRECISION self.indexes.now xs l.i inside within (l.invariant.behind every)).1;
    }
