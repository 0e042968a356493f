use Rattle.std.proofs.Common.{◌≡◌, ◌∙◌, ◌∷◌, ◌++◌, ◌↔◌, ℕ, [], refl, subst, ap, arith, map, pow_pos, List, length}
use Rattle.constriction_queue.specs.Range.{Run, Within, initial}
use Rattle.constriction_laws.specs.queue.Outcomes.{NoListFrom}
use Rattle.constriction_base.specs.Models.{Item, IsModel, AreModels, pairs_of}
use Rattle.constriction_base.specs.Steps.{AreWords}
use Rattle.constriction_base.proofs.WordLists.{words_behind}
use Rattle.constriction_queue.proofs.Seals.{words_of_numbers}
use Rattle.constriction_queue.specs.Range.{sealed}
use Rattle.constriction_queue.specs.Symbols.{FindsAll, NarrowsAll}
use Rattle.constriction_laws.proofs.PairCalls.{are_pairs}
use Rattle.constriction_queue.proofs.StepCalls.{nears_of}
use Rattle.constriction_laws.proofs.of_queue.AnyWords.{found_of, lie_of, some_pairs}
use Rattle.constriction_laws.proofs.of_queue.Told.{passed, while_reading}
use Rattle.constriction_laws.proofs.queue.round_trips.pairs.pairs_from_words.Goals as goal

pub returns-clause-read : goal.returns-clause-read
returns-clause-read g c =
    let w = g.Word.Natural.BITS in
    let s = g.State.Natural.BITS in
    let known = g.met.Words.IntoReadWords.BoundedReadWords.knows_words in
    let decoded = c.in_ok-again.ensures.decoded known _ (initial s) (c.in-Ok.ensures.ok known) in
    let told = c.has_ended-ended.ensures in (
      decoded.0,
      decoded.1,
      told.ended _ decoded.0 decoded.2,
      λ yes. nears_of w s _ decoded.0 c.decode_pairs.new.decoder (pow_pos s) decoded.2 (told.value.0 yes).1,
    )

pub returns-clause-ended : goal.returns-clause-ended
returns-clause-ended g c =
    let known = g.met.Words.IntoReadWords.BoundedReadWords.knows_words in
    let decoded = c.in_ok-again.ensures.decoded known _ (initial g.State.Natural.BITS) (c.in-Ok.ensures.ok known) in (
      decoded.0,
      c.decode_pairs.new.decoder,
      c.has_ended-ended.ensures.decoder,
      decoded.1,
      decoded.2,
      c.has_ended-ended.ensures.value,
    )

pub returns-clause-back : goal.returns-clause-back
returns-clause-back g c =
    let w = g.Word.Natural.BITS in
    let s = g.State.Natural.BITS in
    let number = g.Word.Natural.number in
    let table = g.M.EntropyModel.table in
    let known = g.met.Words.IntoReadWords.BoundedReadWords.knows_words in
    let lawful : (m : g.row.M.Denot) → IsModel w (record { precision = g.row.PRECISION; table = table m }) =
    λ m. (let sized = g.met.M.EntropyModel.sized m in record { some_bits = sized.0; within_word = omega (arith, sized.1, g.met.M.Probability.WordOf.width_law); lawful = g.M.EntropyModel.lawful m }) in
    let words : List ℕ = map number (g.Words.Holds.words c.args.words) in
    let fit : AreWords w words = words_of_numbers number w g.met.Word.Natural.number_law (g.Words.Holds.words c.args.words) in
    let items : List g.row.M-Symbol.Denot → List (Item g.row.M-Symbol.Denot) = λ (symbols : List g.row.M-Symbol.Denot). pairs_of g.row.PRECISION table symbols c.args.models.now in
    let lawful_items : (symbols : List g.row.M-Symbol.Denot) → AreModels w (items symbols) = λ symbols. are_pairs g.row.PRECISION table w symbols c.args.models.now lawful in
    let given = c.in_ok-again.ensures.back known words in
    let stands = c.in-Ok.ensures.ok known in
    record {
      back = λ symbols last found count. (given symbols (initial s) last stands found count).0;
      sealed = λ symbols seals count.
          let found : FindsAll w s words (items symbols) (initial s) seals.0 = rw seals.2 (c.symbols_come_back.ensures.decoded w s (items symbols) seals.0 c.requires (lawful_items symbols) seals.1) in
          let back = given symbols (initial s) seals.0 stands found count in
          (back.0, c.has_ended-ended.ensures.ended words seals.0 back.1 (rw seals.2 (c.symbols_come_back.ensures.exhausted w s (items symbols) seals.0 c.requires (lawful_items symbols) seals.1)));
      followed = λ symbols own rest two seals all count.
          let behind : AreWords w rest = words_behind w own rest (subst (λ (ws : List ℕ). AreWords w ws) all fit) in
          let is : words ≡ sealed w s seals.0 ++ rest = all ∙ ap (λ (ws : List ℕ). ws ++ rest) seals.2 in
          let found : FindsAll w s words (items symbols) (initial s) seals.0 =
          rw is (c.symbols_come_back_before_others.ensures w s (items symbols) seals.0 rest c.requires two (lawful_items symbols) behind seals.1) in
          (given symbols (initial s) seals.0 stands found count).0;
      delimited = λ symbols own rest delimits all count.
          let behind : AreWords w rest = words_behind w own rest (subst (λ (ws : List ℕ). AreWords w ws) all fit) in
          let found : FindsAll w s words (items symbols) (initial s) delimits.0 =
          rw all (c.symbols_come_back_whatever_follows.ensures w s [] (items symbols) (initial s) delimits.0 own rest c.requires tt (lawful_items symbols) behind refl delimits.1 delimits.2) in
          (given symbols (initial s) delimits.0 stands found count).0;
      lying = λ symbols count lie.
          let law : (first : Item g.row.M-Symbol.Denot) (others : List (Item g.row.M-Symbol.Denot)) (last : Run) → AreModels w (first ∷ others) → NarrowsAll w s (first ∷ others) (initial s) last
          → FindsAll w s words (first ∷ others) (initial s) last ↔ Within w s words last = λ first others last ms coded. c.symbols_of_any_words.ensures w s words first others last c.requires fit ms coded in
          let found = found_of w s words law (items symbols) (lawful_items symbols) lie in
          (given symbols (initial s) lie.0 stands found count).0;
    }

pub returns-in_err-again-clause-err : goal.returns-in_err-again-clause-err
returns-in_err-again-clause-err g c =
    let known = g.met.Words.IntoReadWords.BoundedReadWords.knows_words in
    let items : List g.row.M-Symbol.Denot → List (Item g.row.M-Symbol.Denot) = λ (symbols : List g.row.M-Symbol.Denot). pairs_of g.row.PRECISION g.M.EntropyModel.table symbols c.args.models.now in
    passed _ c.in_err-again.field-0.0 _ c.from_residual.ensures.1
    (while_reading _ ⊥ ⊥ (NoListFrom g.Words.IntoReadWords.Holds.is_list g.Word.Natural.BITS g.State.Natural.BITS items (length c.args.models.now) c.in-Ok.decoder) c.in_err-again.field-0.0
    c.in_err-again.ensures.err (λ none. none known _ (initial g.State.Natural.BITS) (c.in-Ok.ensures.ok known)))

pub returns-clause-within : goal.returns-clause-within
returns-clause-within g c = λ some.
    let w = g.Word.Natural.BITS in
    let s = g.State.Natural.BITS in
    let table = g.M.EntropyModel.table in
    let known = g.met.Words.IntoReadWords.BoundedReadWords.knows_words in
    let lawful : (m : g.row.M.Denot) → IsModel w (record { precision = g.row.PRECISION; table = table m }) =
    λ m. (let sized = g.met.M.EntropyModel.sized m in record { some_bits = sized.0; within_word = omega (arith, sized.1, g.met.M.Probability.WordOf.width_law); lawful = g.M.EntropyModel.lawful m }) in
    let words : List ℕ = map g.Word.Natural.number (g.Words.Holds.words c.args.words) in
    let fit = words_of_numbers g.Word.Natural.number w g.met.Word.Natural.number_law (g.Words.Holds.words c.args.words) in
    let law : (first : Item g.row.M-Symbol.Denot) (others : List (Item g.row.M-Symbol.Denot)) (last : Run) → AreModels w (first ∷ others) → NarrowsAll w s (first ∷ others) (initial s) last
    → FindsAll w s words (first ∷ others) (initial s) last ↔ Within w s words last = λ first others last ms coded. c.symbols_of_any_words.ensures w s words first others last c.requires fit ms coded in
    let again = c.in_ok-again.again.items in
    let read = c.in_ok-again.ensures.decoded known words (initial s) (c.in-Ok.ensures.ok known) in
    lie_of w s words law (pairs_of g.row.PRECISION table again c.args.models.now) read.0 (are_pairs g.row.PRECISION table w again c.args.models.now lawful)
    (some_pairs g.row.PRECISION table again c.args.models.now c.in_ok-again.ensures.count some) read.1
