use Rattle.std.proofs.Common.{◌≡◌, [], arith, drop, inr, refl, reverse}
use Rattle.std.specs.Prelude.{◌<◌}
use Rattle.std.proofs.lemmas.List.{drop_all}
use Rattle.constriction_base.specs.Models.{AreModels}
use Rattle.constriction_stack.specs.Ans.{AnsState, IsNormalized}
use Rattle.constriction_stack.specs.Lanes.{lane}
use Rattle.constriction_stack.specs.Symbols.{EncodesAll}
use Rattle.constriction_inputs.proofs.Places.{is_step, models_more}
use Rattle.constriction_calls.proofs.AnsPlaces.{codes_more}
use Rattle.constriction_calls.proofs.ans.encoding.encode_single_item.Goals as goal

some : 0 < 1
some = omega arith

pub overflow_cast-bits : goal.overflow_cast-bits
overflow_cast-bits g c =
    let step = is_step g.Word.Natural.BITS g.row.PRECISION g.P.Natural.BITS g.met.P.WordOf.width_law (g.L.ItemList.list_items c.args.list.now) 1 some _ _ c.in_ok-found.ensures.found in
    omega (arith, step.within_word, g.met.Word.Natural.bits_law.1)

pub encode_onto-new_head-requires-clause-step : goal.encode_onto-new_head-requires-clause-step
encode_onto-new_head-requires-clause-step g c =
    rw (c.widen-begin.ensures, c.widen.ensures, c.widen-length.ensures, c.widen-2.ensures, c.from_nonzero.ensures)
    (is_step g.Word.Natural.BITS g.row.PRECISION g.P.Natural.BITS g.met.P.WordOf.width_law (g.L.ItemList.list_items c.args.list.now) 1 some _ _ c.in_ok-found.ensures.found)

pub returns : goal.returns
returns g c =
    let items = g.L.ItemList.list_items c.args.list.now in
    let w = g.Word.Natural.BITS in
    let s = g.State.Natural.BITS in
    let end : drop 1 items ≡ [] = drop_all 1 items (omega (arith, c.requires.one)) in
    let first : AnsState = lane g.Word.Natural.number g.State.Natural.number c.args.head.now c.args.room.now 0 in
    let valid : IsNormalized w s first = record { state = record { fits = g.met.State.Natural.number_law c.args.head.now; are_words = tt }; full = inr refl } in
    let models : AreModels w (drop 1 items) = rw end tt in
    let coded : EncodesAll w s (reverse (drop 1 items)) first first = rw end refl in
    let pushed = rw (c.widen-begin.ensures, c.widen.ensures, c.widen-length.ensures, c.widen-2.ensures, c.from_nonzero.ensures) at (c.encode_onto-new_head.ensures.encoded valid) in
    record {
      models = models_more w g.row.PRECISION g.P.Natural.BITS g.met.P.WordOf.width_law items 1 some _ _ c.in_ok-found.ensures.found models;
      coded = codes_more w s g.row.PRECISION g.P.Natural.BITS items 1 some _ _ c.in_ok-found.ensures.found _ _ _ coded pushed;
    }
