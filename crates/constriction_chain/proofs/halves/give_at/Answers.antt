use Rattle.std.proofs.Common.{List, map, ap, refl, sym, arith, inl, inr, ◌∙◌}
use Rattle.std.proofs.lemmas.List.{length-map}
use Rattle.constriction_base.specs.Windows.{IsInWindow}
use Rattle.constriction_chain.specs.Chain.{least}
use Rattle.constriction_chain.proofs.Chains.{coder_of, encode_of, state_same}
use Rattle.constriction_base.proofs.Exporting.{no_room}
use Rattle.constriction_chain.proofs.Sizes.{placed}
use Rattle.constriction_chain.proofs.halves.give_at.Goals as goal

pub regain-requires-clause-few : goal.regain-requires-clause-few
regain-requires-clause-few g c = rw c.widen-p.ensures (omega (arith, c.requires.total))

pub plus-quantile-requires : goal.plus-quantile-requires
plus-quantile-requires g c =
    let place = placed _ g.Word.Natural.BITS _ _ (g.State.Natural.number c.in-Ok-Some.v) c.requires.sized.within_word c.requires.some c.requires.total in
    rw (c.narrow.ensures, c.div_rem-quotient.ensures.rest, c.widen-p.ensures, place.0) place.2

pub give_quantile-requires-clause-below : goal.give_quantile-requires-clause-below
give_quantile-requires-clause-below g c =
    let place = placed _ g.Word.Natural.BITS _ _ (g.State.Natural.number c.in-Ok-Some.v) c.requires.sized.within_word c.requires.some c.requires.total in
    rw (c.plus-quantile.ensures, c.narrow.ensures, c.div_rem-quotient.ensures.rest, c.widen-p.ensures, place.0) place.1

pub returns-in-Err-clause-step : goal.returns-in-Err-clause-step
returns-in-Err-clause-step g c =
    let number = g.Word.Natural.number in
    let law = g.met.Word.Natural.number_law in
    let parts = c.requires in
    let refused = c.in-Err.ensures.err in
    let words = ap (λ (ws : List _). map number ws) c.in-Err.ensures.words in
    record {
      err = record {
        before = coder_of _ _ _ number law g.C.Holds g.R.Holds _ _ _ _ parts.sized parts.head (law _) parts.window;
        after = coder_of _ _ _ number law g.C.Holds g.R.Holds _ _ _ _ parts.sized parts.head (law _) parts.window;
        outcome = record {
          owes = refused.0;
          h = refl;
          r = refl;
          compressed = words;
          why = inl (refused.1, state_same _ _ refl refl words refl, refl);
          room_left = c.in-Err.ensures.room;
        };
      };
      ok = tt;
    }

pub returns-in-Ok-None-clause-step : goal.returns-in-Ok-None-clause-step
returns-in-Ok-None-clause-step g c =
    let number = g.Word.Natural.number in
    let law = g.met.Word.Natural.number_law in
    let parts = c.requires in
    let refused = rw (c.in-Ok-None.field-0-is, c.widen-p.ensures) at c.in-Ok-None.ensures.none in
    let words = ap (λ (ws : List _). map number ws) c.prepare_for_quantile.ensures.words in
    let asked = c.in_default.ensures.ok in
    record {
      err = record {
        before = coder_of _ _ _ number law g.C.Holds g.R.Holds _ _ _ _ parts.sized parts.head (law _) parts.window;
        after = coder_of _ _ _ number law g.C.Holds g.R.Holds _ _ _ _ parts.sized parts.head (law _) parts.window;
        outcome = record {
          short = refused.0;
          answered = refused.1;
          stays = record {
            h = refl;
            r = refl;
            others = words;
            all = λ list. state_same _ _ refl refl words (ap (λ (ws : List _). map number ws) ((refused.1.1 list).1 ∙ sym (refused.1.1 list).0));
          };
          room_left = asked.room_left;
          roomy = asked.made;
        };
      };
      ok = tt;
    }

pub returns-in-Err-regain-clause-step : goal.returns-in-Err-regain-clause-step
returns-in-Err-regain-clause-step g c =
    let number = g.Word.Natural.number in
    let law = g.met.Word.Natural.number_law in
    let parts = c.requires in
    let refused = rw (c.widen-p.ensures) at c.in-Err-regain.ensures.err in
    let words = ap (λ (ws : List _). map number ws) c.prepare_for_quantile.ensures.words in
    let asked = c.in_default.ensures.ok in
    record {
      err = record {
        before = coder_of _ _ _ number law g.C.Holds g.R.Holds _ _ _ _ parts.sized parts.head (law _) parts.window;
        after = coder_of _ _ _ number law g.C.Holds g.R.Holds _ _ _ _ parts.sized parts.head (law _) parts.window;
        outcome = record {
          short = refused.0;
          answered = refused.1;
          stays = record {
            h = refl;
            r = refl;
            others = words;
            all = λ list. state_same _ _ refl refl words (ap (λ (ws : List _). map number ws) (refused.1.1 list));
          };
          room_left = asked.room_left;
          roomy = asked.made;
        };
      };
      ok = tt;
    }

pub returns-in-Ok-clause-step : goal.returns-in-Ok-clause-step
returns-in-Ok-clause-step g c =
    let number = g.Word.Natural.number in
    let law = g.met.Word.Natural.number_law in
    let parts = c.requires in
    let v = g.State.Natural.number c.in-Ok-Some.v in
    let place = placed _ g.Word.Natural.BITS _ _ v parts.sized.within_word c.requires.some c.requires.total in
    let quantile = rw (c.narrow.ensures, c.div_rem-quotient.ensures.rest, c.widen-p.ensures, place.0) at c.plus-quantile.ensures in
    let quotient = rw c.widen-p.ensures at c.div_rem-quotient.ensures.quotient in
    let found = rw c.in-Ok-Some.field-0-is at c.in-Ok-Some.ensures.ok in
    let within = rw c.widen-p.ensures at found.window in
    let given = c.in-Ok.ensures.ok in
    let walk = rw (c.prepare_for_quantile.ensures.words, quantile) at given.walk in
    let used = rw c.prepare_for_quantile.ensures.words at given.room_used in
    let asked = c.in_default.ensures.ok in
    let window : IsInWindow g.Word.Natural.BITS (least g.Word.Natural.BITS g.State.Natural.BITS c.args.precision) (g.State.Natural.number c.div_rem-quotient.result.0) = rw quotient within in
    let after = coder_of _ _ _ number law g.C.Holds g.R.Holds _ _ c.give_quantile.new.compressed c.regain.new.remainders parts.sized c.in-Ok.ensures.some (law _) window in
    record {
      ok = record {
        before = coder_of _ _ _ number law g.C.Holds g.R.Holds _ _ _ _ parts.sized parts.head (law _) parts.window;
        after = after;
        outcome = record {
          encoded = λ list. encode_of _ _ _ parts.sized.within_word _ v _ _ after.chain c.requires.some refl quotient walk (found.brought list);
          v = v;
          by = rw c.widen-p.ensures at found.by;
          walk = walk;
          r = quotient;
          untouched = λ none. given.untouched none ∙ asked.unasked none;
          room_used = rw (length-map, length-map) (omega (arith, used, asked.room_left));
        };
      };
      err = tt;
    }

pub returns-in-Err-give_quantile-clause-step : goal.returns-in-Err-give_quantile-clause-step
returns-in-Err-give_quantile-clause-step g c =
    let number = g.Word.Natural.number in
    let law = g.met.Word.Natural.number_law in
    let parts = c.requires in
    let found = rw c.in-Ok-Some.field-0-is at c.in-Ok-Some.ensures.ok in
    let by = rw c.widen-p.ensures at found.by in
    let refused = c.in-Err-give_quantile.ensures.err in
    let asked = c.in_default.ensures.ok in
    record {
      err = record {
        before = coder_of _ _ _ number law g.C.Holds g.R.Holds _ _ _ _ parts.sized parts.head (law _) parts.window;
        after = coder_of _ _ _ number law g.C.Holds g.R.Holds _ _ _ _ parts.sized parts.head (law _) parts.window;
        outcome = record {
          owes = refused.0;
          h = refl;
          r = refl;
          compressed = ap (λ (ws : List _). map number ws) (c.in-Err-give_quantile.ensures.kept ∙ c.prepare_for_quantile.ensures.words);
          why = inr (λ m. g.met.C.WriteWords.room_law _ _ (asked.made m refused.0) refused.1, asked.fails _ refused.1, (_, by));
          room_left = (let none = no_room (g.C.WriteWords.room c.prepare_for_quantile.new.compressed) (λ some. g.met.C.WriteWords.room_law _ _ some refused.1) in omega (arith, none, asked.room_left));
        };
      };
      ok = tt;
    }
