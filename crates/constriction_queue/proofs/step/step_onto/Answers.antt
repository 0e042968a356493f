use Rattle.std.proofs.Common.{◌++◌, map, arith, ap, refl, sym, ◌∙◌, append_assoc, inl, inr}
use Rattle.std.proofs.lemmas.Result.{err_from_is_err_and}
use Rattle.constriction_queue.specs.Range.{grown}
use Rattle.constriction_queue.specs.Encoder.{released_of, word_of}
use Rattle.constriction_queue.proofs.Encoders.{is_encoder, owed_are_words}
use Rattle.constriction_queue.proofs.Fits.{cut_wide}
use Rattle.constriction_queue.proofs.step.step_onto.Goals as goal

pub grow-after-requires-clause-wide : goal.grow-after-requires-clause-wide
grow-after-requires-clause-wide g c =
    rw c.narrow_interval-part.ensures.range (cut_wide _ _ _ _ _ c.requires.step.within_word c.requires.sizes.two_words c.requires.step.not_empty c.requires.wide)

pub returns : goal.returns
returns g c =
    let number = g.Word.Natural.number in
    let words = map number (g.Backend.Holds.words c.args.bulk.now) in
    let released = released_of number c.narrow_interval-part.result.released in
    let top = word_of number c.grow-after.result.top in
    let all = c.grow-after.ensures.run (released ++ words) ∙ ap (grown g.Word.Natural.BITS g.State.Natural.BITS) (c.narrow_interval-part.ensures.run words) in
    let is = rw (sym (append_assoc top released words)) at all in
    record {
      ok = record {
        before = is_encoder number g.Backend.Holds _ _ _ _ _ c.args.situation c.requires.sizes c.requires.fit c.requires.wide (g.met.State.Natural.number_law _) (g.met.State.Natural.number_law _);
        after = is_encoder number g.Backend.Holds _ _ _ _ _ c.grow-after.result.situation c.requires.sizes c.grow-after.ensures.fit c.grow-after.ensures.wide (g.met.State.Natural.number_law _) (g.met.State.Natural.number_law _);
        narrowed = rw c.in_ok-write_step.ensures.written.words is;
        written = record {
          owed = top ++ released;
          owes = record {
            are_words = owed_are_words number _ g.met.Word.Natural.number_law c.narrow_interval-part.result.released c.grow-after.result.top;
            lower_fits = g.met.State.Natural.number_law _;
            situation = c.grow-after.result.situation;
            lower = _;
            range = _;
            fits = c.grow-after.ensures.fit;
            is = is;
          };
          words = c.in_ok-write_step.ensures.written.words;
          room_used = c.in_ok-write_step.ensures.written.room_used;
          untouched = λ none. (c.in_ok-write_step.ensures.written.untouched none).1;
        };
        held = omega (arith, c.grow-after.ensures.held, c.narrow_interval-part.ensures.held);
        heads = tt;
        kept = λ _. tt;
        error = tt;
      };
      wide = c.grow-after.ensures.wide;
      fit = c.grow-after.ensures.fit;
      err = tt;
    }

pub returns-in_err-write_step : goal.returns-in_err-write_step
returns-in_err-write_step g c =
    let number = g.Word.Natural.number in
    let words = map number (g.Backend.Holds.words c.args.bulk.now) in
    let released = released_of number c.narrow_interval-part.result.released in
    let top = word_of number c.grow-after.result.top in
    let all = c.grow-after.ensures.run (released ++ words) ∙ ap (grown g.Word.Natural.BITS g.State.Natural.BITS) (c.narrow_interval-part.ensures.run words) in
    let is = rw (sym (append_assoc top released words)) at all in
    let told = err_from_is_err_and c.from_residual.result c.from_residual.ensures.1 in
    rw (told.1, told.2) record {
      err = record {
        before = is_encoder number g.Backend.Holds _ _ _ _ _ c.args.situation c.requires.sizes c.requires.fit c.requires.wide (g.met.State.Natural.number_law _) (g.met.State.Natural.number_law _);
        after = is_encoder number g.Backend.Holds _ _ _ _ _ c.args.situation c.requires.sizes c.requires.fit c.requires.wide (g.met.State.Natural.number_law _) (g.met.State.Natural.number_law _);
        narrowed = tt;
        written = tt;
        held = omega arith;
        heads = record { held = refl; lower = refl; range = refl };
        kept = λ makes. ap (map number) (c.in_err-write_step.ensures.written.kept makes);
        error = record {
          owed = top ++ released;
          owes = record {
            are_words = owed_are_words number _ g.met.Word.Natural.number_law c.narrow_interval-part.result.released c.grow-after.result.top;
            lower_fits = g.met.State.Natural.number_law _;
            situation = c.grow-after.result.situation;
            lower = _;
            range = _;
            fits = c.grow-after.ensures.fit;
            is = is;
          };
          begun = c.in_err-write_step.ensures.written.begun;
          short = c.in_err-write_step.ensures.written.short;
          error = elim c.in_err-write_step.ensures.written.error [
            | inl room ↦ inl room.0
            | inr write ↦ inr write
          ];
          one = λ none. c.in_err-write_step.ensures.one (c.narrow_interval-part.ensures.none none);
        };
      };
      ok = tt;
      wide = tt;
      fit = tt;
    }
