use Rattle.std.proofs.Common.{refl}
use Rattle.constriction_stack.proofs.Errors.{same_error}
use Rattle.constriction_stack.proofs.coder.AnsCoder.get_binary.Goals as goal

pub returns-in-Ok : goal.returns-in-Ok
returns-in-Ok g c = (
  (refl, λ w. refl, tt),
  record {
    same_reference = refl;
    coder = c.in-Ok.ensures.coder;
    shows = c.in-Ok.ensures.shows;
    back = c.in-Ok.ensures.back;
    frontend = (λ is m i. absurd cc, λ none. absurd (none c.in-Ok.ensures.shows.0 c.in-Ok.ensures.shows.1));
    err = λ e is. absurd cc;
    kept = tt;
  },
)

pub returns-in-Err : goal.returns-in-Err
returns-in-Err g c = (
  (refl, λ w. tt, c.in-Err.ensures.kept),
  record {
    same_reference = tt;
    coder = c.in-Err.ensures.coder;
    shows = tt;
    back = tt;
    frontend = (λ is. c.in-Err.ensures.frontend.0 (same_error is), λ none. same_error (c.in-Err.ensures.frontend.1 none));
    err = λ e is. c.in-Err.ensures.err e (same_error is);
    kept = tt;
  },
)
