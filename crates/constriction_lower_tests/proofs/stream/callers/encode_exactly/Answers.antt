use Rattle.constriction_stream.proofs.Outcomes.{impossible_of, never_known_of}
use Rattle.constriction_lower_tests.proofs.stream.callers.encode_exactly.Goals as goal

pub returns : goal.returns
returns g c = (
  λ some. (impossible_of g.C.Encode.encodes g.C.Encode.is_impossible_symbol 8 _ _ _ _ some.0 g.met.C.Encode.never_impossible some.1 (rw some.2 at c.encode_symbol.ensures.step)).0,
  λ never.
      let answer = never_known_of g.C.Encode.encodes g.C.Encode.is_impossible_symbol 8 _ _ _ _ _ never c.encode_symbol.ensures.step in
      (answer.0, answer.1, answer.2),
)
