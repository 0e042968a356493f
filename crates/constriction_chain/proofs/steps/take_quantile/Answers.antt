use Rattle.std.proofs.Common.{arith, refl, inl, inr, [], ◌∷◌}
use Rattle.constriction_chain.proofs.Walks.{walk_word, walk_bits, quantile_below, quantile_some}
use Rattle.constriction_chain.proofs.steps.take_quantile.Goals as goal

pub needs_word-requires : goal.needs_word-requires
needs_word-requires g c = c.requires.sized.1

pub returns-then-not-needs_word-clause-ok : goal.returns-then-not-needs_word-clause-ok
returns-then-not-needs_word-clause-ok g c =
    let test = c.if-not-needs_word.ensures in
    let alone = walk_bits g.Word.Natural.BITS c.args.precision c.requires.sized.1 _ _ _ [] [] test.0 (g.met.Word.Natural.number_law _) test.1 refl c.low_bits-quantile.ensures c.shift_right.ensures in record {
      walk = λ list. walk_bits g.Word.Natural.BITS c.args.precision c.requires.sized.1 _ _ _ _ _ test.0 (g.met.Word.Natural.number_law _) test.1 refl c.low_bits-quantile.ensures c.shift_right.ensures;
      by = inl (alone, refl);
      below = quantile_below _ _ _ _ _ _ _ alone;
      some = quantile_some _ _ _ _ _ _ _ alone;
      unasked = λ none. refl;
      others = refl;
      fails = λ e h. h;
      room_left = omega arith;
      roomy = λ m. inl refl;
    }

pub returns-in-Ok-Some-clause-ok : goal.returns-in-Ok-Some-clause-ok
returns-in-Ok-Some-clause-ok g c =
    let read = rw c.in-Ok-Some.field-0-is at c.in-Ok-Some.ensures.words in
    let reads = rw c.in-Ok-Some.field-0-is at c.in-Ok-Some.ensures.reads in
    let word = g.Word.Natural.number c.in-Ok-Some.word in
    let alone = walk_word g.Word.Natural.BITS c.args.precision c.requires.sized.1 _ _ _ word (word ∷ []) [] c.requires.some (g.met.Word.Natural.number_law _)
    c.if-not-needs_word.ensures (g.met.Word.Natural.number_law _) refl c.from_word-quantile.ensures.quantile c.from_word-quantile.ensures.head in record {
      walk = λ list. rw (read list) (walk_word g.Word.Natural.BITS c.args.precision c.requires.sized.1 _ _ _ word _ _ c.requires.some (g.met.Word.Natural.number_law _)
          c.if-not-needs_word.ensures (g.met.Word.Natural.number_law _) refl c.from_word-quantile.ensures.quantile c.from_word-quantile.ensures.head);
      by = inr (c.in-Ok-Some.word, reads, alone);
      below = quantile_below _ _ _ _ _ _ _ alone;
      some = quantile_some _ _ _ _ _ _ _ alone;
      unasked = λ none. absurd (none c.if-not-needs_word.ensures);
      others = c.prepare.ensures.words;
      fails = c.in_default.ensures.fails;
      room_left = c.in_default.ensures.room;
      roomy = λ m. inr (c.in_default.ensures.made m);
    }
