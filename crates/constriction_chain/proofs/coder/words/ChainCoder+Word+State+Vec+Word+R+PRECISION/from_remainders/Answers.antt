use Rattle.std.proofs.Common.{rules, arith, refl, ap, inl, inr, pow_pos, List, map, ◌∙◌, ◌∷◌, ◌<◌, ◌-◌, ℕ}
use Rattle.constriction_base.proofs.Exporting.{some_of}
use Rattle.constriction_chain.proofs.Chains.{coder_of}
use Rattle.constriction_chain.proofs.Moving.{digits_begin}
use Rattle.constriction_chain.proofs.coder.words.ChainCoder+Word+State+Vec+Word+R+PRECISION.from_remainders.Goals as goal

pub returns-in-Ok-None-clause-err : goal.returns-in-Ok-None-clause-err
returns-in-Ok-None-clause-err g c =
    let reads = rw c.in-Ok-None.field-0-is at c.in-Ok-None.ensures.reads in
    let none = rw c.in-Ok-None.field-0-is at c.in-Ok-None.ensures.words in
    inl (reads, none)

pub returns-in-Err-clause-err : goal.returns-in-Err-clause-err
returns-in-Err-clause-err g c = inl (_, (c.in-Err.ensures.reads, c.in-Err.ensures.words))

pub returns-then-is_nothing-clause-err : goal.returns-then-is_nothing-clause-err
returns-then-is_nothing-clause-err g c =
    let reads = rw c.in-Ok-Some.field-0-is at c.in-Ok-Some.ensures.reads in
    let top = rw c.in-Ok-Some.field-0-is at c.in-Ok-Some.ensures.words in
    inr (inl (c.in-Ok-Some.word, c.if-is_nothing.ensures.0 refl, (reads, top)))

pub returns-in-Ok-None-begin_window-clause-err : goal.returns-in-Ok-None-begin_window-clause-err
returns-in-Ok-None-begin_window-clause-err g c =
    let reads = rw c.in-Ok-Some.field-0-is at c.in-Ok-Some.ensures.reads in
    let top = rw c.in-Ok-Some.field-0-is at c.in-Ok-Some.ensures.words in
    let none = rw c.in-Ok-None-begin_window.field-0-is at c.in-Ok-None-begin_window.ensures.none in
    inr (inr (c.in-Ok-Some.word, c.read.new.self, some_of _ c.if-is_nothing.ensures.1, (reads, top), none))

pub returns-in-Err-begin_window-clause-err : goal.returns-in-Err-begin_window-clause-err
returns-in-Err-begin_window-clause-err g c =
    let reads = rw c.in-Ok-Some.field-0-is at c.in-Ok-Some.ensures.reads in
    let top = rw c.in-Ok-Some.field-0-is at c.in-Ok-Some.ensures.words in
    inr (c.in-Ok-Some.word, c.read.new.self, some_of _ c.if-is_nothing.ensures.1, (reads, top), c.in-Err-begin_window.ensures.err)

pub returns-in-Ok-Some-begin_window-clause-ok : goal.returns-in-Ok-Some-begin_window-clause-ok
returns-in-Ok-Some-begin_window-clause-ok g c =
    let number = g.Word.Natural.number in
    let top = rw c.in-Ok-Some.field-0-is at c.in-Ok-Some.ensures.words in
    let found = rw c.in-Ok-Some-begin_window.field-0-is at c.in-Ok-Some-begin_window.ensures.ok in
    let window = rw c.in-Ok-Some-begin_window.field-0-is at c.in-Ok-Some-begin_window.ensures.window in
    let some : 0 < g.State.Natural.number c.in-Ok-Some-begin_window.r = omega (arith, window.from, pow_pos (g.State.Natural.BITS - g.Word.Natural.BITS - g.row.PRECISION)) in
    rw c.of.ensures (
      search rules,
      λ list. ap (λ (ws : List _). map number ws) (top list)
          ∙ ap (λ (ws : List ℕ). number c.in-Ok-Some.word ∷ ws) (digits_begin number g.R.Holds g.R.ReadWords _ _ _ _ c.requires.sizes.some_bits g.met.Word.Natural.number_law some found list),
    )

pub returns-in-Ok-Some-begin_window-clause-reads : goal.returns-in-Ok-Some-begin_window-clause-reads
returns-in-Ok-Some-begin_window-clause-reads g c =
    let reads = rw c.in-Ok-Some.field-0-is at c.in-Ok-Some.ensures.reads in
    let top = rw c.in-Ok-Some.field-0-is at c.in-Ok-Some.ensures.words in
    let found = rw c.in-Ok-Some-begin_window.field-0-is at c.in-Ok-Some-begin_window.ensures.ok in
    rw c.of.ensures (c.in-Ok-Some.word, c.read.new.self, refl, (reads, top), found)

pub returns-in-Ok-Some-begin_window-clause-coder : goal.returns-in-Ok-Some-begin_window-clause-coder
returns-in-Ok-Some-begin_window-clause-coder g c =
    let law = g.met.Word.Natural.number_law in
    let window = rw c.in-Ok-Some-begin_window.field-0-is at c.in-Ok-Some-begin_window.ensures.window in
    rw c.of.ensures (coder_of _ _ _ g.Word.Natural.number law _ _ _ _ _ _ c.requires (some_of _ c.if-is_nothing.ensures.1) (law _) window)
