use Rattle.std.proofs.Common.{refl}
use Rattle.std.proofs.lemmas.Bool.{false≢true}
use Rattle.constriction_base.proofs.Written.{not_written}
use Rattle.constriction_chain.proofs.Chains.{coder_of}
use Rattle.constriction_chain.proofs.coder.ChainCoder.into_binary.Goals as goal

pub returns-then-not-is_whole-clause-coder : goal.returns-then-not-is_whole-clause-coder
returns-then-not-is_whole-clause-coder g c =
    let law = g.met.Word.Natural.number_law in
    let parts = c.parts.ensures in
    rw (← c.self.view_is) (coder_of _ _ _ g.Word.Natural.number law _ _ _ _ _ _ parts.sized parts.some (law _) parts.window)

pub returns-in_default-clause-coder : goal.returns-in_default-clause-coder
returns-in_default-clause-coder g c =
    let law = g.met.Word.Natural.number_law in
    let parts = c.parts.ensures in
    rw (← c.self.view_is) (coder_of _ _ _ g.Word.Natural.number law _ _ _ _ _ _ parts.sized parts.some (law _) parts.window)

pub returns-in-Ok-clause-coder : goal.returns-in-Ok-clause-coder
returns-in-Ok-clause-coder g c =
    let law = g.met.Word.Natural.number_law in
    let parts = c.parts.ensures in
    rw (← c.self.view_is) (coder_of _ _ _ g.Word.Natural.number law _ _ _ _ _ _ parts.sized parts.some (law _) parts.window)

pub returns-in-Err-clause-coder : goal.returns-in-Err-clause-coder
returns-in-Err-clause-coder g c =
    let law = g.met.Word.Natural.number_law in
    let parts = c.parts.ensures in
    rw (← c.self.view_is) (coder_of _ _ _ g.Word.Natural.number law _ _ _ _ _ _ parts.sized parts.some (law _) parts.window)

pub returns-in-Err-clause-err : goal.returns-in-Err-clause-err
returns-in-Err-clause-err g c =
    let ones = rw c.parts.ensures.parts at c.in-Some.ensures.value in
    let refused = not_written g.Word.Natural.number g.C.Holds g.C.WriteWords _ _ _ _ c.in-Err.ensures.written in
    let refused' = rw c.parts.ensures.parts at refused in
    rw (← c.self.view_is) ((c.if-not-is_whole.ensures.0 refl, (_, ones)), (_, ones, refused'))

pub returns-then-not-is_whole-clause-ok : goal.returns-then-not-is_whole-clause-ok
returns-then-not-is_whole-clause-ok g c = tt

pub returns-then-not-is_whole-clause-err : goal.returns-then-not-is_whole-clause-err
returns-then-not-is_whole-clause-err g c = rw (← c.self.view_is) (λ whole. false≢true (c.if-not-is_whole.ensures.1 whole.0), refl)

pub returns-in_default-clause-ok : goal.returns-in_default-clause-ok
returns-in_default-clause-ok g c = tt

pub returns-in_default-clause-err : goal.returns-in_default-clause-err
returns-in_default-clause-err g c =
    let none = rw c.parts.ensures.parts at c.in_default.ensures.none in
    rw (← c.self.view_is) (λ whole. none whole.1.0 whole.1.1, refl)

pub returns-in-Ok-clause-ok : goal.returns-in-Ok-clause-ok
returns-in-Ok-clause-ok g c =
    let ones = rw c.parts.ensures.parts at c.in-Some.ensures.value in
    let done = rw c.parts.ensures.parts at c.in-Ok.ensures.written.words in
    rw (← c.self.view_is) (c.if-not-is_whole.ensures.0 refl, refl, (_, ones, done))

pub returns-in-Ok-clause-err : goal.returns-in-Ok-clause-err
returns-in-Ok-clause-err g c = tt

pub returns-in-Err-clause-ok : goal.returns-in-Err-clause-ok
returns-in-Err-clause-ok g c = tt
