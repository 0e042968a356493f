use Rattle.std.proofs.Common.{refl, sym, ◌^◌}
use Rattle.std.proofs.lemmas.Bool.{false≢true}
use Rattle.constriction_base.proofs.Exporting.{base_two}
use Rattle.constriction_base.proofs.Guards.{all_digits}
use Rattle.constriction_base.proofs.Written.{not_written}
use Rattle.constriction_chain.proofs.Chains.{coder_of}
use Rattle.constriction_chain.proofs.coder.ChainCoder.into_compressed.Goals as goal

pub returns-then-not-is_whole-clause-err : goal.returns-then-not-is_whole-clause-err
returns-then-not-is_whole-clause-err g c = rw (← c.self.view_is) (λ whole. false≢true (c.if-not-is_whole.ensures.1 whole), refl)

pub returns-then-not-is_whole-clause-coder : goal.returns-then-not-is_whole-clause-coder
returns-then-not-is_whole-clause-coder g c =
    let law = g.met.Word.Natural.number_law in
    let parts = c.parts.ensures in
    rw (← c.self.view_is) (coder_of _ _ _ g.Word.Natural.number law _ _ _ _ _ _ parts.sized parts.some (law _) parts.window)

pub returns-in-Ok-clause-ok : goal.returns-in-Ok-clause-ok
returns-in-Ok-clause-ok g c =
    let parts = c.parts.ensures in
    let done = rw (all_digits (2 ^ g.Word.Natural.BITS) c.count_of_words-count.result (g.State.Natural.number c.parts.result.1) (base_two g.Word.Natural.BITS parts.sized.sizes.some_bits) (sym c.count_of_words-count.ensures), parts.parts) at c.in-Ok.ensures.written.words in
    rw (← c.self.view_is) (c.if-not-is_whole.ensures.0 refl, refl, done)

pub returns-in-Ok-clause-coder : goal.returns-in-Ok-clause-coder
returns-in-Ok-clause-coder g c =
    let law = g.met.Word.Natural.number_law in
    let parts = c.parts.ensures in
    rw (← c.self.view_is) (coder_of _ _ _ g.Word.Natural.number law _ _ _ _ _ _ parts.sized parts.some (law _) parts.window)

pub returns-in-Err-clause-err : goal.returns-in-Err-clause-err
returns-in-Err-clause-err g c =
    let parts = c.parts.ensures in
    let gone = not_written g.Word.Natural.number g.C.Holds g.C.WriteWords _ _ _ _ c.in-Err.ensures.written in
    let refused = rw (all_digits (2 ^ g.Word.Natural.BITS) c.count_of_words-count.result (g.State.Natural.number c.parts.result.1) (base_two g.Word.Natural.BITS parts.sized.sizes.some_bits) (sym c.count_of_words-count.ensures), parts.parts) at gone in
    rw (← c.self.view_is) (c.if-not-is_whole.ensures.0 refl, refused)

pub returns-in-Err-clause-coder : goal.returns-in-Err-clause-coder
returns-in-Err-clause-coder g c =
    let law = g.met.Word.Natural.number_law in
    let parts = c.parts.ensures in
    rw (← c.self.view_is) (coder_of _ _ _ g.Word.Natural.number law _ _ _ _ _ _ parts.sized parts.some (law _) parts.window)
