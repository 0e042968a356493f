use Rattle.std.proofs.Common.{ap, map, sym, refl, ◌∙◌}
use Rattle.std.specs.declared.convert.Infallible.{Infallible}
use Rattle.constriction_stack.specs.Ans.{filled}
use Rattle.constriction_stack.proofs.Buffers.{all_below, still_high, refused_low}
use Rattle.constriction_stack.proofs.WordsShown.{filled_keeps}
use Rattle.constriction_stack.proofs.coder.decoders.AnsCoder+Word+State+Cursor+Word+ref+slice+Word.from_compressed_slice.Goals as goal

pub from_compressed-requires : goal.from_compressed-requires
from_compressed-requires g c = c.requires

pub returns-in-Ok-clause-ok : goal.returns-in-Ok-clause-ok
returns-in-Ok-clause-ok g c =
    c.in-Ok.ensures.ok tt
    ∙ ap (λ ws. filled g.Word.Natural.BITS g.State.Natural.BITS 0 (map g.Word.Natural.number ws)) (all_below (λ buf. buf.now) _ _ c.new_at_write_end.ensures)

pub returns-in-Ok-clause-variant : goal.returns-in-Ok-clause-variant
returns-in-Ok-clause-variant g c = (
  λ is. still_high g.Word.Natural.number _ _ (all_below (λ buf. buf.now) _ _ c.new_at_write_end.ensures) (c.in-Ok.ensures.some tt),
  λ high. refl,
)

pub returns-in-Ok-clause-buffer : goal.returns-in-Ok-clause-buffer
returns-in-Ok-clause-buffer g c =
    filled_keeps (λ backend. backend.buf.now) _ _ _ _ _ _ _ c.in-Ok.ensures.reads (λ before after answer read. ap (λ buf. buf.now) read.1)
    ∙ ap (λ cursor. cursor.buf.now) c.new_at_write_end.ensures

pub returns-in-Ok-clause-coder : goal.returns-in-Ok-clause-coder
returns-in-Ok-clause-coder g c = c.in-Ok.ensures.coder

pub returns-in-Err-clause-ok : goal.returns-in-Err-clause-ok
returns-in-Err-clause-ok g c = tt

pub returns-in-Err-clause-variant : goal.returns-in-Err-clause-variant
returns-in-Err-clause-variant g c = (
  λ is. absurd cc,
  λ high. absurd (refused_low {E = Infallible} g.Word.Natural.number _ _ (λ never. elim never [ ]) (c.in-Err.ensures.taken tt)
      (still_high g.Word.Natural.number _ _ (sym (all_below (λ buf. buf.now) _ _ c.new_at_write_end.ensures)) high)),
)

pub returns-in-Err-clause-buffer : goal.returns-in-Err-clause-buffer
returns-in-Err-clause-buffer g c = tt

pub returns-in-Err-clause-coder : goal.returns-in-Err-clause-coder
returns-in-Err-clause-coder g c = tt
