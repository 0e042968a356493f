use Rattle.std.proofs.Common.{ap, ◌∙◌}
use Rattle.constriction_stack.proofs.WordsShown.{binary_filled_keeps}
use Rattle.constriction_stack.proofs.coder.decoders.AnsCoder+Word+State+Cursor+Word+ref+slice+Word.from_binary_slice.Goals as goal

pub returns-clause-buffer : goal.returns-clause-buffer
returns-clause-buffer g c =
    binary_filled_keeps (λ backend. backend.buf.now) _ _ _ _ _ _ _ c.in-Ok.ensures.reads (λ before after answer read. ap (λ buf. buf.now) read.1)
    ∙ ap (λ cursor. cursor.buf.now) c.new_at_write_end.ensures
