use Rattle.std.proofs.Common.{ap, ◌∙◌}
use Rattle.constriction_stack.proofs.WordsShown.{filled_keeps}
use Rattle.constriction_stack.proofs.coder.decoders.AnsCoder+Word+State+Reverse+Cursor+Word+Buf.from_reversed_compressed.Goals as goal

pub returns-in-Ok-clause-buffer : goal.returns-in-Ok-clause-buffer
returns-in-Ok-clause-buffer g c =
    filled_keeps (λ backend. backend.0.buf) _ _ _ _ _ _ _ c.in-Ok.ensures.reads (λ before after answer read. read.1)
    ∙ ap (λ cursor. cursor.buf) c.new_at_write_beginning.ensures
