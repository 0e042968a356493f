use Rattle.std.proofs.Common.{ap, ◌∙◌}
use Rattle.constriction_stack.proofs.WordsShown.{binary_filled_keeps}
use Rattle.constriction_stack.proofs.coder.decoders.AnsCoder+Word+State+Reverse+Cursor+Word+Buf.from_reversed_binary.Goals as goal

pub returns-clause-buffer : goal.returns-clause-buffer
returns-clause-buffer g c =
    binary_filled_keeps (λ backend. backend.0.buf) _ _ _ _ _ _ _ c.in-Ok.ensures.reads (λ before after answer read. read.1)
    ∙ ap (λ cursor. cursor.buf) c.new_at_write_beginning.ensures
