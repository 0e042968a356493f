use Rattle.constriction_laws.proofs.Undoing.{all_free}
use Rattle.constriction_laws.proofs.chain.lists.decodes_undo_encodes.Goals as goal

pub returns : goal.returns
returns g c = λ w s items old new h. c.lists_undo.ensures.undone (w, s) items old new (all_free items) tt h
