use Rattle.std.proofs.Common.{subst}
use Rattle.std.proofs.lemmas.List.{reverse-reverse}
use Rattle.constriction_base.specs.Models.{IsModel}
use Rattle.constriction_queue.specs.Symbols.{FindsAll}
use Rattle.constriction_laws.specs.queue.Undone.{Reading}
use Rattle.constriction_queue.proofs.ComingBack.{decodes_unique}
use Rattle.constriction_laws.proofs.of_queue.TakenBack.{taken_back}
use Rattle.std.specs.Prelude.{reverse}
use Rattle.constriction_laws.proofs.queue.lists.decodes_undo_encodes.Goals as goal
use Rattle.constriction_base.proofs.Turns.{all-reverse}

pub returns-clause-back : goal.returns-clause-back
returns-clause-back g c = λ w s words items old new z are ms v h within.
    let reading : Reading = record { w = w; s = s; are = z; words = words; are_words = are } in
    subst (λ items. FindsAll w s words items old new) (reverse-reverse items)
    (c.lists_undo.ensures.undone reading (reverse items) new old (all-reverse (λ item. IsModel w item.model) items ms) within (taken_back w s items old new z ms v h))

pub returns-clause-only : goal.returns-clause-only
returns-clause-only g c = λ w s words items others old new last ms i j e. decodes_unique w s words items others old new last ms e i j

pub returns-clause-within : goal.returns-clause-within
returns-clause-within g c = λ w s words items old new z are ms v h within.
    let reading : Reading = record { w = w; s = s; are = z; words = words; are_words = are } in
    c.lists_undo.ensures.valid reading (reverse items) new old (all-reverse (λ item. IsModel w item.model) items ms) within (taken_back w s items old new z ms v h)
