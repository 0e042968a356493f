use Rattle.std.proofs.Common.{inl, refl}
use Rattle.constriction_base.proofs.Sizes.{facts}
use Rattle.constriction_stack.proofs.Moved.{ended_import, ended_state, refused_import, refused_list}
use Rattle.constriction_base.proofs.Exporting.{some_of}
use Rattle.constriction_stack.proofs.FirstReads.{refused_at_once, list_refused_at_once, none_filled, none_imported, none_high, first_imported, first_high}
use Rattle.constriction_stack.proofs.coder.AnsCoder.from_compressed.Goals as goal

pub returns-in-Err-fill-clause-err : goal.returns-in-Err-fill-clause-err
returns-in-Err-fill-clause-err g c =
    let number = g.Word.Natural.number in
    let word = c.in-Ok-Some.word in
    let read = rw c.in-Ok-Some.field-0-is at c.in-Ok-Some.ensures.reads in
    let some = some_of (number word) c.if-is_nothing.ensures.1 in
    let rest = rw (c.widen.ensures, c.BITS.ensures, c.BITS-2.ensures) at c.in-Err-fill.ensures.moves in
    refused_import number g.Backend.Holds g.Backend.ReadWords g.Word.Natural.BITS g.State.Natural.BITS c.args.bulk c.read.new.self word read some rest.0 c.fill.new.bulk c.in-Err-fill.field-0 rest.1

pub returns-in-Err-fill-clause-taken : goal.returns-in-Err-fill-clause-taken
returns-in-Err-fill-clause-taken g c = λ list.
    let number = g.Word.Natural.number in
    let word = c.in-Ok-Some.word in
    let read = rw c.in-Ok-Some.field-0-is at c.in-Ok-Some.ensures.reads in
    let taken = rw c.in-Ok-Some.field-0-is at c.in-Ok-Some.ensures.words in
    let some = some_of (number word) c.if-is_nothing.ensures.1 in
    let rest = rw (c.widen.ensures, c.BITS.ensures, c.BITS-2.ensures) at c.in-Err-fill.ensures.moves in
    refused_list number g.Backend.Holds g.Backend.ReadWords g.Word.Natural.BITS g.State.Natural.BITS c.args.bulk c.read.new.self word read some rest.0 c.fill.new.bulk c.in-Err-fill.field-0 (taken list) rest.1 list

pub returns-clause-reads : goal.returns-clause-reads
returns-clause-reads g c =
    let number = g.Word.Natural.number in
    let word = c.in-Ok-Some.word in
    let read = rw c.in-Ok-Some.field-0-is at c.in-Ok-Some.ensures.reads in
    let some = some_of (number word) c.if-is_nothing.ensures.1 in
    let moved = rw (c.widen.ensures, c.BITS.ensures, c.BITS-2.ensures) at c.in-Ok.ensures.moves in
    ended_import number g.Backend.Holds g.Backend.ReadWords g.Word.Natural.BITS g.State.Natural.BITS c.args.bulk c.read.new.self word read some _ _ c.fill.new.bulk moved

pub returns-in-Err-clause-err : goal.returns-in-Err-clause-err
returns-in-Err-clause-err g c = refused_at_once _ _ _ _ _ _ _ c.in-Err.ensures.reads

pub returns-in-Err-clause-taken : goal.returns-in-Err-clause-taken
returns-in-Err-clause-taken g c = λ list. list_refused_at_once g.Word.Natural.number _ _ c.in-Err.field-0 (c.in-Err.ensures.words list)

pub returns-in-Ok-None-clause-ok : goal.returns-in-Ok-None-clause-ok
returns-in-Ok-None-clause-ok g c = λ list.
    let words = rw c.in-Ok-None.field-0-is at c.in-Ok-None.ensures.words in
    none_imported g.Word.Natural.number g.Word.Natural.BITS g.State.Natural.BITS _ _ _ c.nothing.ensures (words list)

pub returns-in-Ok-None-clause-some : goal.returns-in-Ok-None-clause-some
returns-in-Ok-None-clause-some g c = λ list.
    let words = rw c.in-Ok-None.field-0-is at c.in-Ok-None.ensures.words in
    none_high g.Word.Natural.number _ (words list).0

pub returns-in-Ok-None-clause-reads : goal.returns-in-Ok-None-clause-reads
returns-in-Ok-None-clause-reads g c =
    let reads = rw c.in-Ok-None.field-0-is at c.in-Ok-None.ensures.reads in
    none_filled g.Word.Natural.number g.Backend.ReadWords.reads g.Word.Natural.BITS g.State.Natural.BITS _ c.args.bulk c.read.new.self c.nothing.ensures reads

pub returns-then-is_nothing-clause-err : goal.returns-then-is_nothing-clause-err
returns-then-is_nothing-clause-err g c =
    let read = rw c.in-Ok-Some.field-0-is at c.in-Ok-Some.ensures.reads in
    inl (c.in-Ok-Some.word, c.if-is_nothing.ensures.0 refl, read)

pub returns-then-is_nothing-clause-taken : goal.returns-then-is_nothing-clause-taken
returns-then-is_nothing-clause-taken g c = λ list.
    let read = rw c.in-Ok-Some.field-0-is at c.in-Ok-Some.ensures.words in
    inl (c.in-Ok-Some.word, c.if-is_nothing.ensures.0 refl, read list)

pub returns-clause-ok : goal.returns-clause-ok
returns-clause-ok g c = λ list.
    let w = g.Word.Natural.BITS in
    let s = g.State.Natural.BITS in
    let number = g.Word.Natural.number in
    let read = rw c.in-Ok-Some.field-0-is at c.in-Ok-Some.ensures.words in
    let moved = rw (c.BITS.ensures, c.BITS-2.ensures) at c.in-Ok.ensures.moves in
    let full = ended_state number g.Backend.Holds g.Backend.ReadWords w s _ (g.State.Natural.number c.widen.result) _ c.read.new.self c.fill.new.bulk (facts w s c.requires) (g.met.State.Natural.number_law _) moved list in
    first_imported number w s _ c.in-Ok-Some.word _ _ _ (read list) c.widen.ensures full

pub returns-clause-some : goal.returns-clause-some
returns-clause-some g c = λ list.
    let read = rw c.in-Ok-Some.field-0-is at c.in-Ok-Some.ensures.words in
    first_high g.Word.Natural.number c.in-Ok-Some.word _ _ (read list) (some_of (g.Word.Natural.number c.in-Ok-Some.word) c.if-is_nothing.ensures.1)
