use Rattle.std.specs.Prelude.{⊤}
use Rattle.std.proofs.Common.{◌∙◌, sym, inl, inr}
use Rattle.constriction_stream.proofs.Outcomes.{room_unless}
use Rattle.constriction_stack.specs.Ans.{EncodeCall}
use Rattle.constriction_stack.proofs.coder.symbols.AnsCoderEncode.maybe_full.Goals as goal

pub returns-clause-room : goal.returns-clause-room
returns-clause-room g c = rw (← c.self.view_is) (room_unless _ c.maybe_full.result ⊤
    (EncodeCall g.Word.Natural.number g.Backend.Holds g.Backend.WriteWords g.Word.Natural.BITS g.State.Natural.BITS)
    g.Backend.WriteWords.is_lack_of_room _
    (λ not_full any step e new given lack. elim given.error.1 [
      | inl prepare ↦ g.met.Backend.WriteWords.full_law _ e (sym c.maybe_full.ensures.value ∙ not_full) lack prepare
      | inr write ↦ c.maybe_full.ensures.room_left not_full e lack write.1
    ]))
