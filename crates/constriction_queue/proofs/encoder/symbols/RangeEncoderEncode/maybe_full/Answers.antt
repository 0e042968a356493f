use Rattle.std.specs.Prelude.{◌≡◌, []}
use Rattle.std.proofs.Common.{◌∙◌, sym, inl, inr}
use Rattle.constriction_stream.proofs.Outcomes.{room_unless}
use Rattle.constriction_queue.specs.Calls.{EncodeCall}
use Rattle.constriction_queue.specs.Encoder.{encoder_of, pending_of}
use Rattle.constriction_queue.proofs.encoder.symbols.RangeEncoderEncode.maybe_full.Goals as goal

pub returns-clause-room : goal.returns-clause-room
returns-clause-room g c = rw (← c.self.view_is) (room_unless _ c.maybe_full.result (pending_of g.Word.Natural.number g.Word.Natural.BITS c.self.inside.situation ≡ [])
    (EncodeCall g.Word.Natural.number g.Backend.Holds g.Backend.WriteWords g.Word.Natural.BITS g.State.Natural.BITS)
    g.Backend.WriteWords.is_lack_of_room
    (encoder_of g.Word.Natural.number g.Backend.Holds g.Word.Natural.BITS (g.State.Natural.number c.self.inside.state.lower) (g.State.Natural.number c.self.inside.state.range) c.self.inside.bulk c.self.inside.situation)
    (λ not_full none step e new given lack. elim (given.error.one none) [
      | inl prepare ↦ g.met.Backend.WriteWords.full_law _ e (sym c.maybe_full.ensures.value ∙ not_full) lack prepare
      | inr write ↦ c.maybe_full.ensures.room_left not_full e lack write.1
    ]))
