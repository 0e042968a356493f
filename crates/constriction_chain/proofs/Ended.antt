-- Decodes that the coder itself refused: the compressed words have ended.
use Rattle.std.proofs.Common.{◌≡◌, ℕ, ◌-◌, List, [], Err, inl, inr, map, ap, ◌∙◌}
use Rattle.constriction_base.specs.declared.errors.CoderError.TheVariants.{Frontend}
use Rattle.constriction_base.specs.declared.backends.reading.Holds as holding
use Rattle.constriction_base.specs.declared.backends.reading.ReadWords as reading
use Rattle.constriction_base.specs.declared.backends.writing.WriteWords as writing
use Rattle.constriction_chain.specs.Chain.{ChainValue}
use Rattle.constriction_chain.specs.Walk.{NeedsWord}
use Rattle.constriction_chain.specs.declared.errors.DecoderFrontendError.{DecoderFrontendError}
use Rattle.constriction_chain.proofs.Refusals.{Decodes}

module _ {W C R O E F : Type 0} (number : W → ℕ) (compressed_holds : holding.Ghosts C W O) (compressed_reads : reading.Ghosts C W O E)
    (remainders_holds : holding.Ghosts R W O) (remainders_writes : writing.Ghosts R W F) (w s P : ℕ) where
  -- a decode by the model was refused by the coder itself: a word is needed, and none is left
  pub ends_at : (table : List (ℕ × ℕ × ℕ)) (old new : ChainValue C R) (x : DecoderFrontendError) → compressed_holds.is_list
      → Decodes number compressed_holds compressed_reads remainders_holds remainders_writes w s P table old (Err (Frontend x)) new → NeedsWord w P old.state.h × (old.state.compressed ≡ [])
  ends_at table old new x list (inl halted) = (halted.why.0, halted.before.compressed_are ∙ ap (λ (ws : List W). map number ws) (halted.why.1.1 list).0)
  ends_at table old new x list (inr (symbol, (left, p, has, call))) = absurd call.outcome
