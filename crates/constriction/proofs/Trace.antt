-- Steps taken one after the other.
pub use Rattle.constriction_base.proofs.Trace.{Trace-append, Trace-more, Trace-symbol, Trace-map, Trace-turned, Trace-back}
