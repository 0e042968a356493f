-- Symbols under two models in one stream.
pub use Rattle.constriction_queue.specs.Flagged.{flagged, has_flag, next_model, Switch, NoSymbolFrom, DecodesUnder, EncodesItem, StepsToFault}
