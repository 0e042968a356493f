-- Tables with and without a symbol above 65535. A lookup model can list only symbols up to 65535.
pub use Rattle.constriction_models.specs.Lookup.{HasHighSymbol, HasLowSymbols}
