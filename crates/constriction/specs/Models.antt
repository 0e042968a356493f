-- Models as coders see them (a precision and a table), and items: symbols paired with their models.
pub use Rattle.constriction_base.specs.Models.{Model, IsModel, Knows, Item, item_of, items_of, pairs_of, models, AreModels, AreKnown}
