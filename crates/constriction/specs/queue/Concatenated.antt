-- Lists of symbols as self-delimiting words, which can be concatenated.
pub use Rattle.constriction_laws.specs.queue.Concatenated.{DelimitsItems, ReadsItems}
