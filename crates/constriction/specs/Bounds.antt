-- Upper bounds on the number of words that a list of steps takes, as inequalities between integers. Also the outcomes
-- of an exchange, which decodes one symbol and then encodes another.
pub use Rattle.constriction_laws.specs.Bounds.{product, spare, share, rounded_whole, Act, Encode, Decode, IsAllowed, AreAllowed, Acts, net_share, net_whole, IsNetBounded, AreEntries}
pub use Rattle.constriction_laws.specs.Exchanges.{IsLow, RefusesOff, RefusesOn, StopsExchange, StopsImpossible, StopsLow, HighThroughout}
