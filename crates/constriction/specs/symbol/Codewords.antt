-- Codewords as codebooks emit and read them, and as bit streams write them.
pub use Rattle.constriction_symbol.specs.Codewords.{Answer, OrBitsEnd, UnlessBitsEnd, Emits, LacksMemory, LacksMemoryFor, WantsMemory, EmitsCodeword, EmitsSymbol, RefusedAt, WritesEachBit, WritesCodeword, formed, WritesPair, WritesSymbol, NoCodewordBegins, NoCodewordFits, as_item, YieldsBits, EndsAfter, FailsAfter, StopsWithin, ReadsSymbol, ComesBack}
