-- Lists of bits, the words of a queue or a stack of bits, and reads and writes of one bit.
pub use Rattle.constriction_words.specs.Bits.{bits_of}
pub use Rattle.constriction_symbol.specs.Bits.{bits_of_words, IsQueueWords, IsStackWords, TopWord, HasStackWords, BitsValue, bits_above, bits_behind, WritesBits, PutsLast, PutsOnto, PutsBit, LastBitRead, FirstBitRead, YieldsBit, PopsBit, BitRead, WritesPadded, ClosesStack, ClosesQueue, OpensStack, LastIsZero, ReadsClosed, ReadsWritten, AreZeros, PadsTo, top_bits}
