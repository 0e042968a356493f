use Rattle.std.proofs.Common.{◌≡◌, drop, map, take}
use Rattle.constriction_symbol.specs.Bits.{bits_of_words}
use Rattle.constriction_calls.proofs.symbol.encoding.queue_of_first.Given as goal

-- so many bits were copied
abbrev pub invariant-loop-done : goal.invariant-loop-done
invariant-loop-done g l =
    let all = bits_of_words g.Word.Natural.BITS (map g.Word.Natural.number l.fn.words) in
    record {
      copied : l.queue.bits ≡ take l._done all;
      left : l.bits.bits ≡ drop l._done all;
    }
