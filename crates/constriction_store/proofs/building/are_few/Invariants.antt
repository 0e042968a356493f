use Rattle.std.proofs.Common.{◌≡◌, ◌+◌, take}
use Rattle.constriction_store.specs.Chunks.{count_of, lists_of}
use Rattle.constriction_store.proofs.building.are_few.Given as goal

abbrev pub invariant-loop-chunk : goal.invariant-loop-chunk
invariant-loop-chunk l = l.left + count_of (lists_of (take l.chunk-index l.chunks)) ≡ 1048576
