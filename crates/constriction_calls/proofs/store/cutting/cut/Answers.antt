use Rattle.std.proofs.Common.{◌∙◌, ◌+◌, ◌<◌, ◌++◌, List, ℕ, get_or, length, drop, refl, ap, arith}
use Rattle.std.proofs.lemmas.List.{map_push}
use Rattle.constriction_store.specs.Chunks.{lists_of}
use Rattle.constriction_calls.specs.StoreCalls.{chunks_by}
use Rattle.constriction_calls.proofs.StoreIndex.{cut_more, left_more}
use Rattle.constriction_calls.proofs.store.cutting.cut.Goals as goal

pub loop-i-preserved : goal.loop-i-preserved
loop-i-preserved c =
    let l = c.loop-i in
    let symbols = c.args.symbols.now in
    let lengths = c.args.lengths.now in
    let chunk = c.in_ok-chunk.chunk in
    let end = l.start + get_or lengths l.i 0 in
    let inside : l.i < length lengths = omega (arith, c.loop-i-test.true) in
    record {
      left = (left_more lengths l.i l.start end (length symbols) inside refl l.invariant.left).1;
      made =
          ap (λ (made : List (List ℕ)). made ++ chunks_by (drop end symbols) (drop (l.i + 1) lengths)) (ap (λ vs. lists_of vs) c.in_ok-push.ensures.items ∙ map_push (λ v. v.items) l.chunks.items chunk)
          ∙ cut_more symbols lengths l.i l.start end (lists_of l.chunks.items) chunk.items _ inside refl (c.in_ok-chunk.ensures.items_if_clones_equal (λ x y is. is)) l.invariant.made;
    }
