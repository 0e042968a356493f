use Rattle.std.proofs.Common.{◌≡◌, ◌∙◌, ℕ, List, ◌++◌, arith, drop, length, take}
use Rattle.std.proofs.lemmas.List.{take-append-le, take_all}
use Rattle.constriction_lanes.proofs.encoding.coded.Goals as goal

-- a list that was written over the whole of a vector
whole : {A : Type 0} (n : ℕ) (new rest : List A) → n ≡ length new → take n (new ++ rest) ≡ new
whole n new rest is = take-append-le n new rest (omega (arith, is)) ∙ take_all n new (omega (arith, is))

pub returns-then-encode_rows-clause-coded : goal.returns-then-encode_rows-clause-coded
returns-then-encode_rows-clause-coded g c =
    let new = c.encode_rows.new in
    let heads = whole c.in-Ok.new_heads.len new.heads (drop (length new.heads) c.in-Ok.new_heads.items) (omega (arith, c.encode_rows.auto.heads, c.as_mut_slice-all.ensures.len)) in
    let words = whole c.in-Ok-vec.words.len new.words (drop (length new.words) c.in-Ok-vec.words.items) (omega (arith, c.encode_rows.auto.words, c.as_mut_slice-room.ensures.len)) in
    let lens = whole c.in-Ok-vec-2.lens.len new.lens (drop (length new.lens) c.in-Ok-vec-2.lens.items) (omega (arith, c.encode_rows.auto.lens, c.as_mut_slice-written.ensures.len)) in
    let old = c.as_mut_slice-all.ensures.value in
    rw (heads, words, lens) (rw (old, c.in-Ok.ensures.items) at c.if-encode_rows.ensures)
