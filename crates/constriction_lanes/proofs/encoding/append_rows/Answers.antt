use Rattle.std.proofs.Common.{◌≡◌, ◌<◌, ◌≤◌, ◌∙◌, ◌+◌, ◌-◌, ◌*◌, Err, Ok, Result, add-mul, arith, drop, get_or, length, refl, sym, take}
use Rattle.std.specs.Prelude.{IsOk, OnErr}
use Rattle.std.proofs.lemmas.List.{length-set, take-take}
use borrow.Rule.Slice.PartMut.{same_len_mid}
use Rattle.constriction_interleaved.specs.Rows.{row}
use Rattle.constriction_inputs.specs.Buffers.{Appended}
use Rattle.constriction_lanes.proofs.EachRow.{each_more, left_behind, left_more, part_long, row_within, same_here}
use Rattle.constriction_lanes.proofs.encoding.append_rows.Goals as goal

-- a result that can't be an error
ok_else : {T E A : Type 0} (r : Result T E) → OnErr r A → (A → ⊥) → IsOk r
ok_else (Ok x) fails never = refl
ok_else (Err e) fails never = absurd (never fails)

pub append-requires : goal.append-requires
append-requires g c =
    let l = c.loop-j in
    let lens = c.args.lens.now in
    let width = c.args.width in
    let lt : l.j < length lens = omega (arith, c.loop-j-test.true) in
    let inside = row_within l.j (length lens) width (length c.args.words.now) lt c.requires.words in
    let words = part_long l.words (l.j * width) width (omega (arith, inside, l.invariant.words_count)) in
    let left = same_here l.j l.lens lens 0 l.invariant.lens_left in
    let room = c.requires.room l.j lt in
    omega (arith, words, left, room)

pub unwrap-requires : goal.unwrap-requires
unwrap-requires g c =
    let l = c.loop-j in
    let lens = c.args.lens.now in
    let counts = c.args.counts.now in
    let width = c.args.width in
    let count = c.args.count in
    let lt : l.j < length lens = omega (arith, c.loop-j-test.true) in
    let inside = row_within l.j (length lens) width (length c.args.words.now) lt c.requires.words in
    let words = part_long l.words (l.j * width) width (omega (arith, inside, l.invariant.words_count)) in
    let few = c.requires.few l.j lt in
    let added_inside = row_within l.j (length lens) count (length c.args.added.now) lt c.requires.added in
    let added = part_long c.args.added.now (l.j * count) (get_or counts l.j 0) (omega (arith, added_inside, few)) in
    let left = same_here l.j l.lens lens 0 l.invariant.lens_left in
    let room = c.requires.room l.j lt in
    ok_else c.append.result c.append.ensures.full (λ less. omega (arith, less, words, added, left, room))

pub loop-j-preserved : goal.loop-j-preserved
loop-j-preserved g c =
    let l = c.loop-j in
    let lens = c.args.lens.now in
    let counts = c.args.counts.now in
    let words = c.args.words.now in
    let width = c.args.width in
    let count = c.args.count in
    let lt : l.j < length lens = omega (arith, c.loop-j-test.true) in
    let inside = row_within l.j (length lens) width (length words) lt c.requires.words in
    let within : l.j * width + width ≤ length l.words = omega (arith, inside, l.invariant.words_count) in
    let call = c.append in
    let long : length call.new.buffer ≡ width = omega (arith, call.auto.buffer, part_long l.words (l.j * width) width within) in
    let here : l.j < length l.lens = omega (arith, lt, l.invariant.lens_count) in
    let next : (l.j + 1) * width ≡ l.j * width + width = omega (arith, add-mul l.j 1 width) in
    let e : l.j * width + width - l.j * width ≡ width = omega arith in
    let f : l.j * count + get_or counts l.j 0 - l.j * count ≡ get_or counts l.j 0 = omega arith in
    let left = same_here l.j l.lens lens 0 l.invariant.lens_left in
    let taken : take (get_or counts l.j 0) (row count l.j c.args.added.now) ≡ take (get_or counts l.j 0) (drop (l.j * count) c.args.added.now) =
    take-take (get_or counts l.j 0) count (drop (l.j * count) c.args.added.now) (c.requires.few l.j lt) in
    let appended = rw (e, f, left, l.invariant.words_left, sym taken) at (rw c.unwrap.ensures at call.ensures.ok) in
    record {
      done = λ k below. each_more width l.lens l.lens l.words l.j call.new.len call.new.len call.new.buffer _
          (λ j d head len new. Appended (row width j words) (get_or lens j 0) (take (get_or counts j 0) (row count j c.args.added.now)) new len)
          here here (omega (arith, within)) long (λ d. appended) (λ i lt' d. l.invariant.done i lt') k below 0;
      words_left = rw next (left_behind (l.j * width) width l.words words call.new.buffer within long l.invariant.words_left);
      lens_left = left_more l.j l.lens lens call.new.len l.invariant.lens_left;
      words_count = same_len_mid (l.j * width) (l.j * width + width - l.j * width) l.words call.new.buffer call.auto.buffer ∙ l.invariant.words_count;
      lens_count = length-set l.lens l.j call.new.len ∙ l.invariant.lens_count;
    }
