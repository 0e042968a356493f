use Rattle.std.proofs.Common.{◌≡◌, ◌<◌, ◌+◌, ◌*◌, ◌-◌, ◌/◌, ◌%◌, ◌^◌, arith, length, refl, slice_index_or}
use Rattle.constriction_symbol.proofs.FirstBits.{number_low, set_bit, top_place, top_small}
use Rattle.constriction_symbol.proofs.huffman.first_bits.place_of.Goals as goal

pub shift_right-requires : goal.shift_right-requires
shift_right-requires g c =
    let wide = g.met.Word.Natural.bits_law.0 in
    let some = rw c.BITS.ensures at c.lesser-count.ensures.some in
    let count : 0 < c.lesser-count.result = some c.requires.some (omega (arith, wide)) in
    let all = rw c.BITS.ensures at c.lesser-count.ensures.within in
    rw c.BITS-2.ensures (omega (arith, count, all, wide))

pub to_index-first-requires : goal.to_index-first-requires
to_index-first-requires g c =
    let w = g.Word.Natural.BITS in
    let count = c.lesser-count.result in
    let all = rw c.BITS.ensures at c.lesser-count.ensures.within in
    let is = rw c.BITS-2.ensures at c.shift_right.ensures in
    let small = top_small w count (g.Word.Natural.number c.args.bits) all (g.met.Word.Natural.number_law c.args.bits) in
    rw is (omega (arith, small, (set_bit count c.args.most c.lesser-count.ensures.most c.requires.few).0))

pub overflow_shl-result : goal.overflow_shl-result
overflow_shl-result g c = omega (arith, c.lesser-count.ensures.most, c.requires.few)

pub bounds-places-first : goal.bounds-places-first
bounds-places-first g c =
    let w = g.Word.Natural.BITS in
    let count = c.lesser-count.result in
    let all = rw c.BITS.ensures at c.lesser-count.ensures.within in
    let is = rw c.BITS-2.ensures at c.shift_right.ensures in
    let small = top_small w count (g.Word.Natural.number c.args.bits) all (g.met.Word.Natural.number_law c.args.bits) in
    let first : c.to_index-first.result < 2 ^ count = rw (c.to_index-first.ensures, is) small in
    omega (arith, (set_bit count c.args.most c.lesser-count.ensures.most c.requires.few).1, number_low (length c.args.places.now) c.args.most count c.to_index-first.result c.requires.count c.lesser-count.ensures.most first)

pub overflow_add-result : goal.overflow_add-result
overflow_add-result g c =
    let w = g.Word.Natural.BITS in
    let count = c.lesser-count.result in
    let all = rw c.BITS.ensures at c.lesser-count.ensures.within in
    let is = rw c.BITS-2.ensures at c.shift_right.ensures in
    let small = top_small w count (g.Word.Natural.number c.args.bits) all (g.met.Word.Natural.number_law c.args.bits) in
    let first : c.to_index-first.result < 2 ^ count = rw (c.to_index-first.ensures, is) small in
    let set = set_bit count c.args.most c.lesser-count.ensures.most c.requires.few in
    record { fits = omega (arith, set.0, set.1, first) }

pub offset_bounds-places-first : goal.offset_bounds-places-first
offset_bounds-places-first g c =
    let w = g.Word.Natural.BITS in
    let count = c.lesser-count.result in
    let all = rw c.BITS.ensures at c.lesser-count.ensures.within in
    let is = rw c.BITS-2.ensures at c.shift_right.ensures in
    let small = top_small w count (g.Word.Natural.number c.args.bits) all (g.met.Word.Natural.number_law c.args.bits) in
    let first : c.to_index-first.result < 2 ^ count = rw (c.to_index-first.ensures, is) small in
    let set = set_bit count c.args.most c.lesser-count.ensures.most c.requires.few in
    record { fits = omega (arith, set.0, set.1, first) }

pub returns : goal.returns
returns g c = λ nodes has.
    let w = g.Word.Natural.BITS in
    let n = g.Word.Natural.number c.args.bits in
    let count = c.lesser-count.result in
    let all = rw c.BITS.ensures at c.lesser-count.ensures.within in
    let is = rw c.BITS-2.ensures at c.shift_right.ensures in
    let first : c.to_index-first.result ≡ n / 2 ^ (w - count) = rw (c.to_index-first.ensures, is) refl in
    let number = c.to_index-first.result + 1 * 2 ^ count % 18446744073709551616 in
    let place = slice_index_or c.args.places.now number (record { index = 0; taken = 0 }) in
    top_place nodes c.args.places.now w count c.args.most n c.to_index-first.result number has c.requires.count all c.lesser-count.ensures.most (g.met.Word.Natural.number_law c.args.bits) first
    (omega (arith, (set_bit count c.args.most c.lesser-count.ensures.most c.requires.few).1)) place refl
