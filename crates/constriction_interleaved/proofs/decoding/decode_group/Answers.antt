use Rattle.std.proofs.Common.{◌≡◌, ◌-◌, ◌*◌, ℕ, List, arith, drop, length, refl, take}
use Rattle.constriction_base.specs.Models.{Model}
use Rattle.constriction_interleaved.specs.Rows.{row}
use Rattle.constriction_interleaved.proofs.LaneThree.{three_lanes}
use Rattle.constriction_interleaved.proofs.decoding.decode_group.Goals as goal

first_row : {A : Type 0} (xs : List A) (width : ℕ) → row width 0 xs ≡ take width xs
first_row xs width = let zero : 0 * width ≡ 0 = omega arith in rw zero refl

second_row : {A : Type 0} (xs : List A) (width : ℕ) → row width 1 xs ≡ take (2 * width - width) (drop width xs)
second_row xs width =
    let one : 1 * width ≡ width = omega arith in
    let two : 2 * width - width ≡ width = omega arith in
    rw (one, two) refl

third_row : {A : Type 0} (xs : List A) (width : ℕ) → length xs ≡ 3 * width → row width 2 xs ≡ take (length xs - 2 * width) (drop (2 * width) xs)
third_row xs width long = let rest : length xs - 2 * width ≡ width = omega (arith, long) in rw rest refl

pub returns : goal.returns
returns g c =
    let model : Model ℕ = record { precision = g.row.PRECISION; table = g.M.EntropyModel.table c.args.model.now } in
    let t = c.decode_three-a in
    let front = c.split_at_mut-first.ensures.front_len in
    let back = c.split_at_mut-first.ensures.back_len in
    let middle = c.split_at_mut-second.ensures.front_len in
    let end = c.split_at_mut-second.ensures.back_len in
    record {
      decoded = three_lanes g.Word.Natural.number g.State.Natural.number g.Word.Natural.BITS g.State.Natural.BITS model c.args.width c.args.count c.args.words.now c.args.heads.now c.args.lens.now
          t.result.0 t.result.2 t.result.4 t.result.1 t.result.3 t.result.5 t.new.symbols_a t.new.symbols_b t.new.symbols_c c.index-heads-0.result c.index-heads-1.result c.index-heads-2.result _ _ _
          c.requires.heads c.requires.lens (omega (arith, t.auto.symbols_a, front)) (omega (arith, t.auto.symbols_b, middle)) (omega (arith, t.auto.symbols_c, end, back, c.requires.symbols))
          c.index-heads-0.is c.index-heads-1.is c.index-heads-2.is (first_row c.args.words.now c.args.width) (second_row c.args.words.now c.args.width) (third_row c.args.words.now c.args.width c.requires.words) t.ensures.first t.ensures.second t.ensures.third;
    }
