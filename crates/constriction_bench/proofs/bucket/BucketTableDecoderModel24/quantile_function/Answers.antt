use Rattle.std.proofs.Common.{◌≡◌, ◌∙◌, ℕ, ◌+◌, ◌-◌, ◌%◌, ◌<◌, arith}
use Rattle.std.proofs.Math.Nat.{mod-eq_of_lt}
use Rattle.std.proofs.lemmas.List.{get_or_read}
use Rattle.std.specs.Int.NonZero.{non_zero_u32_get}
use Rattle.constriction_bench.proofs.Starting.{has_between, same_nonzero}
use Rattle.constriction_bench.proofs.bucket.BucketTableDecoderModel24.quantile_function.Goals as goal

pub returns-clause-found : goal.returns-clause-found
returns-clause-found c =
    let t = c.args.self.now in
    let starts = t.starts.items in
    let symbol : ℕ = c.loop-symbol.symbol in
    let left : ℕ = c.index-left.result.now in
    let right : ℕ = c.index-2.result.now in
    let known = c.loop-symbol.invariant.0 in
    let begins = get_or_read starts _ _ (omega (arith, t.are_starts.len, known)) c.index-left.ensures 0 in
    let ends = get_or_read starts _ _ (omega (arith, t.are_starts.len, known)) c.index-2.ensures 0 in
    let tested = get_or_read starts _ _ (omega (arith, t.are_starts.len, known)) c.index-in-loop-symbol.ensures 0 in
    let top = t.are_starts.within (symbol + 1) (omega (arith, known)) in
    let above : left < right = omega (arith, begins, ends, tested, c.loop-symbol.invariant.1, c.loop-symbol-test.false) in
    let low : left % 4294967296 ≡ left = mod-eq_of_lt (omega (arith, ends, top)) in
    let weight : non_zero_u32_get c.unwrap.result ≡ right - left = rw c.unwrap.ensures at c.new.ensures in
    let same = same_nonzero 4294967295 (non_zero_u32_get c.unwrap.result) (right - left) weight (omega arith) (omega (arith, ends, top)) in
    has_between 24 _ starts t.count symbol _ _ t.are_starts known (low ∙ begins) (omega (arith, low, same, begins, ends, above))
