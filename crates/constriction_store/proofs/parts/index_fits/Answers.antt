use Rattle.std.proofs.Common.{◌+◌, arith}
use Rattle.std.proofs.lemmas.Bool.{false≢true}
use Rattle.constriction_store.specs.Stores.{entry_at}
use Rattle.constriction_store.proofs.Counting.{place_at, places_more, totalled_more, totalled_le}
use Rattle.constriction_store.proofs.parts.index_fits.Goals as goal
use Rattle.constriction_store.proofs.parts.index_fits.Goals.{then-entry-count-via-then-entry-count, then-entry-count-via-else-entry-count+then-entry-left}

pub returns-then-entry-count : goal.returns-then-entry-count
returns-then-entry-count g c =
    let k = c.loop-entry.entry-index in
    let more = totalled_more c.args.index.now entry_at k c.entry-item.result c.loop-entry-test.true c.entry-item.is in
    let le = totalled_le c.args.index.now entry_at (k + 1) in (
      λ off. absurd (false≢true off),
      λ fits. elim c.then-entry-count.branch [
        | then-entry-count-via-then-entry-count w ↦
            absurd (omega (arith, w.if-entry-count.true, place_at c.args.count c.args.index.now entry_at k c.entry-item.result c.loop-entry-test.true c.entry-item.is fits.places))
        | then-entry-count-via-else-entry-count+then-entry-left w ↦
            absurd (omega (arith, more, le, fits.few, c.loop-entry.invariant.total, w.if-entry-left.true))
      ],
    )

pub loop-entry-preserved : goal.loop-entry-preserved
loop-entry-preserved g c =
    let k = c.loop-entry.entry-index in
    let more = totalled_more c.args.index.now entry_at k c.entry-item.result c.loop-entry-test.true c.entry-item.is in
    record {
      total = omega (arith, more, c.loop-entry.invariant.total, c.if-entry-left.false);
      places = places_more c.args.count c.args.index.now entry_at k c.entry-item.result c.loop-entry-test.true c.entry-item.is c.loop-entry.invariant.places (omega (arith, c.if-entry-count.false));
    }
