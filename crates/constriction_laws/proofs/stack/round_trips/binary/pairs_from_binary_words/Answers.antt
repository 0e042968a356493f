use Rattle.std.proofs.Common.{subst}
use Rattle.constriction_base.specs.Models.{pairs_of}
use Rattle.constriction_stack.specs.Symbols.{DecodesAll}
use Rattle.constriction_laws.proofs.stack.round_trips.binary.pairs_from_binary_words.Goals as goal

pub returns-clause-read : goal.returns-clause-read
returns-clause-read g c = λ known.
    let items = pairs_of g.row.PRECISION g.M.EntropyModel.table c.in_ok-symbols.symbols.items c.args.models.now in
    subst (λ x. DecodesAll g.Word.Natural.BITS g.State.Natural.BITS items x c.decode_pairs.new.coder.state) (c.in-Ok.ensures.ok known) (c.in_ok-symbols.ensures.decoded known)

pub returns-clause-reads : goal.returns-clause-reads
returns-clause-reads g c = (c.in-Ok.coder, c.in-Ok.ensures.reads, c.in-Ok.ensures.coder.head_fits, c.in_ok-symbols.ensures.read)
