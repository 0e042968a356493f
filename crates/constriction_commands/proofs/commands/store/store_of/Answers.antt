use Rattle.constriction_store.specs.Chunks.{count_of, lists_of}
use Rattle.constriction_base.specs.WeightTables.{model_of}
use Rattle.constriction_commands.proofs.Chunks.{joined_run, unknown_in, not_many}
use Rattle.constriction_commands.proofs.commands.store.store_of.Goals as goal

pub returns-in-Ok-clause-words : goal.returns-in-Ok-clause-words
returns-in-Ok-clause-words c =
    let chunks = lists_of c.args.chunks.now in
    let built = c.in-Ok.ensures.built in
    record {
      few = not_many (count_of chunks) c.in-Ok.ensures.too_long (λ e. cc);
      run = built.0;
      encoded = joined_run (model_of c.args.table) chunks _ _ built.0 built.1;
      delimited = built.2;
    }

pub returns-in-Ok-clause-held : goal.returns-in-Ok-clause-held
returns-in-Ok-clause-held c = rw c.in-Ok.ensures.model c.in-Ok.ensures.chunks

pub returns-in-Err-ImpossibleSymbol-clause-err : goal.returns-in-Err-ImpossibleSymbol-clause-err
returns-in-Err-ImpossibleSymbol-clause-err c =
    let chunks = lists_of c.args.chunks.now in
    (not_many (count_of chunks) c.in-Err-ImpossibleSymbol.ensures.too_long (λ e. cc), unknown_in (model_of c.args.table) chunks _ _ (rw c.in-Err-ImpossibleSymbol.field-0-is at c.in-Err-ImpossibleSymbol.ensures.err))
