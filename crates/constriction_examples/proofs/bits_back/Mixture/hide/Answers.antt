use Rattle.constriction.specs.stack.Symbols.{Encodes, Decodes}
use Rattle.constriction.specs.Tables.{model_of}
use Rattle.constriction_examples.proofs.Models.{sizes, is_model, looked_up}
use Rattle.constriction_examples.proofs.bits_back.Mixture.hide.Goals as goal

pub returns-clause-hides : goal.returns-clause-hides
returns-clause-hides c = λ valid.
    let posterior = c.in_ok-posterior.posterior.now in
    let latent_off : Decodes 32 64 (model_of posterior) c.take_off-latent.result c.args.coder.now.state c.take_off-latent.new.coder.state = c.take_off-latent.ensures in
    let valid_without = c.encode_undoes_decode.ensures.valid 32 64 (model_of posterior) _ _ _ sizes (is_model posterior) valid latent_off in
    let symbol_on : Encodes 32 64 (model_of c.in_ok-symbols.symbols.now) c.args.symbol c.take_off-latent.new.coder.state c.put_on.new.coder.state = c.in_ok-put_on.ensures valid_without in
    record {
      latent = c.take_off-latent.result;
      posterior = model_of posterior;
      symbols = model_of c.in_ok-symbols.symbols.now;
      of_symbol = looked_up _ model_of _ _ _ _ (rw c.deref.ensures.value at c.get.ensures.lookup) c.in_ok-posterior.ensures;
      of_latent = looked_up _ model_of _ _ _ _ (rw c.deref-2.ensures.value at c.get-2.ensures.lookup) c.in_ok-symbols.ensures;
      without = c.take_off-latent.new.coder.state;
      between = c.put_on.new.coder.state;
      latent_off = latent_off;
      symbol_on = symbol_on;
      latent_on = c.in_ok-put_on-2.ensures symbol_on.3.valid;
    }

pub returns-clause-valid : goal.returns-clause-valid
returns-clause-valid c = λ valid. (returns-clause-hides c valid).latent_on.3.valid
