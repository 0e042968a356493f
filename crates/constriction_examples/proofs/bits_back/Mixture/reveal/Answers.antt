use Rattle.std.proofs.Common.{◌≡◌, ℕ, map, sym, subst}
use Rattle.constriction.specs.stack.Ans.{AnsState, IsNormalized}
use Rattle.constriction.specs.Models.{Model, IsModel}
use Rattle.constriction.specs.stack.Symbols.{Encodes, Decodes}
use Rattle.constriction.specs.Tables.{model_of}
use Rattle.constriction_examples.proofs.Models.{sizes, is_model, looked_up, one_at}
use Rattle.constriction_examples.proofs.bits_back.Mixture.reveal.Goals as goal

pub returns : goal.returns
returns c = record {
  reveals = λ hidden before valid hides.
      let m = c.args.self.now in
      let latent = c.take_off-latent.result in
      let symbol = c.take_off-symbol.result in
      let without = c.take_off-symbol.new.coder.state in
      let new = c.put_on.new.coder.state in
      -- the latent comes off again
      let latent_back = c.decode_undoes_encode.ensures.only 32 64 (model_of m.prior) hides.latent latent hides.between _ _
      (is_model m.prior).lawful hides.latent_on c.take_off-latent.ensures in
      -- then the symbol, under the table of that latent
      let table : model_of c.in_ok-symbols.symbols.now ≡ hides.symbols =
      one_at (map model_of m.symbols.items) latent hides.latent _ _ latent_back.0 (looked_up _ model_of _ _ _ _ (rw c.deref.ensures.value at c.get.ensures.lookup) c.in_ok-symbols.ensures) hides.of_latent in
      let symbol_off : Decodes 32 64 hides.symbols symbol hides.between without =
      subst (λ (x : Model ℕ). Decodes 32 64 x symbol hides.between without) table
      (subst (λ (x : AnsState). Decodes 32 64 (model_of c.in_ok-symbols.symbols.now) symbol x without) latent_back.1 c.take_off-symbol.ensures) in
      let symbols_model : IsModel 32 hides.symbols = subst (IsModel 32) table (is_model c.in_ok-symbols.symbols.now) in
      let symbol_back = c.decode_undoes_encode.ensures.only 32 64 hides.symbols hidden symbol hides.without hides.between without
      symbols_model.lawful hides.symbol_on symbol_off in
      -- and the latent goes back on, under the posterior of that symbol
      let posterior : model_of c.in_ok-posterior.posterior.now ≡ hides.posterior =
      one_at (map model_of m.posteriors.items) symbol hidden _ _ symbol_back.0 (looked_up _ model_of _ _ _ _ (rw c.deref-2.ensures.value at c.get-2.ensures.lookup) c.in_ok-posterior.ensures) hides.of_symbol in
      let posterior_model : IsModel 32 hides.posterior = subst (IsModel 32) posterior (is_model c.in_ok-posterior.posterior.now) in
      let valid_hidden : IsNormalized 32 64 hides.without = c.encode_undoes_decode.ensures.valid 32 64 hides.posterior hides.latent before hides.without sizes posterior_model valid hides.latent_off in
      let valid_without : IsNormalized 32 64 without = subst (IsNormalized 32 64) (sym symbol_back.1) valid_hidden in
      let put : Encodes 32 64 (model_of c.in_ok-posterior.posterior.now) latent without new = c.in_ok-put_on.ensures valid_without in
      let put_latent : Encodes 32 64 (model_of c.in_ok-posterior.posterior.now) hides.latent without new =
      subst (λ (x : ℕ). Encodes 32 64 (model_of c.in_ok-posterior.posterior.now) x without new) latent_back.0 put in
      let latent_on : Encodes 32 64 hides.posterior hides.latent hides.without new =
      subst (λ (x : AnsState). Encodes 32 64 hides.posterior hides.latent x new) symbol_back.1
      (subst (λ (x : Model ℕ). Encodes 32 64 x hides.latent without new) posterior put_latent) in
      (symbol_back.0, c.encode_undoes_decode.ensures.only 32 64 hides.posterior hides.latent before hides.without new sizes posterior_model valid hides.latent_off latent_on);
}
