-- Bits-back coding: hiding a symbol in the state of a stack coder with 32-bit words and 64-bit heads.
use Rattle.std.specs.Prelude.{◌≡◌, ℕ, Some, map, slice_get}
use Rattle.constriction.specs.stack.Ans.{AnsState}
use Rattle.constriction.specs.Tables.{model_of}
use Rattle.constriction.specs.Models.{Model}
use Rattle.constriction.specs.stack.Symbols.{Encodes, Decodes}
use Rattle.constriction_examples.specs.declared.bits_back.Mixture.{Mixture}

-- Hiding the symbol leads from the old state to the new one. The coder decodes a latent with the symbol's posterior,
-- then encodes the symbol with the latent's table, and then encodes the latent with the prior.
pub record Hides (m : Mixture) (symbol : ℕ) (old new : AnsState) : Type 0 where
  pub latent : ℕ
  pub posterior : Model ℕ
  pub symbols : Model ℕ
  pub of_symbol : slice_get (map model_of m.posteriors.items) symbol ≡ Some posterior
  pub of_latent : slice_get (map model_of m.symbols.items) latent ≡ Some symbols
  pub without : AnsState
  pub between : AnsState
  pub latent_off : Decodes 32 64 posterior latent old without
  pub symbol_on : Encodes 32 64 symbols symbol without between
  pub latent_on : Encodes 32 64 (model_of m.prior) latent between new
