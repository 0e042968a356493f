use Rattle.constriction_inputs.proofs.models.count_row.CountRowDecoderModel.quantile_function.Goals as goal

pub unwrap-model-requires : goal.unwrap-model-requires
unwrap-model-requires g c = c.new.ensures.fit.1 c.args.self.now.made
