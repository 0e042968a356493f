-- The results of a chain coder's calls, and the coder after each result.
pub use Rattle.constriction_chain.specs.Steps.{RegainedBy, Lacks, Regained, Renormalized, RenormalizeFailed, Prepared, QuantileAppended, Stays, QuantileRead, Halts, ReadsQuantile, Halted, Decoded, RemaindersWriteFails, DecodeAnswers, DecodeCall, Encoded, CompressedWriteFails, FoundNoWord, EncodeAnswers, EncodeCall, never_encoded, IsEndOfData, IsLackOfRoom, never_lack, RaisedTo, RaiseRefused, IsLowered, LoweredTo, LowerRefused, ChangeRefused}
