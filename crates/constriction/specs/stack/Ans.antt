-- The states of a stack coder, its steps, the words of a state, and the results of the coder's calls.
pub use Rattle.constriction_stack.specs.Ans.{AnsState, IsState, IsNormalized, empty, refilled, IsNext, pop_head, pop, IsPop, IsPush, filled, exported, AnsValue, IsCoder, state_of, value_of, OwesWord, words_after, OwesRead, RefillsBy, EncodeCall, EncodesOnto, DecodeCall}
