-- Faults that are passed on.
use Rattle.std.proofs.Common.{ℕ, List}
use Rattle.std.specs.Prelude.{Result, Ok, Err, ◌≡◌, IfErr, IsErrAnd}
use Rattle.constriction_commands.specs.Inputs.{TextHasSymbols, NoSymbols, TextHasWords, NoWords}
use Rattle.constriction_commands.specs.Coding.{CoderFails, EncodeFails}
use Rattle.constriction_commands.specs.Ranges.{ReadingFails}
use Rattle.constriction_commands.specs.commands.AnsDecode.{AnsDecodeFails}
use Rattle.constriction_commands.specs.commands.RangeDecode.{RangeDecodeFails}
use Rattle.constriction_commands.specs.declared.fault.Fault.{Fault}
use Rattle.constriction_commands.specs.declared.fault.Fault.TheVariants.{Encoder, ZeroWord, InvalidData, OutOfMemory}

-- an error that is passed on
pub passed_on : {T : Type 0} (answer : Result T Fault) (fault : Fault) (fails : Fault → Type 0) → IsErrAnd answer (λ error. error ≡ fault) → fails fault → IfErr answer fails
passed_on (Ok x) fault fails is why = tt
passed_on (Err error) fault fails is why = rw is why

-- where a text gives no symbols, none are encoded
pub no_symbols : (text : List ℕ) (fault : Fault) → NoSymbols text fault → EncodeFails text fault
no_symbols text (Encoder error) why = absurd why
no_symbols text fault why = why

-- why a coder did not take the symbols of a text is why they were not encoded
pub symbols_refused : (text : List ℕ) (table : List (ℕ × ℕ × ℕ)) (symbols : List ℕ) (fault : Fault) → TextHasSymbols text table symbols → CoderFails table symbols fault → EncodeFails text fault
symbols_refused text table symbols (Encoder error) given why = (table, symbols, given, why)
symbols_refused text table symbols OutOfMemory given why = tt
symbols_refused text table symbols fault given why = absurd why

-- where a text gives no words, none are decoded
pub no_words : (text : List ℕ) (fault : Fault) → NoWords text fault → AnsDecodeFails text fault
no_words text (ZeroWord error) why = absurd why
no_words text fault why = why

-- or read
pub no_words_to_read : (text : List ℕ) (fault : Fault) → NoWords text fault → RangeDecodeFails text fault
no_words_to_read text (InvalidData error) why = absurd why
no_words_to_read text fault why = why

-- why the words of a text were not read is why they were not decoded
pub reading_refused : (text : List ℕ) (table : List (ℕ × ℕ × ℕ)) (count : ℕ) (words : List ℕ) (fault : Fault) → TextHasWords text table count words → ReadingFails words table count fault → RangeDecodeFails text fault
reading_refused text table count words (InvalidData error) given why = (table, count, words, given, why)
reading_refused text table count words OutOfMemory given why = tt
reading_refused text table count words fault given why = absurd why
