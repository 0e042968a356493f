-- Symbols that were read by a codebook, as a call that was handed its codewords tells of them.
use Rattle.std.proofs.Common.{◌≡◌, ◌-◌, ◌^◌, ℕ, Bool, List, Option, Result, Ok, Err, inr, length}
use Rattle.std.specs.Prelude.{IfErr, OnErr, OnOk}
use Rattle.constriction_symbol.proofs.TreeCodewords.{same_codewords}
use Rattle.constriction_inputs.specs.declared.refusal.Refusal.{Refusal}
use Rattle.constriction_inputs.specs.declared.refusal.Refusal.TheVariants.{InvalidData, OutOfData}
use Rattle.constriction_calls.specs.SymbolCalls.{BeginWithCodewords, SymbolCode, HoldBits, IsCutOff, IsWrong, MakesCode, Order, SymbolReadFails, DecodesCodewords, codeword_in}

-- a codebook that has the codewords of a caller
module _ {S : Type 0} (f g : S → Option (List Bool)) (same : (s : S) → f s ≡ g s) where
  pub taken_by : (symbols : List S) (bits rest : List Bool) → BeginWithCodewords f symbols bits rest → BeginWithCodewords g symbols bits rest
  taken_by symbols bits rest (code, coded, is) = (code, same_codewords f g same symbols code coded, is)

  module _ (cut wrong is_cut is_wrong : List Bool → Type 0) (cuts : (bits : List Bool) → cut bits → is_cut bits) (wrongs : (bits : List Bool) → wrong bits → is_wrong bits) where
    pub none_by : (amt : ℕ) (bits : List Bool) (e : Refusal) → SymbolReadFails f cut wrong amt bits e → SymbolReadFails g is_cut is_wrong amt bits e
    none_by amt bits OutOfData (symbols, fewer, code, rest, coded, is, on) = (symbols, fewer, code, rest, same_codewords f g same symbols code coded, is, cuts rest on)
    none_by amt bits InvalidData (symbols, fewer, code, rest, coded, is, (first, more, begins, bad)) =
        (symbols, fewer, code, rest, same_codewords f g same symbols code coded, is, (first, more, begins, wrongs first bad))
    none_by amt bits e why = why

-- symbols that were read by it from the bits of words, and why they weren't
module _ {S V : Type 0} (symbol : S → ℕ) (w : ℕ) (order : Order) (book : SymbolCode) (words : List ℕ) (old : List S) (tree : MakesCode (2 ^ 63 - 1) book)
    (f : S → Option (List Bool)) (same : (s : S) → f s ≡ codeword_in symbol book s) (cut : List Bool → Type 0) (cuts : (bits : List Bool) → cut bits → IsCutOff book bits)
    (invalid : List Bool → V → Type 0) (wrongs : (bits : List Bool) (v : V) → invalid bits v → IsWrong book bits) (bits : List Bool) (given : HoldBits order w words bits) where
  pub filled : (rest : List Bool) (new : List S) (answer : Result (Unit {0}) Refusal) → length new ≡ length old → OnOk answer (BeginWithCodewords f new bits rest)
      → IfErr answer (SymbolReadFails f cut (λ bs. (v : V) × invalid bs v) (length old) bits) → OnErr answer (new ≡ old) → DecodesCodewords symbol w order book words old new answer
  filled rest new (Ok done) count ok err kept = record {
    count = count;
    taken = (let code = taken_by f (codeword_in symbol book) same new bits rest ok in (bits, given, (code.0, rest, code.1, code.2)));
    asked = inr (tree, tt);
    kept = tt;
  }
  filled rest new (Err e) count ok err kept = record {
    count = count;
    taken = tt;
    asked = inr (tree, inr (inr (bits, given, none_by f (codeword_in symbol book) same cut (λ bs. (v : V) × invalid bs v) (IsCutOff book) (IsWrong book) cuts (λ bs h. wrongs bs h.0 h.1) (length old) bits e err)));
    kept = kept;
  }
