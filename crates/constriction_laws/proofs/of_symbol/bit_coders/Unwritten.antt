-- Lists of codewords that weren't written.
use Rattle.std.specs.Iterator.{YieldsThen}
use Rattle.std.specs.Iterator.Adapters.{zip_steps, zip_steps_back}
use Rattle.std.specs.Slice.Iter.{iter_steps, iter_steps_back}
use Rattle.std.specs.declared.iter.Zip.{Zip}
use Rattle.std.specs.Prelude.{reverse}
use Rattle.std.proofs.Common.{◌≡◌, ◌∙◌, Bool, Bor, Iter, Option, None, Some, List, [], ◌∷◌, ◌++◌, Result, Err, map, refl, ap, subst, append_assoc}
use Rattle.constriction_base.specs.declared.errors.CoderError.{CoderError}
use Rattle.constriction_base.specs.declared.errors.CoderError.TheVariants.{Frontend, Backend}
use Rattle.constriction_base.specs.declared.errors.DefaultEncoderFrontendError.{DefaultEncoderFrontendError}
use Rattle.constriction_base.proofs.Turns.{map-reverse}
use Rattle.constriction_stream.specs.Lists.{StepsAll}
use Rattle.constriction_symbol.specs.Codewords.{Answer, WritesCodeword, WritesPair, formed}
use Rattle.constriction_symbol.specs.Lists.{AreCodewords, of_pair}
use Rattle.constriction_symbol.proofs.CodewordLists.{codewords_map, written_first, written_last}
use Rattle.constriction_laws.specs.symbol.Refusals.{StopsAtItem, StopsAtItemFromBack, SymbolNotWritten}
use Rattle.constriction_laws.proofs.PairCalls.{SameLength, both_now, left_in, pairs_from_back, rest_of}
use Rattle.constriction_laws.proofs.Refused.{pairs_from_front}

-- a writer that refuses a symbol itself knows no codeword, and leaves the stream
none_of : {C E : Type 0} (bits : C → List Bool) (puts : C → Bool → Result (Unit {0}) E → C → Type 0) (wants : E → Type 0) (form : List Bool → List Bool) (known : Option (List Bool)) (old new : C) (e : DefaultEncoderFrontendError)
    → WritesCodeword bits puts wants old (formed form known) (Err (Frontend e)) new → (known ≡ None) × (new ≡ old)
none_of bits puts wants form None old new e h = (refl, h.1)
none_of bits puts wants form (Some code) old new e h = absurd h

-- ---- items that were written up to one
module _ {C E S K : Type 0} (bits : C → List Bool) (puts : C → Bool → Result (Unit {0}) E → C → Type 0) (wants : K → S → E → Type 0) (codeword : K → S → Option (List Bool)) where
  abbrev Writes : (List Bool → List Bool) → C → Bor S × Bor K → Answer E → C → Type 0
  Writes form before x answer after = WritesCodeword bits puts (wants x.1.now x.0.now) before (formed form (codeword x.1.now x.0.now)) answer after

  pub stops_front : (items after : List (S × K)) (xs : List (Bor S × Bor K)) (x : Bor S × Bor K) (old mid new : C) (e : CoderError DefaultEncoderFrontendError E) → items ≡ map both_now xs ++ both_now x ∷ after
      → StepsAll (Writes (λ bs. bs)) old xs mid → Writes (λ bs. bs) mid x (Err e) new
      → SymbolNotWritten (StopsAtItem (of_pair codeword) items) (of_pair codeword) (λ now code. bits now ≡ bits old ++ code) (WritesPair bits puts wants codeword (λ bs. bs) (λ s. s)) e new
  stops_front items after xs x old mid new (Frontend e) is all step =
      let none = none_of bits puts (wants x.1.now x.0.now) (λ bs. bs) (codeword x.1.now x.0.now) mid new e step in
      let written = written_first bits puts (λ q. wants q.1.now q.0.now) (λ q. codeword q.1.now q.0.now) xs old mid all in
      (map both_now xs, after, both_now x, written.0, is, codewords_map both_now (of_pair codeword) xs written.0 written.1, (none.0, ap bits none.1 ∙ written.2))
  stops_front items after xs x old mid new (Backend e) is all step =
      let written = written_first bits puts (λ q. wants q.1.now q.0.now) (λ q. codeword q.1.now q.0.now) xs old mid all in
      (map both_now xs, after, both_now x, written.0, is, codewords_map both_now (of_pair codeword) xs written.0 written.1, (mid, written.2, step))

  pub stops_back : (items before : List (S × K)) (xs : List (Bor S × Bor K)) (x : Bor S × Bor K) (old mid new : C) (e : CoderError DefaultEncoderFrontendError E) → items ≡ before ++ both_now x ∷ reverse (map both_now xs)
      → StepsAll (Writes (λ bs. reverse bs)) old xs mid → Writes (λ bs. reverse bs) mid x (Err e) new
      → SymbolNotWritten (StopsAtItemFromBack (of_pair codeword) items) (of_pair codeword) (λ now code. reverse (bits now) ≡ code ++ reverse (bits old)) (WritesPair bits puts wants codeword reverse (λ s. s)) e new
  stops_back items before xs x old mid new (Frontend e) is all step =
      let none = none_of bits puts (wants x.1.now x.0.now) (λ bs. reverse bs) (codeword x.1.now x.0.now) mid new e step in
      let written = written_last bits puts (λ q. wants q.1.now q.0.now) (λ q. codeword q.1.now q.0.now) xs old mid all in
      let turned = subst (λ ps. AreCodewords (of_pair codeword) ps written.0) (map-reverse both_now xs) (codewords_map both_now (of_pair codeword) (reverse xs) written.0 written.1) in
      (before, reverse (map both_now xs), both_now x, written.0, is, turned, (none.0, ap (λ c. reverse (bits c)) none.1 ∙ written.2))
  stops_back items before xs x old mid new (Backend e) is all step =
      let written = written_last bits puts (λ q. wants q.1.now q.0.now) (λ q. codeword q.1.now q.0.now) xs old mid all in
      let turned = subst (λ ps. AreCodewords (of_pair codeword) ps written.0) (map-reverse both_now xs) (codewords_map both_now (of_pair codeword) (reverse xs) written.0 written.1) in
      (before, reverse (map both_now xs), both_now x, written.0, is, turned, (mid, written.2, step))

-- ---- where the refused item stands

pub pair_stands_front : {A B : Type 0} (i : Zip (Iter A) (Iter B)) (xs : List (Bor A × Bor B)) (x : Bor A × Bor B) (rest : Zip (Iter A) (Iter B)) → YieldsThen (zip_steps iter_steps iter_steps) i xs (Some x) rest
    → rest_of i ≡ map both_now xs ++ both_now x ∷ rest_of rest
pair_stands_front {A} {B} i xs x rest gave =
    pairs_from_front i xs gave.0 gave.1 ∙ ap (λ (ps : List (A × B)). map both_now xs ++ ps) (pairs_from_front gave.0 (x ∷ []) rest (rest, gave.2, refl))

pub pair_stands_back : {A B : Type 0} (i : Zip (Iter A) (Iter B)) (xs : List (Bor A × Bor B)) (x : Bor A × Bor B) (rest : Zip (Iter A) (Iter B)) → SameLength i
    → YieldsThen (zip_steps_back iter_steps_back iter_steps_back left_in left_in) i xs (Some x) rest
    → rest_of i ≡ rest_of rest ++ both_now x ∷ reverse (map both_now xs)
pair_stands_back {A} {B} i xs x rest same gave =
    let front = pairs_from_back i xs gave.0 same gave.1 in
    let last = pairs_from_back gave.0 (x ∷ []) rest front.1 (rest, gave.2, refl) in
    front.0 ∙ (ap (λ (ps : List (A × B)). ps ++ reverse (map both_now xs)) last.0 ∙ append_assoc (rest_of rest) (both_now x ∷ []) (reverse (map both_now xs)))
