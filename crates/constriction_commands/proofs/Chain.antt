-- Words that stand for no chain coder, and why a text is not split.
use Rattle.std.specs.Prelude.{◌⊎◌}
use Rattle.std.specs.Int.Digits.{number_from_digits, number_from_digits_after}
use Rattle.std.proofs.Common.{◌≡◌, ℕ, ◌+◌, ◌*◌, ◌%◌, ◌^◌, ◌<◌, ◌≤◌, List, [], ◌∷◌, ◌++◌, length, map, reverse, ap, sym, subst, ◌∙◌, refl, inl, inr, arith, mul-le-mul_right, append-nil}
use Rattle.std.proofs.lemmas.List.{reverse-append, reverse-reverse}
use Rattle.constriction_base.specs.Readings.{BeginsHigh}
use Rattle.constriction_chain.specs.Chain.{ChainState}
use Rattle.constriction_commands.specs.Inputs.{TextHasWords, NoWords}
use Rattle.constriction_chain.specs.Words.{remainder_words}
use Rattle.constriction_commands.specs.Lines.{line_of}
use Rattle.constriction_commands.specs.Coding.{EndsWithZero}
use Rattle.constriction_commands.specs.commands.ChainSplit.{IsChainOf, IsNoChain, ChainDecodes, ChainFails, ChainSplitFails, IsChainSplit}
use Rattle.constriction_commands.specs.declared.fault.Fault.{Fault}
use Rattle.constriction_commands.specs.declared.fault.Fault.TheVariants.{NoChain, OutOfData, OutOfMemory}
use Rattle.constriction_commands.proofs.OwnNumbers.{own_numbers}
use Rattle.constriction_commands.proofs.Answered.{words_fit}
use Rattle.constriction_base.proofs.Turns.{map-reverse}

-- a number grows by each digit behind it
grows : (b from : ℕ) → 1 ≤ b → (vs : List ℕ) → from ≤ number_from_digits_after b from vs
grows b from some [] = omega arith
grows b from some (v ∷ vs) =
    let more : 1 * from ≤ b * from = mul-le-mul_right from some in
    omega (arith, more, grows b (from * b + v) some vs)

-- a number below its base has one digit at most
few_words : (b bound : ℕ) → 1 ≤ b → bound ≤ b → (vs : List ℕ) → BeginsHigh vs → number_from_digits b vs < bound → (vs ≡ []) ⊎ ((v : ℕ) × (v < bound) × (vs ≡ v ∷ []))
few_words b bound some low [] high small = inl refl
few_words b bound some low (v ∷ []) high small = inr (v, omega (arith, small), refl)
few_words b bound some low (v ∷ u ∷ vs) high small =
    let up = grows b ((0 * b + v) * b + u) some vs in
    let more : 1 * b ≤ v * b = mul-le-mul_right b high in
    absurd (omega (arith, small, up, more, low))

turned_few : (words : List ℕ) → (reverse words ≡ []) ⊎ ((v : ℕ) × (v < 2 ^ 8) × (reverse words ≡ v ∷ [])) → IsNoChain words
turned_few words (inl none) = inr (inl (sym (reverse-reverse words) ∙ ap reverse none))
turned_few words (inr (v, small, one)) = inr (inr (v, small, sym (reverse-reverse words) ∙ ap reverse one))

-- the last word is one whose number is 0
pub last_zero : (f : ℕ → ℕ) (words rest : List ℕ) (word : ℕ) → f word ≡ 0 → reverse words ≡ word ∷ rest → EndsWithZero (map f words)
last_zero f words rest word none is = (
  reverse (map f rest),
  sym (reverse-reverse (map f words)) ∙ ap reverse (sym (map-reverse f words) ∙ ap (map f) is) ∙ reverse-append (f word ∷ []) (map f rest)
      ∙ ap (λ (w : ℕ). reverse (map f rest) ++ w ∷ []) none,
)

-- words that were all read and are a number below 2 ^ 8
pub all_read : (b : ℕ) (words given rest : List ℕ) (x : ℕ) → 1 ≤ b → 2 ^ 8 ≤ b → reverse words ≡ given ++ rest → rest ≡ []
    → BeginsHigh (map (λ w. w % b) given) → x ≡ number_from_digits b (map (λ w. w % b) given) → x < 2 ^ 8 → IsNoChain (map (λ w. w % b) words)
all_read b words given rest x some low taken none high is small =
    let all : reverse words ≡ given = taken ∙ ap (λ (ws : List ℕ). given ++ ws) none ∙ append-nil given in
    let numbers : map (λ w. w % b) given ≡ reverse (map (λ w. w % b) words) = ap (map (λ w. w % b)) (sym all) ∙ map-reverse (λ w. w % b) words in
    turned_few (map (λ w. w % b) words)
    (few_words b (2 ^ 8) some low (reverse (map (λ w. w % b) words)) (subst BeginsHigh numbers high) (subst (λ (n : ℕ). n < 2 ^ 8) (is ∙ ap (number_from_digits b) numbers) small))

-- the words that a text gives are their own numbers
pub own_chain : {text : List ℕ} {table : List (ℕ × ℕ × ℕ)} {count : ℕ} {words : List ℕ} {state : ChainState} → TextHasWords text table count words
    → IsChainOf (map (λ word. word % 2 ^ 32) words) state → IsChainOf words state
own_chain {words = words} {state = state} given begun = subst (λ (ws : List ℕ). IsChainOf ws state) (own_numbers words (words_fit given)) begun

-- where a text gives no words, none are split
pub none_split : (text : List ℕ) (fault : Fault) → NoWords text fault → ChainSplitFails text fault
none_split text NoChain why = absurd why
none_split text (OutOfData error) why = absurd why
none_split text fault why = why

-- why a coder did not give its symbols is why a text was not split
pub not_split : (text : List ℕ) (table : List (ℕ × ℕ × ℕ)) (count : ℕ) (words : List ℕ) (first : ChainState) (fault : Fault)
    → TextHasWords text table count words → IsChainOf words first → ChainFails table count first fault → ChainSplitFails text fault
not_split text table count words first (OutOfData error) given begun why = (table, count, words, first, given, begun, why)
not_split text table count words first OutOfMemory given begun why = tt
not_split text table count words first fault given begun why = absurd why

-- nor where they stand for no coder
pub no_coder : (text : List ℕ) (table : List (ℕ × ℕ × ℕ)) (count : ℕ) (words : List ℕ) (fault : Fault) → TextHasWords text table count words → (fault ≡ NoChain) × IsNoChain (map (λ word. word % 2 ^ 32) words) → ChainSplitFails text fault
no_coder text table count words fault given why =
    let none = subst IsNoChain (own_numbers words (words_fit given)) why.1 in
    rw why.0 (table, count, words, given, none)

-- what was decoded and exported is the answer
pub split : {text answer : List ℕ} {table : List (ℕ × ℕ × ℕ)} {count : ℕ} {words : List ℕ} {first : ChainState} (last : ChainState) (symbols prefix suffix : List ℕ)
    → TextHasWords text table count words → IsChainOf words first → ChainDecodes table symbols first last → length symbols ≡ count
    → reverse prefix ≡ last.compressed → reverse suffix ≡ remainder_words 32 last → answer ≡ (line_of symbols ++ line_of prefix) ++ line_of suffix
    → IsChainSplit text answer
split {table = table} {count = count} {words = words} {first = first} last symbols prefix suffix given begun decoded counted prefix_is suffix_is printed = record {
  table = table;
  count = count;
  words = words;
  symbols = symbols;
  first = first;
  last = last;
  prefix = prefix;
  suffix = suffix;
  given = given;
  begun = begun;
  decoded = decoded;
  counted = counted;
  prefix_is = prefix_is;
  suffix_is = suffix_is;
  printed = printed;
}
