-- The bits of a small stack, by which a codeword is reversed.
use Rattle.std.proofs.Common.{◌≡◌, ◌<◌, ◌≤◌, ◌+◌, ◌*◌, ℕ, Bool, List, [], ◌∷◌, ◌++◌, Option, Some, None, Result, Ok, Err, ap, subst, sym, refl, ◌∙◌, arith, inl, inr, length, length-append, reverse}
use Rattle.std.specs.Prelude.{OnErr, IfErr, MatchOption}
use Rattle.std.proofs.lemmas.List.{length-reverse, reverse-append, reverse-reverse}
use Rattle.std.specs.Fn.{Mut}
use Rattle.constriction_base.specs.declared.errors.CoderError.TheVariants.{Frontend, Backend}
use Rattle.constriction_base.specs.Backends.{IsWrite}
use Rattle.constriction_base.specs.Iterators.{item_of_answer}
use Rattle.constriction_base.proofs.Ends.{reverse_empty}
use Rattle.constriction_symbol.specs.Bits.{YieldsBit, PutsLast, bits_above}
use Rattle.constriction_symbol.specs.Codewords.{Answer, Emits, EmitsCodeword, WritesCodeword, formed}
use Rattle.constriction_symbol.specs.Reversed.{IsLongerThan, StacksCodeword}
use Rattle.constriction_symbol.proofs.Emitted.{PutsBits, put_all}
use Rattle.constriction_symbol.proofs.Lengths.{length_above}

-- a bit is refused where the last word is full
pub refused_full : {W B E : Type 0} (w : ℕ) (number : W → ℕ) (words : B → List W) (room : B → ℕ) (writes : B → W → Result (Unit {0}) E → B → Type 0) (fails : B → E → Type 0) (last last' : List Bool) (backend backend' : B) (bit : Bool) (r : Result (Unit {0}) E)
    → PutsLast w number (IsWrite words room writes fails) last backend bit r last' backend'
    → OnErr r (length (bits_above w number (words backend) last) ≡ length (words backend) * w + w)
refused_full w number words room writes fails last last' backend backend' bit (Ok _) puts = tt
refused_full w number words room writes fails last last' backend backend' bit (Err e) (full, same, tried) =
    omega (arith, length_above w number (words backend) last, full)

pub refused_by : {W B E : Type 0} (w : ℕ) (number : W → ℕ) (words : B → List W) (room : B → ℕ) (writes : B → W → Result (Unit {0}) E → B → Type 0) (fails : B → E → Type 0) (last last' : List Bool) (backend backend' : B) (bit : Bool) (r : Result (Unit {0}) E)
    → PutsLast w number (IsWrite words room writes fails) last backend bit r last' backend' → IfErr r (λ e. fails backend e)
refused_by w number words room writes fails last last' backend backend' bit (Ok _) puts = tt
refused_by w number words room writes fails last last' backend backend' bit (Err e) (full, same, (word, has, (kept, refused, by))) = refused

-- with one word at least in the backend, there are two words of bits
pub two_words : {W E : Type 0} (items : List W) (count capacity : ℕ) (r : Result (Unit {0}) E)
    → IfErr r (λ e. (capacity ≤ length items) × (1 ≤ length items)) → OnErr r (count ≡ length (reverse items) * 64 + 64) → OnErr r (128 ≤ count)
two_words items count capacity (Ok _) held is = tt
two_words items count capacity (Err e) held is = omega (arith, held.1, is, length-reverse items)

-- the last bit comes off a stack
pub taken_off : (E : Type 0) (old new : List Bool) (answer : Option Bool) → YieldsBit {E = E} (reverse old) (item_of_answer (Ok answer)) (reverse new)
    → MatchOption answer (old ≡ []) (λ bit. old ≡ new ++ bit ∷ [])
taken_off E old new None gives = reverse_empty old gives.0
taken_off E old new (Some bit) gives =
    sym (reverse-reverse old) ∙ (ap reverse gives ∙ (reverse-append (bit ∷ []) (reverse new) ∙ ap (λ xs. xs ++ bit ∷ []) (reverse-reverse new)))

-- so it comes first of the bits in reverse order
pub first_reversed : (old new : List Bool) (bit : Bool) → old ≡ new ++ bit ∷ [] → reverse old ≡ bit ∷ reverse new
first_reversed old new bit is = ap reverse is ∙ reverse-append new (bit ∷ [])

-- what putting a codeword's suffix form onto a stack without bits makes of it
stacked : {C E : Type 0} (bits : C → List Bool) (puts : C → Bool → Result (Unit {0}) E → C → Type 0) (old : C) (count : ℕ) (code : Option (List Bool)) (r : Answer E) (new : C)
    → WritesCodeword bits puts (λ _. ⊥) old (formed reverse code) r new → ((e : E) → r ≡ Err (Backend e) → IsLongerThan count code) → bits old ≡ [] → StacksCodeword count code r (bits new)
stacked bits puts old count None (Ok u) new w long none = let no = w.0 in absurd cc
stacked bits puts old count None (Err (Frontend e)) new w long none = refl
stacked bits puts old count None (Err (Backend e)) new w long none = let no = w.0 in absurd cc
stacked bits puts old count (Some code) (Ok u) new w long none =
    let all : bits new ≡ reverse code = w.0 ∙ ap (λ xs. xs ++ reverse code) none in
    ap (λ xs. Some xs) (sym (ap reverse all ∙ reverse-reverse code))
stacked bits puts old count (Some code) (Err (Frontend e)) new w long none = absurd w
stacked bits puts old count (Some code) (Err (Backend e)) new w long none = long e refl

module _ {F C E T : Type 0} (g : Mut F (Bool × Unit {0}) (Result (Unit {0}) E)) (stream : F → C) (bits : C → List Bool) (count : ℕ) (name : F → T) (h : PutsBits g stream bits (λ c b r new. OnErr r (count ≤ length (bits c))) name) where
  -- where a bit is refused that comes behind so many, they are of the bits before and of the list
  refused_late : (f : F) (bs : List Bool) (r : Answer E) (e : E) (last : F) → r ≡ Err (Backend e) → Emits g f bs r last → count < length (bits (stream f)) + length bs
  refused_late f [] r e last is run = let no = run.0 in absurd cc
  refused_late f (b ∷ bs) r e last is (inl (next, called, rest)) =
      let more : length (bits (stream next)) ≡ length (bits (stream f)) + 1 = ap length (h.grows f b (Ok tt) next called) ∙ length-append (bits (stream f)) (b ∷ []) in
      omega (arith, refused_late next bs r e last is rest, more)
  refused_late f (b ∷ bs) r e last is (inr (refusal, called, same)) = omega (arith, h.steps f b (Err refusal) last called)

  -- the codeword has more bits than the stack takes without memory
  long_refused : (f : F) (code : Option (List Bool)) (r : Answer E) (last : F) → EmitsCodeword g (λ _. ⊥) f (formed reverse code) r last → bits (stream f) ≡ []
      → (e : E) → r ≡ Err (Backend e) → IsLongerThan count code
  long_refused f None r last run none e is = let no = run.0 in absurd cc
  long_refused f (Some code) r last (inl run) none e is =
      let all = refused_late f (reverse code) r e last is run in
      let start : length (bits (stream f)) ≡ 0 = ap length none in
      omega (arith, all, start, length-reverse code)
  long_refused f (Some code) r last (inr (refusal, never, refused, same)) none e is = absurd never

-- a codeword's suffix form that was emitted to a stack without bits
pub put_reversed : {F C E T : Type 0} {g : Mut F (Bool × Unit {0}) (Result (Unit {0}) E)} {f : F} (code : Option (List Bool)) (r : Answer E) {last : F} → EmitsCodeword g (λ _. ⊥) f (formed reverse code) r last
    → (stream : F → C) (bits : C → List Bool) (count : ℕ) (name : F → T) → PutsBits g stream bits (λ c b r new. OnErr r (count ≤ length (bits c))) name → bits (stream f) ≡ []
    → StacksCodeword count code r (bits (stream last)) × (name last ≡ name f)
put_reversed {g = g} {f = f} code r {last = last} run stream bits count name h none =
    let all = put_all (λ _. ⊥) (formed reverse code) r run stream bits (λ c b r new. OnErr r (count ≤ length (bits c))) name h in
    (stacked bits (λ c b r new. OnErr r (count ≤ length (bits c))) (stream f) count code r (stream last) all.0 (long_refused g stream bits count name h f code r last run none) none, all.1)

-- the same of a stack that has equal bits
pub stacks_along : {E : Type 0} (count : ℕ) (code : Option (List Bool)) (r : Answer E) (new other : List Bool) → new ≡ other → StacksCodeword count code r other → StacksCodeword count code r new
stacks_along count code r new other same h = subst (λ bits. StacksCodeword count code r bits) (sym same) h
