-- What an emitter's calls have made of the stream of bits that it writes to.
use Rattle.std.proofs.Common.{◌≡◌, Bool, List, [], ◌∷◌, ◌++◌, Option, Some, None, Result, Ok, Err, ap, subst, sym, inl, inr, refl, ◌∙◌, append-nil, append_assoc}
use Rattle.std.specs.Fn.{Mut, Called}
use Rattle.constriction_base.specs.declared.errors.CoderError.TheVariants.{Frontend, Backend}
use Rattle.constriction_symbol.specs.Bits.{PutsBit}
use Rattle.constriction_symbol.specs.Codewords.{Answer, Emits, EmitsCodeword, WritesEachBit, WritesCodeword}

-- a call puts its bit behind the others of the stream, or leaves them with an error, as a step of the stream; and it keeps
-- the name of the references that it has
pub record PutsBits {F C E T : Type 0} (g : Mut F (Bool × Unit {0}) (Result (Unit {0}) E)) (stream : F → C) (bits : C → List Bool) (puts : C → Bool → Result (Unit {0}) E → C → Type 0) (name : F → T) : Type 0 where
  pub grows : (f : F) (b : Bool) (r : Result (Unit {0}) E) (next : F) → Called g f (b, tt) r next → PutsBit (bits (stream f)) b r (bits (stream next))
  pub steps : (f : F) (b : Bool) (r : Result (Unit {0}) E) (next : F) → Called g f (b, tt) r next → puts (stream f) b r (stream next)
  pub same : (f : F) (b : Bool) (r : Result (Unit {0}) E) (next : F) → Called g f (b, tt) r next → name next ≡ name f

module _ {F C E T : Type 0} (g : Mut F (Bool × Unit {0}) (Result (Unit {0}) E)) (stream : F → C) (bits : C → List Bool) (puts : C → Bool → Result (Unit {0}) E → C → Type 0) (name : F → T) (wants : E → Type 0) (h : PutsBits g stream bits puts name) where
  -- a call that succeeded, and then the rest of the run, in which no memory is wanted
  put_more : (f next last : F) (b : Bool) (bs : List Bool) (r : Answer E) → Called g f (b, tt) (Ok tt) next
      → WritesEachBit bits puts (λ _. ⊥) (stream next) bs r (stream last) → WritesEachBit bits puts (λ _. ⊥) (stream f) (b ∷ bs) r (stream last)
  put_more f next last b bs (Ok u) called all =
      (all.0 ∙ (ap (λ xs. xs ++ bs) (h.grows f b (Ok tt) next called) ∙ append_assoc (bits (stream f)) (b ∷ []) bs), (stream next, h.steps f b (Ok tt) next called, all.1))
  put_more f next last b bs (Err (Frontend e)) called all = all
  put_more f next last b bs (Err (Backend e)) called (inr (never, same)) = absurd never
  put_more f next last b bs (Err (Backend e)) called (inl at) = inl (record {
    front = b ∷ at.front;
    bit = at.bit;
    back = at.back;
    whole = ap (λ xs. b ∷ xs) at.whole;
    mid = at.mid;
    before = (stream next, h.steps f b (Ok tt) next called, at.before);
    refused = at.refused;
    begun = at.begun ∙ (ap (λ xs. xs ++ at.front) (h.grows f b (Ok tt) next called) ∙ append_assoc (bits (stream f)) (b ∷ []) at.front);
  })

  emitted_bits : (f : F) (bs : List Bool) (r : Answer E) (last : F) → Emits g f bs r last → WritesEachBit bits puts (λ _. ⊥) (stream f) bs r (stream last)
  emitted_bits f [] r last e =
      let same : stream last ≡ stream f = sym (ap stream e.1) in
      subst (λ (x : Answer E). WritesEachBit bits puts (λ _. ⊥) (stream f) [] x (stream last)) (sym e.0) (ap bits same ∙ sym (append-nil (bits (stream f))), same)
  emitted_bits f (b ∷ bs) r last (inl (next, called, rest)) = put_more f next last b bs r called (emitted_bits next bs r last rest)
  emitted_bits f (b ∷ bs) r last (inr (e, called, is)) =
      subst (λ (x : Answer E). WritesEachBit bits puts (λ _. ⊥) (stream f) (b ∷ bs) x (stream last)) (sym is)
      (inl (record {
        front = [];
        bit = b;
        back = bs;
        whole = refl;
        mid = stream f;
        before = refl;
        refused = h.steps f b (Err e) last called;
        begun = h.grows f b (Err e) last called ∙ sym (append-nil (bits (stream f)));
      }))

  more_wants : (f last : F) (bs : List Bool) (r : Answer E) → WritesEachBit bits puts (λ _. ⊥) (stream f) bs r (stream last) → WritesEachBit bits puts wants (stream f) bs r (stream last)
  more_wants f last bs (Ok u) w = w
  more_wants f last bs (Err (Frontend e)) w = w
  more_wants f last bs (Err (Backend e)) (inl w) = inl w
  more_wants f last bs (Err (Backend e)) (inr (never, same)) = absurd never

  emitted_keeps : (f : F) (bs : List Bool) (r : Answer E) (last : F) → Emits g f bs r last → name last ≡ name f
  emitted_keeps f [] r last e = ap name (sym e.1)
  emitted_keeps f (b ∷ bs) r last (inl (next, called, rest)) = emitted_keeps next bs r last rest ∙ h.same f b (Ok tt) next called
  emitted_keeps f (b ∷ bs) r last (inr (e, called, is)) = h.same f b (Err e) last called

  -- the same of a symbol, which may have no codeword
  emitted_codeword : (f : F) (code : Option (List Bool)) (r : Answer E) (last : F) → EmitsCodeword g wants f code r last → WritesCodeword bits puts wants (stream f) code r (stream last)
  emitted_codeword f None r last e = (e.0, ap stream (sym e.1))
  emitted_codeword f (Some bs) r last (inl e) = more_wants f last bs r (emitted_bits f bs r last e)
  emitted_codeword f (Some bs) r last (inr (e, w, is, same)) =
      subst (λ (x : Answer E). WritesEachBit bits puts wants (stream f) bs x (stream last)) (sym is) (inr (w, ap stream (sym same)))

  codeword_keeps : (f : F) (code : Option (List Bool)) (r : Answer E) (last : F) → EmitsCodeword g wants f code r last → name last ≡ name f
  codeword_keeps f None r last e = ap name (sym e.1)
  codeword_keeps f (Some bs) r last (inl e) = emitted_keeps f bs r last e
  codeword_keeps f (Some bs) r last (inr (e, w, is, same)) = ap name (sym same)

-- what a codeword that was emitted has put behind the bits of the stream that the emitter writes to
pub put_all : {F C E T : Type 0} {g : Mut F (Bool × Unit {0}) (Result (Unit {0}) E)} {f : F} (wants : E → Type 0) (code : Option (List Bool)) (r : Answer E) {last : F} → EmitsCodeword g wants f code r last
    → (stream : F → C) (bits : C → List Bool) (puts : C → Bool → Result (Unit {0}) E → C → Type 0) (name : F → T) → PutsBits g stream bits puts name
    → WritesCodeword bits puts wants (stream f) code r (stream last) × (name last ≡ name f)
put_all {g = g} {f = f} wants code r {last = last} e stream bits puts name h =
    (emitted_codeword g stream bits puts name wants h f code r last e, codeword_keeps g stream bits puts name wants h f code r last e)

-- the same of a stream that is equal
pub along : {C E : Type 0} (bits : C → List Bool) (puts : C → Bool → Result (Unit {0}) E → C → Type 0) (wants : E → Type 0) (old : C) (code : Option (List Bool)) (r : Answer E) (new other : C) → new ≡ other
    → WritesCodeword bits puts wants old code r other → WritesCodeword bits puts wants old code r new
along bits puts wants old code r new other same h = subst (λ c. WritesCodeword bits puts wants old code r c) (sym same) h
