-- Symbols that are hidden one after the other, and come back.
use Rattle.std.proofs.Common.{◌≡◌, ℕ, ◌<◌, List, [], ◌∷◌, ◌++◌, length, sym, ap, subst, ◌∙◌, arith}
use Rattle.std.proofs.lemmas.List.{length-append, append_assoc, append-nil}
use Rattle.constriction.specs.Steps.{Trace}
use Rattle.constriction.specs.stack.Ans.{AnsState, IsNormalized}
use Rattle.constriction_examples.specs.declared.bits_back.Mixture.{Mixture}
use Rattle.constriction_examples.specs.Hiding.{Hides}

-- these are hidden in the state, the last one first, seen from it back
abbrev pub Hidden : Mixture → List ℕ → AnsState → AnsState → Type 0
Hidden m hidden before now = Trace (λ symbol after prior. Hides m symbol prior after) hidden now before

-- hidden symbols leave a valid state
valid_all : (m : Mixture) (hidden : List ℕ) (before now : AnsState) → IsNormalized 32 64 before → Hidden m hidden before now → IsNormalized 32 64 now
valid_all m [] before now valid h = subst (IsNormalized 32 64) h valid
valid_all m (symbol ∷ hidden) before now valid h = h.1.latent_on.3.valid

-- of the hidden symbols these were revealed, and the others are hidden in the state
abbrev pub Revealed : Mixture → List ℕ → List ℕ → AnsState → AnsState → Type 0
Revealed m hidden symbols before now = (rest : List ℕ) × (hidden ≡ symbols ++ rest) × Hidden m rest before now

-- one more
one_more : (m : Mixture) (hidden symbols rest : List ℕ) (symbol : ℕ) (before now new : AnsState) → length symbols < length hidden → IsNormalized 32 64 before
    → hidden ≡ symbols ++ rest → Hidden m rest before now
    → ((x : ℕ) (between : AnsState) → IsNormalized 32 64 between → Hides m x between now → (symbol ≡ x) × (new ≡ between))
    → Revealed m hidden (symbols ++ symbol ∷ []) before new
one_more m hidden symbols [] symbol before now new fewer valid is h back = absurd (omega (arith, fewer, ap length is, length-append symbols []))
one_more m hidden symbols (x ∷ rest) symbol before now new fewer valid is h back =
    let came = back x h.0 (valid_all m rest before h.0 valid h.2) h.1 in
    (rest, rw came.0 (is ∙ sym (append_assoc symbols (x ∷ []) rest)), subst (Hidden m rest before) (sym came.1) h.2)

pub revealed-more : (m : Mixture) (hidden symbols : List ℕ) (symbol : ℕ) (before now new : AnsState) → length symbols < length hidden → IsNormalized 32 64 before
    → Revealed m hidden symbols before now
    → ((x : ℕ) (between : AnsState) → IsNormalized 32 64 between → Hides m x between now → (symbol ≡ x) × (new ≡ between))
    → Revealed m hidden (symbols ++ symbol ∷ []) before new
revealed-more m hidden symbols symbol before now new fewer valid h back = one_more m hidden symbols h.0 symbol before now new fewer valid h.1 h.2 back

-- none is left
all_of : (m : Mixture) (hidden symbols rest : List ℕ) (before now : AnsState) → length symbols ≡ length hidden
    → hidden ≡ symbols ++ rest → Hidden m rest before now → (symbols ≡ hidden) × (now ≡ before)
all_of m hidden symbols [] before now all is h = (sym (append-nil symbols) ∙ sym is, sym h)
all_of m hidden symbols (x ∷ rest) before now all is h = absurd (omega (arith, all, ap length is, length-append symbols (x ∷ rest)))

pub revealed-all : (m : Mixture) (hidden symbols : List ℕ) (before now : AnsState) → length symbols ≡ length hidden
    → Revealed m hidden symbols before now → (symbols ≡ hidden) × (now ≡ before)
revealed-all m hidden symbols before now all h = all_of m hidden symbols h.0 before now all h.1 h.2
