-- Numbers on a line, one more at a time.
use Rattle.std.proofs.Common.{◌≡◌, ℕ, ◌+◌, ◌<◌, List, [], ◌∷◌, ◌++◌, length, map, get_or, take, refl, sym, ◌∙◌, ap, append_assoc, append-nil, arith}
use Rattle.std.specs.List.{join_with_byte}
use Rattle.std.proofs.lemmas.List.{take_more, map-append}

join-push : (c : ℕ) (texts : List (List ℕ)) (text : List ℕ) → 0 < length texts → join_with_byte c (texts ++ text ∷ []) ≡ join_with_byte c texts ++ (c ∷ text)
join-push c [] text some = absurd (omega arith)
join-push c (first ∷ []) text some = refl
join-push c (first ∷ next ∷ texts) text some =
    ap (λ (rest : List ℕ). first ++ (c ∷ rest)) (join-push c (next ∷ texts) text (omega arith))
    ∙ sym (append_assoc first (c ∷ join_with_byte c (next ∷ texts)) (c ∷ text))

-- the texts of one more element
pub text-more : {X : Type 0} (text : X → List ℕ) (xs : List X) (i : ℕ) (x : X) → i < length xs → x ≡ get_or xs i x → map text (take (i + 1) xs) ≡ map text (take i xs) ++ text x ∷ []
text-more text xs i x inside is =
    ap (map text) (take_more xs i x inside) ∙ map-append text (take i xs) (get_or xs i x ∷ []) ∙ ap (λ (y : List ℕ). map text (take i xs) ++ y ∷ []) (ap text (sym is))

-- a text behind a space goes on a line
pub written-more : (old out spaced new text : List ℕ) (texts more : List (List ℕ)) → 0 < length texts → out ≡ old ++ join_with_byte 32 texts → spaced ≡ out ++ 32 ∷ [] → new ≡ spaced ++ text → more ≡ texts ++ text ∷ [] → new ≡ old ++ join_with_byte 32 more
written-more old out spaced new text texts more some kept space written is =
    written
    ∙ ap (λ (xs : List ℕ). xs ++ text) space
    ∙ append_assoc out (32 ∷ []) text
    ∙ ap (λ (xs : List ℕ). xs ++ (32 ∷ text)) kept
    ∙ append_assoc old (join_with_byte 32 texts) (32 ∷ text)
    ∙ ap (λ (xs : List ℕ). old ++ xs) (sym (join-push 32 texts text some))
    ∙ ap (λ (ts : List (List ℕ)). old ++ join_with_byte 32 ts) (sym is)

-- the first text begins a line
pub written-first : (old out new text : List ℕ) (texts more : List (List ℕ)) → texts ≡ [] → out ≡ old ++ join_with_byte 32 texts → new ≡ out ++ text → more ≡ texts ++ text ∷ [] → new ≡ old ++ join_with_byte 32 more
written-first old out new text texts more none kept written is =
    written
    ∙ ap (λ (xs : List ℕ). xs ++ text) (kept ∙ ap (λ (ts : List (List ℕ)). old ++ join_with_byte 32 ts) none ∙ append-nil old)
    ∙ ap (λ (ts : List (List ℕ)). old ++ join_with_byte 32 ts) (sym (is ∙ ap (λ (ts : List (List ℕ)). ts ++ text ∷ []) none))
