-- Words put behind others in a buffer, seen as a stack: those that were put last lie on top.
use Rattle.std.proofs.Common.{◌≡◌, ◌∙◌, ◌+◌, ◌-◌, ◌≤◌, ℕ, List, ◌++◌, length, map, take, drop, reverse, refl, sym, ap, arith}
use Rattle.std.proofs.Math.Seq.{drop-append_seam, take-length}
use Rattle.std.proofs.lemmas.List.{drop-map, length-append, length-map, length-reverse, length-take, length-take-le, map-append, reverse-append, take-take}
use Rattle.constriction_base.proofs.Turns.{drop_turned}
use Rattle.constriction_inputs.specs.Buffers.{Appended, stack_in}

module _ {W : Type 0} (number : W → ℕ) where
  pub turned_words : (old added : List W) → map number (reverse (old ++ added)) ≡ map number (reverse added) ++ map number (reverse old)
  turned_words old added = ap (map number) (reverse-append old added) ∙ map-append number (reverse added) (reverse old)

  pub stacked : (old : List W) (len : ℕ) (added new : List W) (new_len : ℕ) → Appended old len added new new_len → stack_in number new new_len ≡ map number (reverse added) ++ stack_in number old len
  stacked old len added new new_len a = ap (λ (ws : List W). map number (reverse ws)) a.words ∙ turned_words (take len old) added

  -- as many as are in use
  pub length_in : (buffer : List W) (len : ℕ) → len ≤ length buffer → length (stack_in number buffer len) ≡ len
  length_in buffer len within = length-map (reverse (take len buffer)) number ∙ (length-reverse (take len buffer) ∙ length-take-le len buffer within)

  -- and as many more as were added
  pub counted : (buffer : List W) (len : ℕ) (added : List W) → len ≤ length buffer → length (map number (reverse added) ++ stack_in number buffer len) ≡ len + length added
  counted buffer len added within =
      omega (arith, length-append (map number (reverse added)) (stack_in number buffer len), length-map (reverse added) number, length-reverse added, length_in buffer len within)

  -- what is left of a buffer's words, as reads took some, are the first of them
  pub rest_in : (buffer : List W) (len : ℕ) (t rest : List ℕ) → len ≤ length buffer → stack_in number buffer len ≡ t ++ rest → (length rest ≤ len) × (rest ≡ stack_in number buffer (length rest))
  rest_in buffer len t rest within is =
      let xs : List W = take len buffer in
      let k : ℕ = length rest in
      let sizes : length t + k ≡ len = omega (arith, length_in buffer len within, ap length is, length-append t rest) in
      let place : length t ≡ length xs - k = omega (arith, length-take-le len buffer within) in
      let first : take k xs ≡ take k buffer = take-take k len buffer (omega arith) in
      let behind : drop (length t) (map number (reverse xs)) ≡ map number (reverse (take k xs)) =
      drop-map number (length t) (reverse xs) ∙ ap (λ (ys : List W). map number ys) (ap (λ (n : ℕ). drop n (reverse xs)) place ∙ drop_turned k xs (reverse xs) refl) in (
        omega arith,
        sym (drop-append_seam t rest) ∙ (ap (λ (ys : List ℕ). drop (length t) ys) (sym is) ∙ (behind ∙ ap (λ (ys : List W). map number (reverse ys)) first)),
      )

-- the words in use are within the buffer
pub lie_within : {W : Type 0} (old added new : List W) (len new_len : ℕ) → len ≤ length old → Appended old len added new new_len → new_len ≤ length new
lie_within old added new len new_len inside a =
    omega (arith, a.count, ap length a.words, length-append (take len old) added, length-take-le len old inside, length-take new_len new)

-- the words that a cursor has left are the first of a buffer
pub left_in : {W : Type 0} (number : W → ℕ) (words buf : List W) (pos : ℕ) (t cs : List ℕ) → cs ≡ map number (reverse (take pos buf)) → pos ≤ length buf
    → map number (reverse (take (length words) words)) ≡ t ++ cs → (pos ≤ length words) × (cs ≡ stack_in number words pos)
left_in number words buf pos t cs are within is =
    let rest = rest_in number words (length words) t cs (omega arith) is in
    let count : length cs ≡ pos = ap length are ∙ length_in number buf pos within in
    (omega (arith, rest.0, count), rest.1 ∙ ap (λ (n : ℕ). stack_in number words n) count)

pub all_taken : {W : Type 0} (number : W → ℕ) (words : List W) → map number (reverse (take (length words) words)) ≡ map number (reverse words)
all_taken {W} number words = ap (λ (ws : List W). map number (reverse ws)) (take-length words)
