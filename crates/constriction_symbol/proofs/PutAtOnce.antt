-- Bits that are put at once, as what a stream of bits owes of a codeword: as if they were put one by one.
use Rattle.std.proofs.Common.{◌≡◌, ◌<◌, ◌≤◌, ◌+◌, ℕ, zero, suc, ◌/◌, ◌%◌, ◌==◌, Bool, List, [], ◌∷◌, ◌++◌, length, map, reverse, Option, Some, Result, Ok, Err, ap, sym, subst, refl, inl, inr, ◌∙◌, arith, append-nil, append_assoc, length-append}
use Rattle.constriction_base.specs.Backends.{IsWrite}
use Rattle.constriction_base.specs.declared.errors.CoderError.TheVariants.{Backend}
use Rattle.constriction_base.proofs.Trace.{Trace-append}
use Rattle.constriction_stream.specs.Lists.{StepsAll}
use Rattle.constriction_symbol.specs.Bits.{BitsValue, PutsBits, PutsOnto, bits_above, bits_of, bits_of_words}
use Rattle.constriction_symbol.specs.Codewords.{WritesCodeword, formed}
use Rattle.constriction_symbol.proofs.Coding.{length_bits}
use Rattle.constriction_symbol.proofs.WordLemmas.{across}

-- the first of some bits of a number, and the others
pub first_bit : (k x : ℕ) → 0 < k → (bit : Bool) × (back : List Bool) × (bits_of k x ≡ bit ∷ back) × (length back + 1 ≡ k)
first_bit zero x some = absurd (omega (arith, some))
first_bit (suc k) x some = (x % 2 == 1, bits_of k (x / 2), refl, omega (arith, length_bits k (x / 2)))

module _ {W B E : Type 0} (w : ℕ) (number : W → ℕ) (words : B → List W) (room : B → ℕ) (writes : B → W → Result (Unit {0}) E → B → Type 0) (write_fails : B → E → Type 0) (wants : E → Type 0) where
  abbrev pub coder_of : List Bool → B → BitsValue B
  coder_of last backend = record { bits = bits_above w number (words backend) last; last = last; backend = backend }

  abbrev pub bits_in : BitsValue B → List Bool
  bits_in c = c.bits

  abbrev pub puts_in : BitsValue B → Bool → Result (Unit {0}) E → BitsValue B → Type 0
  puts_in = PutsOnto w number (IsWrite words room writes write_fails)

  -- bits for which the last word has room
  room_steps : (bits last : List Bool) (backend : B) → length last + length bits ≤ w → StepsAll puts_in (coder_of last backend) bits (coder_of (last ++ bits) backend)
  room_steps [] last backend fits = ap (λ l. coder_of l backend) (append-nil last)
  room_steps (b ∷ bs) last backend fits =
      let more : length (last ++ b ∷ []) ≡ length last + 1 = length-append last (b ∷ []) in (
        coder_of (last ++ b ∷ []) backend,
        inl (omega (arith, fits), refl, refl),
        subst (λ l. StepsAll puts_in (coder_of (last ++ b ∷ []) backend) bs (coder_of l backend)) (append_assoc last (b ∷ []) bs) (room_steps bs (last ++ b ∷ []) backend (omega (arith, fits, more))),
      )

  -- bits that were put are steps, and stand behind the others
  put_steps : (bits last last' : List Bool) (backend backend' : B) → PutsBits w number (IsWrite words room writes write_fails) last backend bits (Ok tt) last' backend'
      → (bits_above w number (words backend') last' ≡ bits_above w number (words backend) last ++ bits) × StepsAll puts_in (coder_of last backend) bits (coder_of last' backend')
  put_steps bits last last' backend backend' (inl (fits, more, same)) =
      rw (more, same) (sym (append_assoc (bits_of_words w (map number (reverse (words backend)))) last bits), room_steps bits last backend fits)
  put_steps bits last last' backend backend' (inr (front, bit, back, parts, full, short, begun, (word, has, (more, left, by)))) =
      let whole : bits_of (length (last ++ front)) (number word) ≡ last ++ front = ap (λ k. bits_of k (number word)) full ∙ has in
      let filled : StepsAll puts_in (coder_of last backend) front (coder_of (last ++ front) backend) = room_steps front last backend (omega (arith, full, length-append last front)) in
      let next : StepsAll puts_in (coder_of (last ++ front) backend) (bit ∷ back) (coder_of (bit ∷ back) backend') =
      (coder_of (bit ∷ []) backend', inr (full, refl, (word, has, (more, left, by))), room_steps back (bit ∷ []) backend' (omega (arith, short))) in
      let all : StepsAll puts_in (coder_of last backend) (front ++ bit ∷ back) (coder_of (bit ∷ back) backend') =
      Trace-append (λ b before after. puts_in before b (Ok tt) after) front (bit ∷ back) (coder_of last backend) (coder_of (last ++ front) backend) (coder_of (bit ∷ back) backend') filled next in (
        across w number (words backend) (words backend') word last (last ++ front) last' front (bit ∷ back) bits more whole full refl begun parts,
        rw (parts, begun) all,
      )

  pub put_ok : (form : List Bool → List Bool) (codeword : Option (List Bool)) (code bits last last' : List Bool) (backend backend' : B) → codeword ≡ Some code → bits ≡ form code
      → PutsBits w number (IsWrite words room writes write_fails) last backend bits (Ok tt) last' backend'
      → WritesCodeword bits_in puts_in wants (coder_of last backend) (formed form codeword) (Ok tt) (coder_of last' backend')
  put_ok form codeword code bits last last' backend backend' known is put =
      let all = put_steps bits last last' backend backend' put in
      rw known (all.0 ∙ ap (λ bs. bits_above w number (words backend) last ++ bs) is, subst (λ bs. StepsAll puts_in (coder_of last backend) bs (coder_of last' backend')) is all.1)

  pub put_err : (form : List Bool → List Bool) (codeword : Option (List Bool)) (code bits last last' : List Bool) (backend backend' : B) (e : E) → codeword ≡ Some code → bits ≡ form code
      → PutsBits w number (IsWrite words room writes write_fails) last backend bits (Err e) last' backend'
      → WritesCodeword bits_in puts_in wants (coder_of last backend) (formed form codeword) (Err (Backend e)) (coder_of last' backend')
  put_err form codeword code bits last last' backend backend' e known is (front, bit, back, parts, full, more, (word, has, (kept, refused, by))) =
      let before = bits_of_words w (map number (reverse (words backend))) in
      let same : bits_above w number (words backend') last' ≡ bits_above w number (words backend) last' = ap (λ ws. bits_above w number ws last') kept in
      let begun : bits_above w number (words backend) last' ≡ bits_above w number (words backend) last ++ front =
      ap (λ bs. before ++ bs) more ∙ sym (append_assoc before last front) in
      rw known (inl (record {
        front = front;
        bit = bit;
        back = back;
        whole = sym is ∙ parts;
        mid = coder_of (last ++ front) backend;
        before = room_steps front last backend (omega (arith, full, length-append last front));
        refused = (full, more, (word, has, (kept, refused, by)));
        begun = same ∙ begun;
      }))
