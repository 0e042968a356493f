-- Words that lie below those that steps read and write stay there, and words are the coder of one state only.
use Rattle.std.specs.Prelude.{◌≡◌, ℕ, ◌+◌, ◌*◌, ◌^◌, ◌≤◌, List, [], ◌∷◌, ◌++◌, length}
use Rattle.std.specs.Int.Digits.{digits_of, number_from_digits, number_from_digits_after}
use Rattle.std.proofs.Common.{refl, sym, ap, ap₂, ◌∙◌, arith, inl, inr, append_assoc, pow_pos, mul-le-mul_right}
use Rattle.std.proofs.lemmas.Bool.{cases_lt}
use Rattle.std.proofs.lemmas.Int.Digits.{number_after_append, number_after_ge, number_digits_of}
use Rattle.constriction_base.specs.Models.{Item}
use Rattle.constriction_base.specs.Steps.{Step}
use Rattle.constriction_base.specs.Windows.{IsInWindow}
use Rattle.constriction_base.proofs.Exporting.{base_two}
use Rattle.constriction_chain.specs.Walk.{number_of_bits, IsQuantile}
use Rattle.constriction_chain.specs.Chain.{ChainState, IsBroughtBelow, IsDecode}
use Rattle.constriction_chain.specs.Symbols.{ChainDecodesAll}
use Rattle.constriction_chain.proofs.Chains.{state}
use Rattle.constriction_chain.proofs.Walks.{cons_same}

-- ---- words below

-- the words that a quantile takes, whatever lies below them
quantile_part : (w P h q h' : ℕ) (ws ws' : List ℕ) → IsQuantile w P h ws q h' ws'
    → (t : List ℕ) × (ws ≡ t ++ ws') × ((below : List ℕ) → IsQuantile w P h (t ++ below) q h' below)
quantile_part w P h q h' ws ws' x = elim x.taken [
  | inl y ↦ (
    number_of_bits (y.others ++ y.answer) ∷ [],
    y.word,
    λ below. record {
      bits = x.bits;
      bits' = x.bits';
      head = x.head;
      head' = x.head';
      taken = inl (record {
        others = y.others;
        answer = y.answer;
        few = y.few;
        others_length = y.others_length;
        answer_length = y.answer_length;
        word = refl;
        left_over = y.left_over;
        is = y.is;
      });
    },
  )
  | inr y ↦ (
    [],
    sym y.words,
    λ below. record {
      bits = x.bits;
      bits' = x.bits';
      head = x.head;
      head' = x.head';
      taken = inr (record {
        answer = y.answer;
        within_word = y.within_word;
        answer_length = y.answer_length;
        left_over = y.left_over;
        words = refl;
        is = y.is;
      });
    },
  )
]

-- a word moves out above any others
brought_over : (w b x x' : ℕ) (ws ws' below : List ℕ) → IsBroughtBelow w b x ws x' ws' → IsBroughtBelow w b x (ws ++ below) x' (ws' ++ below)
brought_over w b x x' ws ws' below (inl stays) = inl (stays.0, stays.1, ap (λ (vs : List ℕ). vs ++ below) stays.2)
brought_over w b x x' ws ws' below (inr (high, m)) =
    inr (high, record { word = m.word; fits = m.fits; taken = ap (λ (vs : List ℕ). vs ++ below) m.taken; grown = m.grown })

-- what a decode takes of the compressed words, whatever lies below it there and below the remainders
decode_part : (w s : ℕ) (e : Step) (x y : ChainState) → IsDecode w s e x y
    → (t : List ℕ) × (x.compressed ≡ t ++ y.compressed)
    × ((under below : List ℕ) → IsDecode w s e (state x.h x.r (t ++ under) (x.remainders ++ below)) (state y.h y.r under (y.remainders ++ below)))
decode_part w s e x y d =
    let part = quantile_part w e.precision x.h (e.left + d.t) y.h x.compressed y.compressed d.walk in (
      part.0,
      part.1,
      λ under below. record {
        t = d.t;
        within = d.within;
        walk = part.2 under;
        gain = brought_over w _ (x.r * e.p + d.t) y.r x.remainders y.remainders below d.gain;
      },
    )

-- the same of decodes one after the other
pub decodes_part : {S : Type 0} (w s : ℕ) (items : List (Item S)) (x y : ChainState) → ChainDecodesAll w s items x y
    → (t : List ℕ) × (x.compressed ≡ t ++ y.compressed)
    × ((under below : List ℕ) → ChainDecodesAll w s items (state x.h x.r (t ++ under) (x.remainders ++ below)) (state y.h y.r under (y.remainders ++ below)))
decodes_part w s [] x y all =
    ([], ap (λ (z : ChainState). z.compressed) (sym all), λ under below. ap (λ (z : ChainState). state z.h z.r under (z.remainders ++ below)) all)
decodes_part w s (item ∷ items) x y (next, (left, p, has, d), all) =
    let one = decode_part w s (record { precision = item.model.precision; left = left; p = p }) x next d in
    let more = decodes_part w s items next y all in (
      one.0 ++ more.0,
      one.1 ∙ (ap (λ (vs : List ℕ). one.0 ++ vs) more.1 ∙ sym (append_assoc one.0 more.0 y.compressed)),
      λ under below. (
        state next.h next.r (more.0 ++ under) (next.remainders ++ below),
        (left, p, has, rw (append_assoc one.0 more.0 under) (one.2 (more.0 ++ under) below)),
        more.2 under below,
      ),
    )

-- ---- one state

-- of two lists that go on to the same, the longer begins with the shorter
longer : (xs us ys vs : List ℕ) → length xs ≤ length ys → xs ++ us ≡ ys ++ vs → (ds : List ℕ) × (ys ≡ xs ++ ds) × (us ≡ ds ++ vs)
longer [] us ys vs few e = (ys, refl, e)
longer (x ∷ xs) us [] vs few e = absurd (omega arith)
longer (x ∷ xs) us (y ∷ ys) vs few e =
    let first = cons_same x y (xs ++ us) (ys ++ vs) e in
    let rest = longer xs us ys vs (omega arith) first.1 in
    (rest.0, ap₂ (λ (z : ℕ) (zs : List ℕ). z ∷ zs) (sym first.0) rest.1, rest.2)

-- a number in a window whose digits begin with those of another in it has no more
no_more : (w bound a b : ℕ) (ds : List ℕ) → 1 ≤ w → IsInWindow w bound a → IsInWindow w bound b
    → digits_of (2 ^ w) b ≡ digits_of (2 ^ w) a ++ ds → (ds ≡ []) × (a ≡ b)
no_more w bound a b ds some ha hb e =
    let is : b ≡ number_from_digits_after (2 ^ w) a ds =
    sym (number_digits_of (2 ^ w) b (base_two w some)) ∙ (ap (λ (vs : List ℕ). number_from_digits (2 ^ w) vs) e
    ∙ (number_after_append (2 ^ w) 0 (digits_of (2 ^ w) a) ds ∙ ap (λ n. number_from_digits_after (2 ^ w) n ds) (number_digits_of (2 ^ w) a (base_two w some)))) in
    none ds is
  where
    none : (ds : List ℕ) → b ≡ number_from_digits_after (2 ^ w) a ds → (ds ≡ []) × (a ≡ b)
    none [] is = (refl, sym is)
    none (d ∷ ds) is =
        let up : bound * 2 ^ w ≤ a * 2 ^ w = mul-le-mul_right (2 ^ w) ha.from in
        absurd (omega (arith, is, number_after_ge (2 ^ w) (a * 2 ^ w + d) ds (pow_pos w), up, hb.below))

-- words stand for one number in a window, and the words below it
pub one_window : (w bound a b : ℕ) (us vs : List ℕ) → 1 ≤ w → IsInWindow w bound a → IsInWindow w bound b
    → digits_of (2 ^ w) a ++ us ≡ digits_of (2 ^ w) b ++ vs → (a ≡ b) × (us ≡ vs)
one_window w bound a b us vs some ha hb e = elim (cases_lt (length (digits_of (2 ^ w) a)) (length (digits_of (2 ^ w) b))) [
  | inl less ↦
      let l = longer (digits_of (2 ^ w) a) us (digits_of (2 ^ w) b) vs (omega arith) e in
      let n = no_more w bound a b l.0 some ha hb l.1 in
      (n.1, l.2 ∙ ap (λ (ds : List ℕ). ds ++ vs) n.0)
  | inr more ↦
      let l = longer (digits_of (2 ^ w) b) vs (digits_of (2 ^ w) a) us more (sym e) in
      let n = no_more w bound b a l.0 some hb ha l.1 in
      (sym n.1, sym (l.2 ∙ ap (λ (ds : List ℕ). ds ++ us) n.0))
]
