-- What holds of the entries of a table, and of the table of weights.
use Rattle.std.specs.Prelude.{sum}
use Rattle.std.proofs.Common.{◌≡◌, ℕ, zero, suc, ◌+◌, ◌-◌, ◌<◌, ◌≤◌, List, [], ◌∷◌, inl, inr, length, get_or, take, sym, ◌∙◌, ap, subst, arith}
use Rattle.std.proofs.lemmas.List.Sums.{sum_by-cons}
use Rattle.constriction_base.specs.Tables.{Has, Impossible, Follow, AreDistinct, Covers, IsRising, table_from, table_of, weights_between}
use Rattle.constriction_base.specs.laws.Weights.{has_only, weight_at, length-weights_between}

-- an entry lies in what is cut, and isn't empty
pub in_range : {S : Type 0} (low high : ℕ) (es : List (S × ℕ × ℕ)) (s : S) (l p : ℕ) → Follow low es high → Has es s l p → (low ≤ l) × (0 < p) × (l + p ≤ high)
in_range low high [] s l p f h = absurd h
in_range {S} low high (e ∷ es) s l p f (inl h) =
    let le : low + e.2 ≤ high = reaches (low + e.2) high es f.2 in
    let left : e.1 ≡ l = ap (λ (x : S × ℕ × ℕ). x.1) h in
    let weight : e.2 ≡ p = ap (λ (x : S × ℕ × ℕ). x.2) h in
    (omega (arith, f.0), omega (arith, f.1), omega (arith, f.0))
  where
    reaches : {S : Type 0} (low high : ℕ) (es : List (S × ℕ × ℕ)) → Follow low es high → low ≤ high
    reaches low high [] f = omega arith
    reaches low high (e ∷ es) f = omega (arith, reaches (low + e.2) high es f.2)
in_range low high (e ∷ es) s l p f (inr h) =
    let more = in_range (low + e.2) high es s l p f.2 h in
    (omega (arith, more.0), more.1, more.2)

-- two entries that share a place are one
pub one_at : {S : Type 0} (low high q : ℕ) (es : List (S × ℕ × ℕ)) (s t : S) (l m p r : ℕ) → Follow low es high → Has es s l p → Has es t m r → Covers l p q → Covers m r q → (s ≡ t) × (l ≡ m) × (p ≡ r)
one_at low high q [] s t l m p r f a b ha hb = absurd a
one_at {S} low high q (e ∷ es) s t l m p r f (inl a) (inl b) ha hb =
    let both : (s, l, p) ≡ (t, m, r) = sym a ∙ b in
    (ap (λ (x : S × ℕ × ℕ). x.0) both, ap (λ (x : S × ℕ × ℕ). x.1) both, ap (λ (x : S × ℕ × ℕ). x.2) both)
one_at {S} low high q (e ∷ es) s t l m p r f (inl a) (inr b) ha hb =
    let more = in_range (low + e.2) high es t m r f.2 b in
    let left : e.1 ≡ l = ap (λ (x : S × ℕ × ℕ). x.1) a in
    let weight : e.2 ≡ p = ap (λ (x : S × ℕ × ℕ). x.2) a in
    absurd (omega (arith, more.0, f.0, ha.1, hb.0))
one_at {S} low high q (e ∷ es) s t l m p r f (inr a) (inl b) ha hb =
    let more = in_range (low + e.2) high es s l p f.2 a in
    let left : e.1 ≡ m = ap (λ (x : S × ℕ × ℕ). x.1) b in
    let weight : e.2 ≡ r = ap (λ (x : S × ℕ × ℕ). x.2) b in
    absurd (omega (arith, more.0, f.0, hb.1, ha.0))
one_at low high q (e ∷ es) s t l m p r f (inr a) (inr b) ha hb = one_at (low + e.2) high q es s t l m p r f.2 a b ha hb

-- a symbol has one entry
pub one_of : {S : Type 0} (es : List (S × ℕ × ℕ)) (s : S) (l m p r : ℕ) → AreDistinct es → Has es s l p → Has es s m r → (l ≡ m) × (p ≡ r)
one_of [] s l m p r d a b = absurd a
one_of {S} (e ∷ es) s l m p r d (inl a) (inl b) =
    let both : (s, l, p) ≡ (s, m, r) = sym a ∙ b in
    (ap (λ (x : S × ℕ × ℕ). x.1) both, ap (λ (x : S × ℕ × ℕ). x.2) both)
one_of {S} (e ∷ es) s l m p r d (inl a) (inr b) = absurd (d.0 m r (subst (λ (t : S). Has es t m r) (sym (ap (λ (x : S × ℕ × ℕ). x.0) a)) b))
one_of {S} (e ∷ es) s l m p r d (inr a) (inl b) = absurd (d.0 l p (subst (λ (t : S). Has es t l p) (sym (ap (λ (x : S × ℕ × ℕ). x.0) b)) a))
one_of (e ∷ es) s l m p r d (inr a) (inr b) = one_of es s l m p r d.1 a b

-- entries with equal parts are equal
same_entry : {a b c d e f : ℕ} → a ≡ b → c ≡ d → e ≡ f → ◌≡◌ {A = ℕ × ℕ × ℕ} (a, c, e) (b, d, f)
same_entry p q r = cc

-- a weight above 0 is an entry, behind the weights before it
pub has_at : (s low k : ℕ) (ws : List ℕ) (x l p : ℕ) → k < length ws → 0 < p → x ≡ s + k → l ≡ low + sum (take k ws) → p ≡ get_or ws k 0 → Has (table_from s low ws) x l p
has_at s low k [] x l p h pos ex el ep = absurd (omega arith)
has_at s low zero (zero ∷ ws) x l p h pos ex el ep = absurd (omega arith)
has_at s low zero (suc w ∷ ws) x l p h pos ex el ep = inl (same_entry (omega arith) (omega arith) (sym ep))
has_at s low (suc k) (zero ∷ ws) x l p h pos ex el ep =
    has_at (s + 1) low k ws x l p (omega arith) pos (omega arith) (omega (arith, sum_by-cons (λ (y : ℕ). y) 0 (take k ws))) ep
has_at s low (suc k) (suc w ∷ ws) x l p h pos ex el ep =
    inr (has_at (s + 1) (low + suc w) k ws x l p (omega arith) pos (omega arith) (omega (arith, sum_by-cons (λ (y : ℕ). y) (suc w) (take k ws))) ep)

-- the weights before a place lie between the first and it
pub sum_before : (starts : List ℕ) (high k : ℕ) → ((j : ℕ) → j < length starts → get_or starts j 0 ≤ get_or starts (suc j) high) → k < length starts → get_or starts 0 0 + sum (take k (weights_between starts high)) ≡ get_or starts k 0
sum_before [] high k r h = absurd (omega arith)
sum_before (low ∷ starts) high zero r h = omega arith
sum_before (low ∷ []) high (suc k) r h = absurd (omega arith)
sum_before (low ∷ next ∷ starts) high (suc k) r h =
    let more = sum_before (next ∷ starts) high k (λ j l. r (suc j) (omega arith)) (omega arith) in
    let first : low ≤ next = r 0 (omega arith) in
    omega (arith, more, sum_by-cons (λ (y : ℕ). y) (next - low) (take k (weights_between (next ∷ starts) high)))

-- the interval of a symbol whose weight isn't 0 is an entry
pub found : (starts : List ℕ) (high k l w : ℕ) → IsRising starts high → k < length starts → l ≡ get_or starts k 0 → w ≡ get_or (weights_between starts high) k 0 → 0 < w → Has (table_of (weights_between starts high)) k l w
found starts high k l w r h el e pos =
    has_at 0 0 k (weights_between starts high) k l w (omega (arith, length-weights_between starts high)) pos (omega arith) (omega (arith, r.first, sum_before starts high k r.rising h)) e

-- a symbol past the list, or of weight 0, has none
pub impossible : (starts : List ℕ) (high k : ℕ) → (k < length starts → get_or (weights_between starts high) k 0 ≡ 0) → Impossible (table_of (weights_between starts high)) k
impossible starts high k z l p h =
    let only = has_only 0 0 (weights_between starts high) k l p h in
    let same : k - 0 ≡ k = omega arith in
    omega (arith, length-weights_between starts high, rw same at only.3, rw same at only.1, only.2, z (omega (arith, length-weights_between starts high, rw same at only.1)))

-- where an interval ends
pub ends : (starts : List ℕ) (high k l w : ℕ) → IsRising starts high → k < length starts → l ≡ get_or starts k 0 → w ≡ get_or (weights_between starts high) k 0 → l + w ≡ get_or starts (suc k) high
ends starts high k l w r h el e = omega (arith, weight_at starts high k h, r.rising k h)
