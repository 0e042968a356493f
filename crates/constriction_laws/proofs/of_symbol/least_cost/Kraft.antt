-- Kraft's bound: codewords of which none begins another take no more room than there is.
use Rattle.std.proofs.Common.{◌≡◌, ◌+◌, ◌-◌, ◌^◌, ◌<◌, ◌≤◌, ℕ, zero, suc, Bool, true, false, List, [], ◌∷◌, ◌++◌, ap, refl, arith, length, map, get_or}
use Rattle.constriction_laws.specs.symbol.Cost.{AreLawful}
use Rattle.constriction_laws.proofs.of_symbol.least_cost.Lengths.{AreAtMost, at_most_more, kraft}

-- neither begins the other
abbrev AreApart : List Bool → List Bool → Type 0
AreApart c d = ((tail : List Bool) → d ≡ c ++ tail → ⊥) × ((tail : List Bool) → c ≡ d ++ tail → ⊥)

abbrev IsApartFrom : List Bool → List (List Bool) → Type 0
IsApartFrom c [] = Unit {0}
IsApartFrom c (d ∷ ds) = AreApart c d × IsApartFrom c ds

-- none begins another
abbrev AreAllApart : List (List Bool) → Type 0
AreAllApart [] = Unit {0}
AreAllApart (c ∷ cs) = IsApartFrom c cs × AreAllApart cs

-- what is behind the first bit of those that begin with this one
abbrev behind : Bool → List (List Bool) → List (List Bool)
behind bit [] = []
behind bit ([] ∷ cs) = behind bit cs
behind false ((false ∷ bits) ∷ cs) = bits ∷ behind false cs
behind false ((true ∷ bits) ∷ cs) = behind false cs
behind true ((false ∷ bits) ∷ cs) = behind true cs
behind true ((true ∷ bits) ∷ cs) = bits ∷ behind true cs

-- each has a bit
abbrev AreNonempty : List (List Bool) → Type 0
AreNonempty [] = Unit {0}
AreNonempty ([] ∷ cs) = ⊥
AreNonempty ((bit ∷ bits) ∷ cs) = AreNonempty cs

apart_behind_bit : (bit : Bool) (c d : List Bool) → AreApart (bit ∷ c) (bit ∷ d) → AreApart c d
apart_behind_bit bit c d apart = (λ tail is. apart.0 tail (ap (λ bits. bit ∷ bits) is), λ tail is. apart.1 tail (ap (λ bits. bit ∷ bits) is))

apart_behind : (bit : Bool) (c : List Bool) (cs : List (List Bool)) → IsApartFrom (bit ∷ c) cs → IsApartFrom c (behind bit cs)
apart_behind bit c [] apart = tt
apart_behind false c ([] ∷ cs) apart = apart_behind false c cs apart.1
apart_behind true c ([] ∷ cs) apart = apart_behind true c cs apart.1
apart_behind false c ((false ∷ d) ∷ cs) apart = (apart_behind_bit false c d apart.0, apart_behind false c cs apart.1)
apart_behind false c ((true ∷ d) ∷ cs) apart = apart_behind false c cs apart.1
apart_behind true c ((false ∷ d) ∷ cs) apart = apart_behind true c cs apart.1
apart_behind true c ((true ∷ d) ∷ cs) apart = (apart_behind_bit true c d apart.0, apart_behind true c cs apart.1)

all_apart_behind : (bit : Bool) (cs : List (List Bool)) → AreAllApart cs → AreAllApart (behind bit cs)
all_apart_behind bit [] apart = tt
all_apart_behind false ([] ∷ cs) apart = all_apart_behind false cs apart.1
all_apart_behind true ([] ∷ cs) apart = all_apart_behind true cs apart.1
all_apart_behind false ((false ∷ c) ∷ cs) apart = (apart_behind false c cs apart.0, all_apart_behind false cs apart.1)
all_apart_behind false ((true ∷ c) ∷ cs) apart = all_apart_behind false cs apart.1
all_apart_behind true ((false ∷ c) ∷ cs) apart = all_apart_behind true cs apart.1
all_apart_behind true ((true ∷ c) ∷ cs) apart = (apart_behind true c cs apart.0, all_apart_behind true cs apart.1)

at_most_behind : (bit : Bool) (most : ℕ) (cs : List (List Bool)) → AreAtMost (suc most) (map length cs) → AreAtMost most (map length (behind bit cs))
at_most_behind bit most [] all = tt
at_most_behind false most ([] ∷ cs) all = at_most_behind false most cs all.1
at_most_behind true most ([] ∷ cs) all = at_most_behind true most cs all.1
at_most_behind false most ((false ∷ c) ∷ cs) all = (omega (arith, all.0), at_most_behind false most cs all.1)
at_most_behind false most ((true ∷ c) ∷ cs) all = at_most_behind false most cs all.1
at_most_behind true most ((false ∷ c) ∷ cs) all = at_most_behind true most cs all.1
at_most_behind true most ((true ∷ c) ∷ cs) all = (omega (arith, all.0), at_most_behind true most cs all.1)

-- codewords apart from one that has a bit have bits
nonempty_beside : (bit : Bool) (c : List Bool) (cs : List (List Bool)) → IsApartFrom (bit ∷ c) cs → AreNonempty cs
nonempty_beside bit c [] apart = tt
nonempty_beside bit c ([] ∷ cs) apart = apart.0.1 (bit ∷ c) refl
nonempty_beside bit c ((other ∷ d) ∷ cs) apart = nonempty_beside bit c cs apart.1

shorter : (most l : ℕ) → 2 ^ (suc most - suc l) ≡ 2 ^ (most - l)
shorter most l = let same : suc most - suc l ≡ most - l = omega arith in ap (λ k. 2 ^ k) same

-- the room that codewords take is that of both halves
kraft_halves : (most : ℕ) (cs : List (List Bool)) → AreNonempty cs → kraft (suc most) (map length cs) ≡ kraft most (map length (behind false cs)) + kraft most (map length (behind true cs))
kraft_halves most [] some = refl
kraft_halves most ([] ∷ cs) some = absurd some
kraft_halves most ((false ∷ c) ∷ cs) some = omega (arith, kraft_halves most cs some, shorter most (length c))
kraft_halves most ((true ∷ c) ∷ cs) some = omega (arith, kraft_halves most cs some, shorter most (length c))

all_room : (most : ℕ) → 2 ^ (most - 0) ≡ 2 ^ most
all_room most = let none : most - 0 ≡ most = omega arith in ap (λ k. 2 ^ k) none

-- Kraft's bound
pub kraft_bound : (most : ℕ) (cs : List (List Bool)) → AreAllApart cs → AreAtMost most (map length cs) → kraft most (map length cs) ≤ 2 ^ most
kraft_bound most [] apart all = omega arith
kraft_bound most ([] ∷ []) apart all = omega (arith, all_room most)
kraft_bound most ([] ∷ c ∷ cs) apart all = absurd (apart.0.0.0 c refl)
kraft_bound zero ((bit ∷ c) ∷ cs) apart all = absurd (omega (arith, all.0))
kraft_bound (suc most) ((bit ∷ c) ∷ cs) apart all =
    let codes = (bit ∷ c) ∷ cs in
    omega (
      arith,
      kraft_halves most ((bit ∷ c) ∷ cs) (nonempty_beside bit c cs apart.0),
      kraft_bound most (behind false codes) (all_apart_behind false codes apart) (at_most_behind false most codes all),
      kraft_bound most (behind true codes) (all_apart_behind true codes apart) (at_most_behind true most codes all),
    )

apart_from_lawful : (c : List Bool) (cs : List (List Bool)) → ((s : ℕ) → s < length cs → AreApart c (get_or cs s [])) → IsApartFrom c cs
apart_from_lawful c [] apart = tt
apart_from_lawful c (d ∷ ds) apart = (apart 0 (omega arith), apart_from_lawful c ds (λ s within. apart (suc s) (omega (arith, within))))

-- lawful codewords are apart
pub lawful_apart : (cs : List (List Bool)) → AreLawful cs → AreAllApart cs
lawful_apart [] lawful = tt
lawful_apart (c ∷ cs) lawful = (apart_from_lawful c cs first, lawful_apart cs later)
  where
    first : (s : ℕ) → s < length cs → AreApart c (get_or cs s [])
    first s within = (λ tail is. absurd (omega (arith, lawful 0 (suc s) tail (omega arith) (omega (arith, within)) is)), λ tail is. absurd (omega (arith, lawful (suc s) 0 tail (omega (arith, within)) (omega arith) is)))

    later : AreLawful cs
    later s t tail low lower is = omega (arith, lawful (suc s) (suc t) tail (omega (arith, low)) (omega (arith, lower)) is)

-- lengths have a bound
pub some_most : (ls : List ℕ) → (most : ℕ) × AreAtMost most ls
some_most [] = (0, tt)
some_most (l ∷ ls) = let rest = some_most ls in (l + rest.0, (omega arith, at_most_more rest.0 (l + rest.0) ls (omega arith) rest.1))
