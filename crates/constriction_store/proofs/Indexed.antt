-- Chunks that were encoded one after another, and the entries of their index.
use Rattle.std.specs.Prelude.{reverse}
use Rattle.std.proofs.Common.{◌≡◌, ◌∙◌, ℕ, zero, suc, ◌+◌, ◌-◌, ◌*◌, ◌/◌, ◌%◌, ◌^◌, ◌<◌, ◌≤◌, List, [], ◌∷◌, ◌++◌, length, length-append, map, replicate, take, refl, sym, ap, subst, arith, pow_pos, inl, inr}
use Rattle.std.proofs.Math.Nat.{mod-mod}
use Rattle.std.proofs.lemmas.Bool.{cases_lt}
use Rattle.std.proofs.lemmas.List.{length-reverse}
use Rattle.std.proofs.lemmas.Nat.{mul-mod_first}
use Rattle.constriction_base.specs.Models.{Model, Item, IsModel, AreModels, items_of}
use Rattle.constriction_base.specs.Steps.{Step, Trace, IsSizes}
use Rattle.constriction_base.proofs.Trace.{Trace-append}
use Rattle.constriction_base.specs.Digits.{fixed_digits}
use Rattle.constriction_queue.specs.Range.{Run, QuantileInInterval, cut, grown, narrowed_by, offset, seal_number, initial}
use Rattle.constriction_queue.specs.SelfDelimiting.{SelfDelimits}
use Rattle.constriction_queue.proofs.Narrowing.{grown_large, grown_small}
use Rattle.constriction_queue.proofs.Pointing.{mod_sum}
use Rattle.constriction_queue.specs.Symbols.{Narrows, NarrowsAll, Finds, FindsAll}
use Rattle.constriction_base.proofs.SameModel.{are_models}
use Rattle.std.specs.List.{AllByRecursion}
use Rattle.constriction_store.specs.Chunks.{AllKnown, chunk_in, count_of}
use Rattle.constriction_store.specs.Stores.{EntriesWithin, Entry, HoldsChunks, Indexes, IsIndex, StandsAtEntry, entry_in, run_at, total_of}
use Rattle.constriction_store.proofs.Symbols.{moves_least, moves_most, narrows_known}
use Rattle.constriction_base.proofs.Guards.{fixed-length}
use Rattle.constriction_base.proofs.Turns.{all-append}

-- ---- counts
as_many : (w s : ℕ) (model : Model ℕ) (chunks : List (List ℕ)) (entries : List Entry) (old new : Run) → Indexes w s model chunks entries old new → length entries ≡ length chunks
as_many w s model [] [] old new all = refl
as_many w s model [] (e ∷ es) old new all = absurd all
as_many w s model (c ∷ cs) [] old new all = absurd all
as_many w s model (c ∷ cs) (e ∷ es) old new all = ap suc (as_many w s model cs es all.2.0 new all.2.2)

total_is : (w s : ℕ) (model : Model ℕ) (chunks : List (List ℕ)) (entries : List Entry) (old new : Run) → Indexes w s model chunks entries old new → total_of entries ≡ count_of chunks
total_is w s model [] [] old new all = refl
total_is w s model [] (e ∷ es) old new all = absurd all
total_is w s model (c ∷ cs) [] old new all = absurd all
total_is w s model (c ∷ cs) (e ∷ es) old new all = omega (arith, all.1, total_is w s model cs es all.2.0 new all.2.2)

pub moves_within : (w s : ℕ) (model : Model ℕ) (chunks : List (List ℕ)) (entries : List Entry) (old new : Run) → Indexes w s model chunks entries old new → new.moves ≤ old.moves + count_of chunks
moves_within w s model [] [] old new all = let same : new.moves ≡ old.moves = ap (λ (r : Run). r.moves) all in omega (arith, same)
moves_within w s model [] (e ∷ es) old new all = absurd all
moves_within w s model (c ∷ cs) [] old new all = absurd all
moves_within w s model (c ∷ cs) (e ∷ es) old new all =
    omega (arith, moves_most w s model c old all.2.0 all.2.1, moves_within w s model cs es all.2.0 new all.2.2)

-- no entry begins past the last run
places_upto : (m n : ℕ) (entries : List Entry) → m ≤ n → EntriesWithin m entries → EntriesWithin n entries
places_upto m n [] le all = tt
places_upto m n (e ∷ es) le all = (omega (arith, le, all.0), places_upto m n es le all.1)

moves_go_on : (w s : ℕ) (model : Model ℕ) (chunks : List (List ℕ)) (entries : List Entry) (old new : Run) → Indexes w s model chunks entries old new → old.moves ≤ new.moves
moves_go_on w s model [] [] old new all = let same : new.moves ≡ old.moves = ap (λ (r : Run). r.moves) all in omega (arith, same)
moves_go_on w s model [] (e ∷ es) old new all = absurd all
moves_go_on w s model (c ∷ cs) [] old new all = absurd all
moves_go_on w s model (c ∷ cs) (e ∷ es) old new all =
    omega (arith, moves_least w s model c old all.2.0 all.2.1, moves_go_on w s model cs es all.2.0 new all.2.2)

places_within : (w s : ℕ) (model : Model ℕ) (chunks : List (List ℕ)) (entries : List Entry) (old new : Run) → Indexes w s model chunks entries old new → EntriesWithin new.moves entries
places_within w s model [] [] old new all = tt
places_within w s model [] (e ∷ es) old new all = absurd all
places_within w s model (c ∷ cs) [] old new all = absurd all
places_within w s model (c ∷ cs) (e ∷ es) old new all =
    (omega (arith, all.0.place_is, moves_go_on w s model (c ∷ cs) (e ∷ es) old new all), places_within w s model cs es all.2.0 new all.2.2)

length_least : (w s : ℕ) (r : Run) (words : List ℕ) → SelfDelimits w s r words → r.moves ≤ length words
length_least w s r words (inl (whole, is)) = rw is (omega (arith, fixed-length (2 ^ w) r.moves (r.low / 2 ^ s)))
length_least w s r words (inr (coded, (t, least, is))) =
    let ds : List ℕ = fixed_digits (2 ^ w) (suc r.moves) (seal_number w s r) in
    rw is (omega (arith, length-append ds (replicate t 0), fixed-length (2 ^ w) (suc r.moves) (seal_number w s r)))

pub is_index : (w s : ℕ) (model : Model ℕ) (chunks : List (List ℕ)) (entries : List Entry) (old last : Run) (words : List ℕ) → Indexes w s model chunks entries old last → SelfDelimits w s last words
    → count_of chunks ≤ 1048576 → IsIndex (length words) entries
is_index w s model chunks entries old last words all are few = record {
  places = places_upto last.moves (length words) entries (length_least w s last words are) (places_within w s model chunks entries old last all);
  few = omega (arith, few, total_is w s model chunks entries old last all);
}

pub all_known : (w s : ℕ) (model : Model ℕ) (chunks : List (List ℕ)) (entries : List Entry) (old new : Run) → Indexes w s model chunks entries old new → AllByRecursion (λ symbols. AllKnown model symbols) chunks
all_known w s model [] [] old new all = tt
all_known w s model [] (e ∷ es) old new all = absurd all
all_known w s model (c ∷ cs) [] old new all = absurd all
all_known w s model (c ∷ cs) (e ∷ es) old new all = (narrows_known w s model c old all.2.0 all.2.1, all_known w s model cs es all.2.0 new all.2.2)

pub map_take : {X Y : Type 0} (f : X → Y) (k : ℕ) (xs : List X) → take k (map f xs) ≡ map f (take k xs)
map_take f zero xs = refl
map_take f (suc k) [] = refl
map_take {Y = Y} f (suc k) (x ∷ xs) = ap (λ (ys : List Y). f x ∷ ys) (map_take f k xs)

-- one chunk more
pub indexed_more : (w s : ℕ) (model : Model ℕ) (chunks : List (List ℕ)) (entries : List Entry) (chunk : List ℕ) (entry : Entry) (old mid new : Run)
    → Indexes w s model chunks entries old mid → StandsAtEntry s entry mid → entry.len ≡ length chunk → NarrowsAll w s (items_of model chunk) mid new
    → Indexes w s model (chunks ++ chunk ∷ []) (entries ++ entry ∷ []) old new
indexed_more w s model [] [] chunk entry old mid new all here len coded =
    (subst (λ (r : Run). StandsAtEntry s entry r) all here, len, (new, subst (λ (r : Run). NarrowsAll w s (items_of model chunk) r new) all coded, refl))
indexed_more w s model [] (e ∷ es) chunk entry old mid new all here len coded = absurd all
indexed_more w s model (c ∷ cs) [] chunk entry old mid new all here len coded = absurd all
indexed_more w s model (c ∷ cs) (e ∷ es) chunk entry old mid new all here len coded =
    (all.0, all.1, (all.2.0, all.2.1, indexed_more w s model cs es chunk entry all.2.0 mid new all.2.2 here len coded))

-- ---- all symbols of some chunks
abbrev joined : Model ℕ → List (List ℕ) → List (Item ℕ)
joined model [] = []
joined model (chunk ∷ chunks) = items_of model chunk ++ joined model chunks

joined_models : (w : ℕ) (model : Model ℕ) (chunks : List (List ℕ)) → IsModel w model → AreModels w (joined model chunks)
joined_models w model [] m = tt
joined_models w model (chunk ∷ chunks) m = all-append (λ (i : Item ℕ). IsModel w i.model) (items_of model chunk) (joined model chunks) (are_models w model chunk m) (joined_models w model chunks m)

joined_run : (w s : ℕ) (model : Model ℕ) (chunks : List (List ℕ)) (entries : List Entry) (old new : Run) → Indexes w s model chunks entries old new → NarrowsAll w s (joined model chunks) old new
joined_run w s model [] [] old new all = all
joined_run w s model [] (e ∷ es) old new all = absurd all
joined_run w s model (c ∷ cs) [] old new all = absurd all
joined_run w s model (c ∷ cs) (e ∷ es) old new all =
    Trace-append (λ (i : Item ℕ). Narrows w s i.model i.symbol) (items_of model c) (joined model cs) old all.2.0 new all.2.1 (joined_run w s model cs es all.2.0 new all.2.2)

-- steps of two lists, in two parts
first_part : {E S : Type 0} (leads : E → S → S → Type 0) (xs ys : List E) (a c : S) → Trace leads (xs ++ ys) a c → (b : S) × Trace leads xs a b
first_part leads [] ys a c all = (a, refl)
first_part leads (x ∷ xs) ys a c all =
    let rest = first_part leads xs ys all.0 c all.2 in
    (rest.0, (all.0, all.1, rest.1))

-- ---- runs that are read alike: what matters of the low end is what a state tells of it
record Alike (s : ℕ) (a b : Run) : Type 0 where
  pub low : a.low % 2 ^ s ≡ b.low % 2 ^ s
  pub range : a.range ≡ b.range
  pub moves : a.moves ≡ b.moves

alike_offset : (w s : ℕ) (words : List ℕ) (a b : Run) → Alike s a b → offset w s words a ≡ offset w s words b
alike_offset w s words a b h = rw (h.low, h.moves) refl

low_times : (m a b k : ℕ) → a % m ≡ b % m → (a * k) % m ≡ (b * k) % m
low_times m a b k h = sym (mul-mod_first a k m) ∙ ap (λ x. (x * k) % m) h ∙ mul-mod_first b k m

low_plus : (m a b k : ℕ) → 0 < m → a % m ≡ b % m → (a + k) % m ≡ (b + k) % m
low_plus m a b k some h = sym (mod_sum a k m some) ∙ ap (λ x. (x + k) % m) h ∙ mod_sum b k m some

alike_cut : (s : ℕ) (e : Step) (a b : Run) → Alike s a b → Alike s (cut e a) (cut e b)
alike_cut s e a b h = record {
  low = low_plus (2 ^ s) a.low b.low (a.range / 2 ^ e.precision * e.left) (pow_pos s) h.low ∙ ap (λ (r : ℕ). (b.low + r / 2 ^ e.precision * e.left) % 2 ^ s) h.range;
  range = ap (λ (r : ℕ). r / 2 ^ e.precision * e.p) h.range;
  moves = h.moves;
}

alike_grown : (w s : ℕ) (a b : Run) → Alike s a b → Alike s (grown w s a) (grown w s b)
alike_grown w s a b h = elim (cases_lt a.range (2 ^ (s - w))) [
  | inl small ↦
      let other : b.range < 2 ^ (s - w) = omega (arith, small, h.range) in
      rw (grown_small w s a small, grown_small w s b other)
      (record { low = low_times (2 ^ s) a.low b.low (2 ^ w) h.low; range = ap (λ (r : ℕ). r * 2 ^ w) h.range; moves = ap suc h.moves })
  | inr large ↦
      let other : 2 ^ (s - w) ≤ b.range = omega (arith, large, h.range) in
      rw (grown_large w s a large, grown_large w s b other) h
]

alike_taken : (w s : ℕ) (words : List ℕ) (e : Step) (a b : Run) → Alike s a b → QuantileInInterval w s words e a → QuantileInInterval w s words e b
alike_taken w s words e a b h t =
    let same : offset w s words b / (b.range / 2 ^ e.precision) ≡ offset w s words a / (a.range / 2 ^ e.precision) =
    ap (λ (o : ℕ). o / (b.range / 2 ^ e.precision)) (sym (alike_offset w s words a b h)) ∙ ap (λ (r : ℕ). offset w s words a / (r / 2 ^ e.precision)) (sym h.range) in
    record { from = rw same t.from; below = rw same t.below }

-- what is read at a run is read at another that is alike
found_alike : (w s : ℕ) (words : List ℕ) (items : List (Item ℕ)) (a last b : Run) → Alike s a b → FindsAll w s words items a last → (end : Run) × FindsAll w s words items b end
found_alike w s words [] a last b h all = (b, refl)
found_alike w s words (item ∷ items) a last b h all =
    let e : Step = record { precision = item.model.precision; left = all.1.0; p = all.1.1 } in
    let next : Alike s all.0 (narrowed_by w s e b) = subst (λ (r : Run). Alike s r (narrowed_by w s e b)) (sym all.1.3.1) (alike_grown w s (cut e a) (cut e b) (alike_cut s e a b h)) in
    let rest = found_alike w s words items all.0 last (narrowed_by w s e b) next all.2 in
    (rest.0, (narrowed_by w s e b, (all.1.0, all.1.1, all.1.2, (alike_taken w s words e a b h all.1.3.0, refl)), rest.1))

alike_entry : (s : ℕ) (entry : Entry) (a : Run) → StandsAtEntry s entry a → Alike s a (run_at entry)
alike_entry s entry a h = record { low = sym (mod-mod a.low (2 ^ s)) ∙ ap (λ (n : ℕ). n % 2 ^ s) (sym h.lower_is); range = sym h.range_is; moves = sym h.place_is }

-- ---- what the words of all chunks hold at each entry
module _ (w s : ℕ) (model : Model ℕ) (words : List ℕ) (z : IsSizes w s) (m : IsModel w model)
    (law : (before since : List (Item ℕ)) (middle last : Run) → AreModels w before → AreModels w since → NarrowsAll w s before (initial s) middle → NarrowsAll w s since middle last
    → SelfDelimits w s last words → FindsAll w s words since middle last) where
  -- at the run before each
  held_at : (chunks : List (List ℕ)) (entries : List Entry) (before : List (Item ℕ)) (old last : Run) → AreModels w before → NarrowsAll w s before (initial s) old → SelfDelimits w s last words
      → Indexes w s model chunks entries old last → (i : ℕ) → i < length chunks
      → (there : Run) × StandsAtEntry s (entry_in entries i) there × ((entry_in entries i).len ≡ length (chunk_in chunks i))
      × ((end : Run) × FindsAll w s words (items_of model (chunk_in chunks i)) there end)
  held_at [] entries before old last bs coded are all i less = absurd (omega arith)
  held_at (c ∷ cs) [] before old last bs coded are all i less = absurd all
  held_at (c ∷ cs) (e ∷ es) before old last bs coded are all zero less =
      let since : NarrowsAll w s (joined model (c ∷ cs)) old last = joined_run w s model (c ∷ cs) (e ∷ es) old last all in
      let found = law before (joined model (c ∷ cs)) old last bs (joined_models w model (c ∷ cs) m) coded since are in
      (old, all.0, all.1, first_part (λ (i : Item ℕ). Finds w s words i.model i.symbol) (items_of model c) (joined model cs) old last found)
  held_at (c ∷ cs) (e ∷ es) before old last bs coded are all (suc i) less =
      held_at cs es (before ++ items_of model c) all.2.0 last (all-append (λ (i : Item ℕ). IsModel w i.model) before (items_of model c) bs (are_models w model c m))
      (Trace-append (λ (i : Item ℕ). Narrows w s i.model i.symbol) before (items_of model c) (initial s) old all.2.0 coded all.2.1) are all.2.2 i (omega arith)

  -- and so at each entry
  pub held_chunks : (chunks : List (List ℕ)) (entries : List Entry) (last : Run) → SelfDelimits w s last words → Indexes w s model chunks entries (initial s) last
      → HoldsChunks w s model words entries chunks
  held_chunks chunks entries last are all = record {
    count = as_many w s model chunks entries (initial s) last all;
    each = λ i less.
        let held = held_at chunks entries [] (initial s) last tt refl are all i less in
        (sym held.2, found_alike w s words (items_of model (chunk_in chunks i)) held.0 held.3.0 (run_at (entry_in entries i)) (alike_entry s (entry_in entries i) held.0 held.1) held.3.1);
  }

-- ---- no chunks
-- a new encoder owes nothing
nothing_owed : (w s : ℕ) (model : Model ℕ) (entries : List Entry) (last : Run) (owed words : List ℕ) → Indexes w s model [] entries (initial s) last
    → SelfDelimits w s last (reverse (owed ++ words)) → length owed ≡ 0
nothing_owed w s model [] last owed words all are = subst (λ (r : Run). SelfDelimits w s r (reverse (owed ++ words)) → length owed ≡ 0) (sym all) by_cases are
  where
    by_cases : SelfDelimits w s (initial s) (reverse (owed ++ words)) → length owed ≡ 0
    by_cases (inl (whole, is)) =
        omega (arith, length-append owed words, length-reverse (owed ++ words), ap length is, fixed-length (2 ^ w) 0 (0 / 2 ^ s))
    by_cases (inr (coded, least)) = absurd (omega (arith, coded, pow_pos s))
nothing_owed w s model (e ∷ es) last owed words all are = absurd all

-- so where room for what is owed was refused, there were chunks
pub some_chunks : (w s : ℕ) (model : Model ℕ) (chunks : List (List ℕ)) (entries : List Entry) (last : Run) (owed words : List ℕ) (room : ℕ) → Indexes w s model chunks entries (initial s) last
    → SelfDelimits w s last (reverse (owed ++ words)) → room < length owed → 0 < length chunks
some_chunks w s model [] entries last owed words room all are short = absurd (omega (arith, nothing_owed w s model entries last owed words all are, short))
some_chunks w s model (c ∷ cs) entries last owed words room all are short = omega arith
