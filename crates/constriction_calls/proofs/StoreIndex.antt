-- Chunks that stand one behind another, and an index as lists.
use Rattle.std.proofs.Common.{◌≡◌, ◌∙◌, ℕ, ◌+◌, ◌-◌, ◌<◌, ◌≤◌, List, [], ◌∷◌, ◌++◌, get_or, length, map, take, drop, refl, sym, ap, ap₂, subst, arith}
use Rattle.std.specs.Prelude.{sum}
use Rattle.std.proofs.lemmas.List.Sums.{sum_by-cons}
use Rattle.std.proofs.lemmas.List.{append_assoc, drop-drop, drop_more, length-drop, length-map, length-take-le, map-append, take-append-drop}
use Rattle.constriction_base.specs.Models.{Model, AreKnown, item_of, items_of}
use Rattle.constriction_base.proofs.Turns.{all-append}
use Rattle.constriction_queue.specs.Range.{Run, narrowed_by}
use Rattle.constriction_store.specs.Stores.{Entry, Indexes, entry_of}
use Rattle.constriction_calls.specs.StoreCalls.{chunks_by, entries_by}
use Rattle.constriction_inputs.proofs.KnownItems.{known_by}
use Rattle.constriction_store.proofs.Lengths.{lens_of}

-- ---- an index
same_entries : (entries : List Entry) → entries_by (map (λ e. e.place) entries) (map (λ e. e.lower) entries) (map (λ e. e.range) entries) (map (λ e. e.len) entries) ≡ entries
same_entries [] = refl
same_entries (e ∷ es) = ap (λ (rest : List Entry). entry_of e.place e.lower e.range e.len ∷ rest) (same_entries es)

-- an index by its lists
pub entries_are : (entries : List Entry) (places lowers ranges lengths : List ℕ)
    → places ≡ map (λ e. e.place) entries → lowers ≡ map (λ e. e.lower) entries → ranges ≡ map (λ e. e.range) entries → map (λ e. e.len) entries ≡ lengths
    → entries_by places lowers ranges lengths ≡ entries
entries_are entries places lowers ranges lengths place lower range len = rw (place, lower, range, ← len) (same_entries entries)

-- ---- chunks
-- the first of the numbers that are left
pub sum_more : (xs : List ℕ) (i : ℕ) → i < length xs → sum (drop i xs) ≡ get_or xs i 0 + sum (drop (i + 1) xs)
sum_more xs i inside = ap sum (drop_more xs i 0 inside) ∙ sum_by-cons (λ n. n) (get_or xs i 0) (drop (i + 1) xs)

-- the chunks are as long as the lengths say
pub cut_lengths : (symbols lengths : List ℕ) → sum lengths ≤ length symbols → map (λ (chunk : List ℕ). length chunk) (chunks_by symbols lengths) ≡ lengths
cut_lengths symbols [] few = refl
cut_lengths symbols (len ∷ lengths) few =
    ap₂ (λ (x : ℕ) (xs : List ℕ). x ∷ xs) (length-take-le len symbols (omega (arith, few, sum_by-cons (λ n. n) len lengths)))
    (cut_lengths (drop len symbols) lengths (omega (arith, few, sum_by-cons (λ n. n) len lengths, length-drop len symbols)))

-- as many entries as lengths
pub as_many : (w s : ℕ) (model : Model ℕ) (symbols lengths : List ℕ) (entries : List Entry) (old new : Run) → sum lengths ≤ length symbols → Indexes w s model (chunks_by symbols lengths) entries old new
    → length entries ≡ length lengths
as_many w s model symbols lengths entries old new few all =
    sym (length-map entries (λ e. e.len)) ∙ ap length (lens_of w s model (chunks_by symbols lengths) entries old new all ∙ cut_lengths symbols lengths few)

-- symbols that were encoded chunk by chunk are known
pub known_chunks : (w s : ℕ) (model : Model ℕ) (symbols lengths : List ℕ) (entries : List Entry) (old new : Run) → sum lengths ≡ length symbols
    → Indexes w s model (chunks_by symbols lengths) entries old new → AreKnown (items_of model symbols)
known_chunks w s model [] [] entries old new is all = tt
known_chunks w s model (x ∷ xs) [] entries old new is all = absurd (omega (arith, is))
known_chunks w s model symbols (len ∷ lengths) [] old new is all = absurd all
known_chunks w s model symbols (len ∷ lengths) (e ∷ es) old new is all =
    let first = known_by (λ e a b. b ≡ narrowed_by w s e a) (items_of model (take len symbols)) old all.2.0 all.2.1 in
    let others = known_chunks w s model (drop len symbols) lengths es all.2.0 new (omega (arith, is, sum_by-cons (λ n. n) len lengths, length-drop len symbols)) all.2.2 in
    subst (λ (xs : List ℕ). AreKnown (items_of model xs)) (take-append-drop len symbols)
    (rw (map-append (item_of model) (take len symbols) (drop len symbols)) (all-append _ (items_of model (take len symbols)) (items_of model (drop len symbols)) first others))

-- one chunk more is cut
pub cut_more : (symbols lengths : List ℕ) (i start end : ℕ) (made : List (List ℕ)) (chunk : List ℕ) (all : List (List ℕ)) → i < length lengths
    → end ≡ start + get_or lengths i 0 → chunk ≡ take (end - start) (drop start symbols)
    → made ++ chunks_by (drop start symbols) (drop i lengths) ≡ all → made ++ chunk ∷ [] ++ chunks_by (drop end symbols) (drop (i + 1) lengths) ≡ all
cut_more symbols lengths i start end made chunk all inside to is before =
    let len = get_or lengths i 0 in
    let long : end - start ≡ len = omega (arith, to) in
    let behind : drop len (drop start symbols) ≡ drop end symbols = drop-drop len start symbols ∙ ap (λ n. drop n symbols) (sym to) in
    append_assoc made (chunk ∷ []) (chunks_by (drop end symbols) (drop (i + 1) lengths))
    ∙ (ap₂ (λ (c : List ℕ) (rest : List ℕ). made ++ c ∷ chunks_by rest (drop (i + 1) lengths)) (is ∙ ap (λ n. take n (drop start symbols)) long) (sym behind)
    ∙ (ap (λ (ls : List ℕ). made ++ chunks_by (drop start symbols) ls) (sym (drop_more lengths i 0 inside)) ∙ before))

-- what is left behind it
pub left_more : (lengths : List ℕ) (i start end count : ℕ) → i < length lengths → end ≡ start + get_or lengths i 0
    → start + sum (drop i lengths) ≤ count → (end ≤ count) × (end + sum (drop (i + 1) lengths) ≤ count)
left_more lengths i start end count inside to left =
    let split = sum_more lengths i inside in
    (omega (arith, to, left, split), omega (arith, to, left, split))
