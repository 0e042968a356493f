-- Chunks behind one another, their lines, and why a text gives no store.
use Rattle.std.proofs.Common.{◌≡◌, ◌≢◌, ◌↔◌, ◌⊎◌, ℕ, ◌+◌, ◌^◌, ◌<◌, ◌≤◌, inl, inr, List, [], ◌∷◌, ◌++◌, length, map, sum, take, get_or, refl, sym, subst, ap, ap₂, ◌∙◌}
use Rattle.std.specs.declared.vec.Vec.{Vec}
use Rattle.std.specs.List.{Any}
use Rattle.std.proofs.lemmas.Bool.{cases_lt}
use Rattle.std.proofs.lemmas.List.{take_more, map-append, map-id, flat_map_more, get_or_default}
use Rattle.constriction_base.specs.Models.{Model, Item, item_of, items_of}
use Rattle.constriction_base.specs.Tables.{Impossible}
use Rattle.constriction_queue.specs.Range.{Run}
use Rattle.constriction_queue.specs.Symbols.{Narrows, NarrowsAll}
use Rattle.constriction_store.specs.Chunks.{lists_of, chunk_in, IsFirstUnknownOf}
use Rattle.constriction_store.specs.Stores.{Entry, Indexes}
use Rattle.constriction_base.proofs.Trace.{Trace-append}
use Rattle.constriction_commands.specs.Inputs.{ChunksAre, TextHasChunks, NoChunks, SymbolsAre, WeightsAre}
use Rattle.constriction_commands.specs.Lines.{line_of}
use Rattle.constriction_commands.specs.commands.Store.{joined, AreThere, AreWordsOf, StoringFails, LookingUpFails, StoreFails, lines_at}
use Rattle.constriction_commands.specs.declared.fault.Fault.{Fault}
use Rattle.constriction_commands.specs.declared.fault.Fault.TheVariants.{NoWeights, WrongTotal, TooManySymbols, Encoder, NoSuchChunk, OutOfMemory}
use Rattle.constriction_commands.proofs.Symbols.{impossible_at}

-- ---- reading

-- the numbers of 64 bits that lists hold are these lists
pub own_lists : {A : Type 0} (lists : List (Vec ℕ A)) → map (λ list. map (λ n. n) list.items) lists ≡ lists_of lists
own_lists [] = refl
own_lists (list ∷ lists) = ap₂ (λ (x : List ℕ) (xs : List (List ℕ)). x ∷ xs) (map-id list.items) (own_lists lists)

-- ---- encoding

-- where many symbols are refused, and these were not, they are few
pub not_many : {A : Type 0} (count : ℕ) → (A ↔ (1048576 < count)) → (A → ⊥) → count ≤ 1048576
not_many count refused not_so = elim (cases_lt 1048576 count) [
  | inl more ↦ absurd (not_so (refused.1 more))
  | inr few ↦ few
]

-- encodes of the chunks are those of all their symbols
pub joined_run : (model : Model ℕ) (chunks : List (List ℕ)) (entries : List Entry) (old new : Run) → Indexes 32 64 model chunks entries old new
    → NarrowsAll 32 64 (items_of model (joined chunks)) old new
joined_run model [] [] old new all = all
joined_run model [] (entry ∷ entries) old new all = absurd all
joined_run model (chunk ∷ chunks) [] old new all = absurd all
joined_run model (chunk ∷ chunks) (entry ∷ entries) old new all =
    subst (λ (items : List (Item ℕ)). NarrowsAll 32 64 items old new) (sym (map-append (item_of model) chunk (joined chunks)))
    (Trace-append (λ (i : Item ℕ). Narrows 32 64 i.model i.symbol) (items_of model chunk) (items_of model (joined chunks)) old all.2.0 new all.2.1
    (joined_run model chunks entries all.2.0 new all.2.2))

-- the first symbol that the model does not know is one of them
pub unknown_in : (model : Model ℕ) (chunks : List (List ℕ)) (chunk place : ℕ) → IsFirstUnknownOf model chunks chunk place → Any (λ symbols. Any (Impossible model.table) symbols) chunks
unknown_in model chunks chunk place first =
    let symbols : List ℕ = chunk_in chunks chunk in
    (chunk, symbols, first.inside, get_or_default chunks chunk symbols [] first.inside, impossible_at model.table symbols place first.first.inside first.first.unknown)

-- ---- looking up

there_more : (chunks : List (List ℕ)) (places : List ℕ) (place : ℕ) → AreThere chunks places → place < length chunks → AreThere chunks (places ++ place ∷ [])
there_more chunks [] place all one = (one, tt)
there_more chunks (first ∷ places) place all one = (all.0, there_more chunks places place all.1 one)

-- the chunks at the places are there, and their lines were written
abbrev pub AreShown : List (List ℕ) → List ℕ → List ℕ → List ℕ → Type 0
AreShown chunks places old new = AreThere chunks places × (new ≡ old ++ lines_at chunks places)

-- one place more
pub shown_more : (chunks : List (List ℕ)) (places : List ℕ) (i : ℕ) (old out new symbols : List ℕ) → i < length places → get_or places i 0 < length chunks
    → symbols ≡ chunk_in chunks (get_or places i 0) → new ≡ out ++ line_of symbols → AreShown chunks (take i places) old out → AreShown chunks (take (i + 1) places) old new
shown_more chunks places i old out new symbols inside one is written before =
    let place : ℕ = get_or places i 0 in
    rw (take_more places i 0 inside) (
      there_more chunks (take i places) place before.0 one,
      written
          ∙ ap (λ (ls : List ℕ). out ++ line_of ls) is
          ∙ ap (λ (ls : List ℕ). ls ++ line_of (chunk_in chunks place)) before.1
          ∙ flat_map_more (λ p. line_of (chunk_in chunks p)) old (take i places) place,
    )

-- a place that is not past them is there
pub not_past : {A : Type 0} (count place : ℕ) → (A ↔ (count ≤ place)) → (A → ⊥) → place < count
not_past count place refused not_so = elim (cases_lt place count) [
  | inl less ↦ less
  | inr past ↦ absurd (not_so (refused.1 past))
]

-- ---- faults

-- where the lines are good, but the weights make no table
pub no_table : (text weights places : List ℕ) (chunks : List (List ℕ)) (fault : Fault) → WeightsAre text weights → SymbolsAre text places → ChunksAre text chunks
    → (fault ≡ NoWeights) ⊎ (fault ≡ WrongTotal) ⊎ (fault ≡ OutOfMemory) → (fault ≡ NoWeights → weights ≡ []) → (fault ≡ WrongTotal → (weights ≢ []) × (sum weights ≢ 2 ^ 24))
    → NoChunks text fault
no_table text weights places chunks fault first second others (inl is) empty total = rw is ((places, subst (WeightsAre text) (empty is) first, second), (chunks, others))
no_table text weights places chunks fault first second others (inr (inl is)) empty total =
    let wrong = total is in
    rw is ((weights, places, first, second, wrong.0, wrong.1), (chunks, others))
no_table text weights places chunks fault first second others (inr (inr is)) empty total = rw is tt

-- where a text gives no chunks, none are stored
pub no_chunks : (text : List ℕ) (fault : Fault) → NoChunks text fault → StoreFails text fault
no_chunks text TooManySymbols why = absurd why.0
no_chunks text (Encoder error) why = absurd why.0
no_chunks text NoSuchChunk why = absurd why.0
no_chunks text fault why = why

-- why chunks of a text are not stored
pub not_stored : (text : List ℕ) (table : List (ℕ × ℕ × ℕ)) (places : List ℕ) (chunks : List (List ℕ)) (fault : Fault)
    → TextHasChunks text table places chunks → StoringFails table chunks fault → StoreFails text fault
not_stored text table places chunks TooManySymbols given why = (table, places, chunks, given, why)
not_stored text table places chunks (Encoder error) given why = (table, places, chunks, given, why)
not_stored text table places chunks OutOfMemory given why = tt
not_stored text table places chunks fault given why = absurd why

-- or not looked up
pub not_looked_up : (text : List ℕ) (table : List (ℕ × ℕ × ℕ)) (places : List ℕ) (chunks : List (List ℕ)) (words : List ℕ) (fault : Fault)
    → TextHasChunks text table places chunks → AreWordsOf table chunks words → LookingUpFails (length chunks) places fault → StoreFails text fault
not_looked_up text table places chunks words NoSuchChunk given stored why = (table, places, chunks, words, given, stored, why)
not_looked_up text table places chunks words OutOfMemory given stored why = tt
not_looked_up text table places chunks words fault given stored why = absurd why
