-- What a call did to the numbers that a C function took out of a caller's struct, and put into it again; and models of a family, by the numbers
-- that a struct holds for them.
use Rattle.std.proofs.Common.{◌≡◌, ℕ, ℤ, List, Result, refl, sym}
use Rattle.constriction_c.specs.Codes.{ReturnsCodeOf, answer_by_code, needed_by}
use Rattle.constriction_inputs.specs.Coded.{Coded}
use Rattle.constriction_inputs.specs.Mixtures.{by_mixture, in_mixture}
use Rattle.constriction_inputs.specs.Quantized.{by_family, in_family}
use Rattle.constriction_inputs.specs.declared.models.families.Families.{Families}
use Rattle.constriction_calls.specs.AnsCalls.{AnsBuffers, AnsEncodesList, AnsDecodesList}
use Rattle.constriction_calls.specs.ChainCalls.{ChainEncodesList, ChainDecodesList, chain_buffers}
use Rattle.constriction_calls.specs.RangeCalls.{RangeEncodesList, RangeDecodesList, range_buffers}
use Rattle.constriction_calls.specs.declared.chain.ChainHeads.{ChainHeads}
use Rattle.constriction_calls.specs.declared.range.parts.DecoderParts.{DecoderParts}
use Rattle.constriction_calls.specs.declared.range.parts.EncoderParts.{EncoderParts}
use Rattle.constriction_lanes.specs.LaneCalls.{LaneBuffers, LanesDecodeList, LanesEncodeList}
use Rattle.constriction_inputs.specs.declared.refusal.Refusal.{Refusal}

-- models of a family
pub family_is : {made family : ℕ} {first last low high min max : ℤ} {places locations : List ℤ} {widths scales : List ℕ} → (made ≡ family) × (first ≡ low) × (last ≡ high)
    → (places ≡ locations) × (widths ≡ scales) → low ≡ min → high ≡ max
    → ◌≡◌ {A = List ℕ → Coded} (by_family (record { family = made; min = first; max = last; locations = places; scales = widths })) (in_family family min max locations scales)
family_is numbers lists low_is high_is = rw (numbers.0, numbers.1, numbers.2, low_is, high_is, lists.0, lists.1) refl

-- mixtures of a family
pub mixture_is : {made components : Families} {family : ℕ} {low high min max : ℤ} {locations : List ℤ} {scales held weights : List ℕ} {wide width : ℕ}
    → (made.family ≡ family) × (made.min ≡ low) × (made.max ≡ high) → (made.locations.now ≡ locations) × (made.scales.now ≡ scales)
    → (components ≡ made) × (held ≡ weights) × (wide ≡ width) → low ≡ min → high ≡ max
    → ◌≡◌ {A = List ℕ → Coded} (by_mixture (record {
      components = record {
        family = components.family;
        min = components.min;
        max = components.max;
        locations = components.locations.now;
        scales = components.scales.now;
      };
      weights = held;
      width = wide;
    })) (in_mixture family min max width weights locations scales)
mixture_is numbers lists parts low_is high_is = rw (parts.0, parts.1, parts.2, numbers.0, numbers.1, numbers.2, low_is, high_is, lists.0, lists.1) refl

-- ---- the stack coder
pub ans_takes : {Word State : Type 0} {number : Word → ℕ} {state : State → ℕ} {w s precision : ℕ} {coded other : List ℕ → Coded} {old new : AnsBuffers Word State}
    {symbols new_symbols : List ℕ} {answer told : Result (Unit {0}) Refusal} → coded ≡ other → told ≡ answer
    → AnsDecodesList number state w s precision coded old new symbols new_symbols answer → AnsDecodesList number state w s precision other old new symbols new_symbols told
ans_takes is answer_is call = rw (sym is, answer_is) call

pub ans_puts : {Word State : Type 0} {number : Word → ℕ} {state : State → ℕ} {w s precision : ℕ} {coded other : Coded} {old new : AnsBuffers Word State} {answer : Result (Unit {0}) Refusal}
    (code old_needed needed : ℕ) → coded ≡ other → answer_by_code code needed ≡ answer → needed ≡ needed_by answer old_needed
    → AnsEncodesList number state w s precision coded old new answer → ReturnsCodeOf code old_needed needed (AnsEncodesList number state w s precision other old new)
ans_puts code old_needed needed is answer_is needed_is call = (rw (sym is, answer_is) call, rw answer_is needed_is)

-- ---- many stack coders
pub lanes_taken : {Word State : Type 0} {number : Word → ℕ} {state : State → ℕ} {w s precision : ℕ} {coded other : List ℕ → Coded} {old new : LaneBuffers Word State}
    {symbols new_symbols : List ℕ} {answer told : Result (Unit {0}) Refusal} → coded ≡ other → told ≡ answer
    → LanesDecodeList number state w s precision coded old new symbols new_symbols answer → LanesDecodeList number state w s precision other old new symbols new_symbols told
lanes_taken is answer_is call = rw (sym is, answer_is) call

pub lanes_put : {Word State : Type 0} {number : Word → ℕ} {state : State → ℕ} {w s precision count : ℕ} {coded other : Coded} {old new : LaneBuffers Word State} {answer : Result (Unit {0}) Refusal}
    (code old_needed needed : ℕ) → coded ≡ other → answer_by_code code needed ≡ answer → needed ≡ needed_by answer old_needed
    → LanesEncodeList number state w s precision count coded old new answer → ReturnsCodeOf code old_needed needed (LanesEncodeList number state w s precision count other old new)
lanes_put code old_needed needed is answer_is needed_is call = (rw (sym is, answer_is) call, rw answer_is needed_is)

-- ---- the range coder
pub puts_told : {Word State : Type 0} {number : Word → ℕ} {state : State → ℕ} {w s precision : ℕ} {coded other : Coded} {count : ℕ}
    {old kept new put : EncoderParts Word State} {words new_words : List Word} {len new_len : ℕ} {answer : Result (Unit {0}) Refusal} (code old_needed needed : ℕ)
    → coded ≡ other → old ≡ kept → put ≡ new → answer_by_code code needed ≡ answer → needed ≡ needed_by answer old_needed
    → RangeEncodesList number state w s precision coded count (range_buffers old words len) (range_buffers new new_words new_len) answer
    → ReturnsCodeOf code old_needed needed (RangeEncodesList number state w s precision other count (range_buffers kept words len) (range_buffers put new_words new_len))
puts_told code old_needed needed is old_is new_is answer_is needed_is call = (rw (sym is, sym old_is, new_is, answer_is) call, rw answer_is needed_is)

pub takes_told : {State : Type 0} {state : State → ℕ} {w s precision : ℕ} {coded other : List ℕ → Coded} {buffer : List ℕ} {old kept new put : DecoderParts State}
    {symbols new_symbols : List ℕ} {answer told : Result (Unit {0}) Refusal} → coded ≡ other → old ≡ kept → put ≡ new → told ≡ answer
    → RangeDecodesList state w s precision coded buffer old new symbols new_symbols answer → RangeDecodesList state w s precision other buffer kept put symbols new_symbols told
takes_told is old_is new_is answer_is call = rw (sym is, sym old_is, new_is, answer_is) call

-- ---- the chain coder
pub chain_puts : {Word State : Type 0} {number : Word → ℕ} {state : State → ℕ} {w s precision : ℕ} {coded other : Coded} {old kept new put : ChainHeads Word State}
    {compressed new_compressed remainders new_remainders : List Word} {count new_count rest new_rest : ℕ} {answer : Result (Unit {0}) Refusal} (code old_needed needed : ℕ)
    → coded ≡ other → old ≡ kept → put ≡ new → answer_by_code code needed ≡ answer → needed ≡ needed_by answer old_needed
    → ChainEncodesList number state w s precision coded (chain_buffers old compressed count remainders rest) (chain_buffers new new_compressed new_count new_remainders new_rest) answer
    → ReturnsCodeOf code old_needed needed (ChainEncodesList number state w s precision other (chain_buffers kept compressed count remainders rest) (chain_buffers put new_compressed new_count new_remainders new_rest))
chain_puts code old_needed needed is old_is new_is answer_is needed_is call = (rw (sym is, sym old_is, new_is, answer_is) call, rw answer_is needed_is)

pub chain_takes : {Word State : Type 0} {number : Word → ℕ} {state : State → ℕ} {w s precision : ℕ} {coded other : List ℕ → Coded} {old kept new put : ChainHeads Word State}
    {compressed new_compressed remainders new_remainders : List Word} {count new_count rest new_rest : ℕ} {symbols new_symbols : List ℕ} {answer : Result (Unit {0}) Refusal}
    (code old_needed needed : ℕ) → coded ≡ other → old ≡ kept → put ≡ new → answer_by_code code needed ≡ answer → needed ≡ needed_by answer old_needed
    → ChainDecodesList number state w s precision coded (chain_buffers old compressed count remainders rest) (chain_buffers new new_compressed new_count new_remainders new_rest) symbols new_symbols answer
    → ReturnsCodeOf code old_needed needed
    (λ told. ChainDecodesList number state w s precision other (chain_buffers kept compressed count remainders rest) (chain_buffers put new_compressed new_count new_remainders new_rest) symbols new_symbols told)
chain_takes code old_needed needed is old_is new_is answer_is needed_is call = (rw (sym is, sym old_is, new_is, answer_is) call, rw answer_is needed_is)
