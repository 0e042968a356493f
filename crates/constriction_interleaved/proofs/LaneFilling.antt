-- One coder more of many: what it decodes, where the coders before it have decoded.
use Rattle.std.proofs.Common.{◌≡◌, ◌∙◌, ℕ, ◌+◌, ◌*◌, ◌<◌, ◌≤◌, List, ◌++◌, length, drop, take, set, get_or, sym, ap, inl, inr, arith}
use Rattle.std.proofs.lemmas.Bool.{cases_lt}
use Rattle.std.proofs.lemmas.List.{drop-drop, drop-set-lt, get_or-drop, get_or-set_other, get_or-set_same, get_or_read}
use Rattle.constriction_base.specs.Models.{Model, items_of}
use Rattle.constriction_stack.specs.Symbols.{DecodesAll}
use Rattle.constriction_interleaved.specs.Rows.{DecodesLanes, row}
use Rattle.constriction_stack.specs.Lanes.{lane}
use Rattle.constriction_interleaved.proofs.LaneRows.{row_at, row_before}

-- lists that agree from a place on have the same item there
pub same_here : {A : Type 0} (j : ℕ) (xs ys : List A) (d : A) → drop j xs ≡ drop j ys → get_or xs j d ≡ get_or ys j d
same_here {A} j xs ys d e =
    let zero : j + 0 ≡ j = omega arith in
    let first : get_or (drop j xs) 0 d ≡ get_or xs j d = get_or-drop j xs 0 d ∙ ap (λ n. get_or xs n d) zero in
    let second : get_or (drop j ys) 0 d ≡ get_or ys j d = get_or-drop j ys 0 d ∙ ap (λ n. get_or ys n d) zero in
    sym first ∙ ap (λ (zs : List A). get_or zs 0 d) e ∙ second

-- they agree behind it, whatever is set there
pub left_more : {A : Type 0} (j : ℕ) (xs ys : List A) (x : A) → drop j xs ≡ drop j ys → drop (j + 1) (set xs j x) ≡ drop (j + 1) ys
left_more {A} j xs ys x e = drop-set-lt (j + 1) xs j x (omega arith) ∙ sym (drop-drop 1 j xs) ∙ ap (drop 1) e ∙ drop-drop 1 j ys

module _ {W V : Type 0} (number : W → ℕ) (state : V → ℕ) (w s : ℕ) (model : Model ℕ) (width count : ℕ) (words : List W) (heads : List V) (lens : List ℕ)
    (new_heads : List V) (new_lens symbols : List ℕ) (j : ℕ) where
  pub lane_more : (head : V) (len : ℕ) (first : V) (decoded rest : List ℕ) → drop j new_heads ≡ drop j heads → drop j new_lens ≡ drop j lens → j < length new_heads → j < length new_lens
      → j * count ≤ length symbols → length decoded ≡ count → first ≡ get_or new_heads j first
      → DecodesAll w s (items_of model decoded) (lane number state first (row width j words) (get_or new_lens j 0)) (lane number state head (row width j words) len) × (len ≤ get_or new_lens j 0)
      → DecodesLanes number state w s model width count words heads lens new_heads new_lens symbols j
      → DecodesLanes number state w s model width count words heads lens (set new_heads j head) (set new_lens j len) (take (j * count) symbols ++ (decoded ++ rest)) (j + 1)
  lane_more head len first decoded rest heads_left lens_left here within room long is all done k lt d = elim (cases_lt k j) [
    | inl below ↦
        let other : k ≡ j → ⊥ = λ e. omega arith in
        rw (row_before count j k symbols (decoded ++ rest) below room, get_or-set_other new_heads j k head d other, get_or-set_other new_lens j k len 0 other) (done k below d)
    | inr above ↦
        let same : k ≡ j = omega arith in
        let old : first ≡ get_or heads j d = get_or_read new_heads j first here is d ∙ same_here j new_heads heads d heads_left in
        let left : get_or new_lens j 0 ≡ get_or lens j 0 = same_here j new_lens lens 0 lens_left in
        rw (same, row_at count j symbols decoded rest room long, get_or-set_same new_heads j head d here, get_or-set_same new_lens j len 0 within, sym old, sym left) all
  ]
