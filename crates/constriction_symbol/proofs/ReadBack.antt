-- What is read of bits that begin with a codeword.
use Rattle.std.proofs.Common.{◌≡◌, ◌⊎◌, Bool, List, [], ◌∷◌, ◌++◌, Option, Some, None, Result, Ok, Err, ap, sym, inl, inr, refl, ◌∙◌, append-nil}
use Rattle.std.proofs.lemmas.Option.{same_Some}
use Rattle.std.proofs.lemmas.List.{append_cancel_left}
use Rattle.constriction_base.specs.declared.errors.CoderError.{CoderError}
use Rattle.constriction_base.specs.declared.errors.CoderError.TheVariants.{Frontend, Backend}
use Rattle.constriction_symbol.specs.Bits.{YieldsBit}
use Rattle.constriction_symbol.specs.Codewords.{YieldsBits, NoCodewordBegins, NoCodewordFits, ReadsSymbol, ComesBack}
use Rattle.constriction_symbol.specs.declared.codebooks.SymbolCodeError.{SymbolCodeError}
use Rattle.constriction_symbol.specs.declared.codebooks.SymbolCodeError.TheVariants.{OutOfCompressedData, InvalidCodeword}

-- bits that were given begin those that were there
pub gives_front : {I E : Type 0} (next : I → Option (Result Bool E) → I → Type 0) (unread : I → List Bool)
    → ((old : I) (item : Option (Result Bool E)) (new : I) → next old item new → YieldsBit (unread old) item (unread new))
    → (old : I) (bits : List Bool) (new : I) → YieldsBits next old bits new → unread old ≡ bits ++ unread new
gives_front next unread law old [] new given = ap unread given
gives_front next unread law old (b ∷ bs) new (mid, first, rest) =
    law old (Some (Ok b)) mid first ∙ ap (λ xs. b ∷ xs) (gives_front next unread law mid bs new rest)

-- of two beginnings one begins the other
pub comparable : (xs ys ms ns : List Bool) → xs ++ ms ≡ ys ++ ns → ((tail : List Bool) × (ys ≡ xs ++ tail)) ⊎ ((tail : List Bool) × (xs ≡ ys ++ tail))
comparable [] ys ms ns is = inl (ys, refl)
comparable (x ∷ xs) [] ms ns is = inr (x ∷ xs, refl)
comparable (x ∷ xs) (y ∷ ys) ms ns is =
    let rest : xs ++ ms ≡ ys ++ ns = cc in
    let head : x ≡ y = cc in
    longer (comparable xs ys ms ns rest) head
  where
    longer : ((tail : List Bool) × (ys ≡ xs ++ tail)) ⊎ ((tail : List Bool) × (xs ≡ ys ++ tail)) → x ≡ y
        → ((tail : List Bool) × (y ∷ ys ≡ x ∷ (xs ++ tail))) ⊎ ((tail : List Bool) × (x ∷ xs ≡ y ∷ (ys ++ tail)))
    longer (inl (tail, e)) head = inl (tail, cc)
    longer (inr (tail, e)) head = inr (tail, cc)

module _ {I S V E : Type 0} (next : I → Option (Result Bool E) → I → Type 0) (unread : I → List Bool) (codeword : S → Option (List Bool)) (same : S → S → Type 0) (reads_on : List Bool → Type 0) (is_invalid : List Bool → V → Type 0)
    (law : (old : I) (item : Option (Result Bool E)) (new : I) → next old item new → YieldsBit (unread old) item (unread new))
    (prefix_law : (s t : S) (bits tail : List Bool) → codeword s ≡ Some bits → codeword t ≡ Some (bits ++ tail) → same s t)
    (same_law : (s t : S) → same s t → codeword s ≡ codeword t)
    (on_law : (bits : List Bool) → reads_on bits → NoCodewordBegins codeword bits)
    (invalid_law : (bits : List Bool) (e : V) → is_invalid bits e → NoCodewordFits codeword bits) where
  -- two codewords that begin the same bits are one
  one_codeword : (s t : S) (xs ys ms ns : List Bool) → codeword s ≡ Some xs → codeword t ≡ Some ys → xs ++ ms ≡ ys ++ ns → xs ≡ ys
  one_codeword s t xs ys ms ns first second is = told (comparable xs ys ms ns is)
    where
      told : ((tail : List Bool) × (ys ≡ xs ++ tail)) ⊎ ((tail : List Bool) × (xs ≡ ys ++ tail)) → xs ≡ ys
      told (inl (tail, e)) =
          same_Some xs ys (sym first ∙ (same_law s t (prefix_law s t xs tail first (second ∙ ap (λ bs. Some bs) e)) ∙ second))
      told (inr (tail, e)) =
          same_Some xs ys (sym first ∙ (sym (same_law t s (prefix_law t s ys tail second (first ∙ ap (λ bs. Some bs) e))) ∙ second))

  same_symbol : (s t : S) (xs ys : List Bool) → codeword s ≡ Some xs → codeword t ≡ Some ys → xs ≡ ys → same s t
  same_symbol s t xs ys first second is = prefix_law s t xs [] first (second ∙ ap (λ bs. Some bs) (sym is ∙ sym (append-nil xs)))

  -- the symbol whose codeword begins the bits comes back, and its codeword alone was read; or the source refused
  pub symbol_back : (s : S) (code rest : List Bool) (old new : I) (r : Result S (CoderError (SymbolCodeError V) E)) → codeword s ≡ Some code → unread old ≡ code ++ rest
      → ReadsSymbol next codeword reads_on is_invalid old r new → ComesBack same s rest r (unread new)
  symbol_back s code rest old new (Ok t) known is (bits, found, given) =
      let here = gives_front next unread law old bits new given in
      let one = one_codeword t s bits code (unread new) rest found known (sym here ∙ is) in
      (same_symbol t s bits code found known one, append_cancel_left code (unread new) rest (ap (λ bs. bs ++ unread new) (sym one) ∙ (sym here ∙ is)))
  symbol_back s code rest old new (Err (Frontend OutOfCompressedData)) known is (bits, on, (last, given, none)) =
      let here = gives_front next unread law old bits last given in
      let end = law last None new none in
      on_law bits on s code rest known (sym (append-nil bits) ∙ (ap (λ ms. bits ++ ms) (sym end.0) ∙ (sym here ∙ is)))
  symbol_back s code rest old new (Err (Frontend (InvalidCodeword e))) known is (bits, invalid, given) =
      let here = gives_front next unread law old bits new given in
      invalid_law bits e invalid (unread new) s code rest known (sym here ∙ is)
  symbol_back s code rest old new (Err (Backend e)) known is reads = tt
