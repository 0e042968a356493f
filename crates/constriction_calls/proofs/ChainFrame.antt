-- Steps of a chain coder over a caller's buffers.
use Rattle.std.proofs.Common.{◌≡◌, ℕ, ◌+◌, ◌^◌, ◌<◌, ◌≤◌, List, [], ◌++◌, length, map, take, reverse, sym, ap, ◌∙◌, subst, arith}
use Rattle.std.proofs.lemmas.List.{length-append}
use Rattle.constriction_base.specs.Models.{Item}
use Rattle.constriction_base.proofs.WordLists.{words_fit}
use Rattle.constriction_chain.specs.Chain.{ChainState}
use Rattle.constriction_chain.specs.Symbols.{ChainEncodesAll, ChainDecodesAll}
use Rattle.constriction_chain.proofs.Below.{decodes_part}
use Rattle.constriction_chain.proofs.Chains.{state, state_same}
use Rattle.constriction_inputs.specs.Buffers.{Appended, stack_in}
use Rattle.constriction_calls.specs.ChainCalls.{LacksCompressed, LacksRemainders, TooShortForCompressed, TooShortForRemainders, chain_in}
use Rattle.constriction_inputs.proofs.Stacked.{length_in, rest_in, stacked}
use Rattle.constriction_chain.proofs.Over.{put_over, put_takes, taken_over}

module _ {W : Type 0} (number : W → ℕ) (w s h r : ℕ) (compressed : List W) (len : ℕ) (remainders : List W) (rlen : ℕ) where
  -- decodes over lent words, with the remainders behind a caller's, are decodes of the caller's state
  pub taken_in : (items : List (Item ℕ)) (h' r' len' : ℕ) (added remainders' : List W) (rlen' : ℕ) (y : ChainState) → len ≤ length compressed
      → ChainDecodesAll w s items (state h r (stack_in number compressed len) []) y → h' ≡ y.h → r' ≡ y.r → len' ≡ length y.compressed → map number (reverse added) ≡ y.remainders → Appended remainders rlen added remainders' rlen'
      → (len' ≤ len) × ChainDecodesAll w s items (chain_in number h r compressed len remainders rlen) (chain_in number h' r' compressed len' remainders' rlen')
  taken_in items h' r' len' added remainders' rlen' y within all eh er el ea appended =
      let below : List ℕ = stack_in number remainders rlen in
      let part = decodes_part w s items _ y all in
      let rest = rest_in number compressed len part.0 y.compressed within part.1 in
      let end : chain_in number h' r' compressed len' remainders' rlen' ≡ state y.h y.r y.compressed (y.remainders ++ below) =
      state_same _ _ eh er (ap (λ (n : ℕ). stack_in number compressed n) el ∙ sym rest.1) (stacked number remainders rlen added remainders' rlen' appended ∙ ap (λ (ys : List ℕ). ys ++ below) ea) in
      (omega (arith, rest.0, el), subst (λ (z : ChainState). ChainDecodesAll w s items (chain_in number h r compressed len remainders rlen) z) (sym end) (taken_over w s items _ y below all))

  -- so are those that end early
  pub ends_in : (P : ℕ) (items : List ℕ → List (Item ℕ)) (count : ℕ) → LacksCompressed w s P items count (state h r (stack_in number compressed len) [])
      → LacksCompressed w s P items count (chain_in number h r compressed len remainders rlen)
  ends_in P items count e =
      record {
        symbols = e.symbols;
        done = e.done;
        last = state e.last.h e.last.r e.last.compressed (e.last.remainders ++ stack_in number remainders rlen);
        count_is = e.count_is;
        fewer = e.fewer;
        taken = taken_over w s (take e.done (items e.symbols)) _ e.last (stack_in number remainders rlen) e.taken;
        needs = e.needs;
        ended = e.ended;
      }

  -- and those whose remainders find no space
  pub needs_space_in : (items : List ℕ → List (Item ℕ)) (count : ℕ) (symbols : List ℕ) (y : ChainState) → rlen ≤ length remainders → length symbols ≡ count
      → ChainDecodesAll w s (items symbols) (state h r (stack_in number compressed len) []) y → length remainders < rlen + length y.remainders
      → TooShortForRemainders w s items count (chain_in number h r compressed len remainders rlen) (length remainders) (rlen + length y.remainders)
  needs_space_in items count symbols y within counted all past =
      let below : List ℕ = stack_in number remainders rlen in
      record {
        symbols = symbols;
        new = state y.h y.r y.compressed (y.remainders ++ below);
        count_is = counted;
        taken = taken_over w s (items symbols) _ y below all;
        is = omega (arith, length-append y.remainders below, length_in number remainders rlen within);
        past = past;
      }

  -- ---- encodes over lent words, with the compressed words behind a caller's, are encodes of the caller's state
  module _ (law : (x : W) → number x < 2 ^ w) (items : List (Item ℕ)) where
    pub put_in : (h' r' rlen' : ℕ) (added compressed' : List W) (len' : ℕ) (y : ChainState) → rlen ≤ length remainders
        → ChainEncodesAll w s items (state h r [] (stack_in number remainders rlen)) y → h' ≡ y.h → r' ≡ y.r → rlen' ≡ length y.remainders → map number (reverse added) ≡ y.compressed → Appended compressed len added compressed' len'
        → (rlen' ≤ rlen) × ChainEncodesAll w s items (chain_in number h r compressed len remainders rlen) (chain_in number h' r' compressed' len' remainders rlen')
    put_in h' r' rlen' added compressed' len' y within all eh er el ea appended =
        let below : List ℕ = stack_in number compressed len in
        let part = put_takes w s items _ y all in
        let rest = rest_in number remainders rlen part.0 y.remainders within part.1 in
        let end : chain_in number h' r' compressed' len' remainders rlen' ≡ state y.h y.r (y.compressed ++ below) y.remainders =
        state_same _ _ eh er (stacked number compressed len added compressed' len' appended ∙ ap (λ (ys : List ℕ). ys ++ below) ea) (ap (λ (n : ℕ). stack_in number remainders n) el ∙ sym rest.1) in (
          omega (arith, rest.0, el),
          subst (λ (z : ChainState). ChainEncodesAll w s items (chain_in number h r compressed len remainders rlen) z) (sym end)
              (put_over w s items _ y below (words_fit w number law (reverse (take len compressed))) all),
        )

    -- so are those that lack remainders
    pub lacks_in : LacksRemainders w s items (state h r [] (stack_in number remainders rlen)) → LacksRemainders w s items (chain_in number h r compressed len remainders rlen)
    lacks_in e =
        record {
          first = e.first;
          item = e.item;
          others = e.others;
          last = state e.last.h e.last.r (e.last.compressed ++ stack_in number compressed len) e.last.remainders;
          parts = e.parts;
          put = put_over w s e.first _ e.last (stack_in number compressed len) (words_fit w number law (reverse (take len compressed))) e.put;
          needs = e.needs;
          ended = e.ended;
        }

    -- and those whose compressed words find no space
    pub needs_room_in : (y : ChainState) → len ≤ length compressed → ChainEncodesAll w s items (state h r [] (stack_in number remainders rlen)) y → length compressed < len + length y.compressed
        → TooShortForCompressed w s items (chain_in number h r compressed len remainders rlen) (length compressed) (len + length y.compressed)
    needs_room_in y within all past =
        let below : List ℕ = stack_in number compressed len in
        record {
          new = state y.h y.r (y.compressed ++ below) y.remainders;
          put = put_over w s items _ y below (words_fit w number law (reverse (take len compressed))) all;
          is = omega (arith, length-append y.compressed below, length_in number compressed len within);
          past = past;
        }
