use Rattle.std.specs.Prelude.{Ok, Err}
use Rattle.std.proofs.Common.{◌≡◌, ◌∙◌, ◌<◌, ◌≤◌, ℕ, ◌+◌, List, [], ◌∷◌, ◌++◌, get_or, length, map, take, sym, ap, ap₂, arith, inl, inr, refl}
use Rattle.std.proofs.lemmas.List.{map_push, take_all, take_more}
use Rattle.constriction_store.specs.Chunks.{chunk_in, lists_of}
use Rattle.constriction_store.proofs.LookedUp.{cannot_look_up, found_one, holds_one_more, is_entry}
use Rattle.constriction_store.proofs.laws.look_up.Goals as goal

pub returns-in-Err-clause-back : goal.returns-in-Err-clause-back
returns-in-Err-clause-back g c = λ chunks held.
    cannot_look_up chunks c.args.places.now c.loop-place.place-index c.in-Err.refusal c.loop-place-test.true
    (found_one _ _ _ _ _ chunks _ (Err c.in-Err.refusal) held c.in-Err.ensures.none c.in-Err.ensures.back)

pub returns-in-Err-clause-err : goal.returns-in-Err-clause-err
returns-in-Err-clause-err g c = (c.loop-place.place-index, lists_of c.loop-place.found.items, c.loop-place-test.true, c.loop-place.invariant.0, inl c.in-Err.ensures.err)

pub returns-in_default-clause-err : goal.returns-in_default-clause-err
returns-in_default-clause-err g c =
    let inside : get_or c.args.places.now c.loop-place.place-index 0 < length c.args.store.now.index = is_entry (Ok c.in-Ok.chunk) _ _ c.in-Ok.ensures.none in
    (c.loop-place.place-index, lists_of c.loop-place.found.items, c.loop-place-test.true, c.loop-place.invariant.0, inr (refl, inside, (c.in-Ok.chunk.items, c.in-Ok.ensures.ok)))

pub loop-place-preserved : goal.loop-place-preserved
loop-place-preserved g c =
    let places = c.args.places.now in
    let k = c.loop-place.place-index in
    let i = get_or places k 0 in
    let found = c.loop-place.found.items in
    let chunk = c.in-Ok.chunk.items in
    let lists : lists_of c.push.new.self.items ≡ lists_of found ++ chunk ∷ [] = ap (λ vs. lists_of vs) c.in-Ok-push.ensures.items ∙ map_push (λ v. v.items) found c.in-Ok.chunk in
    let more : take (k + 1) places ≡ take k places ++ i ∷ [] = take_more places k 0 c.loop-place-test.true in
    let inside : i < length c.args.store.now.index = is_entry (Ok c.in-Ok.chunk) _ i c.in-Ok.ensures.none in (
      rw (lists, more) (holds_one_more _ _ _ _ _ (take k places) (lists_of found) i chunk c.loop-place.invariant.0 inside c.in-Ok.ensures.ok),
      λ chunks held.
          let one : chunk ≡ chunk_in chunks i = found_one _ _ _ _ _ chunks _ (Ok c.in-Ok.chunk) held c.in-Ok.ensures.none c.in-Ok.ensures.back in
          let before : lists_of found ≡ map (chunk_in chunks) (take k places) = c.loop-place.invariant.1 chunks held in
          lists
          ∙ ap₂ (λ (xs : List (List ℕ)) (x : List ℕ). xs ++ x ∷ []) before one
          ∙ sym (ap (λ (is : List ℕ). map (chunk_in chunks) is) more ∙ map_push (chunk_in chunks) (take k places) i),
    )

pub returns-clause-back : goal.returns-clause-back
returns-clause-back g c = λ chunks held.
    let past : length c.args.places.now ≤ c.loop-place.place-index = omega arith in
    rw take_all at (c.loop-place.invariant.1 chunks held)

pub returns-clause-each : goal.returns-clause-each
returns-clause-each g c =
    let past : length c.args.places.now ≤ c.loop-place.place-index = omega arith in
    rw take_all at c.loop-place.invariant.0
