use Rattle.std.proofs.Common.{[], ◌∷◌, ◌<◌, ◌∙◌, append_assoc, length, map, get_or, arith}
use Rattle.std.specs.Prelude.{decimal}
use Rattle.std.specs.List.{join_with_byte}
use Rattle.constriction_commands.proofs.Chunks.{not_past, shown_more}
use Rattle.constriction_commands.proofs.commands.store.push_chunks.Goals as goal

pub loop-place-preserved : goal.loop-place-preserved
loop-place-preserved c = λ chunks held.
    let places = c.args.places.now in
    let i = c.loop-place.place-index in
    let place = get_or places i 0 in
    let inside : place < length c.args.store.now.index = not_past (length c.args.store.now.index) place c.in-Ok.ensures.none (λ e. cc) in
    let there : place < length chunks = omega (arith, inside, held.count) in
    shown_more chunks places i c.args.lines.now.items c.loop-place.lines.items c.push_numbers.new.out.items c.in-Ok.symbols.items c.loop-place-test.true there
    (c.in-Ok.ensures.back inside _ (held.each place there))
    ((rw c.as_slice.ensures.value at c.in_ok-push_numbers-in-Ok.ensures) ∙ append_assoc c.loop-place.lines.items (join_with_byte 32 (map decimal c.in-Ok.symbols.items)) (10 ∷ []))
    (c.loop-place.invariant chunks held)
