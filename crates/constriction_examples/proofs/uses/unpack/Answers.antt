use Rattle.std.proofs.Common.{◌≡◌, ◌∙◌, List, ℕ, ap, inr, pow_pos, refl, subst, take, take_all, le_refl, length}
use Rattle.constriction.specs.Models.{pairs_of}
use Rattle.constriction.specs.Tables.{entries}
use Rattle.constriction.specs.stack.Ans.{AnsState, IsNormalized, empty, filled}
use Rattle.constriction.specs.stack.Symbols.{DecodesAll}
use Rattle.constriction_examples.specs.Packing.{reading_order}
use Rattle.constriction_examples.proofs.uses.unpack.Goals as goal

-- the words up to the end are all words
all_read : (words : List ℕ) → reading_order (take (length words) words) ≡ reading_order words
all_read words = ap reading_order (take_all (length words) words (le_refl (length words)))

pub returns-clause-read : goal.returns-clause-read
returns-clause-read c =
    let all = ap (λ cursor. reading_order (take cursor.pos cursor.buf.now)) c.new_at_write_end.ensures ∙ all_read c.args.words.now in
    let last : AnsState = c.in_ok-again.field-0-1.state in
    (last, subst (λ ws. DecodesAll 32 64 (pairs_of 24 entries c.in_ok-again.again.items c.args.tables.now) (filled 32 64 0 ws) last) all (c.in_ok-again.ensures.read tt))

pub returns-clause-back : goal.returns-clause-back
returns-clause-back c = λ symbols packed count.
    let all = ap (λ cursor. reading_order (take cursor.pos cursor.buf.now)) c.new_at_write_end.ensures ∙ all_read c.args.words.now in
    let valid : IsNormalized 32 64 empty = record { state = record { fits = pow_pos 64; are_words = tt }; full = inr refl } in
    (c.in_ok-again.ensures.back tt symbols empty valid (packed.0, packed.1, all ∙ packed.2) count).0
