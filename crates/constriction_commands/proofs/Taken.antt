-- What a writer holds, write after write.
use Rattle.std.proofs.Common.{ℕ, ◌+◌, Option, Some, None, List, ◌++◌, take, drop, ◌∙◌, ap, subst, sym, append_assoc}
use Rattle.std.proofs.Math.Seq.{take-add}
use Rattle.std.specs.Io.KnownBytes.{Appends, Keeps}

-- two writes are one
pub appends-two : (old between new : Option (List ℕ)) (first more : List ℕ) → Appends old between first → Appends between new more → Appends old new (first ++ more)
appends-two None between new first more before after = tt
appends-two (Some xs) None new first more before after = absurd before
appends-two (Some xs) (Some ys) None first more before after = absurd after
appends-two (Some xs) (Some ys) (Some zs) first more before after =
    after ∙ ap (λ ls. ls ++ more) before ∙ append_assoc xs first more

-- what keeps its bytes holds what was written before
pub appends-kept : (old between new : Option (List ℕ)) (bytes : List ℕ) → Appends old between bytes → Keeps between new → Appends old new bytes
appends-kept None between new bytes before after = tt
appends-kept (Some xs) None new bytes before after = absurd before
appends-kept (Some xs) (Some ys) None bytes before after = absurd after
appends-kept (Some xs) (Some ys) (Some zs) bytes before after = after ∙ before

-- so many bytes, and so many more of the rest
pub appends-more : (old between new : Option (List ℕ)) (bytes : List ℕ) (count more : ℕ) → Appends old between (take count bytes) → Appends between new (take more (drop count bytes)) → Appends old new (take (count + more) bytes)
appends-more old between new bytes count more before after =
    subst (Appends old new) (sym (take-add count more bytes)) (appends-two old between new (take count bytes) (take more (drop count bytes)) before after)
