-- Worked values of the bounds, at words of 8 bits and states of 16. They hold by computing.
use Rattle.std.proofs.Common.{◌≡◌, ◌-◌, ◌*◌, ◌^◌, [], ◌∷◌, length, refl}
use Rattle.constriction_base.specs.Steps.{Step}
use Rattle.constriction_stack.specs.Ans.{empty, exported, pop}
use Rattle.constriction_laws.specs.Bounds.{Decode, Encode, net_share, net_whole, product, rounded_whole, share}

-- the last of 256 parts
abbrev last : Step
last = record { precision = 8; left = 255; p = 1 }

-- three such symbols: the words 255, 255, 255
three : product (share 8 16) (last ∷ last ∷ last ∷ []) * 2 ^ (8 * (3 - 1)) ≡ 65536
three = refl

three_at_most : 2 ^ (16 - 8) * product (rounded_whole 8 16) (last ∷ last ∷ last ∷ []) ≡ 34359738368
three_at_most = refl

-- of the words 1, 2, 3 a symbol of 16 parts comes off, and the last part goes on: head 13055 above the word 1
abbrev off : Step
off = record { precision = 8; left = 0; p = 16 }

net : 2 ^ (8 * (3 - 1)) * product (net_share 8 16) (Decode off ∷ Encode last ∷ []) ≡ 16777216
net = refl

net_at_most : 2 ^ (8 * 3) * product (net_whole 8 16) (Decode off ∷ Encode last ∷ []) ≡ 274877906944
net_at_most = refl

-- two symbols of the upper half lead from the empty state to head 384, which is two words; with all words in place of all
-- but one the bound would fail
abbrev half : Step
half = record { precision = 8; left = 128; p = 128 }

first : pop 8 16 half (record { head = 384; words = [] }) ≡ record { head = 128; words = [] }
first = refl

second : pop 8 16 half (record { head = 128; words = [] }) ≡ empty
second = refl

two_words : length (exported 8 (record { head = 384; words = [] })) ≡ 2
two_words = refl

at_most : 2 ^ (16 - 8) * product (rounded_whole 8 16) (half ∷ half ∷ []) ≡ 67108864
at_most = refl

above : 2 ^ (8 * 2) * product (share 8 16) (half ∷ half ∷ []) ≡ 1073741824
above = refl
