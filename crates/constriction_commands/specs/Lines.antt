-- The lines of a text, the numbers that a line lists, and the printing of numbers.
use Rattle.std.specs.Prelude.{ℕ, ◌+◌, ◌*◌, ◌-◌, Bool, true, false, ◌&&◌, ◌||◌, ◌==◌, nat_le, if◌then◌else◌, Option, None, Some, List, [], ◌∷◌, ◌++◌, map, filter, decimal}
use Rattle.std.specs.List.{before_first, after_first, onto_first, slice_split, join_with_byte}
use Rattle.std.specs.Char.{is_ascii_digit}
use Rattle.std.specs.Str.{all_ascii_digits}

-- A line ends at a line feed.
abbrev pub is_line_feed : ℕ → Bool
is_line_feed byte = byte == 10

-- The first line of a text without its line feed, or the whole text if there is no line feed.
abbrev pub first_line : List ℕ → List ℕ
first_line text = before_first is_line_feed text

-- The text after the first line feed, or the empty text if there is no line feed.
abbrev pub after_line : List ℕ → List ℕ
after_line text = after_first is_line_feed text

-- The second line of a text, or the empty line if the text has one line.
abbrev pub second_line : List ℕ → List ℕ
second_line text = first_line (after_line text)

-- A space, a tab or a carriage return separates numbers.
abbrev pub is_blank : ℕ → Bool
is_blank byte = byte == 32 || byte == 9 || byte == 13

-- The piece is not empty.
abbrev pub has_bytes : List ℕ → Bool
has_bytes [] = false
has_bytes (byte ∷ bytes) = true

-- The nonempty pieces of a line between blanks.
abbrev pub pieces_of : List ℕ → List (List ℕ)
pieces_of line = filter has_bytes (slice_split is_blank line)

-- The number whose decimal digits are the digits of n, followed by the listed digits.
abbrev pub value_after : ℕ → List ℕ → ℕ
value_after n [] = n
value_after n (digit ∷ digits) = value_after (10 * n + (digit - 48)) digits

-- The number 10 * n plus the digit, or `None` if the byte is no digit or the number is above `greatest`.
abbrev pub with_digit : ℕ → ℕ → ℕ → Option ℕ
with_digit greatest n byte = if is_ascii_digit byte && nat_le (10 * n + (byte - 48)) greatest then Some (10 * n + (byte - 48)) else None

-- The number that a piece spells, or `None` if a byte is no digit or the number is above `greatest`.
abbrev pub number_spelled : ℕ → List ℕ → Option ℕ
number_spelled greatest piece = if all_ascii_digits piece && nat_le (value_after 0 piece) greatest then Some (value_after 0 piece) else None

-- A value in front of a list, if both exist.
abbrev pub in_front : {X : Type 0} → Option X → Option (List X) → Option (List X)
in_front None rest = None
in_front (Some x) None = None
in_front (Some x) (Some xs) = Some (x ∷ xs)

-- The numbers of all pieces, or `None` if a piece spells no number.
abbrev pub all_numbers : ℕ → List (List ℕ) → Option (List ℕ)
all_numbers greatest [] = Some []
all_numbers greatest (piece ∷ pieces) = in_front (number_spelled greatest piece) (all_numbers greatest pieces)

-- The numbers that a line lists, or `None` if the line is no list of numbers up to `greatest`.
abbrev pub numbers_of : ℕ → List ℕ → Option (List ℕ)
numbers_of greatest line = all_numbers greatest (pieces_of line)

-- The lines of a text, without their line feeds. No line follows a line feed at the end of the text.
abbrev pub lines_of : List ℕ → List (List ℕ)
lines_of [] = []
lines_of (byte ∷ bytes) = if is_line_feed byte then [] ∷ lines_of bytes else onto_first byte (lines_of bytes)

-- The lists of numbers of all lines, or `None` if a line is no list of numbers up to `greatest`.
abbrev pub all_number_lists : ℕ → List (List ℕ) → Option (List (List ℕ))
all_number_lists greatest [] = Some []
all_number_lists greatest (line ∷ lines) = in_front (numbers_of greatest line) (all_number_lists greatest lines)

-- The lists of numbers of a text, one for each line, or `None` if a line is no list of numbers up to `greatest`.
abbrev pub number_lists_of : ℕ → List ℕ → Option (List (List ℕ))
number_lists_of greatest text = all_number_lists greatest (lines_of text)

-- The line of the numbers in decimal, separated by spaces, with a line feed at the end.
abbrev pub line_of : List ℕ → List ℕ
line_of numbers = join_with_byte 32 (map decimal numbers) ++ 10 ∷ []
