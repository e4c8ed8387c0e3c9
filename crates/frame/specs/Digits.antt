-- Characters and bytes, and the checksum (document 01, "The frame"). Assumes nothing.
use Rattle.std.specs.Prelude.{List, [], ◌∷◌, ◌++◌, Bool, cond, ◌||◌, ℕ, zero, suc, ◌+◌, ◌-◌, ◌*◌, ◌/◌, ◌%◌, ltb}
use Rattle.laws.specs.Bytes.{sum_of}
use Rattle.laws.specs.Checks.{within, all}

-- a to f, as the northern panels write them (document 02, request 2)
abbrev pub is_small : ℕ → Bool
is_small c = within 97 102 c

-- a digit is one of 48..57, 65..70 and 97..102. 001's own decoding rule has no such test and would read 58..64 as something
unfoldable pub is_digit : ℕ → Bool
is_digit c = within 48 57 c || (within 65 70 c || is_small c)

-- those below a number, in their order
unfoldable pub digits_below : ℕ → List ℕ
digits_below zero = []
digits_below (suc n) = digits_below n ++ cond (is_digit n) (n ∷ []) []

abbrev pub all_digits : List ℕ → Bool
all_digits cs = all is_digit cs

-- what a digit stands for, each by itself: a small letter for what its capital does
unfoldable pub value_of : ℕ → ℕ
value_of c = cond (ltb c 58) (c - 48) (cond (ltb c 97) (c - 55) (c - 87))

-- a half of a byte is sent as itself plus 48 below 10, else plus 55: a letter that is written is a capital
unfoldable pub char_of : ℕ → ℕ
char_of h = cond (ltb h 10) (h + 48) (h + 55)

-- two characters a byte, high half first; and back
unfoldable pub chars_of : List ℕ → List ℕ
chars_of [] = []
chars_of (b ∷ bs) = char_of (b / 16) ∷ (char_of (b % 16) ∷ chars_of bs)

unfoldable pub bytes_of : List ℕ → List ℕ
bytes_of [] = []
bytes_of (x ∷ []) = []
bytes_of (x ∷ (y ∷ cs)) = (16 * value_of x + value_of y) ∷ bytes_of cs

-- the checksum: the 8-bit sum inverted, which is 255 less it, plus 1, kept to 8 bits. A sum of 0 gives 0
abbrev pub check_of : ℕ → ℕ
check_of total = (255 - total + 1) % 256

unfoldable pub checksum_of : List ℕ → ℕ
checksum_of bytes = check_of (sum_of bytes % 256)
