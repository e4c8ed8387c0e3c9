-- The digits by their characters, computed: the other laws of digits tie definitions to each other, and this one ties them to what is on the line.
-- Assumes nothing.
use mathlib.Core.Path.{◌≡◌, refl}
use mathlib.Core.List.{[], ◌∷◌}
use Rattle.laws.specs.Bytes.{codes}
use Rattle.laws.specs.Checks.{within}
use Rattle.frame.specs.Digits.{is_digit, digits_below, value_of, char_of, chars_of, bytes_of}
use Rattle.frame.specs.Capitals.{capital_of, capital_form}

-- these twenty-two characters are digits and no other byte is; what they are read as; what is written for the same bytes; their capital form
pub digits_are : (digits_below 256 ≡ codes "0123456789ABCDEFabcdef")
    × (bytes_of (codes "0123456789ABCDEFabcdef") ≡ 1 ∷ (35 ∷ (69 ∷ (103 ∷ (137 ∷ (171 ∷ (205 ∷ (239 ∷ (171 ∷ (205 ∷ (239 ∷ [])))))))))))
    × (chars_of (1 ∷ (35 ∷ (69 ∷ (103 ∷ (137 ∷ (171 ∷ (205 ∷ (239 ∷ [])))))))) ≡ codes "0123456789ABCDEF")
    × (capital_form (codes "0123456789ABCDEFabcdef") ≡ codes "0123456789ABCDEFABCDEF")
unfolding digits_below is_digit value_of char_of chars_of bytes_of capital_of within codes
digits_are = (refl, refl, refl, refl)
