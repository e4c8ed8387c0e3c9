-- Laws of digits, as the code's tests and loops cite them. Assumes nothing.
use mathlib.Core.Path.{◌≡◌}
use mathlib.Core.Logic.{inl, inr, ◌⊎◌}
use mathlib.Core.List.{List, [], ◌∷◌}
use mathlib.Core.Bool.{true, false, ◌||◌}
use Prim.Native.Nat.{ℕ, ◌+◌, ◌-◌, ◌*◌, ◌≤◌, ◌<◌}
use native.Mathlib.Omega.{arith}
use lib.ListN.{length, get_or, drop}
use borrow.Author.Tests.{lt-ltb, le-ltb}
use Rattle.laws.specs.Checks.{within, all}
use Rattle.laws.proofs.Tests.{or_either, within_is, within_in, within_below, within_above, all_at}
use Rattle.laws.proofs.Walks.{next2, none_left}
use Rattle.frame.specs.Digits.{is_small, is_digit, all_digits, value_of, char_of, bytes_of}

-- ---- which characters are digits

-- the three ranges
pub data Digit (c : ℕ) : Type 0 where
  decimal : 48 ≤ c → c ≤ 57 → Digit c
  capital : 65 ≤ c → c ≤ 70 → Digit c
  small : 97 ≤ c → c ≤ 102 → Digit c

module _ (c : ℕ) where
  pub small_below : c < 97 → is_small c ≡ false
  small_below h = within_below 97 102 c h

  pub digit_decimal : 48 ≤ c → c ≤ 57 → is_digit c ≡ true
  unfolding is_digit
  digit_decimal h g = rw (within_in 48 57 c h g)

  pub digit_capital : 65 ≤ c → c ≤ 70 → is_digit c ≡ true
  unfolding is_digit
  digit_capital h g = rw (within_above 48 57 c (omega arith), within_in 65 70 c h g)

  pub digit_small : 97 ≤ c → c ≤ 102 → is_digit c ≡ true
  unfolding is_digit
  digit_small h g = rw (within_above 48 57 c (omega arith), within_above 65 70 c (omega arith), within_in 97 102 c h g)

  pub digit_is : is_digit c ≡ true → Digit c
  unfolding is_digit
  digit_is d = go (or_either _ _ d)
    where
      letter : (within 65 70 c ≡ true) ⊎ (within 97 102 c ≡ true) → Digit c
      letter (inl e) = let p = within_is 65 70 c e in capital p.0 p.1
      letter (inr e) = let p = within_is 97 102 c e in small p.0 p.1

      go : (within 48 57 c ≡ true) ⊎ ((within 65 70 c || within 97 102 c) ≡ true) → Digit c
      go (inl e) = let p = within_is 48 57 c e in decimal p.0 p.1
      go (inr e) = letter (or_either _ _ e)

-- ---- a digit's value, and a half's character

module _ (c : ℕ) where
  pub value_decimal : c < 58 → value_of c ≡ c - 48
  unfolding value_of
  value_decimal h = rw (lt-ltb c 58 h)

  pub value_capital : 58 ≤ c → c < 97 → value_of c ≡ c - 55
  unfolding value_of
  value_capital h g = rw (le-ltb c 58 h, lt-ltb c 97 g)

  pub value_small : 97 ≤ c → value_of c ≡ c - 87
  unfolding value_of
  value_small h = rw (le-ltb c 58 (omega arith), le-ltb c 97 h)

  -- it is a half of a byte
  pub value_half : is_digit c ≡ true → value_of c < 16
  value_half d = go (digit_is c d)
    where
      go : Digit c → value_of c < 16
      go (decimal l h) = rw (value_decimal (omega arith)) (omega arith)
      go (capital l h) = rw (value_capital (omega arith) (omega arith)) (omega arith)
      go (small l h) = rw (value_small l) (omega arith)

  pub char_low : c < 10 → char_of c ≡ c + 48
  unfolding char_of
  char_low h = rw (lt-ltb c 10 h)

  pub char_high : 10 ≤ c → char_of c ≡ c + 55
  unfolding char_of
  char_high h = rw (le-ltb c 10 h)

-- ---- a list of them

pub digit_at : (s : List ℕ) (i : ℕ) → all_digits s ≡ true → i < length s → is_digit (get_or s i 0) ≡ true
digit_at s i d h = all_at is_digit s 0 d i h

module _ (s : List ℕ) (i : ℕ) where
  pub all_done : length s ≤ i → all_digits (drop i s) ≡ true
  unfolding all
  all_done h = rw (none_left s i h)

  pub bytes_next : i + 1 < length s → bytes_of (drop i s) ≡ (16 * value_of (get_or s i 0) + value_of (get_or s (i + 1) 0)) ∷ bytes_of (drop (i + 2) s)
  unfolding bytes_of
  bytes_next h = rw (next2 s i h)

  pub bytes_done : length s ≤ i → bytes_of (drop i s) ≡ []
  unfolding bytes_of
  bytes_done h = rw (none_left s i h)
