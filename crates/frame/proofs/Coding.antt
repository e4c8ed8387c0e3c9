-- Characters and bytes undo each other, but for the case of the letters. Assumes nothing.
use mathlib.Core.Path.{◌≡◌, refl, ap, ◌∙◌}
use mathlib.Core.List.{List, [], ◌∷◌}
use mathlib.Core.Bool.{Bool, true, false, not, ◌&&◌}
use Prim.Native.Nat.{ℕ, zero, suc, ◌+◌, ◌-◌, ◌*◌, ◌/◌, ◌%◌, ◌<◌}
use native.Mathlib.Decide.{dec_lt}
use native.Mathlib.Omega.{arith}
use lib.ListN.{length, get_or}
use Rattle.laws.specs.Checks.{all}
use Rattle.laws.proofs.Bytes.{Bytes, bytes_none, bytes_cons}
use Rattle.laws.proofs.Tests.{and_both}
use Rattle.frame.specs.Digits.{is_small, is_digit, all_digits, value_of, char_of, chars_of, bytes_of}
use Rattle.frame.specs.Capitals.{capital_of, capital_form, no_small}
use Rattle.frame.proofs.Chars.{Digit, decimal, capital, small, small_below, digit_decimal, digit_capital, digit_is}
use Rattle.frame.proofs.Chars.{value_decimal, value_capital, value_small, value_half, char_low, char_high}
use Rattle.frame.proofs.Capitals.{capital_small, capital_other}

-- ---- a half's character is a digit, stands for the half and is no small letter; the character of a digit's value is the digit's capital

half : (h : ℕ) → h < 16 → (is_digit (char_of h) ≡ true) × (value_of (char_of h) ≡ h) × (is_small (char_of h) ≡ false)
half h low = go (dec_lt h 10)
  where
    go : Dec (h < 10) → (is_digit (char_of h) ≡ true) × (value_of (char_of h) ≡ h) × (is_small (char_of h) ≡ false)
    go (yes l) =
        let e : h + 48 - 48 ≡ h = omega arith in
        let c = h + 48 in
        rw (char_low h l) (digit_decimal c (omega arith) (omega arith), value_decimal c (omega arith) ∙ e, small_below c (omega arith))
    go (no n) =
        let e : h + 55 - 55 ≡ h = omega arith in
        let c = h + 55 in
        rw (char_high h (omega arith))
        (digit_capital c (omega arith) (omega arith), value_capital c (omega arith) (omega arith) ∙ e, small_below c (omega arith))

digit : (c : ℕ) → is_digit c ≡ true → char_of (value_of c) ≡ capital_of c
digit c d = go (digit_is c d)
  where
    go : Digit c → char_of (value_of c) ≡ capital_of c
    go (decimal l h) =
        let e : c - 48 + 48 ≡ c = omega arith in
        rw (value_decimal c (omega arith), capital_other c (small_below c (omega arith))) (char_low (c - 48) (omega arith) ∙ e)
    go (capital l h) =
        let e : c - 55 + 55 ≡ c = omega arith in
        rw (value_capital c (omega arith) (omega arith), capital_other c (small_below c (omega arith))) (char_high (c - 55) (omega arith) ∙ e)
    go (small l h) =
        let e : c - 87 + 55 ≡ c - 32 = omega arith in
        rw (value_small c l, capital_small c l h) (char_high (c - 87) (omega arith) ∙ e)

-- ---- and so for lists

-- what every half's character passes, all characters of bytes pass
chars_pass : (t : ℕ → Bool) → ((h : ℕ) → h < 16 → t (char_of h) ≡ true) → (l : List ℕ) → Bytes l → all t (chars_of l) ≡ true
unfolding all chars_of
chars_pass t each [] h = refl
chars_pass t each (b ∷ l) h =
    let s = h zero in
    rw (each (b / 16) (omega arith), each (b % 16) (omega arith), chars_pass t each l (λ k. h (suc k)))

pub digits_chars : (l : List ℕ) → Bytes l → all_digits (chars_of l) ≡ true
digits_chars = chars_pass is_digit (λ h low. (half h low).0)

-- what is written has no small letter
pub capitals_chars : (l : List ℕ) → Bytes l → no_small (chars_of l) ≡ true
capitals_chars = chars_pass (λ c. not (is_small c)) (λ h low. ap not (half h low).2)

pub bytes_chars : (l : List ℕ) → Bytes l → bytes_of (chars_of l) ≡ l
unfolding bytes_of chars_of
bytes_chars [] h = refl
bytes_chars (b ∷ l) h =
    let s = h zero in
    let e : 16 * (b / 16) + b % 16 ≡ b = omega arith in
    rw ((half (b / 16) (omega arith)).1, (half (b % 16) (omega arith)).1, e, bytes_chars l (λ k. h (suc k)))

-- a byte is what its two characters stand for, whatever stands before and behind them
pub bytes_each : (s : List ℕ) (i : ℕ) → 2 * i + 1 < length s → get_or (bytes_of s) i 0 ≡ 16 * value_of (get_or s (2 * i) 0) + value_of (get_or s (2 * i + 1) 0)
unfolding bytes_of
bytes_each [] i h = absurd (omega arith)
bytes_each (x ∷ []) i h = absurd (omega arith)
bytes_each (x ∷ (y ∷ s)) zero h = refl
bytes_each (x ∷ (y ∷ s)) (suc i) h =
    let a : 2 * suc i ≡ suc (suc (2 * i)) = omega arith in
    let b : 2 * suc i + 1 ≡ suc (suc (2 * i + 1)) = omega arith in
    rw (b, a) (bytes_each s i (omega arith))

-- two digits are a byte
pub bytes_low : (s : List ℕ) → all_digits s ≡ true → Bytes (bytes_of s)
unfolding all bytes_of
bytes_low [] d = bytes_none
bytes_low (x ∷ []) d = bytes_none
bytes_low (x ∷ (y ∷ s)) d =
    let p = and_both (is_digit x) (is_digit y && all_digits s) d in
    let q = and_both (is_digit y) (all_digits s) p.1 in
    bytes_cons _ (bytes_of s) (omega (arith, value_half x p.0, value_half y q.0)) (bytes_low s q.1)

pub chars_bytes : (s : List ℕ) → all_digits s ≡ true → length s % 2 ≡ 0 → chars_of (bytes_of s) ≡ capital_form s
unfolding all bytes_of chars_of
chars_bytes [] d e = refl
chars_bytes (x ∷ []) d e = absurd (omega arith)
chars_bytes (x ∷ (y ∷ s)) d e =
    let p = and_both (is_digit x) (is_digit y && all_digits s) d in
    let q = and_both (is_digit y) (all_digits s) p.1 in
    let low = value_half y q.0 in
    let h : (16 * value_of x + value_of y) / 16 ≡ value_of x = omega arith in
    let l : (16 * value_of x + value_of y) % 16 ≡ value_of y = omega arith in
    rw (h, l, digit x p.0, digit y q.0, chars_bytes s q.1 (omega arith))
