-- Laws of a number in decimal. The digits before the last are those of the number's tenth, since the count that `decimal_in` goes down by does
-- not matter once it is enough. So a law is shown of one digit, and of a longer number from its tenth. Assumes nothing.
use mathlib.Core.Path.{◌≡◌, refl, sym, ◌∙◌}
use mathlib.Core.Logic.{◌≢◌}
use mathlib.Core.List.{List, [], ◌∷◌, ◌++◌}
use mathlib.Core.Bool.{true}
use Prim.Native.Nat.{ℕ, zero, suc, ◌+◌, ◌-◌, ◌*◌, ◌/◌, ◌%◌, ◌^◌, ◌≤◌, ◌<◌}
use native.Mathlib.Nat.{pow-suc}
use native.Mathlib.Decide.{dec_lt}
use native.Mathlib.Omega.{arith}
use lib.ListN.{length, get_or, length-append, get_or-append}
use borrow.Author.Tests.{lt-ltb, le-ltb}
use Rattle.std.specs.Fmt.{decimal as printed}
use Rattle.std.proofs.lemmas.Fmt.{decimal_by_steps}
use Rattle.laws.specs.Checks.{all, within}
use Rattle.laws.proofs.Tests.{within_in, all_then}
use Rattle.text.specs.Decimal.{decimal_in, decimal, read_on, number_of}

-- ---- the last digit

in_one : (k n : ℕ) → n < 10 → decimal_in k n ≡ (48 + n) ∷ []
unfolding decimal_in
in_one zero n h = refl
in_one (suc k) n h = rw (lt-ltb n 10 h)

in_more : (k n : ℕ) → 10 ≤ n → decimal_in (suc k) n ≡ decimal_in k (n / 10) ++ ((48 + n % 10) ∷ [])
unfolding decimal_in
in_more k n h = rw (le-ltb n 10 h)

-- any count will do that is not below the number
in_any : (j k n : ℕ) → n ≤ j → n ≤ k → decimal_in j n ≡ decimal_in k n
in_any zero k n g h = in_one zero n (omega arith) ∙ sym (in_one k n (omega arith))
in_any (suc j) zero n g h = in_one (suc j) n (omega arith) ∙ sym (in_one zero n (omega arith))
in_any (suc j) (suc k) n g h = go (dec_lt n 10) (λ p q. in_any j k (n / 10) p q)
  where
    go : Dec (n < 10) → (n / 10 ≤ j → n / 10 ≤ k → decimal_in j (n / 10) ≡ decimal_in k (n / 10)) → decimal_in (suc j) n ≡ decimal_in (suc k) n
    go (yes l) ih = in_one (suc j) n l ∙ sym (in_one (suc k) n l)
    go (no l) ih = rw (in_more j n (omega arith), in_more k n (omega arith), ih (omega arith) (omega arith))

pub decimal_one : (n : ℕ) → n < 10 → decimal n ≡ (48 + n) ∷ []
unfolding decimal
decimal_one n h = in_one n n h

pub decimal_more : (n : ℕ) → 10 ≤ n → decimal n ≡ decimal (n / 10) ++ ((48 + n % 10) ∷ [])
unfolding decimal
decimal_more zero h = absurd (let z : ⊥ = omega arith in z)
decimal_more (suc n) h = rw (in_more n (suc n) h, in_any n (suc n / 10) (suc n / 10) (omega arith) (omega arith))

-- it is what the library prints
pub decimal_printed : (n : ℕ) → n < 2 ^ 64 → decimal n ≡ printed n
decimal_printed =
    decimal_by_steps
    (λ n ds. decimal n ≡ ds)
    decimal_one
    (λ n ds h ih. rw (decimal_more n h, ih))

-- what holds of the numbers of one digit, and of a number where it holds of its tenth, holds of all
by_digits : (P : ℕ → Type 0) → ((n : ℕ) → n < 10 → P n) → ((n : ℕ) → 10 ≤ n → P (n / 10) → P n) → (n : ℕ) → P n
by_digits P one more n = up_to n n (omega arith)
  where
    up_to : (k n : ℕ) → n ≤ k → P n
    up_to zero n h = one n (omega arith)
    up_to (suc k) n h = go (dec_lt n 10) (λ p. up_to k (n / 10) p)
      where
        go : Dec (n < 10) → (n / 10 ≤ k → P (n / 10)) → P n
        go (yes l) ih = one n l
        go (no l) ih = more n (omega arith) (ih (omega arith))

-- ---- how many digits

pub decimal_longer : (n : ℕ) → 10 ≤ n → length (decimal n) ≡ length (decimal (n / 10)) + 1
decimal_longer n h = rw (decimal_more n h, length-append)

pub decimal_most : (k n : ℕ) → n < 10 ^ (k + 1) → length (decimal n) ≤ k + 1
decimal_most zero n h = rw (decimal_one n h) (omega arith)
decimal_most (suc k) n h = go (dec_lt n 10) (λ p. decimal_most k (n / 10) p)
  where
    go : Dec (n < 10) → (n / 10 < 10 ^ (k + 1) → length (decimal (n / 10)) ≤ k + 1) → length (decimal n) ≤ suc k + 1
    go (yes l) ih = rw (decimal_one n l) (omega arith)
    go (no l) ih =
        let e : suc k + 1 ≡ suc (k + 1) = omega arith in
        let b : n < 10 ^ (k + 1) * 10 = rw (e, pow-suc) at h in
        omega (arith, decimal_longer n (omega arith), ih (omega arith))

decimal-some : (n : ℕ) → 0 < length (decimal n)
decimal-some =
    by_digits (λ n. 0 < length (decimal n)) (λ n h. rw (decimal_one n h) (omega arith)) (λ n h ih. omega (arith, decimal_longer n h))

-- ---- which digits

pub decimal_digits : (n : ℕ) → all (within 48 57) (decimal n) ≡ true
unfolding all
decimal_digits = by_digits (λ n. all (within 48 57) (decimal n) ≡ true) (λ n h. rw (decimal_one n h) (digit n h)) more
  where
    digit : (d : ℕ) → d < 10 → all (within 48 57) ((48 + d) ∷ []) ≡ true
    digit d h = rw (within_in 48 57 (48 + d) (omega arith) (omega arith))

    more : (n : ℕ) → 10 ≤ n → all (within 48 57) (decimal (n / 10)) ≡ true → all (within 48 57) (decimal n) ≡ true
    more n h ih =
        rw (decimal_more n h)
        (all_then (within 48 57) (decimal (n / 10)) ((48 + n % 10) ∷ []) ih (digit (n % 10) (omega arith)))

-- a number other than 0 has no zero in front
pub decimal_plain : (n : ℕ) → 0 < n → get_or (decimal n) 0 0 ≢ 48
decimal_plain = by_digits (λ n. 0 < n → get_or (decimal n) 0 0 ≢ 48) one more
  where
    one : (n : ℕ) → n < 10 → 0 < n → get_or (decimal n) 0 0 ≢ 48
    one n h p = rw (decimal_one n h) (λ e. omega arith)

    more : (n : ℕ) → 10 ≤ n → (0 < n / 10 → get_or (decimal (n / 10)) 0 0 ≢ 48) → 0 < n → get_or (decimal n) 0 0 ≢ 48
    more n h ih p =
        let s : 0 < length (decimal (n / 10)) = decimal-some (n / 10) in
        rw (decimal_more n h, get_or-append) (ih (omega arith))

-- ---- what the digits stand for

read_last : (acc : ℕ) (s : List ℕ) (c : ℕ) → read_on acc (s ++ (c ∷ [])) ≡ 10 * read_on acc s + (c - 48)
unfolding read_on
read_last acc [] c = refl
read_last acc (x ∷ s) c = read_last (10 * acc + (x - 48)) s c

pub decimal-reads : (n : ℕ) → number_of (decimal n) ≡ n
unfolding number_of read_on
decimal-reads =
    by_digits
    (λ n. number_of (decimal n) ≡ n)
    (λ n h. rw (decimal_one n h) (omega arith))
    (λ n h ih. rw (decimal_more n h, read_last, ih) (omega arith))
