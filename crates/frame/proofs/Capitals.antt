-- Laws of the capital form: it reads as the frame does, character by character, and so passes the same checks. Assumes nothing.
use mathlib.Core.Path.{◌≡◌, refl, sym, ap, ap₂, ◌∙◌}
use mathlib.Core.List.{List, [], ◌∷◌}
use mathlib.Core.Bool.{Bool, true, false, not}
use Prim.Native.Nat.{ℕ, ◌-◌, ◌≤◌, ◌<◌}
use native.Mathlib.Omega.{arith}
use lib.ListN.{length, get_or, length-map, get_or-map}
use lib.Dec.{eqb}
use borrow.Author.Tests.{not-true, ne_eqb}
use Rattle.laws.specs.Checks.{within, all}
use Rattle.laws.proofs.Bytes.{slice-map}
use Rattle.laws.proofs.Tests.{never, and_both, within_is, within_in}
use Rattle.frame.specs.Digits.{is_small, is_digit, all_digits, value_of, bytes_of}
use Rattle.frame.specs.Capitals.{capital_of, capital_form, no_small}
use Rattle.frame.specs.Apart.{ends_ok, inner, body_of, contents_of, sum_ok, frame_checks, apart}
use Rattle.frame.proofs.Chars.{small_below, digit_capital, digit_small, value_capital, value_small}

-- ---- a character

module _ (c : ℕ) where
  pub capital_small : 97 ≤ c → c ≤ 102 → capital_of c ≡ c - 32
  unfolding capital_of
  capital_small h g = rw (within_in 97 102 c h g)

  pub capital_other : is_small c ≡ false → capital_of c ≡ c
  unfolding capital_of
  capital_other s = rw s

  -- what holds of a character that is no small letter, and of the capital of one that is, holds of what it becomes
  of_capital : (P : ℕ → Type 0) → (is_small c ≡ false → P c) → (97 ≤ c → c ≤ 102 → P (c - 32)) → P (capital_of c)
  of_capital P other small = go (is_small c) refl
    where
      go : (t : Bool) → is_small c ≡ t → P (capital_of c)
      go false e = rw (capital_other e) (other e)
      go true e = let p = within_is 97 102 c e in rw (capital_small p.0 p.1) (small p.0 p.1)

  capital_digit : is_digit (capital_of c) ≡ is_digit c
  capital_digit =
      of_capital (λ k. is_digit k ≡ is_digit c) (λ s. refl)
      (λ l h. digit_capital (c - 32) (omega arith) (omega arith) ∙ sym (digit_small c l h))

  capital_value : value_of (capital_of c) ≡ value_of c
  capital_value =
      of_capital (λ k. value_of k ≡ value_of c) (λ s. refl)
      (λ l h. let d : c - 32 - 55 ≡ c - 87 = omega arith in value_capital (c - 32) (omega arith) (omega arith) ∙ d ∙ sym (value_small c l))

  -- one that is no digit stays
  pub capital_stays : is_digit c ≡ false → capital_of c ≡ c
  capital_stays n = of_capital (λ k. k ≡ c) (λ s. refl) (λ l h. absurd (never (sym n ∙ digit_small c l h)))

  -- the ends of a frame are no letters
  capital_end : (e : ℕ) → e < 65 → eqb (capital_of c) e ≡ eqb c e
  capital_end e low =
      of_capital (λ k. eqb k e ≡ eqb c e) (λ s. refl) (λ l h. ne_eqb (c - 32) e (λ z. omega arith) ∙ sym (ne_eqb c e (λ z. omega arith)))

  capital_none : is_small (capital_of c) ≡ false
  capital_none = of_capital (λ k. is_small k ≡ false) (λ s. s) (λ l h. small_below (c - 32) (omega arith))

-- ---- a list of characters

-- it is the frame itself exactly where there is no small letter, and taking it twice is taking it once
pub capital_self : (f : List ℕ) → no_small f ≡ true → capital_form f ≡ f
unfolding all
capital_self [] n = refl
capital_self (c ∷ f) n =
    let p = and_both (not (is_small c)) (no_small f) n in
    ap₂ ◌∷◌ (capital_other c (not-true (is_small c) p.0)) (capital_self f p.1)

pub capital_no_small : (f : List ℕ) → no_small (capital_form f) ≡ true
unfolding all
capital_no_small [] = refl
capital_no_small (c ∷ f) = rw (capital_none c, capital_no_small f)

pub capital_twice : (f : List ℕ) → capital_form (capital_form f) ≡ capital_form f
capital_twice f = capital_self (capital_form f) (capital_no_small f)

pub self_no_small : (f : List ℕ) → capital_form f ≡ f → no_small f ≡ true
self_no_small f e = ap no_small (sym e) ∙ capital_no_small f

capital_digits : (s : List ℕ) → all_digits (capital_form s) ≡ all_digits s
unfolding all
capital_digits [] = refl
capital_digits (c ∷ s) = rw (capital_digit c, capital_digits s)

capital_bytes : (s : List ℕ) → bytes_of (capital_form s) ≡ bytes_of s
unfolding bytes_of
capital_bytes [] = refl
capital_bytes (x ∷ []) = refl
capital_bytes (x ∷ (y ∷ s)) = rw (capital_value x, capital_value y, capital_bytes s)

-- ---- a frame

module _ (f : List ℕ) where
  pub capital_long : length (capital_form f) ≡ length f
  capital_long = length-map f capital_of

  -- each character by itself
  pub capital_each : (i : ℕ) → get_or (capital_form f) i 0 ≡ capital_of (get_or f i 0)
  unfolding capital_of within
  capital_each i = get_or-map capital_of f i 0

  capital_at : (e i : ℕ) → e < 65 → eqb (get_or (capital_form f) i 0) e ≡ eqb (get_or f i 0) e
  capital_at e i low = ap (λ (c : ℕ). eqb c e) (capital_each i) ∙ capital_end (get_or f i 0) e low

  capital_ends : ends_ok (capital_form f) ≡ ends_ok f
  unfolding ends_ok
  capital_ends =
      rw (capital_long, capital_at 58 0 (omega arith), capital_at 13 (length f - 2) (omega arith), capital_at 10 (length f - 1) (omega arith))

  capital_inner : inner (capital_form f) ≡ capital_form (inner f)
  unfolding inner
  capital_inner = rw capital_long (slice-map capital_of 1 (length f - 3) f)

  capital_body : body_of (capital_form f) ≡ body_of f
  unfolding body_of
  capital_body = ap bytes_of capital_inner ∙ capital_bytes (inner f)

  pub capital_contents : contents_of (capital_form f) ≡ contents_of f
  unfolding contents_of
  capital_contents = rw capital_body

  capital_sum : sum_ok (capital_form f) ≡ sum_ok f
  unfolding sum_ok
  capital_sum = rw (capital_body, capital_contents)

  pub capital_checks : frame_checks (capital_form f) ≡ frame_checks f
  unfolding frame_checks
  capital_checks = rw (capital_long, capital_ends, ap all_digits capital_inner ∙ capital_digits (inner f), capital_sum)

  -- taken apart, a frame and its capital form come to the same
  pub capital_apart : (out : List ℕ) → apart (capital_form f) out ≡ apart f out
  unfolding apart
  capital_apart out = rw (capital_checks, capital_contents)
