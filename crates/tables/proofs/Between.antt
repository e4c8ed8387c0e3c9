-- A volume between those of two rows: rounded down, never less than the lower, never more than the upper, and never falling. Assumes nothing.
use mathlib.Core.Path.{◌≡◌}
use Prim.Native.Nat.{ℕ, ◌+◌, ◌-◌, ◌*◌, ◌/◌, ◌≤◌, ◌<◌}
use native.Mathlib.Nat.{mul-le-mul_left, mul-le-mul_right, mul-zero, one-mul, add-mul, le_trans}
use native.Mathlib.Nat.{zero-div, div-le_of_le-mul, le-div_iff_mul-le, div-mul-le_self, lt-div-mul-add}
use native.Mathlib.Decide.{dec_lt}
use native.Mathlib.Omega.{arith}
use Rattle.tables.specs.Rows.{between}

-- ---- a part of d, e of g: at most d, and no less where the number divided is no less

pub share_most : (d e g : ℕ) → e ≤ g → d * e / g ≤ d
share_most d e g h = div-le_of_le-mul g (le_trans (mul-le-mul_left d h) (omega arith))

share_climbs : (d e g : ℕ) → 0 < g → d ≤ e → d / g ≤ e / g
share_climbs d e g p h = (le-div_iff_mul-le p).1 (le_trans (div-mul-le_self d g) h)

-- rounded down, told by products alone: q times g is at most n, and one more would be above it
abbrev pub RoundedDown : ℕ → ℕ → ℕ → Type 0
RoundedDown n g q = (q * g ≤ n) × (n < (q + 1) * g)

rounded : (n g : ℕ) → 0 < g → RoundedDown n g (n / g)
rounded n g p = (div-mul-le_self n g, rw (add-mul (n / g) 1 g, one-mul) (lt-div-mul-add p))

-- there is one such quotient
pub rounded_one : (n g q r : ℕ) → RoundedDown n g q → RoundedDown n g r → q ≡ r
rounded_one n g q r (a, b) (c, d) = go (dec_lt q r) (dec_lt r q)
  where
    go : Dec (q < r) → Dec (r < q) → q ≡ r
    go (yes l) e = let z = mul-le-mul_right {m = q + 1} {n = r} g (omega arith) in absurd (omega arith)
    go (no k) (yes l) = let z = mul-le-mul_right {m = r + 1} {n = q} g (omega arith) in absurd (omega arith)
    go (no k) (no e) = omega arith

-- ---- between two rows

module _ (v w a b : ℕ) where
  -- what is added to the lower volume is the rise in volume times the distance above the row, divided by the rise in level, rounded down
  pub between_rounded : (x : ℕ) → a < b → RoundedDown ((w - v) * (x - a)) (b - a) (between v w a b x - v)
  unfolding between
  between_rounded x p =
      let e : between v w a b x - v ≡ (w - v) * (x - a) / (b - a) = omega arith in
      rw e (rounded ((w - v) * (x - a)) (b - a) (omega arith))

  pub between_least : (x : ℕ) → v ≤ between v w a b x
  unfolding between
  between_least x = omega arith

  pub between_most : (x : ℕ) → v ≤ w → x ≤ b → between v w a b x ≤ w
  unfolding between
  between_most x h g = omega (arith, share_most (w - v) (x - a) (b - a) (omega arith))

  pub between-climbs : (x y : ℕ) → a < b → x ≤ y → between v w a b x ≤ between v w a b y
  unfolding between
  between-climbs x y p h =
      omega (arith, share_climbs ((w - v) * (x - a)) ((w - v) * (y - a)) (b - a) (omega arith) (mul-le-mul_left (w - v) (omega arith)))

  pub between_here : between v w a b a ≡ v
  unfolding between
  between_here = let e : a - a ≡ 0 = omega arith in rw (e, mul-zero, zero-div) (omega arith)
