-- The capital form of a frame (document 02, request 2): what building makes of what taking apart gave. Assumes nothing.
use Rattle.std.specs.Prelude.{List, map, Bool, cond, not, ℕ, ◌-◌}
use Rattle.laws.specs.Checks.{all}
use Rattle.frame.specs.Digits.{is_small}

-- a small letter becomes its capital, all else stays
unfoldable pub capital_of : ℕ → ℕ
capital_of c = cond (is_small c) (c - 32) c

abbrev pub capital_form : List ℕ → List ℕ
capital_form f = map capital_of f

abbrev pub no_small : List ℕ → Bool
no_small f = all (λ c. not (is_small c)) f
