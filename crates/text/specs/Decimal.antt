-- A number in decimal, as it is printed and as it is read. Assumes nothing.
use Rattle.std.specs.Prelude.{List, [], ◌∷◌, ◌++◌, cond, ℕ, zero, suc, ◌+◌, ◌-◌, ◌*◌, ◌/◌, ◌%◌, ltb}

-- at most k digits before the last
unfoldable pub decimal_in : ℕ → ℕ → List ℕ
decimal_in zero n = (48 + n) ∷ []
decimal_in (suc k) n = cond (ltb n 10) ((48 + n) ∷ []) (decimal_in k (n / 10) ++ ((48 + n % 10) ∷ []))

-- a number of any size has no more digits before its last than it counts, and no zero in front of them
unfoldable pub decimal : ℕ → List ℕ
decimal n = decimal_in n n

-- digits read behind a number: each makes it ten times what it was, and adds its own value
unfoldable pub read_on : ℕ → List ℕ → ℕ
read_on acc [] = acc
read_on acc (c ∷ cs) = read_on (10 * acc + (c - 48)) cs

-- the number that a run of decimal digits stands for
unfoldable pub number_of : List ℕ → ℕ
number_of = read_on 0
