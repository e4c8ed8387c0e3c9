-- The bits of a word, in plain arithmetic: bit k, counted from 0, is the binary digit of value 2 ^ k. Assumes nothing.
use Rattle.std.specs.Prelude.{ℕ, zero, suc, ◌+◌, ◌-◌, ◌*◌, ◌/◌, ◌%◌, ◌^◌}

abbrev pub bit : ℕ → ℕ → ℕ
bit w k = w / 2 ^ k % 2

-- w with bit k set: what is missing there is added
unfoldable pub with_bit : ℕ → ℕ → ℕ
with_bit w k = w + (1 - bit w k) * 2 ^ k

-- how many of the n lowest bits are set
unfoldable pub ones_in : ℕ → ℕ → ℕ
ones_in zero w = 0
ones_in (suc n) w = bit w n + ones_in n w
