-- Bytes in a list. Every layer reads a stretch by `slice` alone and changes an image or an output by `lay` alone, so what is proved of these
-- two is proved once. Assumes nothing.
use Rattle.std.specs.Prelude.{List, [], ◌∷◌, ◌++◌, ℕ, zero, suc, ◌+◌, ◌-◌, ◌*◌, ◌/◌, ◌%◌, length, get_or, take, drop, replicate}
use Prim.Native.Char.{code}
use Prim.Native.String as S
use Prim.Native.String.{String}

-- n bytes from an offset
unfoldable pub slice : ℕ → ℕ → List ℕ → List ℕ
slice from n l = take n (drop from l)

-- a list with bytes laid over it from an offset on. What would fall past its end is lost: the length stays
unfoldable pub lay : List ℕ → ℕ → List ℕ → List ℕ
lay [] at bytes = []
lay (x ∷ l) zero [] = x ∷ l
lay (x ∷ l) zero (b ∷ bytes) = b ∷ lay l zero bytes
lay (x ∷ l) (suc at) bytes = x ∷ lay l at bytes

unfoldable pub zeros : ℕ → List ℕ
zeros n = replicate n 0

-- bytes, padded with 0 to n of them
unfoldable pub padded : ℕ → List ℕ → List ℕ
padded n bytes = bytes ++ zeros (n - length bytes)

unfoldable pub sum_of : List ℕ → ℕ
sum_of [] = 0
sum_of (b ∷ bs) = b + sum_of bs

-- document 01 has every number high byte first: one below 65,536 as two bytes, and the number that two bytes are
unfoldable pub two : ℕ → List ℕ
two n = n / 256 ∷ (n % 256 ∷ [])

unfoldable pub word_at : List ℕ → ℕ → ℕ
word_at l i = 256 * get_or l i 0 + get_or l (i + 1) 0

-- a text's bytes
unfoldable pub codes : String → List ℕ
codes S.[] = []
codes (S.◌∷◌ c s) = code c ∷ codes s
