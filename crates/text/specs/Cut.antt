-- A text cut after each 0Ah, its end counting as one. Assumes nothing.
use Rattle.std.specs.Prelude.{List, [], ◌∷◌, Bool, true, false, cond, ℕ, suc, ◌+◌, min, length, drop, eqb}

-- a character put before the pieces that follow it: 0Ah ends a piece of its own, any other opens the first of them, or the last piece of all
abbrev pub begun : ℕ → Bool → List (List ℕ) → List (List ℕ)
begun b true ps = (b ∷ []) ∷ ps
begun b false [] = (b ∷ []) ∷ []
begun b false (p ∷ ps) = (b ∷ p) ∷ ps

-- a cut after each 0Ah; what stands behind the last one counts, and where nothing does there is no piece
unfoldable pub pieces : List ℕ → List (List ℕ)
pieces [] = []
pieces (b ∷ s) = begun b (eqb b 10) (pieces s)

-- how long the first piece is: up to the first 0Ah and with it, or all there is
unfoldable pub ends : List ℕ → ℕ
ends [] = 0
ends (b ∷ s) = cond (eqb b 10) 1 (suc (ends s))

-- the index just past the piece that begins at an index; at the end or past it, the end
unfoldable pub piece_end : ℕ → List ℕ → ℕ
piece_end from s = min (length s) (from + ends (drop from s))
