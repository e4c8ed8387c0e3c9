-- What a listener hands out over the bytes of a line, and the frames that it is to find there (document 02, request 1). Assumes nothing.
use Rattle.std.specs.Prelude.{◌≡◌, List, [], ◌∷◌, Bool, false, cond, not, ◌&&◌, ℕ, ◌+◌, ◌-◌, length, get_or, drop, leb, eqb}
use Rattle.std.proofs.Math.Option.{Option, some, none}
use Rattle.laws.specs.Bytes.{slice}
use Rattle.laws.specs.Checks.{among, every}
use Rattle.listener.specs.declared.Listener.{Listener}
use Rattle.listener.specs.declared.Listened.{Listened}
use Rattle.listener.specs.Listening.{listened}

-- ---- byte after byte

-- it waits for a 3Ah, and lets all else pass: it is not gathering, or its count is above 269
abbrev pub Waits : Listener → Type 0
Waits l = (l.gathering && leb l.count 269) ≡ false

-- the bytes that a record has gathered
unfoldable pub gathered : Listener → List ℕ
gathered l = slice 0 l.count l.room

-- what is there after a byte: nothing, or the frame that it ended, as gathered
unfoldable pub handed : Listened → Option (List ℕ)
handed h = cond h.there (some (gathered h.listener)) none

-- one byte, as a step of those that `reorder` takes one after the other: what it hands out, and the record that the next byte finds
abbrev pub takes : Listener → ℕ → Option (List ℕ) × Listener
takes l byte = (handed (listened l byte), (listened l byte).listener)

-- ---- the frames that are to be found

-- 0Dh 0Ah at the bytes i and i + 1
unfoldable pub end_at : List ℕ → ℕ → Bool
end_at f i = eqb (get_or f i 0) 13 && eqb (get_or f (i + 1) 0) 10

-- begins with 3Ah, has no other 3Ah, its first 0Dh 0Ah is its end, and it has at most 269 bytes
unfoldable pub well_formed : List ℕ → Bool
well_formed f =
    eqb (get_or f 0 0) 58
    && (not (among 58 (drop 1 f)) && (end_at f (length f - 2) && (every (λ i. not (end_at f i)) (length f - 2) && leb (length f) 269)))

-- the bytes since the last 3Ah, with it; none where there was none
unfoldable pub since : List ℕ → List ℕ
since [] = []
since (b ∷ bs) = cond (among 58 bs) (since bs) (cond (eqb b 58) (b ∷ bs) [])
