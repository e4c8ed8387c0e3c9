-- Two lines to hold the listener and the panel to: frames of document 01 ("Frames to hold the block to"), and what a bad line puts around them.
-- Assumes nothing.
use Rattle.std.specs.Prelude.{List, [], ◌∷◌, ◌++◌, ℕ, zero, suc}
use Rattle.laws.specs.Bytes.{zeros, codes}
use Rattle.image.specs.Version.{current}
use Rattle.image.specs.Fresh.{fresh}
use Rattle.rules.specs.declared.switch.Switch.{Switch}
use Rattle.rules.specs.declared.switch.Switch.TheVariants.{Unsealed, Sealed}
use Rattle.izk.specs.Frames.{ended}
use Rattle.listener.specs.Line.{Stretch, Panel}

-- noise; P1; its frame once more, whose 3Ah was lost; a start that the 3Ah of P2 cuts off; P2; and its end again
unfoldable pub noisy : List ℕ
noisy = codes "7F0" ++ (ended ":0132CD" ++ (ended "0132CD" ++ (codes ":01" ++ (ended ":01330FBD" ++ (13 ∷ (10 ∷ []))))))

-- a line as a panel may meet it: P2 sets the mask, with a frame behind it whose 3Ah was lost; another mask is set; the key is turned, and what would
-- clear the mask is refused; P1 reads it
unfoldable pub spaced : List ℕ
spaced =
    codes "7F0" ++ (ended ":01330FBD" ++ (ended "013300CC" ++ (ended ":0133F0DC" ++ (codes "7" ++ (ended ":013300CC" ++ (10 ∷ (13 ∷ ended ":0132CD")))))))

-- the same behind its first noise, as frames with the noise behind each
unfoldable pub stretches : List Stretch
stretches =
    record { frame = ended ":01330FBD"; noise = ended "013300CC" }
    ∷ (record { frame = ended ":0133F0DC"; noise = codes "7" }
    ∷ (record { frame = ended ":013300CC"; noise = 10 ∷ (13 ∷ []) }
    ∷ (record { frame = ended ":0132CD"; noise = [] }
    ∷ [])))

-- sealed from the third frame on
unfoldable pub key_turned : ℕ → Switch
key_turned zero = Unsealed
key_turned (suc zero) = Unsealed
key_turned (suc (suc n)) = Sealed

-- a panel that has served nothing, on the fresh image of address 1
unfoldable pub started : Panel
started = record { turn = 0; image = fresh current 1; out = zeros 269 }
