-- Document 01's frames P1 to P12 ("Frames to hold the block to"), P4 as request 2 of document 02 has it, as one list with one test. Assumes
-- nothing.
use Rattle.std.specs.Prelude.{List, [], ◌∷◌, ◌++◌, Bool, ◌&&◌, ℕ, get_or, eqb}
use Prim.Native.String as S
use Prim.Native.String.{String}
use Rattle.laws.specs.Bytes.{zeros, codes}
use Rattle.laws.specs.Checks.{same}
use Rattle.reorder.specs.Reorder.{final}
use Rattle.image.specs.declared.version.Version.{Version}
use Rattle.image.specs.Fresh.{fresh}
use Rattle.rules.specs.declared.switch.Switch.TheVariants.{Unsealed}
use Rattle.command.specs.Reply.{BuffersAfter, reply_in}
use Rattle.izk.specs.Heard.{heard}
use Rattle.izk.specs.Block.{served}

-- frames are written without their two last bytes; no text is no frame
unfoldable pub ended : String → List ℕ
ended S.[] = []
ended (S.◌∷◌ c s) = codes (S.◌∷◌ c s) ++ (13 ∷ (10 ∷ []))

-- an example: the frames served before it; the frame; its number and reply; what offset 6 then holds
pub record Example : Type 0 where
  pub earlier : List String
  pub frame : String
  pub number : ℕ
  pub reply : String
  pub mask : ℕ

-- served unsealed on an image of a version, with an output of 269 zeros
unfoldable pub on : Version → List ℕ → String → BuffersAfter
on v m f = served (heard Unsealed) v (ended f) m (zeros 269)

unfoldable pub after : Version → List ℕ → List String → List ℕ
after v m fs = final (λ m f. (on v m f, (on v m f).image)) m fs

unfoldable pub right : Version → Example → Bool
right v l =
    let a = on v (after v (fresh v 1) l.earlier) l.frame in
    eqb a.number l.number && (same (reply_in a) (ended l.reply) && eqb (get_or a.image 6 0) l.mask)

abbrev pub example : List String → String → ℕ → String → ℕ → Example
example b f n r k = record { earlier = b; frame = f; number = n; reply = r; mask = k }

unfoldable pub examples : List Example
examples =
    example [] ":0132CD" 0 ":013200CD" 0
    ∷ example [] ":01330FBD" 0 ":01330FBD" 15
    ∷ example [] ":0132CE" 6 "" 0
    ∷ example [] ":0132cD" 0 ":013200CD" 0
    ∷ example [] ":0232CC" 7 "" 0
    ∷ example [] ":0153AC" 8 "" 0
    ∷ example [] ":013608C1" 10 "" 0
    ∷ example [] ":013C0901B9" 10 "" 0
    ∷ example [] ":013D01C1" 0 ":013D010000C1" 0
    ∷ example [] ":013E0101140005A6" 0 ":013E01C0" 0
    ∷ example (":013E0101140005A6" ∷ []) ":013F01BF" 0 ":013F0101140005A5" 0
    ∷ example (":013E0101140005A6" ∷ []) ":014001BE" 0 ":014001001AA4" 0
    ∷ []
