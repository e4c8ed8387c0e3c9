-- A fresh image (document 01, "The image" and "Refusal numbers"; document 02, request 7, has version 2 and its length). Assumes nothing.
use Rattle.std.specs.Prelude.{List, [], ◌∷◌, not, ℕ, length, eqb}
use Rattle.laws.specs.Bytes.{lay, zeros}
use Rattle.laws.specs.Checks.{Check, check, judged}
use Rattle.image.specs.declared.version.Version.{Version}
use Rattle.image.specs.Version.{version_number, image_length}
use Rattle.image.specs.Made.{ImageAfter, unmade}

-- mark, version, the address, all else 0, kept signatures too
unfoldable pub fresh : Version → ℕ → List ℕ
fresh v a = lay (zeros (image_length v)) 0 (73 ∷ (90 ∷ (75 ∷ (0 ∷ (version_number v ∷ (a ∷ []))))))

abbrev pub fresh_checks : Version → List ℕ → ℕ → List Check
fresh_checks v m a = check 1 (eqb (length m) (image_length v)) ∷ (check 11 (not (eqb a 0)) ∷ [])

unfoldable pub freshened : Version → List ℕ → ℕ → ImageAfter
freshened v m a = judged (unmade m) (fresh_checks v m a) (record { number = 0; image = fresh v a })
