-- Document 01's table of refusals as serving has it, with 16 of document 02 (request 11): one list of numbered checks, in their order. Taking apart,
-- building, a fresh image and the held-parts question have theirs beside their definitions. Assumes nothing.
use Rattle.std.specs.Prelude.{List, [], ◌∷◌, cond, ℕ, ◌*◌, length, leb, eqb}
use Rattle.laws.specs.Checks.{Check, check}
use Rattle.frame.specs.Digits.{all_digits}
use Rattle.frame.specs.Apart.{length_ok, ends_ok, inner, contents_of, sum_ok}
use Rattle.image.specs.declared.version.Version.{Version}
use Rattle.image.specs.Usable.{usable, address}
use Rattle.rules.specs.declared.switch.Switch.{Switch}
use Rattle.rules.specs.Rules.{byte}
use Rattle.rules.specs.Seal.{lets}
use Rattle.rules.specs.Verdict.{is_served, length_fits, names_one, values_fit}

-- a frame, an image and an output, and the position of the switch; from 7 on the tests are of the body that passed 3 to 6
unfoldable pub serve_checks : Switch → Version → List ℕ → List ℕ → List ℕ → List Check
serve_checks s v f m out =
    check 1 (usable v m)
    ∷ (check 2 (leb 269 (length out))
    ∷ (check 3 (length_ok (length f))
    ∷ (check 4 (ends_ok f)
    ∷ (check 5 (all_digits (inner f))
    ∷ (check 6 (sum_ok f)
    ∷ (check 7 (eqb (byte (contents_of f) 1) (address m))
    ∷ (check 8 (is_served (contents_of f))
    ∷ (check 16 (lets s (byte (contents_of f) 2))
    ∷ (check 9 (length_fits (contents_of f))
    ∷ (check 10 (names_one (contents_of f))
    ∷ (check 11 (values_fit (contents_of f))
    ∷ [])))))))))))

-- a number's place in that order: 16 is behind 8 and before 9
unfoldable pub rank_of : ℕ → ℕ
rank_of n = cond (eqb n 16) 17 (2 * n)
