-- Small letters make no difference: a file and its capital form have one number. Assumes nothing.
use mathlib.Core.Path.{◌≡◌, refl}
use mathlib.Core.List.{List, [], ◌∷◌, map}
use mathlib.Core.Bool.{Bool, true, false}
use Prim.Native.Nat.{ℕ, ◌-◌}
use native.Mathlib.Omega.{arith}
use lib.ListN.{length-map}
use lib.Dec.{eqb}
use borrow.Author.Tests.{ne_eqb}
use Rattle.laws.specs.Checks.{all}
use Rattle.laws.proofs.Tests.{within_is}
use Rattle.text.specs.Cut.{begun, pieces}
use Rattle.frame.specs.Digits.{is_small}
use Rattle.frame.specs.Capitals.{capital_of, capital_form}
use Rattle.frame.specs.Apart.{contents_of}
use Rattle.frame.proofs.Capitals.{capital_contents, capital_checks}
use Rattle.survey.specs.File.{is_frame, contents_in, eleven_frames, file_number}

-- no letter is 0Ah, so a file is cut where its capital form is
capital_end : (b : ℕ) → eqb (capital_of b) 10 ≡ eqb b 10
unfolding capital_of
capital_end b = go (is_small b) refl
  where
    go : (t : Bool) → is_small b ≡ t → eqb (capital_of b) 10 ≡ eqb b 10
    go true e =
        let l = within_is 97 102 b e in
        rw (e, ne_eqb b 10 (λ i. omega arith)) (ne_eqb (b - 32) 10 (λ i. omega arith))
    go false e = rw e

capital_begun : (b : ℕ) (t : Bool) (ps : List (List ℕ)) → begun (capital_of b) t (map capital_form ps) ≡ map capital_form (begun b t ps)
capital_begun b true ps = refl
capital_begun b false [] = refl
capital_begun b false (p ∷ ps) = refl

capital_pieces : (s : List ℕ) → pieces (capital_form s) ≡ map capital_form (pieces s)
unfolding pieces
capital_pieces [] = refl
capital_pieces (b ∷ s) = rw (capital_end b, capital_pieces s) (capital_begun b (eqb b 10) (pieces s))

capital_all : (fs : List (List ℕ)) → (all is_frame (map capital_form fs) ≡ all is_frame fs) × (map contents_of (map capital_form fs) ≡ map contents_of fs)
unfolding all is_frame
capital_all [] = (refl, refl)
capital_all (f ∷ fs) = let ih = capital_all fs in (rw (capital_checks f, ih.0), rw (capital_contents f, ih.1))

pub capital_file : (s : List ℕ) → file_number (capital_form s) ≡ file_number s
unfolding file_number eleven_frames contents_in
capital_file s =
    rw (capital_pieces s, (capital_all (pieces s)).0, (capital_all (pieces s)).1, length-map s capital_of, length-map (pieces s) capital_form)
