-- What is left of a lent image by a function that answers with its number alone (document 01, "Refusal numbers", of a fresh image; document 02, request
-- 8, of a moved one). Assumes nothing.
use Rattle.std.specs.Prelude.{◌≡◌, List, ℕ}

pub record ImageAfter : Type 0 where
  pub number : ℕ
  pub image : List ℕ

-- a refusal leaves the image as it was
abbrev pub unmade : List ℕ → ℕ → ImageAfter
unmade m n = record { number = n; image = m }

-- a function that returned a number and left an image has done what a says
pub record Makes (a : ImageAfter) (r : ℕ) (left : List ℕ) : Type 0 where
  pub number_is : r ≡ a.number
  pub image_is : left ≡ a.image
