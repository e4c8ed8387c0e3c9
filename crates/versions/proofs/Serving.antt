-- Under one set of frame rules the blocks of the two versions answer every frame alike before and after a move, after one down where the words were true;
-- and moving commutes with serving. Assumes nothing.
use mathlib.Core.Path.{◌≡◌, refl, sym}
use mathlib.Core.List.{List}
use mathlib.Core.Bool.{true}
use Prim.Native.Nat.{ℕ, ◌≤◌}
use lib.ListN.{length}
use Rattle.reorder.specs.Reorder.{outcomes}
use Rattle.image.specs.declared.version.Version.TheVariants.{V1, V2}
use Rattle.image.specs.Version.{image_length}
use Rattle.image.specs.Usable.{usable, address}
use Rattle.image.specs.Held.{held_parts}
use Rattle.storing.specs.Signature.{TrueWords}
use Rattle.rules.specs.declared.switch.Switch.{Switch}
use Rattle.izk.specs.Heard.{Hearing, Lawful}
use Rattle.izk.specs.Since.{Turn, in_turn, left}
use Rattle.izk.proofs.Serving.{usable_stays}
use Rattle.izk.proofs.Turns.{by_turns}
use Rattle.kept.specs.Same.{AsksTrue, asked}
use Rattle.kept.proofs.Truth.{stays_true}
use Rattle.kept.proofs.Alike.{numbers_alike, lengths_alike, stays_like, told_alike, answer_alike, stays_same, answers_alike, held_alike}
use Rattle.versions.specs.Moved.{in_version}
use Rattle.versions.proofs.Moved.{long_source}
use Rattle.versions.proofs.Words.{summed, call_low}
use Rattle.versions.proofs.RoundTrip.{up_like, up_true, up_same, up_low, down_like, down_same, down_is, up_is}

-- whatever hears the frames, in either position of the switch: the same for both blocks
module _ (ear : Switch → Hearing) (ok : (s : Switch) → Lawful (ear s)) where
  -- ---- after a move up

  module _ (m : List ℕ) (u : usable V1 m ≡ true) where
    -- number, length and whole output
    pub up_answers : (x : Turn) → (asked ear V1 m x).0 ≡ (asked ear V2 (in_version V2 m) x).0
    up_answers x = answer_alike m (in_version V2 m) (up_same m u) ear ok x

    -- moved and served, or served and moved
    pub up_commutes : (x : Turn) → (in_turn ear V2 (in_version V2 m) x).image ≡ in_version V2 (in_turn ear V1 m x).image
    up_commutes x =
        let n = in_version V2 m in
        let s = stays_same m n (up_same m u) ear ok x in
        sym (up_is (in_turn ear V1 m x).image (in_turn ear V2 n x).image s.like (summed _ s.words (call_low ear ok n x (up_low m (long_source V2 m u)))))

    -- and so for every list of frames
    pub up_answers_all : (xs : List Turn) → outcomes (asked ear V1) m xs ≡ outcomes (asked ear V2) (in_version V2 m) xs
    up_answers_all xs = answers_alike ear ok m (in_version V2 m) (up_same m u) xs

  -- from there on every word is true
  pub up_stays_true : (m : List ℕ) → image_length V1 ≤ length m → (xs : List Turn) → TrueWords (left ear V2 (in_version V2 m) xs)
  up_stays_true m long xs = stays_true ear ok (in_version V2 m) xs (up_true m long)

  pub up_commutes_all : (m : List ℕ) (xs : List Turn) → usable V1 m ≡ true → left ear V2 (in_version V2 m) xs ≡ in_version V2 (left ear V1 m xs)
  unfolding left
  up_commutes_all =
      by_turns ear ok V1 (λ m xs m'. usable V1 m ≡ true → left ear V2 (in_version V2 m) xs ≡ in_version V2 m') (λ m u. refl)
      (λ m x xs m' h u. rw (up_commutes m u x) (h (usable_stays (ear x.switch) (ok x.switch) V1 x.frame m x.out u)))

  -- ---- after a move down

  module _ (n : List ℕ) (u : usable V2 n ≡ true) where
    -- where the words were true
    pub down_answers : (x : Turn) → TrueWords n → (asked ear V2 n x).0 ≡ (asked ear V1 (in_version V1 n) x).0
    down_answers x t = sym (answer_alike (in_version V1 n) n (down_same n u t) ear ok x)

    -- where some are false, every frame that asks for none of these
    pub down_answers_but : (x : Turn) → AsksTrue (ear x.switch (address n) x.frame) n → (asked ear V2 n x).0 ≡ (asked ear V1 (in_version V1 n) x).0
    down_answers_but x t = sym (told_alike (in_version V1 n) n (down_like n u) ear ok x t)

    pub down_answers_all : (xs : List Turn) → TrueWords n → outcomes (asked ear V2) n xs ≡ outcomes (asked ear V1) (in_version V1 n) xs
    down_answers_all xs t = sym (answers_alike ear ok (in_version V1 n) n (down_same n u t) xs)

    -- whatever the words say: number, length, and what is left
    pub down_numbers : (x : Turn) → ((in_turn ear V2 n x).number ≡ (in_turn ear V1 (in_version V1 n) x).number)
        × ((in_turn ear V2 n x).len ≡ (in_turn ear V1 (in_version V1 n) x).len)
    down_numbers x =
        (sym (numbers_alike (in_version V1 n) n (down_like n u) ear x), sym (lengths_alike (in_version V1 n) n (down_like n u) ear ok x))

    pub down_commutes : (x : Turn) → (in_turn ear V1 (in_version V1 n) x).image ≡ in_version V1 (in_turn ear V2 n x).image
    down_commutes x = sym (down_is _ _ (stays_like (in_version V1 n) n (down_like n u) ear ok x))

  pub down_commutes_all : (n : List ℕ) (xs : List Turn) → usable V2 n ≡ true → left ear V1 (in_version V1 n) xs ≡ in_version V1 (left ear V2 n xs)
  unfolding left
  down_commutes_all =
      by_turns ear ok V2 (λ n xs n'. usable V2 n ≡ true → left ear V1 (in_version V1 n) xs ≡ in_version V1 n') (λ n u. refl)
      (λ n x xs n' h u. rw (down_commutes n u x) (h (usable_stays (ear x.switch) (ok x.switch) V2 x.frame n x.out u)))

-- ---- held parts, on either side of a move

pub up_held : (m : List ℕ) → usable V1 m ≡ true → (t : ℕ) → held_parts V1 m t ≡ held_parts V2 (in_version V2 m) t
up_held m u = held_alike m (in_version V2 m) (up_like m u)

pub down_held : (n : List ℕ) → usable V2 n ≡ true → (t : ℕ) → held_parts V2 n t ≡ held_parts V1 (in_version V1 n) t
down_held n u t = sym (held_alike (in_version V1 n) n (down_like n u) t)
