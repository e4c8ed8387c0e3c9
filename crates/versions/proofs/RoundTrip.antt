-- Of two images that hold the same, the first is the second moved down, and the second is the first moved up if its words are the two bytes of each sum.
-- So a move there and back gives the same bytes, and back and there too where the words were true. Assumes nothing.
use Rattle.std.specs.Prelude.{Option}
use mathlib.Core.Path.{◌≡◌, sym, ap, ◌∙◌}
use mathlib.Core.List.{List}
use mathlib.Core.Bool.{true}
use Prim.Native.Nat.{ℕ, zero, suc, ◌+◌, ◌-◌, ◌*◌, ◌/◌, ◌%◌, ◌≤◌, ◌<◌}
use native.Mathlib.Decide.{dec_lt}
use native.Mathlib.Omega.{arith}
use lib.ListN.{length, get_or}
use lib.Seq.{ext_get_or}
use Rattle.laws.proofs.Bytes.{In, Bytes}
use Rattle.image.specs.declared.cell.Cell.{Cell}
use Rattle.image.specs.declared.version.Version.{Version}
use Rattle.image.specs.declared.version.Version.TheVariants.{V1, V2}
use Rattle.image.specs.Version.{image_length}
use Rattle.image.specs.Cell.{is_item, item_at}
use Rattle.image.specs.Words.{kept_offset}
use Rattle.image.specs.Usable.{usable}
use Rattle.image.proofs.UsableFacts.{facts, begins_as}
use Rattle.image.proofs.Kept.{item_is, Counts, nowhere, in_word, counts_view}
use Rattle.storing.specs.Signature.{full_sum, word_kept, TrueWords}
use Rattle.kept.specs.Same.{Common, Like, Same}
use Rattle.kept.proofs.Alike.{sums_alike}
use Rattle.versions.specs.Moved.{number_offset, in_version}
use Rattle.versions.proofs.Moved.{length_moved, byte_kept, TwoAt, word_of, words-laid, long_source, moved-usable}
use Rattle.versions.proofs.Words.{Summed, Low, summed}

behind_number : {i : ℕ} → 5 ≤ i → ¬ In number_offset 2 i
behind_number l p = absurd (omega arith)

-- ---- an image and the one that it is moved to hold the same

module _ (m : List ℕ) (long : image_length V1 ≤ length m) where
  up_common : Common m (in_version V2 m)
  up_common i low high = sym (byte_kept V2 m long i high (behind_number low))

  -- every word is true
  pub up_true : TrueWords (in_version V2 m)
  up_true e item = go (counts_view e) item
    where
      go : {x : Option ℕ} → Counts e x → is_item e ≡ true → word_kept x (in_version V2 m) ≡ full_sum e (in_version V2 m)
      go (nowhere a) h = absurd (a h)
      go (in_word i a) h =
          let (l, is) = a.is h in
          word_of (in_version V2 m) (kept_offset i) (full_sum (item_at i) m) (words-laid m long i l)
          ∙ ap (λ (c : Cell). full_sum c m) is
          ∙ sums_alike m (in_version V2 m) long (omega (arith, length_moved V2 m long)) up_common e h

  pub up_low : Low (in_version V2 m)
  up_low i l = rw (words-laid m long i l).low (omega arith)

module _ (m : List ℕ) (u : usable V1 m ≡ true) where
  pub up_like : Like m (in_version V2 m)
  up_like = record { first = u; second = moved-usable V2 m u; bytes = up_common m (long_source V2 m u) }

  pub up_same : Same m (in_version V2 m)
  up_same = record { like = up_like; words = up_true m (long_source V2 m u) }

pub down_like : (n : List ℕ) → usable V2 n ≡ true → Like (in_version V1 n) n
down_like n u =
    record { first = moved-usable V1 n u; second = u; bytes = λ i low high. byte_kept V1 n (long_source V1 n u) i high (behind_number low) }

pub down_same : (n : List ℕ) → usable V2 n ≡ true → TrueWords n → Same (in_version V1 n) n
down_same n u t = record { like = down_like n u; words = t }

-- ---- and there is no other

-- letters and number are those of the version
heads : (v : Version) (a b : List ℕ) → usable v a ≡ true → usable v b ≡ true → (i : ℕ) → i < 5 → get_or a i 0 ≡ get_or b i 0
heads v a b u w zero l = (begins_as v a u).1.0 ∙ sym (begins_as v b w).1.0
heads v a b u w (suc zero) l = (begins_as v a u).1.1 ∙ sym (begins_as v b w).1.1
heads v a b u w (suc (suc zero)) l = (begins_as v a u).1.2 ∙ sym (begins_as v b w).1.2
heads v a b u w (suc (suc (suc zero))) l = (begins_as v a u).1.3 ∙ sym (begins_as v b w).1.3
heads v a b u w (suc (suc (suc (suc zero)))) l = (begins_as v a u).1.4 ∙ sym (begins_as v b w).1.4
heads v a b u w (suc (suc (suc (suc (suc i))))) l = absurd (omega arith)

-- usable images of one version that agree behind the number are one
one_image : (v : Version) (a b : List ℕ) → usable v a ≡ true → usable v b ≡ true
    → ((i : ℕ) → 5 ≤ i → i < image_length v → get_or a i 0 ≡ get_or b i 0) → a ≡ b
one_image v a b u w h = ext_get_or 0 a b ((facts v a u).long_is ∙ sym (facts v b w).long_is) (λ i l. go i l (dec_lt i 5))
  where
    go : (i : ℕ) → i < length a → Dec (i < 5) → get_or a i 0 ≡ get_or b i 0
    go i l (yes p) = heads v a b u w i p
    go i l (no p) = h i (omega arith) (omega (arith, (facts v a u).long_is))

module _ (m n : List ℕ) (s : Like m n) where
  pub down_is : in_version V1 n ≡ m
  down_is =
      let l = down_like n s.second in
      one_image V1 (in_version V1 n) m l.first s.first (λ i low high. l.bytes i low high ∙ sym (s.bytes i low high))

  pub up_is : Summed n → in_version V2 m ≡ n
  up_is t = one_image V2 (in_version V2 m) n (up_like m s.first).second s.second (λ i low high. go i low high (dec_lt i (image_length V1)))
    where
      long : image_length V1 ≤ length m
      long = long_source V2 m s.first

      word : (k : ℕ) → k < 32 → TwoAt (in_version V2 m) (kept_offset k) (full_sum (item_at k) n)
      word k l =
          rw (← sums_alike m n long (long_source V1 n s.second) s.bytes (item_at k) (item_is k l)) (words-laid m long k l)

      -- the i-th byte of the words, from 0
      pair : (i : ℕ) → i < 64 → get_or (in_version V2 m) (image_length V1 + i) 0 ≡ get_or n (image_length V1 + i) 0
      pair i l = even (i / 2) (i % 2) (omega arith) (omega arith)
        where
          even : (k r : ℕ) → i ≡ 2 * k + r → r < 2 → get_or (in_version V2 m) (image_length V1 + i) 0 ≡ get_or n (image_length V1 + i) 0
          even k zero e q =
              let j : image_length V1 + i ≡ kept_offset k = omega arith in
              rw j ((word k (omega arith)).high ∙ sym (t k (omega arith)).high)
          even k (suc zero) e q =
              let j : image_length V1 + i ≡ kept_offset k + 1 = omega arith in
              rw j ((word k (omega arith)).low ∙ sym (t k (omega arith)).low)
          even k (suc (suc r)) e q = absurd (omega arith)

      go : (i : ℕ) → 5 ≤ i → i < image_length V2 → Dec (i < image_length V1) → get_or (in_version V2 m) i 0 ≡ get_or n i 0
      go i low high (yes p) = sym ((up_like m s.first).bytes i low p) ∙ s.bytes i low p
      go i low high (no p) =
          let j : image_length V1 + (i - image_length V1) ≡ i = omega arith in
          rw (← j) (pair (i - image_length V1) (omega arith))

-- ---- there and back

pub up_then_down : (m : List ℕ) → usable V1 m ≡ true → in_version V1 (in_version V2 m) ≡ m
up_then_down m u = down_is m (in_version V2 m) (up_like m u)

-- where the words were true: of bytes, as those of every lent buffer are, there is but one such word
pub down_then_up : (n : List ℕ) → usable V2 n ≡ true → TrueWords n → Bytes n → in_version V2 (in_version V1 n) ≡ n
down_then_up n u t b = up_is (in_version V1 n) n (down_like n u) (summed n t (λ i l. b (kept_offset i + 1)))

-- whatever the words said, they are true then, and no other byte has changed
pub down_up_mends : (n : List ℕ) → usable V2 n ≡ true
    → let k = in_version V2 (in_version V1 n) in TrueWords k × ((i : ℕ) → i < image_length V1 → get_or k i 0 ≡ get_or n i 0)
down_up_mends n u = (up_true m (long_source V2 m w), λ i l. go i l (dec_lt i 5))
  where
    m : List ℕ
    m = in_version V1 n

    w : usable V1 m ≡ true
    w = moved-usable V1 n u

    go : (i : ℕ) → i < image_length V1 → Dec (i < 5) → get_or (in_version V2 m) i 0 ≡ get_or n i 0
    go i l (yes p) = heads V2 (in_version V2 m) n (moved-usable V2 m w) u i p
    go i l (no p) =
        byte_kept V2 m (long_source V2 m w) i l (behind_number (omega arith)) ∙ byte_kept V1 n (long_source V1 n u) i l (behind_number (omega arith))
