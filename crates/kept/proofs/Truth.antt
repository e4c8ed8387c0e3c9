-- The kept words are true on every image that calls lead to from a fresh one; and on any image, whatever is served leaves a false one false by as much. A
-- frame stores or leaves the image, and a store amends a word as it changes the sum. Assumes nothing.
use Rattle.std.specs.Prelude.{Option}
use mathlib.Core.Path.{◌≡◌, refl, sym, ap, ◌∙◌}
use mathlib.Core.Logic.{◌⊎◌, inl, inr}
use mathlib.Core.Bool.{Bool, true, false, not}
use mathlib.Core.List.{List}
use Prim.Native.Nat.{ℕ, suc, ◌+◌, ◌-◌, ◌%◌, ◌<◌}
use native.Mathlib.Omega.{arith}
use lib.ListN.{length, drop}
use lib.Dec.{eqb}
use Rattle.laws.specs.Bytes.{slice, sum_of, word_at}
use Rattle.laws.specs.Checks.{judged}
use Rattle.laws.proofs.Bytes.{Bytes}
use Rattle.laws.proofs.Sums.{sum-none}
use Rattle.output.specs.Output.{Answer}
use Rattle.frame.specs.Apart.{contents_of}
use Rattle.image.specs.declared.cell.Cell.{Cell}
use Rattle.image.specs.declared.version.Version.{Version}
use Rattle.image.specs.declared.version.Version.TheVariants.{V2}
use Rattle.image.specs.Version.{current, image_length}
use Rattle.image.specs.Cell.{offset, size, is_item}
use Rattle.image.specs.Words.{kept_offset}
use Rattle.image.specs.Made.{ImageAfter, unmade, Makes}
use Rattle.image.specs.Fresh.{fresh, freshened}
use Rattle.image.proofs.UsableFacts.{facts}
use Rattle.image.proofs.FreshImage.{rest_at}
use Rattle.image.proofs.Stretches.{item_low}
use Rattle.image.proofs.Kept.{Counts, nowhere, in_word, counts_view}
use Rattle.storing.specs.Signature.{full_sum, word_kept, signature, TrueWords, false_by}
use Rattle.storing.proofs.Signatures.{signature_word_lem, store_true, store_false_by}
use Rattle.rules.specs.declared.rule.Act.{Act}
use Rattle.rules.specs.declared.rule.Act.TheVariants.{Show, Sign, Store}
use Rattle.rules.specs.declared.switch.Switch.{Switch}
use Rattle.rules.specs.Fits.{Fit}
use Rattle.command.specs.Act.{leaves}
use Rattle.command.specs.Reply.{Serves}
use Rattle.izk.specs.Heard.{heard, Hearing, Lawful}
use Rattle.izk.specs.Block.{served}
use Rattle.izk.specs.Since.{Turn, in_turn, left}
use Rattle.izk.proofs.Hearing.{heard_lawful}
use Rattle.izk.proofs.Changes.{accepted_fits}
use Rattle.izk.proofs.Turns.{Went, refused, accepted, went, by_turns}
use Rattle.kept.specs.Reached.{Reached, fresh_one, laid_anew, after_call}

-- ---- a fresh image has true words: all are 0, and so is every byte of an item

pub fresh_true : (a : ℕ) → TrueWords (fresh V2 a)
unfolding full_sum word_at
fresh_true a e item = word (counts_view e) ∙ sym (ap (λ (s : ℕ). s % 65536) none)
  where
    none : sum_of (slice (offset e) (size e) (fresh V2 a)) ≡ 0
    none = sum-none (offset e) (size e) (fresh V2 a) (λ i l. rest_at V2 a i (omega (arith, item_low e item)))

    word : {y : Option ℕ} → Counts e y → word_kept y (fresh V2 a) ≡ 0
    word (nowhere b) = refl
    word (in_word i b) = rw (rest_at V2 a (kept_offset i) (omega arith), rest_at V2 a (kept_offset i + 1) (omega arith))

-- a buffer that is laid out becomes a fresh image, or it is refused and stays
pub data LaidOut (v : Version) (m : List ℕ) (a : ℕ) : Type 0 where
  done : (freshened v m a).image ≡ fresh v a → LaidOut v m a
  refused_with : (n : ℕ) → freshened v m a ≡ unmade m (suc n) → LaidOut v m a

pub laid_out : (v : Version) (m : List ℕ) (a : ℕ) → LaidOut v m a
unfolding freshened judged
laid_out v m a = go (eqb (length m) (image_length v)) refl (not (eqb a 0)) refl
  where
    go : (b : Bool) → eqb (length m) (image_length v) ≡ b → (c : Bool) → not (eqb a 0) ≡ c → LaidOut v m a
    go false e c f = refused_with 0 (rw e)
    go true e false f = refused_with 10 (rw (e, f))
    go true e true f = done (rw (e, f))

-- so its words are true if they were
pub freshened_true : (m : List ℕ) (a : ℕ) → TrueWords m → TrueWords (freshened V2 m a).image
freshened_true m a t = go (laid_out V2 m a)
  where
    go : LaidOut V2 m a → TrueWords (freshened V2 m a).image
    go (done e) = rw e (fresh_true a)
    go (refused_with n e) = rw e t

-- ---- a frame served

module _ (ear : Switch → Hearing) (ok : (s : Switch) → Lawful (ear s)) where
  -- what holds of an image, and of it after every act, holds of it after a frame
  pub turn_keeps : (R : List ℕ → Type 0) (m : List ℕ) (x : Turn) → R m
      → ((a : Act) (d : Cell) → Fit a d (contents_of x.frame) → length m ≡ image_length V2 → R (leaves V2 a d (contents_of x.frame) m))
      → R (in_turn ear V2 m x).image
  turn_keeps R m x r after = go (went ear ok V2 m x)
    where
      go : Went ear ok V2 m x → R (in_turn ear V2 m x).image
      go (refused n l i) = rw i r
      go (accepted u e a d h i) =
          rw i (after a d (accepted_fits (ear x.switch) (ok x.switch) x.frame m e a d h).act (facts V2 m u).long_is)

  pub call_true : (m : List ℕ) (x : Turn) → TrueWords m → TrueWords (in_turn ear V2 m x).image
  call_true m x t = turn_keeps TrueWords m x t after
    where
      after : (a : Act) (d : Cell) → Fit a d (contents_of x.frame) → length m ≡ image_length V2 → TrueWords (leaves V2 a d (contents_of x.frame) m)
      after Show d f l = t
      after Sign d f l = t
      after (Store k) d f l = store_true m l d (drop k (contents_of x.frame)) f t

  pub call_false_by : (m : List ℕ) (x : Turn) (e : Cell) → is_item e ≡ true → false_by e (in_turn ear V2 m x).image ≡ false_by e m
  call_false_by m x e item = turn_keeps (λ m'. false_by e m' ≡ false_by e m) m x refl after
    where
      after : (a : Act) (d : Cell) → Fit a d (contents_of x.frame) → length m ≡ image_length V2
          → false_by e (leaves V2 a d (contents_of x.frame) m) ≡ false_by e m
      after Show d f l = refl
      after Sign d f l = refl
      after (Store k) d f l = store_false_by m l d (drop k (contents_of x.frame)) f e item

  -- ---- calls one after the other, on any image

  pub stays_true : (m : List ℕ) (xs : List Turn) → TrueWords m → TrueWords (left ear V2 m xs)
  stays_true = by_turns ear ok V2 (λ m xs m'. TrueWords m → TrueWords m') (λ m t. t) (λ m x xs m' h t. h (call_true m x t))

  pub stays_false_by : (m : List ℕ) (xs : List Turn) (e : Cell) → is_item e ≡ true → false_by e (left ear V2 m xs) ≡ false_by e m
  stays_false_by m xs e item =
      by_turns ear ok V2 (λ m xs m'. false_by e m' ≡ false_by e m) (λ m. refl) (λ m x xs m' h. h ∙ call_false_by m x e item) m xs

-- ---- from a fresh image

pub reached_true : {m : List ℕ} → Reached V2 m → TrueWords m
reached_true (fresh_one a) = fresh_true a
reached_true (laid_anew m a r) = freshened_true m a (reached_true r)
reached_true (after_call m x r) = call_true heard heard_lawful m x (reached_true r)

-- ---- and what is reached is what the block's promises leave

-- a call of serving, in either position of the switch, with any frame and any output
pub serve_reaches : (s : Switch) (f m out : List ℕ) (r : Answer) (m' o : List ℕ) → Serves (served (heard s) current f m out) r m' o → Reached current m
    → Reached current m'
serve_reaches s f m out r m' o p h = rw p.image_is (after_call m (record { switch = s; frame = f; out = out }) h)

-- laying out: from any buffer if it is done, and on an image that was reached in any case
pub fresh_reaches : (m : List ℕ) (a r : ℕ) (m' : List ℕ) → Makes (freshened current m a) r m' → (r ≡ 0) ⊎ Reached current m → Reached current m'
fresh_reaches m a r m' p (inr h) = rw p.image_is (laid_anew m a h)
fresh_reaches m a r m' p (inl z) = rw p.image_is (go (laid_out current m a))
  where
    go : LaidOut current m a → Reached current (freshened current m a).image
    go (done e) = rw e (fresh_one a)
    go (refused_with n e) = let y : suc n ≡ 0 = sym (ap (λ (l : ImageAfter). l.number) e) ∙ sym p.number_is ∙ z in absurd (omega arith)

-- and any number of calls, one after the other
pub turns_reach : (v : Version) (m : List ℕ) (xs : List Turn) → Reached v m → Reached v (left heard v m xs)
turns_reach v = by_turns heard heard_lawful v (λ m xs m'. Reached v m → Reached v m') (λ m h. h) (λ m x xs m' k h. k (after_call m x h))

-- ---- what it is to be false by something: on an image of bytes, a word is false by 0 exactly if it is true

module _ (e : Cell) (m : List ℕ) where
  pub true_by_0 : signature V2 e m ≡ full_sum e m → false_by e m ≡ 0
  unfolding full_sum
  true_by_0 h = rw h (zero-apart (sum_of (slice (offset e) (size e) m)))
    where
      zero-apart : (s : ℕ) → (s % 65536 + (65536 - s % 65536)) % 65536 ≡ 0
      zero-apart s = omega arith

  pub by_0_true : Bytes m → false_by e m ≡ 0 → signature V2 e m ≡ full_sum e m
  unfolding full_sum
  by_0_true b h = one (signature V2 e m) (sum_of (slice (offset e) (size e) m)) (signature_word_lem V2 e m b) h
    where
      one : (w s : ℕ) → w < 65536 → (w + (65536 - s % 65536)) % 65536 ≡ 0 → w ≡ s % 65536
      one w s l h = omega arith
