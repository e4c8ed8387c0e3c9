-- What the promise of a move gives a caller: one outcome, and the theorems in terms of what was returned and left. Assumes nothing.
use mathlib.Core.Path.{◌≡◌, refl, sym, ap, ◌∙◌}
use mathlib.Core.Logic.{◌≢◌}
use mathlib.Core.List.{List}
use mathlib.Core.Bool.{true}
use Prim.Native.Nat.{ℕ, ◌+◌, ◌*◌, ◌%◌, ◌≤◌, ◌<◌}
use native.Mathlib.Omega.{arith}
use lib.ListN.{length, get_or}
use Rattle.laws.specs.Bytes.{slice, sum_of}
use Rattle.laws.proofs.Bytes.{Bytes}
use Rattle.std.specs.Prelude.{Result}
use Rattle.output.specs.declared.refusal.Refusal.{Refusal}
use Rattle.output.specs.Refusal.{number_in}
use Rattle.output.specs.Output.{Answer}
use Rattle.output.proofs.Refusals.{one_result}
use Rattle.image.specs.declared.version.Version.{Version}
use Rattle.image.specs.declared.version.Version.TheVariants.{V1, V2}
use Rattle.image.specs.Version.{current, version_number, image_length}
use Rattle.image.specs.Words.{kept_offset}
use Rattle.image.specs.Usable.{usable}
use Rattle.image.specs.Made.{ImageAfter, Makes}
use Rattle.image.proofs.Kept.{at_table, at_constants, at_errors}
use Rattle.image.proofs.OneOutcome.{makes_one_outcome}
use Rattle.storing.specs.Signature.{full_sum, TrueWords}
use Rattle.rules.specs.declared.switch.Switch.{Switch}
use Rattle.command.specs.Reply.{BuffersAfter, Serves}
use Rattle.izk.specs.Heard.{heard}
use Rattle.izk.specs.Block.{served}
use Rattle.izk.specs.Since.{Turn, in_turn}
use Rattle.izk.proofs.Hearing.{heard_lawful}
use Rattle.kept.specs.Reached.{Reached}
use Rattle.kept.proofs.Alike.{told_each}
use Rattle.versions.specs.Moved.{in_version, other, moved}
use Rattle.versions.proofs.Refusals.{both-fit, Ended, made, kept, ended}
use Rattle.versions.proofs.Moved.{length_moved, byte_kept, number_laid, TwoAt, words-laid, moved-usable}
use Rattle.versions.proofs.RoundTrip.{up_then_down, down_then_up}
use Rattle.versions.proofs.Serving.{up_answers, up_commutes, down_answers, down_commutes}
use Rattle.versions.proofs.Reaching.{moved_reached}

module _ (v : Version) (m t : List ℕ) where
  -- the promise leaves one outcome
  pub move_one_outcome : (r s : ℕ) (n o : List ℕ) → Makes (moved v m t) r n → Makes (moved v m t) s o → (r ≡ s) × (n ≡ o)
  move_one_outcome = makes_one_outcome (moved v m t)

  -- said of the results that are returned
  pub move_one_result : (r s : Result (Unit {0}) Refusal) (n o : List ℕ) → Makes (moved v m t) (number_in r) n → Makes (moved v m t) (number_in s) o
      → (r ≡ s) × (n ≡ o)
  move_one_result r s n o x y = let z = move_one_outcome (number_in r) (number_in s) n o x y in (one_result tt r s z.0 refl, z.1)

  module _ (r : ℕ) (n : List ℕ) (p : Makes (moved v m t) r n) where
    -- 0: source and target were right, and the target is the source in the other version
    pub move_done : r ≡ 0 → (usable (other v) m ≡ true) × (length t ≡ image_length v) × (n ≡ in_version v m)
    move_done z = go (ended v m t)
      where
        go : Ended v m t → (usable (other v) m ≡ true) × (length t ≡ image_length v) × (n ≡ in_version v m)
        go (made u l e) = (u, l, p.image_is ∙ ap (λ (a : ImageAfter). a.image) e)
        go (kept e) =
            let y : r ≡ 1 = p.number_is ∙ ap (λ (a : ImageAfter). a.number) e in
            absurd (omega arith)

    -- any other number is 1, and the target is as it was
    pub move_refused : r ≢ 0 → (r ≡ 1) × (n ≡ t)
    move_refused z = go (ended v m t)
      where
        go : Ended v m t → (r ≡ 1) × (n ≡ t)
        go (made u l e) = absurd (z (p.number_is ∙ ap (λ (a : ImageAfter). a.number) e))
        go (kept e) = (p.number_is ∙ ap (λ (a : ImageAfter). a.number) e, p.image_is ∙ ap (λ (a : ImageAfter). a.image) e)

    -- and 0 it is where both are right
    pub move_does : usable (other v) m ≡ true → length t ≡ image_length v → (r ≡ 0) × (n ≡ in_version v m)
    move_does u l =
        let e = both-fit v m t u l in
        (p.number_is ∙ ap (λ (a : ImageAfter). a.number) e, p.image_is ∙ ap (λ (a : ImageAfter). a.image) e)

    pub move_usable : r ≡ 0 → usable v n ≡ true
    move_usable z = let (u, l, e) = move_done z in rw e (moved-usable v m u)

    pub move_reaches : r ≡ 0 → Reached (other v) m → Reached v n
    move_reaches z h = let (u, l, e) = move_done z in rw e (moved_reached v h u)

-- ---- there and back, and back and there if the words were true: whatever stood in the targets

module _ (m t : List ℕ) (r : ℕ) (n t' : List ℕ) (s : ℕ) (o : List ℕ) where
  pub there_and_back : Makes (moved V2 m t) r n → r ≡ 0 → Makes (moved V1 n t') s o → length t' ≡ image_length V1 → (s ≡ 0) × (o ≡ m)
  there_and_back p z q l =
      let (u, k, e) = move_done V2 m t r n p z in
      let (y, x) = move_does V1 n t' s o q (move_usable V2 m t r n p z) l in
      (y, x ∙ ap (λ (a : List ℕ). in_version V1 a) e ∙ up_then_down m u)

  pub back_and_there : Makes (moved V1 m t) r n → r ≡ 0 → Makes (moved V2 n t') s o → length t' ≡ image_length V2 → TrueWords m → Bytes m
      → (s ≡ 0) × (o ≡ m)
  back_and_there p z q l true-words b =
      let (u, k, e) = move_done V1 m t r n p z in
      let (y, x) = move_does V2 n t' s o q (move_usable V1 m t r n p z) l in
      (y, x ∙ ap (λ (a : List ℕ). in_version V2 a) e ∙ down_then_up m u true-words b)

-- ---- a frame, served before a move or after it, by the promise of serving: the same number, length and every byte of the output, and what it leaves is the
-- same image, moved

abbrev pub Alike : Answer → List ℕ → BuffersAfter → Type 0
Alike a out b = (a.number ≡ b.number) × (a.len ≡ b.len) × (out ≡ b.out)

module _ (s : Switch) (f m t out : List ℕ) (r : ℕ) (n : List ℕ) where
  abbrev turn : Turn
  turn = record { switch = s; frame = f; out = out }

  -- the block on what a move up left, and a block of version 1 on what it came from
  pub up_serves : Makes (moved V2 m t) r n → r ≡ 0 → (a : Answer) (n' o : List ℕ) → Serves (served (heard s) current f n out) a n' o
      → let b = served (heard s) V1 f m out in Alike a o b × (n' ≡ in_version V2 b.image)
  up_serves p z a n' o q =
      let (u, l, e) = move_done V2 m t r n p z in
      let y = told_each (in_turn heard V2 (in_version V2 m) turn) (in_turn heard V1 m turn) (sym (up_answers heard heard_lawful m u turn)) in
      let w = rw e at q in
      ((w.number_is ∙ y.0, w.len_is ∙ y.1, w.out_is ∙ y.2), w.image_is ∙ up_commutes heard heard_lawful m u turn)

  -- the block on what is moved down, and a block of version 1 on what that leaves: the answers where the words were true, the image whatever they said
  pub down_serves : Makes (moved V1 m t) r n → r ≡ 0 → (a : Answer) (m' o : List ℕ) → Serves (served (heard s) current f m out) a m' o
      → let b = served (heard s) V1 f n out in (TrueWords m → Alike a o b) × (b.image ≡ in_version V1 m')
  down_serves p z a m' o q =
      let (u, l, e) = move_done V1 m t r n p z in
      let i = q.image_is in
      rw (e, i) (
        λ true-words.
            let y = told_each (in_turn heard V2 m turn) (in_turn heard V1 (in_version V1 m) turn) (down_answers heard heard_lawful m u turn true-words) in
            (q.number_is ∙ y.0, q.len_is ∙ y.1, q.out_is ∙ y.2),
        down_commutes heard heard_lawful m u turn,
      )

-- ---- in the documents' numbers

-- bytes 3 and 4 have the number, and each other byte that both versions have is the source's
abbrev pub Leaves : ℕ → ℕ → List ℕ → List ℕ → Type 0
Leaves long number m n =
    (length n ≡ long) × (get_or n 3 0 ≡ 0) × (get_or n 4 0 ≡ number) × ((i : ℕ) → i < 23753 → i ≢ 3 → i ≢ 4 → get_or n i 0 ≡ get_or m i 0)

leaves : (v : Version) (m : List ℕ) → image_length V1 ≤ length m → Leaves (image_length v) (version_number v) m (in_version v m)
leaves v m l =
    let n = number_laid v m l in
    (length_moved v m l, n.0, n.1, λ i h a b. byte_kept v m l i h (λ p. absurd (a (omega arith))))

pub up_leaves : (m : List ℕ) → 23753 ≤ length m → Leaves 23817 2 m (in_version V2 m)
up_leaves = leaves V2

pub down_leaves : (m : List ℕ) → 23753 ≤ length m → Leaves 23753 1 m (in_version V1 m)
down_leaves = leaves V1

-- behind these, a move up leaves the sums of the sixteen tables, the eight channels of constants and the eight error tables, two bytes each
module _ (m : List ℕ) (long : 23753 ≤ length m) where
  pub up_words : ((k : ℕ) → k < 16 → TwoAt (in_version V2 m) (23753 + 2 * k) (sum_of (slice (1225 + 1408 * k) 1408 m) % 65536))
      × ((c : ℕ) → c < 8 → TwoAt (in_version V2 m) (23785 + 2 * c) (sum_of (slice (49 + 83 * c) 83 m) % 65536))
      × ((e : ℕ) → e < 8 → TwoAt (in_version V2 m) (23801 + 2 * e) (sum_of (slice (713 + 64 * e) 64 m) % 65536))
  unfolding full_sum
  up_words = (table, constants, errors)
    where
      table : (k : ℕ) → k < 16 → TwoAt (in_version V2 m) (23753 + 2 * k) (sum_of (slice (1225 + 1408 * k) 1408 m) % 65536)
      table k l = rw (at_table k l) at (words-laid m long k (omega arith))

      constants : (c : ℕ) → c < 8 → TwoAt (in_version V2 m) (23785 + 2 * c) (sum_of (slice (49 + 83 * c) 83 m) % 65536)
      constants c l =
          let e : kept_offset (16 + c) ≡ 23785 + 2 * c = omega arith in
          rw (at_constants c l, e) at (words-laid m long (16 + c) (omega arith))

      errors : (t : ℕ) → t < 8 → TwoAt (in_version V2 m) (23801 + 2 * t) (sum_of (slice (713 + 64 * t) 64 m) % 65536)
      errors t l =
          let e : kept_offset (24 + t) ≡ 23801 + 2 * t = omega arith in
          rw (at_errors t l, e) at (words-laid m long (24 + t) (omega arith))
