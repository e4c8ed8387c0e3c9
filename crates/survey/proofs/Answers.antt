-- From the file to the answer (document 02, request 10): an accepted file's frames, sent unsealed in any order to a fresh block of its address, are all served;
-- then all eleven parts are held, and every question about the table is answered by the file's rows, so never 12 and never 13. By the promises alone.
-- Assumes nothing.
use mathlib.Core.Path.{◌≡◌, sym, ap, ◌∙◌}
use mathlib.Core.Logic.{◌≢◌}
use mathlib.Core.List.{List, [], ◌∷◌}
use mathlib.Core.Bool.{Bool, true, false}
use Prim.Native.Nat.{ℕ, ◌≤◌, ◌<◌}
use native.Mathlib.Omega.{arith}
use lib.ListN.{length, get_or, length-map, get_or-map}
use borrow.Author.Tests.{eqb-true}
use Rattle.laws.specs.Checks.{check, judged}
use Rattle.laws.proofs.Bits.{all_set_if}
use Rattle.reorder.specs.Reorder.{final, place, pick, Reorders}
use Rattle.reorder.proofs.Readings.{get_d_pick, length-outcomes}
use Rattle.text.specs.Cut.{pieces}
use Rattle.image.specs.Version.{current}
use Rattle.image.specs.Cell.{table_index}
use Rattle.image.specs.Words.{table_word}
use Rattle.image.specs.Usable.{usable}
use Rattle.image.specs.Fresh.{fresh}
use Rattle.image.specs.Held.{lowest_missing, held_of, held_parts}
use Rattle.image.proofs.FreshImage.{head_at, fresh-usable}
use Rattle.rules.specs.declared.switch.Switch.TheVariants.{Unsealed}
use Rattle.izk.specs.Heard.{heard}
use Rattle.izk.proofs.HeldAfter.{held_is}
use Rattle.order.specs.Serving.{Call, nothing, frames_of, step, Good, Ran}
use Rattle.order.proofs.Repeats.{ran_is}
use Rattle.tables.specs.Rows.{level, volume, never_fall}
use Rattle.tables.specs.Quantity.{unanswered, whole, covers, answered, quantity_at}
use Rattle.tables.proofs.LastRow.{never_fall_is}
use Rattle.tables.proofs.Checked.{covers_if}
use Rattle.survey.specs.File.{contents_in, address_in, table_in, table_sent, file_number}
use Rattle.survey.specs.Described.{frame_at, Row}
use Rattle.survey.specs.Sending.{Sends, answer_by, Loaded}
use Rattle.survey.proofs.Rising.{top_is, top_climbs, row-volume}
use Rattle.survey.proofs.Described.{row_once, described_exactly}
use Rattle.survey.proofs.Accepted.{address-some, table_one, rising}
use Rattle.survey.proofs.Served.{each_served, after_good, table_loaded, bits-set, whole_loaded}

-- ---- each frame once, in any order, is one way of sending a file

module _ (s : List ℕ) (xs : List Call) (o : List ℕ) (re : Reorders 11 o) (frames : frames_of xs ≡ pick [] (pieces s) o) where
  same_many : length xs ≡ length o
  same_many = sym (length-map xs _) ∙ ap length frames ∙ length-map o _

  at : (i : ℕ) → i < length o → (get_or xs i nothing).frame ≡ frame_at s (place o i)
  at i l = sym (get_or-map (λ (x : Call). x.frame) xs i nothing) ∙ ap (λ (l : List (List ℕ)). get_or l i []) frames ∙ get_d_pick [] (pieces s) o i l

  pub in_any_order : Sends s xs
  in_any_order =
      record {
        only = λ i l. let k : i < length o = omega (arith, same_many) in (place o i, re.inside i k, at i k);
        each = λ k l. let (i, j, e) = re.all k l in (i, omega (arith, same_many), at i j ∙ ap (frame_at s) e);
      }

-- ---- what the image then says

module _ (s : List ℕ) (z : file_number s ≡ 0) where
  abbrev cs : List (List ℕ)
  cs = contents_in s

  abbrev t : ℕ
  t = table_in cs

  abbrev rows : List ℕ
  rows = table_sent cs

  rows_climb : never_fall rows ≡ true
  rows_climb = let (n, top) = top_is rows (rising s z) in top_climbs rows n top

  module _ (m : List ℕ) (good : Good current (address_in cs) m) (xs : List Call) (all : Sends s xs) where
    abbrev after : List ℕ
    after = final (step (heard Unsealed) current) m xs

    usable_after : usable current after ≡ true
    usable_after = (after_good s z current m good xs all).0

    held_all : held_parts current after t ≡ record { number = 0; parts = 11; missing = 0 }
    unfolding held_of whole
    held_all =
        held_is current after t usable_after (table_one s z)
        ∙ rw (all_set_if 11 w (bits-set s z current m good xs all), eqb-true (lowest_missing w) 0 (whole_loaded s z current m good xs all))
      where
        w : ℕ
        w = table_word after (table_index t)

    answered-all : (x : ℕ) → quantity_at current after t x ≡ answer_by rows x
    unfolding quantity_at judged answer_by
    answered-all x =
        rw (usable_after, table_one s z, whole_loaded s z current m good xs all, table_loaded s z current m good xs all, rows_climb)

    -- ---- from the file to the answer, on any usable image of its address

    pub file_loads : {rs : List (ℕ × List ℕ)} {m' : List ℕ} → Ran Unsealed m xs rs m' → Loaded s xs rs m'
    file_loads ran =
        let (p, q) = ran_is Unsealed ran in
        rw (p, q) (record {
          all-answered = length-outcomes (step (heard Unsealed) current) m xs;
          served = λ i l. each_served s z current m good xs all i (omega (arith, length-outcomes (step (heard Unsealed) current) m xs));
          held = held_all;
          answers = answered-all;
        })

  -- ---- and so on a fresh one

  pub from_file_to_answer : (xs : List Call) → Sends s xs → {rs : List (ℕ × List ℕ)} {m : List ℕ}
      → Ran Unsealed (fresh current (address_in cs)) xs rs m → Loaded s xs rs m
  from_file_to_answer xs all =
      file_loads (fresh current (address_in cs)) (fresh-usable current (address_in cs) (address-some s z), head_at current (address_in cs) 5 (omega arith)) xs all

  -- each of the eleven once, in any order
  pub eleven_sent : (xs : List Call) (o : List ℕ) → Reorders 11 o → frames_of xs ≡ pick [] (pieces s) o → {rs : List (ℕ × List ℕ)} {m : List ℕ}
      → Ran Unsealed (fresh current (address_in cs)) xs rs m → Loaded s xs rs m
  eleven_sent xs o re frames = from_file_to_answer xs (in_any_order s xs o re frames)

-- ---- what that says of a question

module _ {s : List ℕ} {xs : List Call} {rs : List (ℕ × List ℕ)} {m : List ℕ} (loaded : Loaded s xs rs m) where
  pub never_12_nor_13 : (x : ℕ) → let n = (quantity_at current m (table_in (contents_in s)) x).number in (n ≢ 12) × (n ≢ 13)
  unfolding answer_by judged answered
  never_12_nor_13 x = rw (loaded.answers x) (go (covers (table_sent (contents_in s)) x))
    where
      go : (b : Bool) → let n = (judged unanswered (check 14 b ∷ []) (answered (table_sent (contents_in s)) x)).number in (n ≢ 12) × (n ≢ 13)
      go true = (λ e. omega arith, λ e. omega arith)
      go false = (λ e. omega arith, λ e. omega arith)

  -- at the level of any row of the file the volume is that row's
  module _ (z : file_number s ≡ 0) where
    abbrev table : List ℕ
    table = table_sent (contents_in s)

    at_each_row : (i : ℕ) → i ≤ 351 → quantity_at current m (table_in (contents_in s)) (level table i) ≡ record { number = 0; volume = volume table i }
    unfolding answer_by judged answered
    at_each_row i l =
        let (n, top) = top_is table (rising s z) in
        let climb = never_fall_is table (rows_climb s z) in
        let inside = covers_if table (level table i) (climb 0 i (omega arith) l).0 (climb i 351 l (omega arith)).0 in
        loaded.answers (level table i) ∙ rw (inside, row-volume table n top i l)

    pub each_row_answers : {r l v : ℕ} → Row s r l v → quantity_at current m (table_in (contents_in s)) l ≡ record { number = 0; volume = v }
    each_row_answers {r} row =
        let (i, a, b) = row_once s ((described_exactly s).0 z) row in
        rw (sym a, sym b) (at_each_row r i)
