-- Files that are accepted: any eleven frames of a table whose rows rise, put one behind the other, and so every such table that is built with `build`; for
-- every address but 0 and every table there is one. And why the limit of 4,096 bytes decides nothing: eleven frames have at most 2,959. Assumes nothing.
use mathlib.Core.Path.{◌≡◌, refl, sym, ap, ap₂, subst, ◌∙◌}
use mathlib.Core.Logic.{◌≢◌, inl, inr}
use mathlib.Core.List.{List, [], ◌∷◌, ◌++◌, map, flatten}
use mathlib.Core.Bool.{true}
use Prim.Native.Nat.{ℕ, zero, suc, ◌*◌, ◌≤◌, ◌<◌}
use native.Mathlib.Omega.{arith}
use lib.ListN.{length, get_or, length-append, length-map}
use borrow.Author.Tests.{le-leb, eq-eqb, ne_eqb}
use Rattle.laws.specs.Bytes.{zeros, word_at}
use Rattle.laws.specs.Checks.{all, among, distinct, within, AllPass}
use Rattle.laws.proofs.Tests.{never, and_both, within_is}
use Rattle.laws.proofs.Bytes.{Bytes, bytes_cons, zeros_at}
use Rattle.laws.proofs.Checks.{all_pass_is, all_pass_if}
use Rattle.text.specs.Cut.{pieces}
use Rattle.text.proofs.Pieces.{Ended, here, later, Cut, none, ended, pieces_join, pieces_only}
use Rattle.frame.specs.Digits.{is_digit, all_digits}
use Rattle.frame.specs.Apart.{inner, contents_of, frame_checks}
use Rattle.frame.specs.Built.{frame_of}
use Rattle.frame.proofs.Body.{length_contents}
use Rattle.frame.proofs.Passing.{passed_length, passed_digits}
use Rattle.frame.proofs.RoundTrip.{contents_frame, frame_passes, frame_is}
use Rattle.image.specs.Cell.{is_table}
use Rattle.image.proofs.Indices.{Stands, table_cases}
use Rattle.tables.specs.Rows.{level, volume}
use Rattle.survey.specs.Rows.{rises_then_stays}
use Rattle.survey.specs.File.{is_frame, contents_in, address_in, table_in, sends, parts_in, contents_with, rows_to, table_sent}
use Rattle.survey.specs.File.{eleven_frames, is_one_table, each_once, table_checks, file_number}
use Rattle.survey.proofs.Rising.{top_if}
use Rattle.survey.proofs.Frames.{sent_is, frames_ask, table_asks}
use Rattle.survey.proofs.Refusals.{passes-all, all_pass_0}

-- ---- frames put one behind the other are cut where they were put together

-- digits, and the two last characters: 0Ah is the last alone
ended_digits : (l : List ℕ) → all_digits l ≡ true → Ended (l ++ (13 ∷ (10 ∷ [])))
unfolding all is_digit within
ended_digits [] h = let n : ¬ (◌≡◌ {A = ℕ} 13 10) = λ e. omega arith in later n (here refl)
ended_digits (x ∷ l) h =
    let p = and_both (is_digit x) (all_digits l) h in
    let n : ¬ (x ≡ 10) = λ e. never (rw e at p.0) in
    later n (ended_digits l p.1)

frame_ended : (f : List ℕ) → AllPass (frame_checks f) → Ended f
frame_ended f p = subst Ended (sym (frame_is f p)) (let n : ¬ (◌≡◌ {A = ℕ} 58 10) = λ e. omega arith in later n (ended_digits (inner f) (passed_digits f p)))

module _ (f : List ℕ) (fs : List (List ℕ)) (h : all is_frame (f ∷ fs) ≡ true) where
  first_passes : AllPass (frame_checks f)
  unfolding all is_frame
  first_passes = all_pass_is (frame_checks f) (and_both (is_frame f) (all is_frame fs) h).0

  others_are : all is_frame fs ≡ true
  unfolding all
  others_are = (and_both (is_frame f) (all is_frame fs) h).1

frames_cut : (fs : List (List ℕ)) → all is_frame fs ≡ true → Cut fs
frames_cut [] h = none
frames_cut (f ∷ fs) h = ended (frame_ended f (first_passes f fs h)) (frames_cut fs (others_are f fs h))

pub put_together : (fs : List (List ℕ)) → all is_frame fs ≡ true → pieces (flatten fs) ≡ fs
put_together fs h = pieces_only (frames_cut fs h)

-- ---- the limit

most_bytes : (fs : List (List ℕ)) → all is_frame fs ≡ true → length (flatten fs) ≤ 269 * length fs
unfolding flatten
most_bytes [] h = omega arith
most_bytes (f ∷ fs) h =
    omega (arith, length-append f (flatten fs), (passed_length f (first_passes f fs h)).1, most_bytes fs (others_are f fs h))

pub limit_idle : (s : List ℕ) → length (pieces s) ≡ 11 → all is_frame (pieces s) ≡ true → length s ≤ 2959
limit_idle s eleven h = omega (arith, most_bytes (pieces s) h, ap length (pieces_join s))

-- frames that send parts are as long as frames can be, so a file that passes has that many bytes
sent_bytes : (a t : ℕ) (fs : List (List ℕ)) → all is_frame fs ≡ true → all (sends a t) (map contents_of fs) ≡ true → length (flatten fs) ≡ 269 * length fs
unfolding flatten all
sent_bytes a t [] h k = omega arith
sent_bytes a t (f ∷ fs) h k =
    let p = and_both (sends a t (contents_of f)) (all (sends a t) (map contents_of fs)) k in
    let l = passed_length f (first_passes f fs h) in
    let n = length_contents f l.0 in
    let c = (sent_is a t (contents_of f) p.0).long in
    omega (arith, length-append f (flatten fs), sent_bytes a t fs (others_are f fs h) p.1)

pub accepted_long : (s : List ℕ) → file_number s ≡ 0 → length s ≡ 2959
unfolding contents_in
accepted_long s z =
    let p = passes-all s z in
    let (short, eleven, h) = frames_ask s p.0 in
    let cs = contents_in s in
    omega (arith, sent_bytes (address_in cs) (table_in cs) (pieces s) h (table_asks cs p.1.0).2, ap length (pieces_join s))

-- ---- eleven frames of a table

pub written-file : (fs : List (List ℕ)) → length fs ≡ 11 → all is_frame fs ≡ true → AllPass (table_checks (map contents_of fs)) → file_number (flatten fs) ≡ 0
unfolding eleven_frames contents_in
written-file fs eleven h p =
    let e = put_together fs h in
    let short : length (flatten fs) ≤ 4096 = omega (arith, most_bytes fs h) in
    all_pass_0 (flatten fs) (rw (e, le-leb (length (flatten fs)) 4096 short, eq-eqb (length fs) 11 eleven) h, rw e p)

-- contents that are made of bytes
abbrev AllBytes : List (List ℕ) → Type 0
AllBytes cs = (k : ℕ) → k < length cs → Bytes (get_or cs k [])

contents_back : (cs : List (List ℕ)) → AllBytes cs → map contents_of (map frame_of cs) ≡ cs
contents_back [] b = refl
contents_back (c ∷ cs) b = ap₂ ◌∷◌ (contents_frame c (b zero (omega arith))) (contents_back cs (λ k l. b (suc k) (omega arith)))

built_pass : (a t : ℕ) (cs : List (List ℕ)) → AllBytes cs → all (sends a t) cs ≡ true → all is_frame (map frame_of cs) ≡ true
unfolding all is_frame
built_pass a t [] b h = refl
built_pass a t (c ∷ cs) b h =
    let p = and_both (sends a t c) (all (sends a t) cs) h in
    let l = (sent_is a t c p.0).long in
    let f : is_frame (frame_of c) ≡ true = all_pass_if (frame_checks (frame_of c)) (frame_passes c (b zero (omega arith)) (omega arith) (omega arith)) in
    rw f (built_pass a t cs (λ k l. b (suc k) (omega arith)) p.1)

-- built from contents of bytes that pass 18 to 20
pub built-file : (cs : List (List ℕ)) → length cs ≡ 11 → AllBytes cs → AllPass (table_checks cs) → file_number (flatten (map frame_of cs)) ≡ 0
built-file cs eleven b p =
    let h = built_pass (address_in cs) (table_in cs) cs b (table_asks cs p.0).2 in
    written-file (map frame_of cs) (length-map cs frame_of ∙ eleven) h (rw (contents_back cs b) p)

-- ---- a table of nothing but zeros, of any address and number

abbrev flat : ℕ → ℕ → ℕ → List ℕ
flat a t p = a ∷ (59 ∷ (t ∷ (p ∷ zeros 128)))

abbrev parts : List ℕ
parts = 1 ∷ 2 ∷ 3 ∷ 4 ∷ 5 ∷ 6 ∷ 7 ∷ 8 ∷ 9 ∷ 10 ∷ 11 ∷ []

module _ (a t : ℕ) (some : a ≢ 0) (byte-a : a < 256) (table : is_table t ≡ true) where
  abbrev cs : List (List ℕ)
  cs = map (flat a t) parts

  flat-table : is_one_table cs ≡ true
  unfolding is_one_table address_in table_in sends all zeros
  flat-table = rw (ne_eqb a 0 some, table, eq-eqb a a refl, eq-eqb t t refl) refl

  flat-parts : each_once (parts_in cs) ≡ true
  unfolding each_once parts_in all within distinct among zeros
  flat-parts = refl

  flat_rows : table_sent cs ≡ zeros 1408
  unfolding table_sent rows_to contents_with zeros
  flat_rows = refl

  row_0 : (i : ℕ) → (level (table_sent cs) i ≡ 0) × (volume (table_sent cs) i ≡ 0)
  unfolding word_at
  row_0 i = rw (flat_rows, zeros_at, zeros_at, zeros_at, zeros_at) (refl, refl)

  flat-rises : rises_then_stays (table_sent cs) ≡ true
  flat-rises =
      top_if (table_sent cs) 0 (record {
        most = omega arith;
        rising = λ i l. absurd (let z : ⊥ = omega arith in z);
        staying = λ i l m. ((row_0 i).0 ∙ sym (row_0 0).0, (row_0 i).1 ∙ sym (row_0 0).1);
      })

  table-byte : t < 256
  table-byte = go (table_cases t table)
    where
      go : Stands t → t < 256
      go (inl p) = omega arith
      go (inr p) = omega arith

  flat_bytes : (ps : List ℕ) → all (within 0 255) ps ≡ true → AllBytes (map (flat a t) ps)
  unfolding all
  flat_bytes [] h k l = absurd (omega arith)
  flat_bytes (p ∷ ps) h zero l =
      let small : p < 256 = omega (arith, within_is 0 255 p (and_both (within 0 255 p) (all (within 0 255) ps) h).0) in
      let last : Bytes (p ∷ zeros 128) = bytes_cons p (zeros 128) small (λ k. omega (arith, zeros_at 128 k)) in
      let two : Bytes (t ∷ (p ∷ zeros 128)) = bytes_cons t (p ∷ zeros 128) table-byte last in
      bytes_cons a (59 ∷ (t ∷ (p ∷ zeros 128))) byte-a (bytes_cons 59 (t ∷ (p ∷ zeros 128)) (omega arith) two)
  flat_bytes (p ∷ ps) h (suc k) l = flat_bytes ps (and_both (within 0 255 p) (all (within 0 255) ps) h).1 k (omega arith)

  pub some-file : file_number (flatten (map frame_of cs)) ≡ 0
  unfolding all within
  some-file = built-file cs refl (flat_bytes parts refl) (flat-table, (flat-parts, (flat-rises, tt)))
