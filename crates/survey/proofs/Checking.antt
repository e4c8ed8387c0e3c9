-- From what the code's steps give to the number of the file. Assumes nothing.
use mathlib.Core.Path.{◌≡◌, sym, ap, ◌∙◌}
use mathlib.Core.Logic.{◌≢◌}
use mathlib.Core.List.{List, []}
use mathlib.Core.Bool.{true, false, and-false}
use Prim.Native.Nat.{ℕ, ◌≤◌, ◌<◌}
use native.Mathlib.Omega.{arith}
use lib.ListN.{length, get_or, length-map}
use borrow.Author.Tests.{eq-eqb, ne_eqb, le-leb, lt-leb}
use Rattle.laws.specs.Checks.{all}
use Rattle.laws.proofs.Tests.{never, fails, all_at}
use Rattle.text.specs.Cut.{pieces}
use Rattle.image.specs.Cell.{is_table}
use Rattle.survey.specs.declared.first.First.{First}
use Rattle.survey.specs.declared.sheet.Sheet.{Sheet}
use Rattle.survey.specs.Rows.{rises_then_stays}
use Rattle.survey.specs.File.{is_frame, contents_in, address_in, table_in, sends, parts_in, table_sent, eleven_frames, is_one_table, each_once, file_number}
use Rattle.survey.specs.Gather.{blank, Opens, Reads}
use Rattle.survey.proofs.Frames.{frames_ask}
use Rattle.survey.proofs.Gathering.{one_is, once_tells, table-gathered}
use Rattle.survey.proofs.Refusals.{no_frames_is_17, strange_is_18, parts_is_19, rows_is_20, all_pass_0}

pub too_long_is_17 : (s : List ℕ) → 4096 < length s → file_number s ≡ 17
unfolding eleven_frames
too_long_is_17 s l = no_frames_is_17 s (rw (lt-leb (length s) 4096 l))

-- a piece that is no frame is 17 too, the first one as any
pub broken_is_17 : (s : List ℕ) → all is_frame (pieces s) ≡ false → file_number s ≡ 17
unfolding eleven_frames
broken_is_17 s n = no_frames_is_17 s (rw (n, and-false, and-false))

pub first_is_17 : (s : List ℕ) → is_frame (get_or (pieces s) 0 []) ≡ false → file_number s ≡ 17
first_is_17 s n = no_frames_is_17 s (fails (eleven_frames s) (λ e. let p = frames_ask s e in never (sym n ∙ all_at is_frame (pieces s) [] p.2 0 (omega arith))))

-- what is at hand once the file was read: it is short enough, its first frame's address and table, how many frames there are and what they say
pub record Known (s old : List ℕ) (f : First) (h : Sheet) (n : ℕ) : Type 0 where
  pub short : length s ≤ 4096
  pub opens : Opens s f
  pub reads : Reads s (blank f old) h n

-- and once 17 and 18 passed
pub record Tabled (s old : List ℕ) (f : First) (h : Sheet) (n : ℕ) : Type 0 where
  pub known : Known s old f h n
  pub eleven : n ≡ 11
  pub one : h.one ≡ true
  pub address : f.address ≢ 0
  pub table : is_table f.table ≡ true

module _ {s old : List ℕ} {f : First} {h : Sheet} {n : ℕ} where
  -- ---- 17

  pub frames_wrong : Known s old f h n → n ≢ 11 → file_number s ≡ 17
  unfolding eleven_frames
  frames_wrong k e =
      no_frames_is_17 s (rw (le-leb (length s) 4096 k.short, ne_eqb (length (pieces s)) 11 (λ i. e (k.reads.frames_are ∙ i))))

  module _ (k : Known s old f h n) (eleven : n ≡ 11) where
    frames : (all is_frame (pieces s) ≡ true) × (length (pieces s) ≡ 11)
    frames = (k.reads.good, sym k.reads.frames_are ∙ eleven)

    passed_17 : eleven_frames s ≡ true
    unfolding eleven_frames
    passed_17 = rw (le-leb (length s) 4096 k.short, eq-eqb (length (pieces s)) 11 frames.1) frames.0

    -- ---- 18

    address_is : f.address ≡ address_in (contents_in s)
    address_is = k.opens.address_is

    table_is : f.table ≡ table_in (contents_in s)
    table_is = k.opens.table_is

    all-sent : h.one ≡ all (sends (address_in (contents_in s)) (table_in (contents_in s))) (contents_in s)
    all-sent =
        ap (λ (x : Sheet). x.one) k.reads.gathers ∙ one_is (blank f old) (contents_in s) ∙ rw (address_is, table_is)

    pub stranger : h.one ≡ false → file_number s ≡ 18
    unfolding is_one_table
    stranger e = strange_is_18 s passed_17 (rw (← all-sent, e, and-false, and-false))

    pub address_0 : f.address ≡ 0 → file_number s ≡ 18
    unfolding is_one_table
    address_0 e = strange_is_18 s passed_17 (rw (eq-eqb (address_in (contents_in s)) 0 (sym address_is ∙ e)))

    pub no_table : is_table f.table ≡ false → file_number s ≡ 18
    unfolding is_one_table
    no_table e = strange_is_18 s passed_17 (rw (sym (ap is_table table_is) ∙ e, and-false))

  module _ (k : Tabled s old f h n) where
    frames_pass : eleven_frames s ≡ true
    frames_pass = passed_17 k.known k.eleven

    sent-all : all (sends (address_in (contents_in s)) (table_in (contents_in s))) (contents_in s) ≡ true
    sent-all = sym (all-sent k.known k.eleven) ∙ k.one

    passed_18 : is_one_table (contents_in s) ≡ true
    unfolding is_one_table
    passed_18 =
        let a : address_in (contents_in s) ≢ 0 = λ e. k.address (address_is k.known k.eleven ∙ e) in
        let t : is_table (table_in (contents_in s)) ≡ true = sym (ap is_table (table_is k.known k.eleven)) ∙ k.table in
        rw (ne_eqb (address_in (contents_in s)) 0 a, t) sent-all

    all_send : all (sends f.address f.table) (contents_in s) ≡ true
    all_send = rw (address_is k.known k.eleven, table_is k.known k.eleven) sent-all

    -- ---- 19

    told : h.once ≡ each_once (parts_in (contents_in s))
    told =
        ap (λ (x : Sheet). x.once) k.known.reads.gathers ∙ once_tells f (contents_in s) all_send old

    pub part_again : h.once ≡ false → file_number s ≡ 19
    part_again e = parts_is_19 s frames_pass passed_18 (sym told ∙ e)

    -- ---- 20

    module _ (once : h.once ≡ true) (long : length old ≡ 1408) where
      rows_are : h.rows ≡ table_sent (contents_in s)
      unfolding contents_in
      rows_are =
          let p = frames k.known k.eleven in
          ap (λ (x : Sheet). x.rows) k.known.reads.gathers
          ∙ table-gathered f (contents_in s) all_send old (length-map (pieces s) _ ∙ p.1) (sym told ∙ once) long

      pub rows_fall : rises_then_stays h.rows ≡ false → file_number s ≡ 20
      rows_fall e = rows_is_20 s frames_pass passed_18 (sym told ∙ once) (rw (← rows_are) e)

      pub rows_rise : rises_then_stays h.rows ≡ true → file_number s ≡ 0
      rows_rise e = all_pass_0 s (frames_pass, (passed_18, (sym told ∙ once, (rw (← rows_are) e, tt))))
