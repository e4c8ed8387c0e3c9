-- A file is given 0 exactly where it is as a surveyor would describe it, and each other number exactly where its part of the description is the first that
-- fails. Assumes nothing.
use mathlib.Core.Path.{◌≡◌, refl, sym, ap, subst, ◌∙◌}
use mathlib.Core.Logic.{◌↔◌}
use mathlib.Core.List.{List, []}
use mathlib.Core.Bool.{Bool, true, false}
use Prim.Native.Nat.{ℕ, ◌+◌, ◌/◌, ◌%◌, ◌≤◌, ◌<◌}
use native.Mathlib.Omega.{arith}
use lib.ListN.{length, get_or, drop}
use borrow.Author.Tests.{le-leb, eq-eqb, ne_eqb}
use Rattle.laws.specs.Checks.{within}
use Rattle.laws.proofs.Tests.{never, fails, within_is, within_in, all_at, all_by, among_is, distinct_is, distinct_if}
use Rattle.laws.proofs.Checks.{all_pass_is, all_pass_if}
use Rattle.text.specs.Cut.{pieces}
use Rattle.tables.specs.Rows.{level, volume}
use Rattle.tables.proofs.Sent.{row_of, part-rows}
use Rattle.survey.specs.Rows.{rises_then_stays}
use Rattle.survey.specs.File.{is_frame, contents_in, address_in, table_in, sends, parts_in, contents_with, table_sent}
use Rattle.survey.specs.File.{eleven_frames, is_one_table, each_once, file_number}
use Rattle.survey.specs.Described.{contents_at, table_at, part_at, Frames, OneTable, Parts, Row, Rows, Described}
use Rattle.survey.specs.Described.{Says, no_frames, no_table, no_parts, no_rows, none}
use Rattle.survey.proofs.Rising.{top_is, top_if}
use Rattle.survey.proofs.PartNumbers.{each_is_there}
use Rattle.survey.proofs.Tables.{part_of}
use Rattle.survey.proofs.Gathering.{sent_by_part}
use Rattle.survey.proofs.Frames.{Sent, sent_is, sent_if, frames_ask, table_asks, parts_ask, contents_at_lem, contents_many, address_at_lem, table_at_lem, part_at_lem}
use Rattle.survey.proofs.Frames.{parts_many, contents_with_lem}
use Rattle.survey.proofs.Refusals.{no_frames_is_17, strange_is_18, parts_is_19, rows_is_20, all_pass_0}

module _ (s : List ℕ) where
  abbrev cs : List (List ℕ)
  cs = contents_in s

  abbrev table : List ℕ
  table = table_sent cs

  -- ---- the frames

  frames_is : eleven_frames s ≡ true → Frames s
  unfolding is_frame
  frames_is h =
      let (short, e, good) = frames_ask s h in
      record { short = short; eleven = e; good = λ k l. all_pass_is _ (all_at is_frame (pieces s) [] good k (omega arith)) }

  frames_if : Frames s → eleven_frames s ≡ true
  unfolding eleven_frames is_frame
  frames_if f =
      let e = f.eleven in
      rw (le-leb _ _ f.short, eq-eqb _ _ e) (all_by is_frame (pieces s) [] (λ k l. all_pass_if _ (f.good k (omega arith))))

  module _ (frames : Frames s) where
    -- ---- the table

    many : length cs ≡ 11
    many = contents_many s ∙ frames.eleven

    pub sent_at : is_one_table cs ≡ true → (k : ℕ) → k < 11 → Sent (address_in cs) (table_in cs) (contents_at s k)
    sent_at h k l =
        sent_is _ _ _ (rw (contents_at_lem s k) at (all_at (sends (address_in cs) (table_in cs)) cs [] (table_asks cs h).2 k (omega (arith, many))))

    one_is : is_one_table cs ≡ true → OneTable s
    one_is h =
        let (address, table, all) = table_asks cs h in
        record {
          address = λ e. address (address_at_lem s ∙ e);
          table = rw (table_at_lem s) at table;
          long = λ k l. (sent_at h k l).long;
          command = λ k l. (sent_at h k l).command;
          one_address = λ k l. (sent_at h k l).address_is ∙ address_at_lem s;
          one_table = λ k l. (sent_at h k l).table_is ∙ table_at_lem s;
        }

    one_if : OneTable s → is_one_table cs ≡ true
    unfolding is_one_table
    one_if o =
        rw (ne_eqb (address_in cs) 0 (λ e. o.address (sym (address_at_lem s) ∙ e)), table_at_lem s, o.table)
        (all_by (sends (address_in cs) (table_at s 0)) cs [] (λ k l. rw (contents_at_lem s k) (sent k (omega (arith, many)))))
      where
        sent : (k : ℕ) → k < 11 → sends (address_in cs) (table_at s 0) (contents_at s k) ≡ true
        sent k l =
            sent_if _ _ _ (record {
              long = o.long k l;
              command = o.command k l;
              address_is = o.one_address k l ∙ sym (address_at_lem s);
              table_is = o.one_table k l;
            })

    -- ---- the parts

    numbers : length (parts_in cs) ≡ 11
    numbers = parts_many s ∙ frames.eleven

    parts_is : each_once (parts_in cs) ≡ true → Parts s
    parts_is h =
        let p = parts_ask (parts_in cs) h in
        record {
          inside = λ k l. within_is 1 11 _ (rw (part_at_lem s k) at (all_at (within 1 11) (parts_in cs) 0 p.0 k (omega (arith, numbers))));
          once = λ j k l m e. distinct_is (parts_in cs) p.1 j k l (omega (arith, numbers)) (part_at_lem s j ∙ e ∙ sym (part_at_lem s k));
        }

    parts_if : Parts s → each_once (parts_in cs) ≡ true
    unfolding each_once
    parts_if p =
        rw (all_by (within 1 11) (parts_in cs) 0 inside)
        (distinct_if (parts_in cs) (λ j k l m e. p.once j k l (omega (arith, numbers)) (sym (part_at_lem s j) ∙ e ∙ part_at_lem s k)))
      where
        inside : (k : ℕ) → k < length (parts_in cs) → within 1 11 (get_or (parts_in cs) k 0) ≡ true
        inside k l = let q = p.inside k (omega (arith, numbers)) in rw (part_at_lem s k) (within_in 1 11 _ q.0 q.1)

    -- each of the eleven is there
    pub each_part : Parts s → (p : ℕ) → 1 ≤ p → p ≤ 11 → (k : ℕ) × (k < 11) × (part_at s k ≡ p)
    each_part parts p a b =
        let (k, l, e) = among_is p (parts_in cs) (each_is_there (parts_in cs) numbers (parts_if parts) p a b) in
        (k, omega (arith, numbers), sym (part_at_lem s k) ∙ e)

    -- its contents are those that have its number
    pub contents_of_part : each_once (parts_in cs) ≡ true → (k : ℕ) → k < 11 → contents_with (part_at s k) cs ≡ contents_at s k
    contents_of_part once k l = rw (contents_at_lem s k) at (contents_with_lem cs (parts_ask (parts_in cs) once).1 k (omega (arith, many)))

    -- ---- the rows

    module _ (one : is_one_table cs ≡ true) (once : each_once (parts_in cs) ≡ true) where
      part_is : (k : ℕ) → k < 11 → part_of (part_at s k) table ≡ drop 4 (contents_at s k)
      part_is k l =
          let i = (parts_is once).inside k l in
          sent_by_part (address_in cs) (table_in cs) cs (table_asks cs one).2 many once (part_at s k) i.0 i.1
          ∙ ap (drop 4) (contents_of_part once k l)

      -- a row of the table is the row that the description means
      row_is : {r l v : ℕ} → Row s r l v → (level table r ≡ l) × (volume table r ≡ v)
      row_is {r} row =
          let p = part-rows table (part_at s row.frame) (contents_at s row.frame) (part_is row.frame row.inside) (r % 32) (omega arith) in
          let e : row_of (part_at s row.frame) (r % 32) ≡ r = omega (arith, row.part) in
          ((rw e at p.0) ∙ sym row.level_is, (rw e at p.1) ∙ sym row.volume_is)

      -- and there is one
      row-there : (r : ℕ) → r ≤ 351 → Row s r (level table r) (volume table r)
      row-there r l =
          let (k, j, f) = each_part (parts_is once) (r / 32 + 1) (omega arith) (omega arith) in
          let p = part-rows table (part_at s k) (contents_at s k) (part_is k j) (r % 32) (omega arith) in
          let g : row_of (part_at s k) (r % 32) ≡ r = omega arith in
          record { frame = k; inside = j; part = f; level_is = rw g at p.0; volume_is = rw g at p.1 }

      rows_is : rises_then_stays table ≡ true → Rows s
      rows_is h =
          let (n, top) = top_is table h in
          record {
            last = n;
            inside = top.most;
            rising = λ r l v l' v' a x y. (
              omega (arith, top.rising r a, row_is x, row_is y),
              omega (arith, top.rising r a, row_is x, row_is y),
            );
            staying = λ r l v l' v' a b x y. (
              sym (row_is y).0 ∙ (top.staying r a b).0 ∙ (row_is x).0,
              sym (row_is y).1 ∙ (top.staying r a b).1 ∙ (row_is x).1,
            );
          }

      rows_if : Rows s → rises_then_stays table ≡ true
      rows_if w =
          let most = w.inside in
          top_if table w.last (record {
            most = most;
            rising = λ i a. w.rising i _ _ _ _ a (row-there i (omega arith)) (row-there (i + 1) (omega arith));
            staying = λ i a b. w.staying i _ _ _ _ a b (row-there w.last most) (row-there i b);
          })

  -- each of the 352 rows is there, and as the table has it
  module _ (d : Described s) where
    one_passes : is_one_table cs ≡ true
    one_passes = one_if d.frames d.one_table

    parts_pass : each_once (parts_in cs) ≡ true
    parts_pass = parts_if d.frames d.parts

    pub each_row : (r : ℕ) → r ≤ 351 → Row s r (level table r) (volume table r)
    each_row = row-there d.frames one_passes parts_pass

    pub row_once : {r l v : ℕ} → Row s r l v → (r ≤ 351) × (level table r ≡ l) × (volume table r ≡ v)
    row_once row =
        let i = d.parts.inside row.frame row.inside in
        let (a, b) = row_is d.frames one_passes parts_pass row in
        (omega (arith, row.part), a, b)

  -- ---- what the number says

  says_if : (n : ℕ) → Says s n → file_number s ≡ n
  says_if n (no_frames h e) = no_frames_is_17 s (fails _ (λ w. h (frames_is w))) ∙ sym e
  says_if n (no_table f h e) = strange_is_18 s (frames_if f) (fails _ (λ w. h (one_is f w))) ∙ sym e
  says_if n (no_parts f o h e) = parts_is_19 s (frames_if f) (one_if f o) (fails _ (λ w. h (parts_is f w))) ∙ sym e
  says_if n (no_rows f o p h e) =
      rows_is_20 s (frames_if f) (one_if f o) (parts_if f p) (fails _ (λ w. h (rows_is f (one_if f o) (parts_if f p) w))) ∙ sym e
  says_if n (none d e) =
      let f = d.frames in
      let o = one_if f d.one_table in
      let p = parts_if f d.parts in
      all_pass_0 s (frames_if f, (o, (p, (rows_if f o p d.rows, tt)))) ∙ sym e

  says_is : Says s (file_number s)
  says_is = go₁ (eleven_frames s) refl
    where
      go₄ : (f : eleven_frames s ≡ true) (o : is_one_table cs ≡ true) (p : each_once (parts_in cs) ≡ true) (b : Bool) → rises_then_stays table ≡ b
          → Says s (file_number s)
      go₄ f o p true r =
          let g = frames_is f in
          none (record { frames = g; one_table = one_is g o; parts = parts_is g p; rows = rows_is g o p r }) (all_pass_0 s (f, (o, (p, (r, tt)))))
      go₄ f o p false r =
          let g = frames_is f in
          no_rows g (one_is g o) (parts_is g p) (λ w. never (sym r ∙ rows_if g o p w)) (rows_is_20 s f o p r)

      go₃ : (f : eleven_frames s ≡ true) (o : is_one_table cs ≡ true) (b : Bool) → each_once (parts_in cs) ≡ b → Says s (file_number s)
      go₃ f o true p = go₄ f o p (rises_then_stays table) refl
      go₃ f o false p = let g = frames_is f in no_parts g (one_is g o) (λ w. never (sym p ∙ parts_if g w)) (parts_is_19 s f o p)

      go₂ : (f : eleven_frames s ≡ true) (b : Bool) → is_one_table cs ≡ b → Says s (file_number s)
      go₂ f true o = go₃ f o (each_once (parts_in cs)) refl
      go₂ f false o = let g = frames_is f in no_table g (λ w. never (sym o ∙ one_if g w)) (strange_is_18 s f o)

      go₁ : (b : Bool) → eleven_frames s ≡ b → Says s (file_number s)
      go₁ true f = go₂ f (is_one_table cs) refl
      go₁ false f = no_frames (λ w. never (sym f ∙ frames_if w)) (no_frames_is_17 s f)

  -- a file has a number exactly where it is as the number says
  pub number_exactly : (n : ℕ) → (file_number s ≡ n) ↔ Says s n
  number_exactly n = (λ e. subst (Says s) e says_is, says_if n)

  -- so 0 is given exactly for a file as described
  pub described_exactly : (file_number s ≡ 0) ↔ Described s
  described_exactly = (λ e. go ((number_exactly 0).0 e), λ d. (number_exactly 0).1 (none d refl))
    where
      go : Says s 0 → Described s
      go (no_frames h e) = absurd (omega arith)
      go (no_table f h e) = absurd (omega arith)
      go (no_parts f o h e) = absurd (omega arith)
      go (no_rows f o p h e) = absurd (omega arith)
      go (none d e) = d
