-- What the code gathers from the frames of a file is what the checks ask: whether all are for one table, whether each part is there once, and if both, the
-- table that they send. Assumes nothing.
use mathlib.Core.Path.{◌≡◌, refl, sym, ap, ◌∙◌}
use mathlib.Core.Logic.{◌≢◌, ◌⊎◌, inl, inr}
use mathlib.Core.List.{List, [], ◌∷◌}
use mathlib.Core.Bool.{Bool, true, false, ◌&&◌, and-true, and-false}
use Prim.Native.Nat.{ℕ, ◌-◌, ◌*◌, ◌≤◌}
use native.Mathlib.Decide.{ℕ_discrete}
use native.Mathlib.Omega.{arith}
use lib.ListN.{length, take, drop, length-drop, length-map}
use lib.Seq.{take_all}
use lib.Dec.{eqb}
use borrow.Author.Tests.{eqb-true, eqb-false, eq-eqb, ne_eqb, not-true}
use Rattle.laws.specs.Bytes.{lay, zeros}
use Rattle.laws.specs.Bits.{with_bit}
use Rattle.laws.specs.Checks.{within, all, among, distinct}
use Rattle.laws.proofs.Tests.{never, and_both, or_either, neither, within_is}
use Rattle.laws.proofs.Bytes.{In, length-lay, lay_out, slice-lay, slice-same, length-zeros}
use Rattle.rules.specs.Rules.{byte}
use Rattle.survey.specs.declared.first.First.{First}
use Rattle.survey.specs.declared.sheet.Sheet.{Sheet}
use Rattle.survey.specs.File.{sends, parts_in, contents_with, each_once, table_sent}
use Rattle.survey.specs.Gather.{is_new, strange, repeated, counted, blank, added, gathered}
use Rattle.survey.proofs.Frames.{sent_is, parts_ask}
use Rattle.survey.proofs.PartNumbers.{all_new, new_once, each_is_there}
use Rattle.survey.proofs.Tables.{part_of, PartByPart, part_by_part}

-- ---- the parts laid one after the other, in the file's order

unfoldable laid : List ℕ → List (List ℕ) → List ℕ
laid r [] = r
laid r (c ∷ cs) = laid (lay r (128 * (byte c 4 - 1)) (drop 4 c)) cs

length-laid : (r : List ℕ) (cs : List (List ℕ)) → length (laid r cs) ≡ length r
unfolding laid
length-laid r [] = refl
length-laid r (c ∷ cs) = length-laid (lay r (128 * (byte c 4 - 1)) (drop 4 c)) cs ∙ length-lay r (128 * (byte c 4 - 1)) (drop 4 c)

-- all are whole parts, from 1 to 11
record WholeParts (a t : ℕ) (cs : List (List ℕ)) : Type 0 where
  whole : all (sends a t) cs ≡ true
  inside : all (within 1 11) (parts_in cs) ≡ true

module _ (a t : ℕ) where
  module _ (c : List ℕ) (cs : List (List ℕ)) (h : WholeParts a t (c ∷ cs)) where
    first_long : length (drop 4 c) ≡ 128
    unfolding all
    first_long = omega (arith, length-drop 4 c, (sent_is a t c (and_both _ _ h.whole).0).long)

    first_inside : (1 ≤ byte c 4) × (byte c 4 ≤ 11)
    unfolding all parts_in
    first_inside = within_is 1 11 (byte c 4) (and_both _ _ h.inside).0

    others : WholeParts a t cs
    unfolding all parts_in
    others =
        record {
          whole = (and_both (sends a t c) (all (sends a t) cs) h.whole).1;
          inside = (and_both (within 1 11 (byte c 4)) (all (within 1 11) (parts_in cs)) h.inside).1;
        }

    -- the first lies in its own part
    own : (r : List ℕ) → length r ≡ 1408 → part_of (byte c 4) (lay r (128 * (byte c 4 - 1)) (drop 4 c)) ≡ drop 4 c
    own r long =
        slice-lay r (128 * (byte c 4 - 1)) 128 (drop 4 c) (omega (arith, first_long)) (omega (arith, first_long, first_inside))
        ∙ take_all 128 (drop 4 c) (omega (arith, first_long))

    -- and in no other
    other : (r : List ℕ) (p : ℕ) → 1 ≤ p → p ≢ byte c 4 → part_of p (lay r (128 * (byte c 4 - 1)) (drop 4 c)) ≡ part_of p r
    other r p l n =
        slice-same _ r (128 * (p - 1)) 128 (length-lay r (128 * (byte c 4 - 1)) (drop 4 c))
        (λ i here. lay_out r (128 * (byte c 4 - 1)) (drop 4 c) i (λ there. n (same i here (rw first_long at there))))
      where
        same : (i : ℕ) → In (128 * (p - 1)) 128 i → In (128 * (byte c 4 - 1)) 128 i → p ≡ byte c 4
        same i (x, y) (z, w) = omega (arith, first_inside)

  -- a part that is not among them stays
  laid_stays : (r : List ℕ) (cs : List (List ℕ)) → WholeParts a t cs → (p : ℕ) → 1 ≤ p → among p (parts_in cs) ≡ false → part_of p (laid r cs) ≡ part_of p r
  unfolding laid parts_in among
  laid_stays r [] h p l n = refl
  laid_stays r (c ∷ cs) h p l n =
      let q = neither (eqb p (byte c 4)) (among p (parts_in cs)) n in
      laid_stays (lay r (128 * (byte c 4 - 1)) (drop 4 c)) cs (others c cs h) p l q.1 ∙ other c cs h r p l (eqb-false p (byte c 4) q.0)

  -- one that is among them once has what was sent for it
  laid_holds : (r : List ℕ) → length r ≡ 1408 → (cs : List (List ℕ)) → WholeParts a t cs → distinct (parts_in cs) ≡ true
      → (p : ℕ) → 1 ≤ p → among p (parts_in cs) ≡ true → part_of p (laid r cs) ≡ drop 4 (contents_with p cs)
  unfolding laid parts_in among distinct contents_with
  laid_holds r long [] h d p l i = absurd (never i)
  laid_holds r long (c ∷ cs) h d p l i =
      let q = and_both _ _ d in
      go (ℕ_discrete p (byte c 4)) (not-true _ q.0)
      (λ m. laid_holds (lay r (128 * (byte c 4 - 1)) (drop 4 c)) (length-lay r (128 * (byte c 4 - 1)) (drop 4 c) ∙ long) cs (others c cs h) q.1 p l m)
    where
      r' : List ℕ
      r' = lay r (128 * (byte c 4 - 1)) (drop 4 c)

      go : Dec (p ≡ byte c 4) → among (byte c 4) (parts_in cs) ≡ false
          → (among p (parts_in cs) ≡ true → part_of p (laid r' cs) ≡ drop 4 (contents_with p cs)) → part_of p (laid r' cs) ≡ drop 4 (contents_with p (c ∷ cs))
      go (yes e) none ih =
          rw (eq-eqb (byte c 4) p (sym e)) (laid_stays r' cs (others c cs h) p l (rw e none) ∙ rw e (own c cs h r long))
      go (no n) none ih =
          rw (ne_eqb (byte c 4) p (λ e. n (sym e)))
          (ih (later (or_either (eqb p (byte c 4)) (among p (parts_in cs)) i)))
        where
          later : (eqb p (byte c 4) ≡ true) ⊎ (among p (parts_in cs) ≡ true) → among p (parts_in cs) ≡ true
          later (inl e) = absurd (n (eqb-true p (byte c 4) e))
          later (inr m) = m

  -- ---- of a whole file

  module _ (cs : List (List ℕ)) (h : all (sends a t) cs ≡ true) (eleven : length cs ≡ 11) (once : each_once (parts_in cs) ≡ true) where
    module _ (r : List ℕ) (long : length r ≡ 1408) where
      laid-parts : PartByPart (laid r cs) cs
      unfolding parts_in
      laid-parts p a b =
          let q = parts_ask (parts_in cs) once in
          laid_holds r long cs (record { whole = h; inside = q.0 }) q.1 p a (each_is_there (parts_in cs) (length-map cs _ ∙ eleven) once p a b)

      laid_table : laid r cs ≡ table_sent cs
      laid_table = part_by_part (laid r cs) cs laid-parts (length-laid r cs ∙ long)

    -- each part of it is that of the file
    pub sent_by_part : PartByPart (table_sent cs) cs
    sent_by_part p a b =
        let r = zeros 1408 in
        let long = length-zeros 1408 in
        ap (part_of p) (sym (laid_table r long)) ∙ laid-parts r long p a b

-- ---- what a frame more adds

abbrev all_sent : Sheet → List (List ℕ) → Bool
all_sent h cs = all (sends h.first.address h.first.table) cs

module _ (h : Sheet) (c : List ℕ) where
  pub strange-added : sends h.first.address h.first.table c ≡ false → added h c ≡ strange h
  unfolding added
  strange-added s = rw s

  module _ (s : sends h.first.address h.first.table c ≡ true) where
    pub repeated-added : is_new h.parts (byte c 4) ≡ false → added h c ≡ repeated h
    unfolding added
    repeated-added n = rw (s, n)

    new-added : is_new h.parts (byte c 4) ≡ true → added h c ≡ counted h c
    unfolding added
    new-added n = rw (s, n)

    -- as code leaves it
    pub new-laid : (rows : List ℕ) (parts : ℕ) → is_new h.parts (byte c 4) ≡ true
        → parts ≡ with_bit h.parts (byte c 4 - 1) → rows ≡ lay h.rows (128 * (byte c 4 - 1)) (take (length c - 4) (drop 4 c))
        → record { first = h.first; one = h.one; once = h.once; parts = parts; rows = rows } ≡ added h c
    new-laid rows parts n w r = rw (w, r, take_all (length c - 4) (drop 4 c) (omega (arith, length-drop 4 c))) (sym (new-added n))

  -- the address and the table stay the first frame's
  same_first : (added h c).first ≡ h.first
  unfolding added
  same_first = go (sends h.first.address h.first.table c) (is_new h.parts (byte c 4)) refl refl
    where
      go : (b n : Bool) → sends h.first.address h.first.table c ≡ b → is_new h.parts (byte c 4) ≡ n → (added h c).first ≡ h.first
      go true true e f = rw (e, f)
      go true false e f = rw (e, f)
      go false n e f = rw e

pub one_is : (h : Sheet) (cs : List (List ℕ)) → (gathered h cs).one ≡ (h.one && all_sent h cs)
unfolding gathered all added
one_is h [] = sym (and-true h.one)
one_is h (c ∷ cs) = one_is (added h c) cs ∙ rw (same_first h c) (go (sends h.first.address h.first.table c) (is_new h.parts (byte c 4)) refl refl)
  where
    go : (b n : Bool) → sends h.first.address h.first.table c ≡ b → is_new h.parts (byte c 4) ≡ n
        → ((added h c).one && all_sent h cs) ≡ (h.one && (sends h.first.address h.first.table c && all_sent h cs))
    go true true e f = rw (e, f)
    go true false e f = rw (e, f)
    go false n e f = rw (e, and-false)

once_is : (h : Sheet) (cs : List (List ℕ)) → all_sent h cs ≡ true → (gathered h cs).once ≡ (h.once && all_new h.parts (parts_in cs))
unfolding gathered all added all_new parts_in
once_is h [] s = sym (and-true h.once)
once_is h (c ∷ cs) s =
    let p = and_both _ _ s in
    once_is (added h c) cs (rw (same_first h c) p.1) ∙ go (is_new h.parts (byte c 4)) p.0 refl
  where
    go : (n : Bool) → sends h.first.address h.first.table c ≡ true → is_new h.parts (byte c 4) ≡ n
        → ((added h c).once && all_new (added h c).parts (parts_in cs))
        ≡ (h.once && (is_new h.parts (byte c 4) && all_new (with_bit h.parts (byte c 4 - 1)) (parts_in cs)))
    go true e f = rw (e, f)
    go false e f = rw (e, f, and-false)

rows_are : (h : Sheet) (cs : List (List ℕ)) → all_sent h cs ≡ true → all_new h.parts (parts_in cs) ≡ true → (gathered h cs).rows ≡ laid h.rows cs
unfolding gathered all all_new parts_in laid
rows_are h [] s n = refl
rows_are h (c ∷ cs) s n =
    let p = and_both (sends h.first.address h.first.table c) (all_sent h cs) s in
    let q = and_both (is_new h.parts (byte c 4)) (all_new (with_bit h.parts (byte c 4 - 1)) (parts_in cs)) n in
    ap (λ (x : Sheet). (gathered x cs).rows) (new-added h c p.0 q.0) ∙ rows_are (counted h c) cs p.1 q.1

-- ---- what is gathered of it, whatever the room held

module _ (f : First) (cs : List (List ℕ)) (s : all (sends f.address f.table) cs ≡ true) (r : List ℕ) where
  pub once_tells : (gathered (blank f r) cs).once ≡ each_once (parts_in cs)
  once_tells = once_is (blank f r) cs s ∙ new_once (parts_in cs)

  pub table-gathered : length cs ≡ 11 → each_once (parts_in cs) ≡ true → length r ≡ 1408 → (gathered (blank f r) cs).rows ≡ table_sent cs
  table-gathered eleven once long =
      rows_are (blank f r) cs s (new_once (parts_in cs) ∙ once) ∙ laid_table f.address f.table cs s eleven once r long
