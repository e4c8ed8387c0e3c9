-- The frames of a file one by one: the frame at a place is what the description says it is, and in an accepted file a part's contents are those of the one
-- frame that has its number. Assumes nothing.
use mathlib.Core.Path.{◌≡◌, refl, sym, ap, ◌∙◌}
use mathlib.Core.Logic.{◌≢◌}
use mathlib.Core.List.{List, [], ◌∷◌, map}
use mathlib.Core.Bool.{Bool, true, false, not, ◌&&◌}
use Prim.Native.Nat.{ℕ, zero, suc, ◌≤◌, ◌<◌}
use native.Mathlib.Omega.{arith}
use lib.ListN.{length, get_or, length-map, get_or-map}
use lib.Dec.{leb, eqb}
use borrow.Author.Tests.{leb-true, eqb-true, eqb-false, eq-eqb, not-true}
use Rattle.laws.specs.Bytes.{slice}
use Rattle.laws.specs.Checks.{within, all, among, distinct}
use Rattle.laws.proofs.Tests.{never, and_both, among_of}
use Rattle.text.specs.Cut.{pieces}
use Rattle.frame.specs.Digits.{bytes_of}
use Rattle.frame.specs.Apart.{inner, body_of, contents_of}
use Rattle.image.specs.Cell.{is_table}
use Rattle.rules.specs.Rules.{byte}
use Rattle.survey.specs.File.{is_frame, contents_in, address_in, table_in, sends, parts_in, contents_with, eleven_frames, is_one_table, each_once}
use Rattle.survey.specs.Described.{contents_at, address_at, table_at, part_at}

-- ---- contents that send a part of a table

pub record Sent (a t : ℕ) (c : List ℕ) : Type 0 where
  pub long : length c ≡ 132
  pub command : byte c 2 ≡ 59
  pub address_is : byte c 1 ≡ a
  pub table_is : byte c 3 ≡ t

module _ (a t : ℕ) (c : List ℕ) where
  pub sent_is : sends a t c ≡ true → Sent a t c
  unfolding sends
  sent_is h =
      let p = and_both _ _ h in
      let q = and_both _ _ p.1 in
      let r = and_both _ _ q.1 in
      record { long = eqb-true _ _ p.0; command = eqb-true _ _ q.0; address_is = eqb-true _ _ r.0; table_is = eqb-true _ _ r.1 }

  pub sent_if : Sent a t c → sends a t c ≡ true
  unfolding sends
  sent_if h = rw (eq-eqb _ _ h.long, eq-eqb _ _ h.command, eq-eqb _ _ h.address_is, eq-eqb _ _ h.table_is)

-- ---- what each check asks

pub frames_ask : (s : List ℕ) → eleven_frames s ≡ true → (length s ≤ 4096) × (length (pieces s) ≡ 11) × (all is_frame (pieces s) ≡ true)
unfolding eleven_frames
frames_ask s h =
    let p = and_both (leb (length s) 4096) (eqb (length (pieces s)) 11 && all is_frame (pieces s)) h in
    let q = and_both (eqb (length (pieces s)) 11) (all is_frame (pieces s)) p.1 in
    (leb-true _ _ p.0, eqb-true _ _ q.0, q.1)

pub table_asks : (cs : List (List ℕ)) → is_one_table cs ≡ true
    → (address_in cs ≢ 0) × (is_table (table_in cs) ≡ true) × (all (sends (address_in cs) (table_in cs)) cs ≡ true)
unfolding is_one_table
table_asks cs h =
    let p = and_both (not (eqb (address_in cs) 0)) (is_table (table_in cs) && all (sends (address_in cs) (table_in cs)) cs) h in
    let q = and_both (is_table (table_in cs)) (all (sends (address_in cs) (table_in cs)) cs) p.1 in
    (eqb-false _ _ (not-true _ p.0), q.0, q.1)

pub parts_ask : (ps : List ℕ) → each_once ps ≡ true → (all (within 1 11) ps ≡ true) × (distinct ps ≡ true)
unfolding each_once
parts_ask ps h = and_both (all (within 1 11) ps) (distinct ps) h

-- ---- by their places

contents_none : contents_of [] ≡ []
unfolding contents_of body_of inner bytes_of slice
contents_none = refl

module _ (s : List ℕ) where
  pub contents_at_lem : (k : ℕ) → get_or (contents_in s) k [] ≡ contents_at s k
  unfolding contents_in
  contents_at_lem k = ap (λ (d : List ℕ). get_or (map contents_of (pieces s)) k d) (sym contents_none) ∙ get_or-map contents_of (pieces s) k []

  pub contents_many : length (contents_in s) ≡ length (pieces s)
  unfolding contents_in
  contents_many = length-map (pieces s) contents_of

  pub address_at_lem : address_in (contents_in s) ≡ address_at s 0
  unfolding address_in
  address_at_lem = ap (λ (c : List ℕ). byte c 1) (contents_at_lem 0)

  pub table_at_lem : table_in (contents_in s) ≡ table_at s 0
  unfolding table_in
  table_at_lem = ap (λ (c : List ℕ). byte c 3) (contents_at_lem 0)

  pub part_at_lem : (k : ℕ) → get_or (parts_in (contents_in s)) k 0 ≡ part_at s k
  unfolding parts_in
  part_at_lem k = get_or-map (λ (c : List ℕ). byte c 4) (contents_in s) k [] ∙ ap (λ (c : List ℕ). byte c 4) (contents_at_lem k)

  pub parts_many : length (parts_in (contents_in s)) ≡ length (pieces s)
  unfolding parts_in
  parts_many = length-map (contents_in s) _ ∙ contents_many

-- where no part is there twice, the contents that have a part's number are those of the frame that has it
pub contents_with_lem : (cs : List (List ℕ)) → distinct (parts_in cs) ≡ true → (k : ℕ) → k < length cs → contents_with (byte (get_or cs k []) 4) cs ≡ get_or cs k []
unfolding distinct parts_in contents_with
contents_with_lem [] d k l = absurd (omega arith)
contents_with_lem (c ∷ cs) d zero l = rw (eq-eqb (byte c 4) (byte c 4) refl)
contents_with_lem (c ∷ cs) d (suc k) l =
    let p = and_both _ _ d in
    go (eqb (byte c 4) (byte (get_or cs k []) 4)) refl (not-true _ p.0) (contents_with_lem cs p.1 k (omega arith))
  where
    there : among (byte (get_or cs k []) 4) (parts_in cs) ≡ true
    there =
        let e = get_or-map (λ (c : List ℕ). byte c 4) cs k [] in
        rw e at (among_of (parts_in cs) k (rw (length-map cs (λ (c : List ℕ). byte c 4)) (omega arith)))

    go : (b : Bool) → eqb (byte c 4) (byte (get_or cs k []) 4) ≡ b → among (byte c 4) (parts_in cs) ≡ false
        → contents_with (byte (get_or cs k []) 4) cs ≡ get_or cs k [] → contents_with (byte (get_or cs k []) 4) (c ∷ cs) ≡ get_or cs k []
    go true e none ih = let f : byte c 4 ≡ byte (get_or cs k []) 4 = eqb-true _ _ e in absurd (never (sym none ∙ rw f there))
    go false e none ih = rw e ih
