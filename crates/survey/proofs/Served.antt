-- The frames of an accepted file at a usable block of its address, unsealed: each is accepted as a write of its part, so that after all of them, in any order
-- and with repeats, the block holds the table that the file sends. For every version of the image. Assumes nothing.
use mathlib.Core.Path.{◌≡◌, refl, sym, ap, ◌∙◌}
use mathlib.Core.Logic.{◌⊎◌, inl, inr}
use mathlib.Core.List.Memᴰ
use mathlib.Core.List.{List, [], ◌∷◌, Memᴰ}
use mathlib.Core.Bool.{true}
use Prim.Native.Nat.{ℕ, ◌+◌, ◌-◌, ◌*◌, ◌≤◌, ◌<◌}
use native.Mathlib.Omega.{arith}
use lib.ListN.{length, get_or, drop}
use borrow.Author.Tests.{eq-eqb}
use Rattle.laws.specs.Bits.{bit}
use Rattle.laws.specs.Checks.{judged, AllPass}
use Rattle.laws.proofs.Tests.{within_in}
use Rattle.laws.proofs.Checks.{judged_passed}
use Rattle.laws.proofs.Bytes.{length-slice}
use Rattle.reorder.specs.Reorder.{outcomes, final}
use Rattle.frame.specs.Apart.{contents_of, frame_checks}
use Rattle.image.specs.declared.cell.Cell.TheVariants.{Part}
use Rattle.image.specs.declared.version.Version.{Version}
use Rattle.image.specs.Cell.{offset, when, is_table, table_index, part_named}
use Rattle.image.specs.Words.{table_word}
use Rattle.image.proofs.Indices.{index_below}
use Rattle.image.proofs.UsableFacts.{facts, least_length}
use Rattle.rules.specs.declared.rule.Act.TheVariants.{Store}
use Rattle.rules.specs.declared.switch.Switch.TheVariants.{Unsealed}
use Rattle.rules.specs.Order.{Accepted}
use Rattle.rules.specs.Rules.{byte, commands, rule_of}
use Rattle.rules.specs.Seal.{lets}
use Rattle.rules.specs.Verdict.{tried, sought, recognised}
use Rattle.command.specs.Uses.{uses, use_of}
use Rattle.izk.specs.Heard.{heard}
use Rattle.izk.proofs.Hearing.{heard_lawful}
use Rattle.order.specs.Serving.{Call, nothing, step, Good}
use Rattle.order.proofs.Demand3.{stays}
use Rattle.order.proofs.Repeats.{number_of, number_at}
use Rattle.repeats.specs.Written.{Wrote, UnwrittenCall, LastCall}
use Rattle.repeats.proofs.Written.{Holds}
use Rattle.repeats.proofs.Last.{last_call_holds, unwritten_or_last_call}
use Rattle.repeats.proofs.Numbers.{holds_part}
use Rattle.tables.specs.Quantity.{table_bytes, whole}
use Rattle.tables.proofs.Promises.{whole_if}
use Rattle.tables.proofs.Sent.{part_of_table}
use Rattle.survey.specs.File.{contents_in, address_in, table_in, contents_with, table_sent, file_number}
use Rattle.survey.specs.Described.{frame_at, contents_at, part_at}
use Rattle.survey.specs.Sending.{Sends}
use Rattle.survey.proofs.Tables.{PartByPart, part_by_part}
use Rattle.survey.proofs.Frames.{Sent}
use Rattle.survey.proofs.Accepted.{frame_passes, frame_sends, table_one, part-inside, part-there, contents_there}

-- ---- one frame

module _ (a t : ℕ) (f : List ℕ) (sent : Sent a t (contents_of f)) (table : is_table t ≡ true)
    (low : 1 ≤ byte (contents_of f) 4) (high : byte (contents_of f) 4 ≤ 11) where
  abbrev c : List ℕ
  c = contents_of f

  recognised-part : recognised Unsealed a c ≡ Accepted 2 (Store 4) (Part (table_index t) (byte c 4 - 1))
  unfolding recognised sought tried judged rule_of commands lets part_named when
  recognised-part =
      let long = eq-eqb (length c + 1) 133 (omega (arith, sent.long)) in
      rw (sent.command, eq-eqb (byte c 1) a sent.address_is, sent.table_is, table, within_in 1 11 (byte c 4) low high, long)

  heard-part : AllPass (frame_checks f) → heard Unsealed a f ≡ Accepted 2 (Store 4) (Part (table_index t) (byte c 4 - 1))
  unfolding heard
  heard-part p = judged_passed _ (frame_checks f) _ p ∙ recognised-part

  -- the cell that it writes is that part's
  writes_own : (p n : ℕ) → 1 ≤ p → Wrote (Part (table_index t) (p - 1)) f n → byte c 4 ≡ p
  unfolding use_of uses
  writes_own p n l w = go (Memᴰ.cases_cons (rw (sent.command, sent.table_is) at w.names))
    where
      go : (Part (table_index t) (p - 1) ≡ Part (table_index t) (byte c 4 - 1)) ⊎ Memᴰ (Part (table_index t) (p - 1)) [] → byte c 4 ≡ p
      go (inl e) = omega (arith, ap offset e)
      go (inr m) = absurd (Memᴰ.not-nil m)

-- ---- all of them

module _ (s : List ℕ) (z : file_number s ≡ 0) (v : Version) (m : List ℕ) (good : Good v (address_in (contents_in s)) m) (xs : List Call) (all : Sends s xs) where
  abbrev cs : List (List ℕ)
  cs = contents_in s

  abbrev t : ℕ
  t = table_in cs

  abbrev after : List ℕ
  after = final (step (heard Unsealed) v) m xs

  -- every call is served
  pub each_served : (i : ℕ) → i < length xs → (get_or (outcomes (step (heard Unsealed) v) m xs) i (0, [])).0 ≡ 0
  each_served i l =
      let (k, j, e) = all.only i l in
      let (low, high) = part-inside s z k j in
      let h = heard-part (address_in cs) t (frame_at s k) (frame_sends s z k j) (table_one s z) low high (frame_passes s z k j) in
      number_at (heard Unsealed) (heard_lawful Unsealed) v (address_in cs) xs m good i l ∙ rw e (ap number_of h)

  -- the last call that wrote a part sent the file's own
  part_holds : (p : ℕ) → 1 ≤ p → p ≤ 11 → (k : ℕ) × (k < 11) × (part_at s k ≡ p) × Holds (Part (table_index t) (p - 1)) (frame_at s k) after
  unfolding use_of uses
  part_holds p a b = go (unwritten_or_last_call (heard Unsealed) (heard_lawful Unsealed) v (Part (table_index t) (p - 1)) m xs)
    where
      wrote : (k i : ℕ) → k < 11 → part_at s k ≡ p → i < length xs → (get_or xs i nothing).frame ≡ frame_at s k
          → Wrote (Part (table_index t) (p - 1)) (get_or xs i nothing).frame (get_or (outcomes (step (heard Unsealed) v) m xs) i (0, [])).0
      wrote k i j h l e =
          let c = frame_sends s z k j in
          record { done_is = each_served i l; names = rw (e, c.command, c.table_is, h) (Memᴰ.head refl) }

      go : UnwrittenCall (heard Unsealed) v (Part (table_index t) (p - 1)) m xs ⊎ ((i : ℕ) × LastCall (heard Unsealed) v (Part (table_index t) (p - 1)) m xs i)
          → (k : ℕ) × (k < 11) × (part_at s k ≡ p) × Holds (Part (table_index t) (p - 1)) (frame_at s k) after
      go (inl none) =
          let (k, j, h) = part-there s z p a b in
          let (i, l, e) = all.each k j in
          absurd (none i l (wrote k i j h l e))
      go (inr (i, last)) =
          let (k, j, e) = all.only i last.inside in
          let (low, high) = part-inside s z k j in
          let own = writes_own (address_in cs) t (frame_at s k) (frame_sends s z k j) (table_one s z) low high p _ a (rw e at last.wrote) in
          (k, j, own, rw e at (last_call_holds (heard Unsealed) (heard_lawful Unsealed) v (Part (table_index t) (p - 1)) m xs i last))

  -- ---- the table is then the file's

  pub after_good : Good v (address_in cs) after
  after_good = go xs m good
    where
      go : (xs : List Call) (m : List ℕ) → Good v (address_in cs) m → Good v (address_in cs) (final (step (heard Unsealed) v) m xs)
      go [] m g = g
      go (x ∷ xs) m g = go xs _ (stays (heard Unsealed) (heard_lawful Unsealed) v (address_in cs) m x g)

  part-sent : PartByPart (table_bytes after t) cs
  part-sent p a b =
      let (k, j, own, holds) = part_holds p a b in
      let e : contents_at s k ≡ contents_with p cs = sym (contents_there s z k j) ∙ ap (λ (q : ℕ). contents_with q cs) own in
      part_of_table after t p (omega arith) ∙ (holds_part (frame_at s k) after t p holds).0 ∙ ap (drop 4) e

  table_long : length (table_bytes after t) ≡ 1408
  unfolding table_bytes
  table_long =
      length-slice (1225 + 1408 * table_index t) 1408 after
      (omega (arith, index_below t (table_one s z), (facts v after after_good.0).long_is, least_length v))

  pub table_loaded : table_bytes after t ≡ table_sent cs
  table_loaded = part_by_part (table_bytes after t) cs part-sent table_long

  -- with all its bits
  pub bits-set : (k : ℕ) → k < 11 → bit (table_word after (table_index t)) k ≡ 1
  unfolding table_word
  bits-set k l =
      let (i, j, own, holds) = part_holds (k + 1) (omega arith) (omega arith) in
      let e : k + 1 - 1 ≡ k = omega arith in
      rw e at (holds_part (frame_at s i) after t (k + 1) holds).2

  pub whole_loaded : whole after t ≡ true
  whole_loaded = whole_if after t bits-set
