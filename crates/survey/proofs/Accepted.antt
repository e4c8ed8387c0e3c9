-- What an accepted file is, in the shapes that sending it needs: by what the description says of it. Assumes nothing.
use mathlib.Core.Path.{◌≡◌}
use mathlib.Core.Logic.{◌≢◌}
use mathlib.Core.List.{List}
use mathlib.Core.Bool.{true}
use Prim.Native.Nat.{ℕ, ◌≤◌, ◌<◌}
use Rattle.laws.specs.Checks.{AllPass}
use Rattle.frame.specs.Apart.{frame_checks}
use Rattle.image.specs.Cell.{is_table}
use Rattle.survey.specs.Rows.{rises_then_stays}
use Rattle.survey.specs.File.{contents_in, address_in, table_in, contents_with, table_sent, file_number}
use Rattle.survey.specs.Described.{frame_at, contents_at, part_at, Described}
use Rattle.survey.proofs.Frames.{Sent, table_asks}
use Rattle.survey.proofs.Refusals.{passes-all}
use Rattle.survey.proofs.Described.{sent_at, each_part, contents_of_part, described_exactly}

module _ (s : List ℕ) (z : file_number s ≡ 0) where
  abbrev cs : List (List ℕ)
  cs = contents_in s

  described : Described s
  described = (described_exactly s).0 z

  pub rising : rises_then_stays (table_sent cs) ≡ true
  rising = (passes-all s z).1.1.1.0

  pub address-some : address_in cs ≢ 0
  address-some = (table_asks cs (passes-all s z).1.0).0

  pub table_one : is_table (table_in cs) ≡ true
  table_one = (table_asks cs (passes-all s z).1.0).1

  -- ---- each of its frames

  pub frame_passes : (k : ℕ) → k < 11 → AllPass (frame_checks (frame_at s k))
  frame_passes = described.frames.good

  pub frame_sends : (k : ℕ) → k < 11 → Sent (address_in cs) (table_in cs) (contents_at s k)
  frame_sends = sent_at s described.frames (passes-all s z).1.0

  pub part-inside : (k : ℕ) → k < 11 → (1 ≤ part_at s k) × (part_at s k ≤ 11)
  part-inside = described.parts.inside

  pub part-there : (p : ℕ) → 1 ≤ p → p ≤ 11 → (k : ℕ) × (k < 11) × (part_at s k ≡ p)
  part-there = each_part s described.frames described.parts

  pub contents_there : (k : ℕ) → k < 11 → contents_with (part_at s k) cs ≡ contents_at s k
  contents_there = contents_of_part s described.frames (passes-all s z).1.1.0
