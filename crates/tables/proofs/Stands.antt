-- Where a table's rows stand in the image. Assumes nothing.
use mathlib.Core.Path.{◌≡◌}
use mathlib.Core.List.{List}
use Prim.Native.Nat.{ℕ, ◌+◌, ◌-◌, ◌*◌, ◌≤◌, ◌<◌}
use native.Mathlib.Omega.{arith}
use lib.ListN.{length, take, drop, length-drop}
use lib.Seq.{get_or-take, get_or-drop}
use Rattle.std.proofs.lemmas.List.{take_all}
use Rattle.laws.specs.Bytes.{slice, word_at}
use Rattle.laws.proofs.Bytes.{Bytes, bytes_slice}
use Rattle.image.specs.Cell.{table_index}
use Rattle.tables.specs.Rows.{level, volume}
use Rattle.tables.specs.Quantity.{table_bytes}

-- a word of a slice is a word of what it was cut from
pub slice_word : (from n : ℕ) (l : List ℕ) (i : ℕ) → i + 1 < n → word_at (slice from n l) i ≡ word_at l (from + i)
unfolding slice word_at
slice_word from n l i h =
    let a : i < n = omega arith in
    let e : from + (i + 1) ≡ from + i + 1 = omega arith in
    rw (get_or-take, get_or-take, get_or-drop, get_or-drop, e)

module _ (m : List ℕ) (t : ℕ) where
  -- row i of table t, by offsets: four bytes a row, 1,408 a table, from 1225 on; level first
  pub level_stands : (i : ℕ) → i ≤ 351 → level (table_bytes m t) i ≡ word_at m (1225 + 1408 * table_index t + 4 * i)
  unfolding table_bytes
  level_stands i l = slice_word _ 1408 m (4 * i) (omega arith)

  pub volume_stands : (i : ℕ) → i ≤ 351 → volume (table_bytes m t) i ≡ word_at m (1225 + 1408 * table_index t + 4 * i + 2)
  unfolding table_bytes
  volume_stands i l =
      let e : 1225 + 1408 * table_index t + 4 * i + 2 ≡ 1225 + 1408 * table_index t + (4 * i + 2) = omega arith in
      rw e (slice_word _ 1408 m (4 * i + 2) (omega arith))

  -- the table's bytes, as the code cuts them
  pub bytes_cut : (k : ℕ) → k ≡ table_index t → take 1408 (take (length m - (1225 + 1408 * k)) (drop (1225 + 1408 * k) m)) ≡ table_bytes m t
  unfolding table_bytes slice
  bytes_cut k e =
      let rest = drop (1225 + 1408 * k) m in
      rw (take_all (length m - (1225 + 1408 * k)) rest (omega (arith, length-drop (1225 + 1408 * k) m)), e)

  pub bytes_small : Bytes m → Bytes (table_bytes m t)
  unfolding table_bytes
  bytes_small b = bytes_slice _ 1408 m b
