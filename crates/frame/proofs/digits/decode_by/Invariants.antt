-- The loop keeps whether all are digits, and where they are, what remains to be laid and to be added: the bytes of the characters from 2k on. Assumes
-- nothing.
use mathlib.Core.Path.{◌≡◌}
use mathlib.Core.Bool.{true, ◌&&◌}
use Prim.Native.Nat.{◌+◌, ◌*◌, ◌%◌, ◌<◌}
use lib.ListN.{drop}
use lib.Dec.{ltb}
use Rattle.laws.specs.Bytes.{lay, sum_of}
use Rattle.frame.specs.Digits.{all_digits, bytes_of}
use Rattle.frame.proofs.digits.decode_by.Given as goal

abbrev pub invariant-loop-k : goal.invariant-loop-k
invariant-loop-k l =
    (l.total < 256) × ((ltb l.seen 16 && all_digits (drop (2 * l.k) l.s)) ≡ all_digits l.s)
    × (all_digits l.s ≡ true → (l.total + sum_of (bytes_of (drop (2 * l.k) l.s))) % 256 ≡ sum_of (bytes_of l.s) % 256)
    × (all_digits l.s ≡ true → lay l.work l.k (bytes_of (drop (2 * l.k) l.s)) ≡ lay l.initial.work 0 (bytes_of l.s))
