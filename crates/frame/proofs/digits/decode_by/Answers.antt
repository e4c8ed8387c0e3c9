-- The loop keeps whether all are digits, and where they are, what remains to be laid and to be added: the bytes of the characters from 2k on. Assumes
-- nothing.
use mathlib.Core.Path.{◌≡◌, sym, ap, ◌∙◌}
use mathlib.Core.Bool.{true}
use Prim.Native.Nat.{◌+◌, ◌*◌, ◌/◌, ◌<◌}
use native.Mathlib.Omega.{arith}
use lib.ListN.{length, get_or}
use borrow.Author.Tests.{lt-ltb}
use Rattle.std.specs.Prelude.{Some}
use Rattle.laws.proofs.Bytes.{lay_next, lay_done}
use Rattle.laws.proofs.Sums.{sum_first, sum_empty}
use Rattle.frame.specs.Digits.{all_digits}
use Rattle.frame.proofs.Chars.{bytes_done}
use Rattle.frame.proofs.Table.{entry_tells, pair_first, pair_second, told_next, byte_next, all_told}
use Rattle.frame.proofs.digits.decode_by.Goals as goal

pub loop-k-preserved : goal.loop-k-preserved
loop-k-preserved c =
    let s = c.args.s.now in
    let t = c.args.table.now in
    let ok = c.requires.2 in
    let k = c.loop-k.k in
    let in-pairs : k < length s / 2 = omega arith in
    let a = pair_first (length s / 2) s k in-pairs in
    let b = pair_second (length s / 2) s k in-pairs in
    let p : get_or s (2 * k) 0 < 256 = omega (arith, c.type_inv.s (2 * k)) in
    let q : get_or s (2 * k + 1) 0 < 256 = omega (arith, c.type_inv.s (2 * k + 1)) in
    let more : 2 * k + 1 < length s = omega arith in
    let e : 2 * (k + 1) ≡ 2 * k + 2 = omega arith in
    rw (c.from.ensures, c.from-in-loop-k.ensures, c.as_chunks.ensures.front, a, b, e) (
      omega arith,
      told_next s (2 * k) more c.loop-k.seen _ _ (entry_tells t ok _ p) (entry_tells t ok _ q) ∙ c.loop-k.invariant.1,
      λ d. omega (arith, sum_first _ _ _ (byte_next s (2 * k) more t ok p q d), c.loop-k.invariant.2 d),
      λ d. lay_next _ _ _ _ _ _ (byte_next s (2 * k) more t ok p q d) (c.loop-k.invariant.3 d),
    )

pub returns-then-seen-lt16 : goal.returns-then-seen-lt16
returns-then-seen-lt16 c =
    let l = c.loop-k in
    let s = c.args.s.now in
    let none = bytes_done s (2 * l.k) (omega arith) in
    let d : all_digits s ≡ true = sym (all_told s (2 * l.k) l.seen (omega arith) l.invariant.1) ∙ lt-ltb l.seen 16 c.if-seen-lt16.true in
    record {
      total_is = rw d (ap Some (omega (arith, sum_empty _ none, l.invariant.2 d)));
      laid = λ d. lay_done _ _ _ _ none (l.invariant.3 d);
    }
