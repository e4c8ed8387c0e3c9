-- The fourteen commands of document 01 ("Commands"), a rule each, and what the fields of a rule mean. `c` is a body without its checksum. Its
-- bytes are counted from 1, the address being byte 1, as document 01 and 001's layouts count them. Assumes nothing.
use Rattle.std.specs.Prelude.{List, [], ◌∷◌, Bool, true, cond, ◌&&◌, ◌||◌, ℕ, zero, suc, ◌+◌, ◌-◌, ◌*◌, ◌%◌, length, get_or, drop, leb, eqb, ℤ, pos, ◌-ℤ◌}
use Rattle.std.specs.Prelude.{Option, Some, None}
use Rattle.std.specs.Int.Signed.{lt_z}
use Rattle.laws.specs.Checks.{within}
use Rattle.image.specs.declared.cell.Cell.{Cell}
use Rattle.image.specs.declared.cell.Cell.TheVariants as Cells
use Rattle.image.specs.Cell.{when, constants_named, errors_named, table_named, part_named}
use Rattle.rules.specs.declared.rule.Act.{Act}
use Rattle.rules.specs.declared.rule.Act.TheVariants.{Show, Sign, Store}
use Rattle.rules.specs.declared.rule.Long.{Long}
use Rattle.rules.specs.declared.rule.Long.TheVariants.{Is, Rowed}
use Rattle.rules.specs.declared.rule.Names.{Names}
use Rattle.rules.specs.declared.rule.Names.TheVariants as N
use Rattle.rules.specs.declared.rule.Rule.{Rule}
use Rattle.rules.specs.declared.rule.Values.{Values}
use Rattle.rules.specs.declared.rule.Values.TheVariants as V'

abbrev pub byte : List ℕ → ℕ → ℕ
byte c b = get_or c (b - 1) 0

-- ---- body lengths, checksum included: check 9

-- 62 carries k rows of three bytes, k 1..21
unfoldable pub rowed : ℕ → Bool
rowed n = within 8 68 n && eqb (n % 3) 2

abbrev pub long_ok : Long → ℕ → Bool
long_ok (Is k) n = eqb n k
long_ok Rowed n = rowed n

-- ---- what the body names: check 10

-- 62's count byte must be k, of the 4 + 3k bytes before the checksum
unfoldable pub rows_named : List ℕ → Option Cell
rows_named c = when (within 1 8 (byte c 3) && eqb (4 + 3 * byte c 4) (length c)) (Cells.Errors (byte c 3 - 1))

abbrev pub named_by : Names → List ℕ → Option Cell
named_by N.Mask c = Some Cells.Mask
named_by N.Mode c = Some Cells.Mode
named_by N.Clock c = Some Cells.Clock
named_by N.Channel c = constants_named (byte c 3)
named_by N.TablePart c = part_named (byte c 3) (byte c 4)
named_by N.WholeTable c = table_named (byte c 3)
named_by N.ErrorTable c = errors_named (byte c 3)
named_by N.ErrorRows c = rows_named c

-- ---- values: check 11

-- n bytes from byte b on are 0
unfoldable pub zero_from : List ℕ → ℕ → ℕ → Bool
zero_from c b zero = true
zero_from c b (suc n) = eqb (byte c b) 0 && zero_from c (suc b) n

-- the bytes from one to another, both counted, are 0
unfoldable pub blank : List ℕ → ℕ → ℕ → Bool
blank c from to = zero_from c from (to + 1 - from)

-- 53: eight stretches of reserve, given by their first and their last byte, and byte 7, the gas composition, 1..13
unfoldable pub constants_ok : List ℕ → Bool
constants_ok c =
    blank c 17 20 && (blank c 23 26 && (blank c 29 32 && (blank c 35 38 && (blank c 43 46 && (blank c 49 68
    && (blank c 71 72 && (blank c 75 78 && within 1 13 (byte c 7))))))))

-- what a temperature byte means (document 02, request 5), -127..+128: 80h is the highest, and not the lowest as in two's complement
unfoldable pub degrees : ℕ → ℤ
degrees b = cond (leb b 128) (pos b) (pos b -ℤ pos 256)

-- 62: rows of three bytes, the first a temperature, which rises strictly
unfoldable pub rises : List ℕ → Bool
rises [] = true
rises (t ∷ []) = true
rises (t ∷ (h ∷ [])) = true
rises (t ∷ (h ∷ (l ∷ []))) = true
rises (t ∷ (h ∷ (l ∷ (u ∷ rows)))) = lt_z (degrees t) (degrees u) && rises (u ∷ rows)

-- 77: second, minute, hour, weekday, day, month, year, and two bytes of 0
unfoldable pub clock_ok : List ℕ → Bool
clock_ok c =
    within 0 59 (byte c 3) && (within 0 59 (byte c 4) && (within 0 23 (byte c 5) && (within 1 7 (byte c 6) && (within 1 31 (byte c 7)
    && (within 1 12 (byte c 8) && (within 0 99 (byte c 9) && blank c 10 11))))))

-- 76: 00h or FFh
unfoldable pub mode_ok : List ℕ → Bool
mode_ok c = eqb (byte c 3) 0 || eqb (byte c 3) 255

abbrev pub values_ok : Values → List ℕ → Bool
values_ok V'.Anything c = true
values_ok V'.Constants c = constants_ok c
values_ok V'.Rows c = rises (drop 4 c)
values_ok V'.Mode c = mode_ok c
values_ok V'.Clock c = clock_ok c

-- ---- the fourteen commands

pub record Command : Type 0 where
  pub number : ℕ
  pub rule : Rule

abbrev pub command : ℕ → Long → Names → Values → ℕ → Act → Command
command k l n v e a = record { number = k; rule = record { long = l; names = n; values = v; echo = e; act = a } }

--  command, body length, what it names, judged values, echo, act
unfoldable pub commands : List Command
commands =
    command 50 (Is 3) N.Mask V'.Anything 0 Show
    ∷ command 51 (Is 4) N.Mask V'.Anything 1 (Store 2)
    ∷ command 53 (Is 87) N.Channel V'.Constants 0 (Store 3)
    ∷ command 54 (Is 4) N.Channel V'.Anything 1 Show
    ∷ command 55 (Is 4) N.Channel V'.Anything 1 Sign
    ∷ command 59 (Is 133) N.TablePart V'.Anything 2 (Store 4)
    ∷ command 60 (Is 5) N.TablePart V'.Anything 2 Show
    ∷ command 61 (Is 4) N.WholeTable V'.Anything 1 Sign
    ∷ command 62 Rowed N.ErrorRows V'.Rows 1 (Store 3)
    ∷ command 63 (Is 4) N.ErrorTable V'.Anything 1 Show
    ∷ command 64 (Is 4) N.ErrorTable V'.Anything 1 Sign
    ∷ command 76 (Is 4) N.Mode V'.Mode 1 (Store 2)
    ∷ command 77 (Is 12) N.Clock V'.Clock 0 (Store 2)
    ∷ command 78 (Is 3) N.Clock V'.Anything 0 Show
    ∷ []

-- the rule of a command, if the block serves it
unfoldable pub rule_of : ℕ → List Command → Option Rule
rule_of k [] = None
rule_of k (l ∷ ls) = cond (eqb l.number k) (Some l.rule) (rule_of k ls)
