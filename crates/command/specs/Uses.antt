-- Document 01's sentence on which cells each command reads and which it writes ("Cells"), a line a command. Assumes nothing.
use Rattle.std.specs.Prelude.{List, [], ◌∷◌, cond, ℕ, ◌-◌, eqb}
use Rattle.image.specs.declared.cell.Cell.{Cell}
use Rattle.image.specs.declared.cell.Cell.TheVariants.{Mask, Mode, Clock, Constants, Errors, Part, Table}
use Rattle.image.specs.Cell.{table_index, run}
use Rattle.rules.specs.declared.rule.Names.{Names}
use Rattle.rules.specs.declared.rule.Names.TheVariants as N
use Rattle.rules.specs.Rules.{Command}
use Rattle.command.specs.Act.{reads, writes}

-- cells by the two bytes behind the command: a channel, an error table or a table, and a part, as they are numbered on the wire
abbrev pub Chosen : Type 0
Chosen = ℕ → ℕ → List Cell

abbrev pub none : Chosen
none n p = []

abbrev pub mask : Chosen
mask n p = Mask ∷ []

abbrev pub mode : Chosen
mode n p = Mode ∷ []

abbrev pub clock : Chosen
clock n p = Clock ∷ []

abbrev pub constants : Chosen
constants n p = Constants n ∷ []

abbrev pub errors : Chosen
errors n p = Errors (n - 1) ∷ []

abbrev pub part : Chosen
part t p = Part (table_index t) (p - 1) ∷ []

abbrev pub eleven_parts : Chosen
eleven_parts t p = run (Part (table_index t)) 0 11

pub record Use : Type 0 where
  pub command : ℕ
  pub reads : Chosen
  pub writes : Chosen

abbrev pub row : ℕ → Chosen → Chosen → Use
row k r w = record { command = k; reads = r; writes = w }

--  command, what it reads, what it writes
unfoldable pub uses : List Use
uses =
    row 50 mask none
    ∷ row 51 none mask
    ∷ row 53 none constants
    ∷ row 54 constants none
    ∷ row 55 constants none
    ∷ row 59 none part
    ∷ row 60 part none
    ∷ row 61 eleven_parts none
    ∷ row 62 none errors
    ∷ row 63 errors none
    ∷ row 64 errors none
    ∷ row 76 none mode
    ∷ row 77 none clock
    ∷ row 78 clock none
    ∷ []

-- the line of a command; of one that is not served, none of its cells
unfoldable pub use_of : ℕ → List Use → Use
use_of k [] = row k none none
use_of k (u ∷ us) = cond (eqb u.command k) u (use_of k us)

-- ---- the same, by the fourteen rules

-- what a rule's naming stands for, once it names something
abbrev pub cell_by : Names → ℕ → ℕ → Cell
cell_by N.Mask n p = Mask
cell_by N.Mode n p = Mode
cell_by N.Clock n p = Clock
cell_by N.Channel n p = Constants n
cell_by N.TablePart n p = Part (table_index n) (p - 1)
cell_by N.WholeTable n p = Table (table_index n)
cell_by N.ErrorTable n p = Errors (n - 1)
cell_by N.ErrorRows n p = Errors (n - 1)

-- the line that a rule makes
abbrev pub use_by : Command → Use
use_by l = row l.number (λ n p. reads l.rule.act (cell_by l.rule.names n p)) (λ n p. writes l.rule.act (cell_by l.rule.names n p))
