-- What is done once a body has passed all checks: three acts, each on one stretch of the image. `c` is the body without its checksum.
-- Assumes nothing.
use Rattle.std.specs.Prelude.{List, [], ℕ, get_or, drop}
use Rattle.laws.specs.Bytes.{slice, two}
use Rattle.image.specs.declared.cell.Cell.{Cell}
use Rattle.image.specs.declared.version.Version.{Version}
use Rattle.image.specs.Cell.{offset, extent, cells_of}
use Rattle.storing.specs.Signature.{signature}
use Rattle.storing.specs.Stored.{stored}
use Rattle.rules.specs.declared.rule.Act.{Act}
use Rattle.rules.specs.declared.rule.Act.TheVariants.{Show, Sign, Store}

-- what the reply goes on with, after the echo
abbrev pub says : Version → Act → Cell → List ℕ → List ℕ
says v Show d m = slice (offset d) (extent d (get_or m (offset d) 0)) m
says v Sign d m = two (signature v d m)
says v (Store k) d m = []

-- the image after it
abbrev pub leaves : Version → Act → Cell → List ℕ → List ℕ → List ℕ
leaves v Show d c m = m
leaves v Sign d c m = m
leaves v (Store k) d c m = stored v d (drop k c) m

-- the cells that it reads, and those that it writes. A signature counts as reading all cells of its item, also where the image keeps it (document 02,
-- request 7)
abbrev pub reads : Act → Cell → List Cell
reads Show d = cells_of d
reads Sign d = cells_of d
reads (Store k) d = []

abbrev pub writes : Act → Cell → List Cell
writes Show d = []
writes Sign d = []
writes (Store k) d = cells_of d
