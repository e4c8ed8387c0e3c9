-- The images that calls lead to from a fresh one (document 02, request 7). Of the block's five functions two change an image: serving, in either position
-- of the switch, and laying out a fresh one. Assumes nothing.
use Rattle.std.specs.Prelude.{List, ℕ}
use Rattle.image.specs.declared.version.Version.{Version}
use Rattle.image.specs.Fresh.{fresh, freshened}
use Rattle.izk.specs.Heard.{heard}
use Rattle.izk.specs.Since.{Turn, in_turn}

pub data Reached (v : Version) : List ℕ → Type 0 where
  fresh_one : (a : ℕ) → Reached v (fresh v a)
  laid_anew : (m : List ℕ) (a : ℕ) → Reached v m → Reached v (freshened v m a).image
  after_call : (m : List ℕ) (x : Turn) → Reached v m → Reached v (in_turn heard v m x).image
