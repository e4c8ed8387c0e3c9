-- An item's signature (document 01, "Commands"), and what an image that keeps it says of it (document 02, request 7). Assumes nothing.
use Rattle.std.specs.Prelude.{◌≡◌, List, true, ℕ, ◌+◌, ◌-◌, ◌%◌, Option, Some, None}
use Rattle.laws.specs.Bytes.{slice, sum_of, word_at}
use Rattle.image.specs.declared.cell.Cell.{Cell}
use Rattle.image.specs.declared.version.Version.{Version}
use Rattle.image.specs.declared.version.Version.TheVariants.{V1, V2}
use Rattle.image.specs.Cell.{offset, size, is_item}
use Rattle.image.specs.Words.{signature_word}

-- the sum of its stored bytes, remainder by 65,536
unfoldable pub full_sum : Cell → List ℕ → ℕ
full_sum c m = sum_of (slice (offset c) (size c) m) % 65536

-- what a kept word says, true or false
abbrev pub word_kept : Option ℕ → List ℕ → ℕ
word_kept None m = 0
word_kept (Some o) m = word_at m o

-- version 1 adds up when it is asked; version 2 answers with the word, and no byte of the item counts
abbrev pub signature : Version → Cell → List ℕ → ℕ
signature V1 c m = full_sum c m
signature V2 c m = word_kept (signature_word c) m

-- each of the 32 words is the sum of its item
abbrev pub TrueWords : List ℕ → Type 0
TrueWords m = (e : Cell) → is_item e ≡ true → signature V2 e m ≡ full_sum e m

-- how far an item's word is above its sum, remainder by 65,536: 0 where it is true
abbrev pub false_by : Cell → List ℕ → ℕ
false_by e m = (signature V2 e m + (65536 - full_sum e m)) % 65536
