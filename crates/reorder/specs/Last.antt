-- Which of a list is the last to write a thing, told by what was asked and what was answered, for any step. Assumes nothing.
use Rattle.std.specs.Prelude.{List, ℕ, ◌<◌, length, get_or}
use Rattle.reorder.specs.Reorder.{outcomes}

-- Wrote f o: f, answered with o, wrote the thing. d and e stand for places outside a list
module _ {S F O : Type 0} (step : S → F → O × S) (Wrote : F → O → Type 0) (d : F) (e : O) (s : S) (fs : List F) where
  -- the one at place k did, served in the list's order
  abbrev pub WroteAt : ℕ → Type 0
  WroteAt k = Wrote (get_or fs k d) (get_or (outcomes step s fs) k e)

  -- none did
  abbrev pub NoneWrote : Type 0
  NoneWrote = (k : ℕ) → k < length fs → ¬ WroteAt k

  -- the one at place k did, and none behind it
  pub record LastWrote (k : ℕ) : Type 0 where
    pub inside : k < length fs
    pub wrote : WroteAt k
    pub none_later : (n : ℕ) → k < n → n < length fs → ¬ WroteAt n
