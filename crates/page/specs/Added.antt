-- What a step adds to a page.
use Rattle.std.specs.Prelude.{◌≡◌, ℕ, List, Option, IsOk, OnOk, OnErr}
use Rattle.std.specs.Io.KnownBytes.{Appends}
use Rattle.page.specs.declared.Page.{Page}

-- where nothing has failed, now or before, the writer holds this text behind what it held; where something had, that failure stays the one that is told
abbrev pub Adds : {W : Type 0} → (W → Option (List ℕ)) → Page W → Page W → List ℕ → Type 0
Adds contents old new text =
    OnOk new.written (IsOk old.written × Appends (contents old.out) (contents new.out) text) × OnErr old.written (new.written ≡ old.written)
