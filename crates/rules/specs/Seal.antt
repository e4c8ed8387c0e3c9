-- What a sealed block serves (document 02, request 11): check 16. Assumes nothing.
use Rattle.std.specs.Prelude.{List, [], ◌∷◌, Bool, true, false, ℕ}
use Rattle.laws.specs.Checks.{among}
use Rattle.rules.specs.declared.rule.Act.{Act}
use Rattle.rules.specs.declared.rule.Act.TheVariants.{Show, Sign, Store}
use Rattle.rules.specs.declared.switch.Switch.{Switch}
use Rattle.rules.specs.declared.switch.Switch.TheVariants.{Unsealed, Sealed}

-- the switch lets command k be served: sealed, of the fourteen these eight. Whether the block serves it at all is check 8
unfoldable pub lets : Switch → ℕ → Bool
lets Unsealed k = true
lets Sealed k = among k (50 ∷ 54 ∷ 55 ∷ 60 ∷ 61 ∷ 63 ∷ 64 ∷ 78 ∷ [])

-- the six that document 02 gives 16 to; the laws go by these
abbrev pub writing : List ℕ
writing = 51 ∷ 53 ∷ 59 ∷ 62 ∷ 76 ∷ 77 ∷ []

abbrev pub is_write : ℕ → Bool
is_write k = among k writing

-- the switch lets an act be done; the code goes by this
abbrev pub lets_do : Switch → Act → Bool
lets_do Unsealed a = true
lets_do Sealed Show = true
lets_do Sealed Sign = true
lets_do Sealed (Store k) = false
