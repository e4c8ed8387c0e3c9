-- Calls of `listen` one after the other on one record, by its promise. Assumes nothing.
use Rattle.std.specs.Prelude.{◌≡◌, List, [], ◌∷◌, Bool, ℕ}
use Rattle.std.proofs.Math.Option.{Option}
use Rattle.listener.specs.declared.Listener.{Listener}
use Rattle.listener.specs.Listening.{both, listened}
use Rattle.listener.specs.Handing.{handed}

-- for each of the calls nothing, or what the record that it left holds, where it returned true; and the record that the last one left
pub data Took : Listener → List ℕ → List (Option (List ℕ)) → Listener → Type 0 where
  no_call : (l : Listener) → Took l [] [] l
  a_call : (l : Listener) (byte : ℕ) (bytes : List ℕ) (k : Listener) (r : Bool) (rest : List (Option (List ℕ))) (m : Listener)
      → both k r ≡ listened l byte → Took k bytes rest m → Took l (byte ∷ bytes) (handed (both k r) ∷ rest) m
