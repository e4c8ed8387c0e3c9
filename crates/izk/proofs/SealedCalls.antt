-- What sealing keeps, of calls of the block by its promise and of calls one after the other. Assumes nothing.
use mathlib.Core.Path.{◌≡◌, refl, ap, ◌∙◌}
use mathlib.Core.Logic.{◌≢◌}
use mathlib.Core.List.{List, [], ◌∷◌, Memᴰ}
use Prim.Native.Nat.{ℕ}
use Rattle.output.specs.Output.{Answer}
use Rattle.image.specs.declared.version.Version.{Version}
use Rattle.image.specs.Version.{current}
use Rattle.rules.specs.declared.switch.Switch.{Switch}
use Rattle.rules.specs.declared.switch.Switch.TheVariants.{Unsealed, Sealed}
use Rattle.command.specs.Reply.{Serves}
use Rattle.izk.specs.Heard.{heard}
use Rattle.izk.specs.Block.{served}
use Rattle.izk.specs.Since.{Turn, in_turn, left}
use Rattle.izk.proofs.OneOutcome.{serve_one_outcome}
use Rattle.izk.proofs.Sealed.{sealed_as_unsealed, sealed_leaves_image}

-- ---- a call

module _ (f m out : List ℕ) (r : Answer) (m' o : List ℕ) (sealed : Serves (served (heard Sealed) current f m out) r m' o) where
  -- it leaves every byte of the image
  pub sealed_call_leaves : m' ≡ m
  sealed_call_leaves = sealed.image_is ∙ sealed_leaves_image current f m out

  -- and if it did not get 16, it returned and left what it does unsealed
  pub sealed_call_alike : r.number ≢ 16 → (s : Answer) (m'' p : List ℕ) → Serves (served (heard Unsealed) current f m out) s m'' p
      → (r ≡ s) × (m' ≡ m'') × (o ≡ p)
  sealed_call_alike z s m'' p unsealed =
      serve_one_outcome Unsealed f m out r s m' m'' o p (rw (sealed_as_unsealed current f m out (λ e. z (sealed.number_is ∙ e))) at sealed) unsealed

-- ---- calls one after the other

sealed_turn_leaves : (v : Version) (m : List ℕ) (x : Turn) → x.switch ≡ Sealed → (in_turn heard v m x).image ≡ m
sealed_turn_leaves v m x e = ap (λ (s : Switch). (served (heard s) v x.frame m x.out).image) e ∙ sealed_leaves_image v x.frame m x.out

-- as long as the block stays sealed, its image stays as it is
pub sealed_turns_leave : (v : Version) (m : List ℕ) (xs : List Turn) → ((x : Turn) → Memᴰ x xs → x.switch ≡ Sealed) → left heard v m xs ≡ m
unfolding left
sealed_turns_leave v m [] h = refl
sealed_turns_leave v m (x ∷ xs) h =
    sealed_turns_leave v (in_turn heard v m x).image xs (λ y i. h y (Memᴰ.tail i)) ∙ sealed_turn_leaves v m x (h x (Memᴰ.head refl))
