-- What the two promises give the panel's host, in terms of what was returned and left: the block's own promises, one outcome, what a refusal leaves,
-- and that sealed no byte of the image changes. Assumes nothing.
use mathlib.Core.Path.{◌≡◌, refl, ap, ◌∙◌}
use mathlib.Core.Logic.{◌≢◌}
use mathlib.Core.List.{List}
use mathlib.Core.Bool.{true}
use Prim.Native.Nat.{ℕ, ◌≤◌, ◌<◌}
use native.Mathlib.Omega.{arith}
use lib.ListN.{length}
use Rattle.output.specs.Output.{Answer}
use Rattle.image.specs.Version.{current}
use Rattle.image.specs.Usable.{usable}
use Rattle.image.specs.Held.{held_parts, HeldAnswer}
use Rattle.rules.specs.declared.switch.Switch.{Switch}
use Rattle.rules.specs.declared.switch.Switch.TheVariants.{Unsealed, Sealed}
use Rattle.command.specs.Reply.{BuffersAfter, Serves}
use Rattle.izk.specs.Heard.{heard, answered}
use Rattle.izk.specs.Block.{served}
use Rattle.izk.proofs.Hearing.{heard_lawful}
use Rattle.izk.proofs.Serving.{Way, early, through, way, answered-length}
use Rattle.izk.proofs.OneOutcome.{serve_one_outcome, held_parts_one_outcome}
use Rattle.izk.proofs.Refusals.{refused_changes_nothing, refused_held}
use Rattle.izk.proofs.SealedCalls.{sealed_call_leaves}
use Rattle.panel.specs.Panel.{switch_of, ServesPanel, TellsPanel}
use Rattle.panel.proofs.Switches.{zero_unseals, others_seal}
use Rattle.panel.proofs.Tables.{above_refused}

-- ---- serving: number k for the switch, a frame, an image and an output

module _ (k : ℕ) (f m out : List ℕ) where
  -- what is promised is the block's own promise, in the position that the number stands for
  module _ (r n : ℕ) (m' o : List ℕ) where
    abbrev Promised : Switch → Type 0
    Promised s = Serves (served (heard s) current f m out) (record { number = r; len = n }) m' o

    pub panel_unsealed : k ≡ 0 → ServesPanel k f m out r n m' o ≡ Promised Unsealed
    panel_unsealed z = ap Promised (zero_unseals k z)

    pub panel_sealed : k ≢ 0 → ServesPanel k f m out r n m' o ≡ Promised Sealed
    panel_sealed z = ap Promised (others_seal k z)

  pub panel_one_outcome : (r s n l : ℕ) (m' m'' o p : List ℕ) → ServesPanel k f m out r n m' o → ServesPanel k f m out s l m'' p
      → (r ≡ s) × (n ≡ l) × (m' ≡ m'') × (o ≡ p)
  panel_one_outcome r s n l m' m'' o p x y =
      let (e, i, w) = serve_one_outcome (switch_of k) f m out _ _ m' m'' o p x y in
      (ap (λ (a : Answer). a.number) e, ap (λ (a : Answer). a.len) e, i, w)

  module _ (r n : ℕ) (m' o : List ℕ) (x : ServesPanel k f m out r n m' o) where
    -- a refusal leaves length 0, whatever the lent length was, and both buffers as they were
    pub panel_refused : r ≢ 0 → (n ≡ 0) × (m' ≡ m) × (o ≡ out)
    panel_refused z =
        let same = refused_changes_nothing (heard (switch_of k)) current f m out (λ e. z (x.number_is ∙ e)) in
        (x.len_is ∙ same.len, x.image_is ∙ same.image, x.out_is ∙ same.out)

    -- what is to be sent lies in the output: at most 269 bytes, and of a refused call none
    pub panel_length : (n ≤ 269) × (n ≤ length out)
    panel_length = go (way (heard (switch_of k)) current f m out)
      where
        go : Way (heard (switch_of k)) current f m out → (n ≤ 269) × (n ≤ length out)
        go (early j i e) = let z : n ≡ 0 = x.len_is ∙ ap (λ (a : BuffersAfter). a.len) e in (omega arith, omega arith)
        go (through u room e) =
            let z : n ≡ length (answered (heard (switch_of k)) current f m).reply = x.len_is ∙ ap (λ (a : BuffersAfter). a.len) e in
            let l = answered-length (heard (switch_of k)) (heard_lawful (switch_of k)) current f m u in
            (omega arith, omega arith)

    -- any number but 0 seals: no byte of the image changes
    pub panel_sealed_leaves : k ≢ 0 → m' ≡ m
    panel_sealed_leaves z = sealed_call_leaves f m out _ m' o (rw (others_seal k z) at x)

-- ---- held parts: an image, and number t for the table

module _ (m : List ℕ) (t : ℕ) where
  -- what is promised is the block's own answer for that number
  pub panel_tells : (r p q : ℕ) → TellsPanel m t r p q ≡ (◌≡◌ {A = HeldAnswer} (record { number = r; parts = p; missing = q }) (held_parts current m t))
  panel_tells r p q = refl

  pub panel_held_one_outcome : (r s p p' q q' : ℕ) → TellsPanel m t r p q → TellsPanel m t s p' q' → (r ≡ s) × (p ≡ p') × (q ≡ q')
  panel_held_one_outcome r s p p' q q' x y =
      let e = held_parts_one_outcome m t _ _ x y in
      (ap (λ (h : HeldAnswer). h.number) e, ap (λ (h : HeldAnswer). h.parts) e, ap (λ (h : HeldAnswer). h.missing) e)

  module _ (r p q : ℕ) (x : TellsPanel m t r p q) where
    -- a refusal leaves two zeros
    pub panel_held_refused : r ≢ 0 → (p ≡ 0) × (q ≡ 0)
    panel_held_refused z =
        let (no_parts, none_missing) = refused_held current m t (λ e. z (ap (λ (h : HeldAnswer). h.number) x ∙ e)) in
        (ap (λ (h : HeldAnswer). h.parts) x ∙ no_parts, ap (λ (h : HeldAnswer). h.missing) x ∙ none_missing)

    -- a number above 18 is no table
    pub panel_held_above : 18 < t → usable current m ≡ true → r ≡ 10
    panel_held_above l u = ap (λ (h : HeldAnswer). h.number) (x ∙ (rw u at (above_refused current m t l)))
