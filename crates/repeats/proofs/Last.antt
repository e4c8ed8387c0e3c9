-- Each cell ends with its last accepted write in the list, or with its old value if there was none (document 02, request 14): for frames one after the
-- other, on any image, with any outputs and the switch turned or not, and so for calls. In another order that keeps that of the calls that clash, the
-- last write of a cell is the same. Assumes nothing.
use mathlib.Core.Path.{◌≡◌, refl, sym, ap, ◌∙◌}
use mathlib.Core.Logic.{◌⊎◌, inl, inr, ◌↔◌}
use mathlib.Core.List.Memᴰ
use mathlib.Core.List.{List, [], Memᴰ}
use mathlib.Core.Bool.{Bool, true, false}
use Prim.Native.Nat.{ℕ, ◌<◌}
use native.Mathlib.Omega.{arith}
use lib.ListN.{length, get_or}
use Rattle.reorder.specs.Reorder.{outcomes, final, place, pick, Reorders, KeepsClashes}
use Rattle.reorder.specs.Last.{WroteAt, NoneWrote, LastWrote}
use Rattle.reorder.proofs.Last.{none_or_last, none_wrote_keeps, last_wrote_holds, last_stays_last}
use Rattle.image.specs.declared.cell.Cell.{Cell}
use Rattle.image.specs.declared.version.Version.{Version}
use Rattle.image.specs.Version.{current}
use Rattle.image.specs.Cell.{is_cell}
use Rattle.image.specs.Usable.{usable, address}
use Rattle.rules.specs.declared.switch.Switch.{Switch}
use Rattle.rules.specs.declared.switch.Switch.TheVariants.{Unsealed}
use Rattle.rules.specs.Order.{Verdict, Refused, Accepted}
use Rattle.command.specs.Reply.{writes_of}
use Rattle.izk.specs.Heard.{heard, Hearing, Lawful}
use Rattle.izk.specs.Since.{Turn, in_turn, turned, left}
use Rattle.izk.proofs.Hearing.{heard_lawful}
use Rattle.izk.proofs.Changes.{Kept}
use Rattle.order.specs.Serving.{Call, nothing, frames_of, step, Clash, Ran}
use Rattle.order.proofs.Demand3.{keeping_order_serves}
use Rattle.order.proofs.FrameCells.{accepted_cells}
use Rattle.order.proofs.Repeats.{number_of, number_at, unusable_number, ran_is}
use Rattle.repeats.specs.Written.{Wrote, no_turn, no_answer, Unwritten, LastWrite, UnwrittenCall, LastCall}
use Rattle.repeats.proofs.Written.{Holds, kept_same, decided, hit, miss}

-- ---- what is kept stays what it was

kept_on : (d : Cell) (m n p : List ℕ) → Kept d m n → Kept d n p → Kept d m p
kept_on d m n p a b = record { bytes = b.bytes ∙ a.bytes; its_bit = λ j q e. b.its_bit j q e ∙ a.its_bit j q e }

-- what holds bytes that a frame sent is a cell
holds_on : (d : Cell) (f m n : List ℕ) → Holds d f m → (is_cell d ≡ true → Kept d m n) → Holds d f n
holds_on d f m n h keeps =
    let k = keeps h.fits.cell in
    record {
      filled = record { bytes = k.bytes ∙ h.filled.bytes; its_bit = λ j q e. k.its_bit j q e ∙ h.filled.its_bit j q e };
      fits = h.fits;
    }

-- ---- whatever is asked, if each is a turn

module _ {F O : Type 0} (ear : Switch → Hearing) (ok : (s : Switch) → Lawful (ear s)) (v : Version) (d : Cell)
    (turn : F → Turn) (given : O → ℕ) (ask : List ℕ → F → O × List ℕ) (none : F) (silence : O)
    (number : (m : List ℕ) (x : F) → (in_turn ear v m (turn x)).number ≡ given (ask m x).0)
    (image : (m : List ℕ) (x : F) → (in_turn ear v m (turn x)).image ≡ (ask m x).1) where
  abbrev Did : F → O → Type 0
  Did x a = Wrote d (turn x).frame (given a)

  abbrev Has : F → List ℕ → Type 0
  Has x n = Holds d (turn x).frame n

  -- of what is no cell nothing is said
  abbrev Keeps : List ℕ → List ℕ → Type 0
  Keeps m n = is_cell d ≡ true → Kept d m n

  self : (m : List ℕ) → Keeps m m
  self m cell = kept_same d m m refl

  on : (m n p : List ℕ) → Keeps m n → Keeps n p → Keeps m p
  on m n p a b cell = kept_on d m n p (a cell) (b cell)

  hits : (m : List ℕ) (x : F) → Did x (ask m x).0 → Has x (ask m x).1
  hits m x w = rw (image m x) at (hit ear ok v d m (turn x) (rw (number m x) w))

  misses : (m : List ℕ) (x : F) → ¬ Did x (ask m x).0 → Keeps m (ask m x).1
  misses m x n = rw (image m x) at (miss ear ok v d m (turn x) (rw (number m x) n))

  decides : (m : List ℕ) (x : F) → Dec (Did x (ask m x).0)
  decides m x = rw (number m x) at (decided ear ok v d m (turn x))

  keeps : (m : List ℕ) (xs : List F) → NoneWrote ask Did none silence m xs → Keeps m (final ask m xs)
  keeps m xs = none_wrote_keeps ask Did none silence Keeps Has self on (λ x. holds_on d (turn x).frame) hits misses xs m

  holds : (m : List ℕ) (xs : List F) (k : ℕ) → LastWrote ask Did none silence m xs k → Has (get_or xs k none) (final ask m xs)
  holds m xs k = last_wrote_holds ask Did none silence Keeps Has self on (λ x. holds_on d (turn x).frame) hits misses xs k m

  either : (m : List ℕ) (xs : List F) → NoneWrote ask Did none silence m xs ⊎ ((k : ℕ) × LastWrote ask Did none silence m xs k)
  either m xs = none_or_last ask Did none silence decides xs m

-- ---- frames one after the other, with any outputs, the switch turned or not

module _ (ear : Switch → Hearing) (ok : (s : Switch) → Lawful (ear s)) (v : Version) (d : Cell) (m : List ℕ) (xs : List Turn) where
  -- a cell that no turn wrote has its old value
  pub unwritten_keeps : is_cell d ≡ true → Unwritten ear v d m xs → Kept d m (left ear v m xs)
  unfolding left
  unwritten_keeps cell none = keeps ear ok v d (λ x. x) (λ a. a.number) (turned ear v) no_turn no_answer (λ m x. refl) (λ m x. refl) m xs none cell

  -- any other has what its last accepted write sent
  pub last_write_holds : (k : ℕ) → LastWrite ear v d m xs k → Holds d (get_or xs k no_turn).frame (left ear v m xs)
  unfolding left
  last_write_holds = holds ear ok v d (λ x. x) (λ a. a.number) (turned ear v) no_turn no_answer (λ m x. refl) (λ m x. refl) m xs

  -- and one of the two is the case
  pub unwritten_or_last : Unwritten ear v d m xs ⊎ ((k : ℕ) × LastWrite ear v d m xs k)
  unwritten_or_last = either ear ok v d (λ x. x) (λ a. a.number) (turned ear v) no_turn no_answer (λ m x. refl) (λ m x. refl) m xs

-- ---- calls, with room for a reply and in one position of the switch

abbrev turn_of : Call → Turn
turn_of x = record { switch = Unsealed; frame = x.frame; out = x.out }

module _ (ear : Hearing) (ok : Lawful ear) (v : Version) (d : Cell) where
  module _ (m : List ℕ) (xs : List Call) where
    pub unwritten_call_keeps : is_cell d ≡ true → UnwrittenCall ear v d m xs → Kept d m (final (step ear v) m xs)
    unwritten_call_keeps cell none =
        keeps (λ s. ear) (λ s. ok) v d turn_of (λ a. a.0) (step ear v) nothing (0, []) (λ m x. refl) (λ m x. refl) m xs none cell

    pub last_call_holds : (k : ℕ) → LastCall ear v d m xs k → Holds d (get_or xs k nothing).frame (final (step ear v) m xs)
    last_call_holds = holds (λ s. ear) (λ s. ok) v d turn_of (λ a. a.0) (step ear v) nothing (0, []) (λ m x. refl) (λ m x. refl) m xs

    pub unwritten_or_last_call : UnwrittenCall ear v d m xs ⊎ ((k : ℕ) × LastCall ear v d m xs k)
    unwritten_or_last_call = either (λ s. ear) (λ s. ok) v d turn_of (λ a. a.0) (step ear v) nothing (0, []) (λ m x. refl) (λ m x. refl) m xs

  -- ---- which is the last, by what is heard

  module _ (m : List ℕ) (u : usable v m ≡ true) (xs : List Call) where
    abbrev At : ℕ → Type 0
    At = WroteAt (step ear v) (λ x a. Wrote d x.frame a.0) nothing (0, []) m xs

    abbrev frame_at : ℕ → List ℕ
    frame_at i = (get_or xs i nothing).frame

    module _ (i : ℕ) (l : i < length xs) where
      writes_it : At i → Memᴰ d (writes_of (ear (address m) (frame_at i)))
      writes_it w = by (ear (address m) (frame_at i)) refl (sym (number_at ear ok v (address m) xs m (u, refl) i l) ∙ w.done_is)
        where
          by : (r : Verdict) → ear (address m) (frame_at i) ≡ r → number_of r ≡ 0 → Memᴰ d (writes_of (ear (address m) (frame_at i)))
          by (Refused n) h z = let (low, high) = rw h at (ok.numbered (address m) (frame_at i)) in absurd (omega arith)
          by (Accepted e t b) h z = rw (accepted_cells ear ok (address m) (frame_at i) h).1 w.names

      wrote_it : Memᴰ d (writes_of (ear (address m) (frame_at i))) → At i
      wrote_it w = by (ear (address m) (frame_at i)) refl (number_at ear ok v (address m) xs m (u, refl) i l)
        where
          by : (r : Verdict) → ear (address m) (frame_at i) ≡ r → (get_or (outcomes (step ear v) m xs) i (0, [])).0 ≡ number_of (ear (address m) (frame_at i)) → At i
          by (Refused n) h z = absurd (Memᴰ.not-nil (rw h at w))
          by (Accepted e t b) h z =
              record { done_is = z ∙ ap number_of h; names = rw (accepted_cells ear ok (address m) (frame_at i) h).1 at w }

      -- a call of a list is an accepted write of the cell exactly if what is heard of its frame writes it: before any is served it can be told which
      pub wrote_exactly : At i ↔ Memᴰ d (writes_of (ear (address m) (frame_at i)))
      wrote_exactly = (writes_it, wrote_it)

  -- ---- in another order

  module _ (xs ys : List Call) (o m : List ℕ) (re : Reorders (length xs) o) (frames : frames_of ys ≡ pick [] (frames_of xs) o)
      (order : KeepsClashes (Clash ear (address m)) nothing xs o) where
    -- the last write of a cell in the list is its last in the other order too
    pub last_call_stays : (k : ℕ) → k < length o → LastCall ear v d m xs (place o k) → LastCall ear v d m ys k
    last_call_stays k l h = go (usable v m) refl
      where
        go : (t : Bool) → usable v m ≡ t → LastCall ear v d m ys k
        go true u =
            last_stays_last (step ear v) (λ x. x.frame) (λ f a. Wrote d f a.0) nothing (0, []) (Clash ear (address m)) m xs ys o re
            (keeping_order_serves ear ok v (address m) xs ys o m (u, refl) re frames order) frames order
            (λ i j l n a b. inl (d, writes_it m u xs i l a, inr (writes_it m u xs j n b))) k l h
        -- nothing is accepted there
        go false u = let z : ◌≡◌ {A = ℕ} 1 0 = sym (unusable_number ear v xs m u (place o k) h.inside) ∙ h.wrote.done_is in absurd (omega arith)

-- ---- calls of `serve`, by its promise

module _ (s : Switch) (d : Cell) {m m' : List ℕ} {xs : List Call} {rs : List (ℕ × List ℕ)} (ran : Ran s m xs rs m') where
  pub ran_keeps : is_cell d ≡ true → UnwrittenCall (heard s) current d m xs → Kept d m m'
  ran_keeps cell none = rw (ran_is s ran).1 (unwritten_call_keeps (heard s) (heard_lawful s) current d m xs cell none)

  pub ran_holds : (k : ℕ) → LastCall (heard s) current d m xs k → Holds d (get_or xs k nothing).frame m'
  ran_holds k last = rw (ran_is s ran).1 (last_call_holds (heard s) (heard_lawful s) current d m xs k last)
