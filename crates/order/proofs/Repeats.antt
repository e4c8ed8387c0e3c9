-- Lists in which a cell is written more than once (document 02, request 14). On a usable image a refused call clashes with none, so where it
-- stands does not matter; of the block the theorem holds in either position of the switch, on any image, and of calls by the promise of serving. Assumes
-- nothing.
use mathlib.Core.Path.{◌≡◌, refl, sym, ap, ap₂, ◌∙◌}
use mathlib.Core.Logic.{◌≢◌, inl, inr}
use mathlib.Core.List.Memᴰ
use mathlib.Core.List.{List, [], ◌∷◌}
use mathlib.Core.Bool.{Bool, true, false}
use Prim.Native.Nat.{ℕ, zero, suc, ◌<◌}
use native.Mathlib.Nat.{not-suc-le-zero, le_of_suc-le-suc}
use native.Mathlib.Omega.{arith}
use lib.ListN.{length, get_or, take}
use Rattle.reorder.specs.Reorder.{outcomes, final, place, pick, Reorders, KeepsClashes, ClashesInOrder, SameService}
use Rattle.reorder.proofs.Order.{in_order_exactly, still_any_order}
use Rattle.reorder.proofs.Readings.{each_outcome, alike_service}
use Rattle.frame.specs.Apart.{contents_of}
use Rattle.image.specs.declared.version.Version.{Version}
use Rattle.image.specs.Version.{current}
use Rattle.image.specs.Usable.{usable, address}
use Rattle.rules.specs.declared.switch.Switch.{Switch}
use Rattle.rules.specs.Order.{Verdict, Refused, Accepted}
use Rattle.command.specs.Reply.{BuffersAfter, reply_in}
use Rattle.izk.specs.Heard.{heard, Hearing, Lawful}
use Rattle.izk.specs.Block.{served}
use Rattle.izk.proofs.Hearing.{heard_lawful}
use Rattle.izk.proofs.Serving.{unusable_is_1}
use Rattle.order.specs.Serving.{Call, nothing, frames_of, step, Good, Meets, Clash, Ran, no_call, a_call}
use Rattle.order.proofs.Demand3.{did, step_is, stays, clash_turn, keeping_order_serves}

-- ---- refused calls

abbrev pub number_of : Verdict → ℕ
number_of (Refused n) = n
number_of (Accepted e t d) = 0

-- only what is accepted meets anything, or is met
meets_done : (x y : Verdict) → Meets x y → (number_of x ≡ 0) × (number_of y ≡ 0)
meets_done (Refused n) y (c, w, r) = absurd (Memᴰ.not-nil w)
meets_done (Accepted e t d) (Refused n) (c, w, inl r) = absurd (Memᴰ.not-nil r)
meets_done (Accepted e t d) (Refused n) (c, w, inr r) = absurd (Memᴰ.not-nil r)
meets_done (Accepted e t d) (Accepted k u b) h = (refl, refl)

module _ (ear : Hearing) (ok : Lawful ear) (v : Version) (a : ℕ) where
  clash_done : (x y : Call) → Clash ear a x y → (number_of (ear a x.frame) ≡ 0) × (number_of (ear a y.frame) ≡ 0)
  clash_done x y (inl h) = meets_done (ear a x.frame) (ear a y.frame) h
  clash_done x y (inr h) = let p = meets_done (ear a y.frame) (ear a x.frame) h in (p.1, p.0)

  number_is : (m : List ℕ) (x : Call) → Good v a m → (step ear v m x).0.0 ≡ number_of (ear a x.frame)
  number_is m x g = ap (λ (r : (ℕ × List ℕ) × List ℕ). r.0.0) (step_is ear ok v a m x g) ∙ by (ear a x.frame)
    where
      by : (r : Verdict) → (did v r (contents_of x.frame) m).0.0 ≡ number_of r
      by (Refused n) = refl
      by (Accepted e t d) = refl

  -- a call that is refused on a usable image clashes with none
  pub refused_clashes_with_none : (m : List ℕ) (x y : Call) → Good v a m → (step ear v m x).0.0 ≢ 0 → (¬ Clash ear a x y) × (¬ Clash ear a y x)
  refused_clashes_with_none m x y g n =
      (λ c. n (number_is m x g ∙ (clash_done x y c).0), λ c. n (number_is m x g ∙ (clash_done y x c).1))

  -- in any list a call has the number of what is heard
  pub number_at : (xs : List Call) (m : List ℕ) → Good v a m → (i : ℕ) → i < length xs
      → (get_or (outcomes (step ear v) m xs) i (0, [])).0 ≡ number_of (ear a (get_or xs i nothing).frame)
  number_at [] m g i l = absurd (not-suc-le-zero l)
  number_at (x ∷ xs) m g zero l = number_is m x g
  number_at (x ∷ xs) m g (suc i) l = number_at xs (step ear v m x).1 (stays ear ok v a m x g) i (le_of_suc-le-suc l)

-- ---- an image that is not usable

module _ (ear : Hearing) (v : Version) where
  pub unusable_step : (m : List ℕ) (x : Call) → usable v m ≡ false → step ear v m x ≡ ((1, []), m)
  unusable_step m x u = ap (λ (b : BuffersAfter). ((b.number, reply_in b), b.image)) (unusable_is_1 ear v x.frame m x.out u)

  pub unusable_number : (xs : List Call) (m : List ℕ) → usable v m ≡ false → (i : ℕ) → i < length xs → (get_or (outcomes (step ear v) m xs) i (0, [])).0 ≡ 1
  unusable_number [] m u i l = absurd (not-suc-le-zero l)
  unusable_number (x ∷ xs) m u zero l = ap (λ (r : (ℕ × List ℕ) × List ℕ). r.0.0) (unusable_step m x u)
  unusable_number (x ∷ xs) m u (suc i) l =
      unusable_number xs (step ear v m x).1 (ap (λ (r : (ℕ × List ℕ) × List ℕ). usable v r.1) (unusable_step m x u) ∙ u) i (le_of_suc-le-suc l)

  module _ (xs ys : List Call) (o m : List ℕ) (re : Reorders (length xs) o) (frames : frames_of ys ≡ pick [] (frames_of xs) o) where
    -- every call is refused 1 there and changes nothing, so all orders are alike
    unusable_any_order : usable v m ≡ false → SameService (step ear v) (0, []) m xs ys o
    unusable_any_order u =
        alike_service (step ear v) (λ m. usable v m ≡ false) (λ m x b. rw (still m x b) b) (λ x. x.frame)
        (λ m x y b e. unusable_step m x b ∙ sym (unusable_step m y b)) nothing (0, []) m xs ys o u frames
        (still_any_order (step ear v) (λ m. usable v m ≡ false) still nothing (0, []) xs o m u re)
      where
        still : (m : List ℕ) (x : Call) → usable v m ≡ false → (step ear v m x).1 ≡ m
        still m x b = ap (λ (r : (ℕ × List ℕ) × List ℕ). r.1) (unusable_step m x b)

    on-usable : (usable v m ≡ true → SameService (step ear v) (0, []) m xs ys o) → SameService (step ear v) (0, []) m xs ys o
    on-usable f = go (usable v m) refl
      where
        go : (t : Bool) → usable v m ≡ t → SameService (step ear v) (0, []) m xs ys o
        go true u = f u
        go false u = unusable_any_order u

-- ---- where refused calls stand

module _ (ear : Hearing) (ok : Lawful ear) (v : Version) (xs ys : List Call) (o m : List ℕ) (re : Reorders (length xs) o)
    (frames : frames_of ys ≡ pick [] (frames_of xs) o) where
  -- the number that the call at a place of the list is given
  abbrev given : ℕ → ℕ
  given i = (get_or (outcomes (step ear v) m xs) i (0, [])).0

  -- where those that were done keep their order, refused ones may stand anywhere
  pub refused_anywhere : ((k n : ℕ) → k < n → n < length o → given (place o k) ≡ 0 → given (place o n) ≡ 0 → place o k < place o n)
      → SameService (step ear v) (0, []) m xs ys o
  refused_anywhere order = on-usable ear v xs ys o m re frames (λ u. keeping_order_serves ear ok v (address m) xs ys o m (u, refl) re frames (keeps u))
    where
      keeps : usable v m ≡ true → KeepsClashes (Clash ear (address m)) nothing xs o
      keeps u k n lt l c =
          let z = clash_done ear ok v (address m) (get_or xs (place o k) nothing) (get_or xs (place o n) nothing) c in
          order k n lt l (at u k (omega arith) ∙ z.0) (at u n l ∙ z.1)
        where
          at : usable v m ≡ true → (k : ℕ) → k < length o → given (place o k) ≡ number_of (ear (address m) (get_or xs (place o k) nothing).frame)
          at u k l = number_at ear ok v (address m) xs m (u, refl) (place o k) (re.inside k l)

-- ---- the block, in either position of its switch, one for both lists, on any image

module _ (s : Switch) (v : Version) (xs ys : List Call) (o m : List ℕ) (re : Reorders (length xs) o) (frames : frames_of ys ≡ pick [] (frames_of xs) o) where
  -- a reordering in which any two calls that clash keep their order gives each the same number and reply, and leaves the same image
  pub repeats_serve : KeepsClashes (Clash (heard s) (address m)) nothing xs o → SameService (step (heard s) v) (0, []) m xs ys o
  repeats_serve keeps =
      on-usable (heard s) v xs ys o m re frames (λ u. keeping_order_serves (heard s) (heard_lawful s) v (address m) xs ys o m (u, refl) re frames keeps)

  -- by place
  pub repeats_answer : KeepsClashes (Clash (heard s) (address m)) nothing xs o → (k : ℕ) → k < length o
      → get_or (outcomes (step (heard s) v) m ys) k (0, []) ≡ get_or (outcomes (step (heard s) v) m xs) (place o k) (0, [])
  repeats_answer keeps = each_outcome (step (heard s) v) (0, []) m xs ys o (repeats_serve keeps)

  -- the premise from the list's side: of two that clash the one that stands first is served first
  pub repeats_in_order : ClashesInOrder (Clash (heard s) (address m)) nothing xs o → SameService (step (heard s) v) (0, []) m xs ys o
  repeats_in_order h =
      repeats_serve ((in_order_exactly (Clash (heard s) (address m)) nothing (clash_turn (heard s) (heard_lawful s) v (address m)) xs o re).0 h)

-- ---- calls

module _ (s : Switch) where
  -- by the promise there is one way that calls go
  pub ran_is : {m m' : List ℕ} {xs : List Call} {rs : List (ℕ × List ℕ)} → Ran s m xs rs m'
      → (rs ≡ outcomes (step (heard s) current) m xs) × (m' ≡ final (step (heard s) current) m xs)
  ran_is (no_call m) = (refl, refl)
  ran_is (a_call m x xs r left written rest m' p then) =
      let k = ran_is then in
      let e : (r.number, take r.len written) ≡ (step (heard s) current m x).0 = rw (p.number_is, p.len_is, p.out_is) refl in
      rw (← p.image_is) (ap₂ ◌∷◌ e k.0, k.1)

  -- and there is that one
  pub runs_so : (m : List ℕ) (xs : List Call) → Ran s m xs (outcomes (step (heard s) current) m xs) (final (step (heard s) current) m xs)
  runs_so m [] = no_call m
  runs_so m (x ∷ xs) =
      let a = served (heard s) current x.frame m x.out in
      a_call m x xs (record { number = a.number; len = a.len }) a.image a.out _ _
      (record { number_is = refl; len_is = refl; image_is = refl; out_is = refl }) (runs_so a.image xs)

  -- so two rows of calls with the same frames, of which those that clash keep their order, return the same by place, and leave the same image
  pub runs_alike : {m m' m'' : List ℕ} {xs ys : List Call} {rs ss : List (ℕ × List ℕ)} (o : List ℕ) → Reorders (length xs) o
      → frames_of ys ≡ pick [] (frames_of xs) o → KeepsClashes (Clash (heard s) (address m)) nothing xs o
      → Ran s m xs rs m' → Ran s m ys ss m'' → (ss ≡ pick (0, []) rs o) × (m'' ≡ m')
  runs_alike {m} {xs} {ys} o re frames keeps a b =
      let p = ran_is a in
      let q = ran_is b in
      let h = repeats_serve s current xs ys o m re frames keeps in
      (q.0 ∙ h.answers ∙ ap (λ (l : List (ℕ × List ℕ)). pick (0, []) l o) (sym p.0), q.1 ∙ h.left ∙ sym p.1)
