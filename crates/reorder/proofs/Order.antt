-- When the order of serving does not show, for any step. `keeping_order` is the theorem, `any_order` its case without a clash, and `still_any_order` that of
-- a step that leaves its state. Assumes nothing.
use mathlib.Core.Path.{◌≡◌, sym, ap, subst, ◌∙◌}
use mathlib.Core.Logic.{◌↔◌, inl, inr}
use mathlib.Core.List.{List, Memᴰ}
use Prim.Native.Nat.{ℕ, ◌+◌, ◌≤◌, ◌<◌}
use native.Mathlib.Omega.{arith}
use native.Mathlib.Decide.{dec_lt}
use lib.ListN.{length, get_or}
use Rattle.reorder.specs.Reorder.{outcomes, final, Commutes, place, pick, Reorders, Before, NoClash, KeepsClashes, ClashesInOrder, SameService}
use Rattle.reorder.proofs.Walk.{from, pairs_of, mem_place, place_mem, Leads, read_off, base, Free, reordered}

-- ---- what keeps the order of those that clash

module _ {F : Type 0} (Clash : F → F → Type 0) (d : F) (turn : (f g : F) → Clash f g → Clash g f) (fs : List F) (o : List ℕ) (re : Reorders (length fs) o) where
  one_place : (a b : ℕ) → a < length o → b < length o → place o a ≡ place o b → a ≡ b
  one_place a b la lb e = go (dec_lt a b) (dec_lt b a)
    where
      go : Dec (a < b) → Dec (b < a) → a ≡ b
      go (yes h) k = absurd (re.once a b h lb e)
      go (no h) (yes k) = absurd (re.once b a k la (sym e))
      go (no h) (no k) = omega arith

  served_first : ClashesInOrder Clash d fs o → KeepsClashes Clash d fs o
  served_first h k m lt l c = go (dec_lt (place o k) (place o m))
    where
      go : Dec (place o k < place o m) → place o k < place o m
      go (yes p) = p
      go (no p) =
          let ne = re.once k m lt l in
          let c' = turn (get_or fs (place o k) d) (get_or fs (place o m) d) c in
          let (k', m', lt', l', ek, em) = h (place o m) (place o k) (omega arith) (re.inside k (omega arith)) c' in
          let a = one_place k' m (omega arith) l ek in
          let b = one_place m' k l' (omega arith) em in
          absurd (omega arith)

  stands_first : KeepsClashes Clash d fs o → ClashesInOrder Clash d fs o
  stands_first h i j lt l c = go (re.all i (omega arith)) (re.all j l)
    where
      go : ((k : ℕ) × (k < length o) × (place o k ≡ i)) → ((m : ℕ) × (m < length o) × (place o m ≡ j)) → Before o i j
      go (k, lk, ek) (m, lm, em) = at (dec_lt k m) (dec_lt m k)
        where
          at : Dec (k < m) → Dec (m < k) → Before o i j
          at (yes p) q = (k, m, p, lm, ek, em)
          at (no p) (yes q) = let r = h m k q lk (rw (ek, em) (turn (get_or fs i d) (get_or fs j d) c)) in absurd (omega arith)
          at (no p) (no q) = let e : k ≡ m = omega arith in let x = ap (place o) e in absurd (omega arith)

  -- from either side it is the same
  pub in_order_exactly : ClashesInOrder Clash d fs o ↔ KeepsClashes Clash d fs o
  in_order_exactly = (served_first, stands_first)

  -- where no two clash, any reordering keeps theirs
  pub none_to_keep : NoClash Clash d fs → KeepsClashes Clash d fs o
  none_to_keep none = served_first (λ i j lt l c. absurd (none i j lt l c))

-- ---- the theorem

module _ {S F O : Type 0} (step : S → F → O × S) (Good : S → Type 0) (Clash : F → F → Type 0)
    (stays : (s : S) (f : F) → Good s → Good (step s f).1)
    (commute : (s : S) (f g : F) → Good s → ¬ Clash f g → Commutes step s f g) (d : F) (e : O) where
  -- a reordering in which any two that clash keep their order
  pub keeping_order : (fs : List F) (o : List ℕ) (s : S) → Good s → Reorders (length fs) o → KeepsClashes Clash d fs o
      → SameService step e s fs (pick d fs o) o
  keeping_order fs o s good re keeps = let r = read_off step frame ans o s t served in record { answers = r.0; left = r.1 }
    where
      frame : ℕ → F
      frame i = get_or fs i d

      ans : ℕ → O
      ans i = get_or (outcomes step s fs) i e

      t : S
      t = final step s fs

      free : (k m : ℕ) → k < m → m < length o → Dec (place o k < place o m) → Free Clash frame (place o k) (place o m)
      free k m h l (yes p) = inl p
      free k m h l (no p) = let ne = re.once k m h l in inr (omega arith, λ c. p (keeps k m h l c))

      inside : (y : ℕ) → Memᴰ y o → (0 ≤ y) × (y < 0 + length fs)
      inside y m = let r = mem_place m in let b = re.inside r.0 r.1 in (omega arith, omega (arith, r.2))

      all : (i : ℕ) → 0 ≤ i → i < 0 + length fs → Memᴰ i o
      all i lo hi = let r = re.all i (omega arith) in subst (λ x. Memᴰ x o) r.2 (place_mem o r.0 r.1)

      in_list : Leads step frame ans s (from 0 (length fs)) t
      in_list = base step frame ans d e fs s 0 (λ i j p h. ap frame {y = i} (omega arith)) (λ i j p h. ap ans {y = i} (omega arith))

      served : Leads step frame ans s o t
      served =
          let pairs = pairs_of (Free Clash frame) o (λ k m h l. free k m h l (dec_lt (place o k) (place o m))) in
          reordered step frame ans Good Clash stays commute (length fs) 0 o s t good pairs inside all in_list

  -- any reordering, where no two clash
  pub any_order : ((f g : F) → Clash f g → Clash g f) → (fs : List F) (o : List ℕ) (s : S) → Good s → Reorders (length fs) o
      → NoClash Clash d fs → SameService step e s fs (pick d fs o) o
  any_order turn fs o s good re none = keeping_order fs o s good re (none_to_keep Clash d turn fs o re none)

-- ---- a step that leaves its state: no two clash

module _ {S F O : Type 0} (step : S → F → O × S) (Good : S → Type 0) (still : (s : S) (f : F) → Good s → (step s f).1 ≡ s) (d : F) (e : O) where
  stays : (s : S) (f : F) → Good s → Good (step s f).1
  stays s f good = subst Good (sym (still s f good)) good

  commute : (s : S) (f g : F) → Good s → Commutes step s f g
  commute s f g good =
      record {
        first = ap (λ (t : S). (step t f).0) (still s g good);
        second = ap (λ (t : S). (step t g).0) (still s f good);
        state = still (step s f).1 g (stays s f good) ∙ still s f good ∙ sym (still (step s g).1 f (stays s g good) ∙ still s g good);
      }

  pub still_any_order : (fs : List F) (o : List ℕ) (s : S) → Good s → Reorders (length fs) o → SameService step e s fs (pick d fs o) o
  still_any_order fs o s good re =
      any_order step Good (λ f g. ⊥) stays (λ s f g good n. commute s f g good) d e (λ f g c. c) fs o s good re (λ i j l k c. c)
