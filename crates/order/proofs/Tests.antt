-- That no two calls clash, and that those that do keep their order, as tests, so that on closed lists they are computed. Assumes nothing.
use mathlib.Core.Path.{◌≡◌, refl}
use mathlib.Core.Logic.{⊎_elim}
use mathlib.Core.List.{List, [], map, Memᴰ}
use mathlib.Core.Bool.{Bool, true, ◌&&◌, ◌||◌, not}
use Prim.Native.Nat.{ℕ}
use lib.ListN.{length, get_or, get_or-map, length-map}
use lib.Dec.{ltb, eqb}
use borrow.Author.Tests.{ltb-true, eq-eqb}
use Rattle.laws.specs.Checks.{every, all}
use Rattle.laws.proofs.Tests.{and_both, or_either, every_at, never, all_of}
use Rattle.reorder.specs.Reorder.{place, NoClash, KeepsClashes}
use Rattle.image.specs.declared.cell.Cell.{Cell}
use Rattle.image.specs.Cell.{offset}
use Rattle.rules.specs.Order.{Verdict}
use Rattle.command.specs.Reply.{reads_of, writes_of}
use Rattle.izk.specs.Heard.{Hearing}
use Rattle.order.specs.Serving.{Call, nothing, Meets, Clash}

-- cells that stand at other offsets are others
unfoldable pub disjoint : List Cell → List Cell → Bool
disjoint xs ys = all (λ x. all (λ y. not (eqb (offset x) (offset y))) ys) xs

pub no_shared : (xs ys : List Cell) → disjoint xs ys ≡ true → (c : Cell) → Memᴰ c xs → ¬ Memᴰ c ys
unfolding disjoint
no_shared xs ys h c m n =
    let z = all_of (λ y. not (eqb (offset c) (offset y))) (all_of (λ x. all (λ y. not (eqb (offset x) (offset y))) ys) h m) n in
    never (rw (eq-eqb (offset c) (offset c) refl) at z)

unfoldable pub clear : Verdict → Verdict → Bool
clear x y = disjoint (writes_of x) (reads_of y) && disjoint (writes_of x) (writes_of y)

no_meeting : (x y : Verdict) → clear x y ≡ true → ¬ Meets x y
unfolding clear
no_meeting x y h (c, w, r) = ⊎_elim (no_shared (writes_of x) (reads_of y) p.0 c w) (no_shared (writes_of x) (writes_of y) p.1 c w) r
  where
    p : (disjoint (writes_of x) (reads_of y) ≡ true) × (disjoint (writes_of x) (writes_of y) ≡ true)
    p = and_both (disjoint (writes_of x) (reads_of y)) (disjoint (writes_of x) (writes_of y)) h

-- neither meets the other
unfoldable pub apart : Verdict → Verdict → Bool
apart x y = clear x y && clear y x

neither_meets : (x y : Verdict) → apart x y ≡ true → (¬ Meets x y) × (¬ Meets y x)
unfolding apart
neither_meets x y h = let p = and_both (clear x y) (clear y x) h in (no_meeting x y p.0, no_meeting y x p.1)

-- a block of address a hears each frame once
abbrev hears : Hearing → ℕ → Call → Verdict
hears ear a x = ear a x.frame

no_clash : (ear : Hearing) (a : ℕ) (xs : List Call) (i j : ℕ) → let vs = map (hears ear a) xs in
    apart (get_or vs i (ear a [])) (get_or vs j (ear a [])) ≡ true → ¬ Clash ear a (get_or xs i nothing) (get_or xs j nothing)
no_clash ear a xs i j h c =
    let p = rw (get_or-map (hears ear a) xs i nothing, get_or-map (hears ear a) xs j nothing) at (neither_meets _ _ h) in
    ⊎_elim p.0 p.1 c

-- ---- no two clash

-- of two verdicts at different places neither meets the other
unfoldable pub none_meet : Verdict → List Verdict → Bool
none_meet d vs = every (λ j. every (λ i. apart (get_or vs i d) (get_or vs j d)) j) (length vs)

unfoldable pub quiet : Hearing → ℕ → List Call → Bool
quiet ear a xs = none_meet (ear a []) (map (hears ear a) xs)

pub no_clash_of : (ear : Hearing) (a : ℕ) (xs : List Call) → quiet ear a xs ≡ true → NoClash (Clash ear a) nothing xs
unfolding quiet none_meet
no_clash_of ear a xs h i j l k =
    let vs = map (hears ear a) xs in
    let row = every_at (λ j. every (λ i. apart (get_or vs i (ear a [])) (get_or vs j (ear a []))) j) (length vs) j h (rw (length-map xs (hears ear a)) k) in
    no_clash ear a xs i j (every_at (λ i. apart (get_or vs i (ear a [])) (get_or vs j (ear a []))) j i row l)

-- ---- those that clash keep their order

-- of two verdicts that o takes one after the other, they stand so in the list or neither meets the other
unfoldable pub ordered : Verdict → List Verdict → List ℕ → Bool
ordered d vs o = every (λ m. every (λ k. ltb (place o k) (place o m) || apart (get_or vs (place o k) d) (get_or vs (place o m) d)) m) (length o)

unfoldable pub is_in_order : Hearing → ℕ → List Call → List ℕ → Bool
is_in_order ear a xs o = ordered (ear a []) (map (hears ear a) xs) o

pub keeps_of : (ear : Hearing) (a : ℕ) (xs : List Call) (o : List ℕ) → is_in_order ear a xs o ≡ true → KeepsClashes (Clash ear a) nothing xs o
unfolding is_in_order ordered
keeps_of ear a xs o h k m lt l c =
    let vs = map (hears ear a) xs in
    let fits : ℕ → ℕ → Bool = (λ m k. ltb (place o k) (place o m) || apart (get_or vs (place o k) (ear a [])) (get_or vs (place o m) (ear a []))) in
    let row = every_at (λ m. every (fits m) m) (length o) m h l in
    ⊎_elim (λ e. ltb-true _ _ e) (λ e. absurd (no_clash ear a xs (place o k) (place o m) e c)) (or_either _ _ (every_at (fits m) m k row lt))
