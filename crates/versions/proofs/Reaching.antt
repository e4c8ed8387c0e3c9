-- A usable image that calls lead to from a fresh one, moved, is one that calls lead to in the other version: nothing that holds of what is reached is lost
-- by a move. Assumes nothing.
use mathlib.Core.Path.{◌≡◌, sym, ◌∙◌}
use mathlib.Core.Logic.{◌≢◌}
use mathlib.Core.List.{List}
use mathlib.Core.Bool.{true}
use Prim.Native.Nat.{ℕ, zero, suc, ◌+◌}
use native.Mathlib.Omega.{arith}
use Rattle.laws.proofs.Tests.{never}
use Rattle.image.specs.declared.version.Version.{Version}
use Rattle.image.specs.declared.version.Version.TheVariants.{V1, V2}
use Rattle.image.specs.Words.{kept_offset}
use Rattle.image.specs.Usable.{usable}
use Rattle.image.specs.Fresh.{fresh, freshened}
use Rattle.image.proofs.FreshImage.{rest_at}
use Rattle.izk.specs.Heard.{heard}
use Rattle.izk.specs.Since.{Turn, in_turn}
use Rattle.izk.proofs.Hearing.{heard_lawful}
use Rattle.izk.proofs.Turns.{Went, refused, accepted, went}
use Rattle.kept.specs.Reached.{Reached, fresh_one, laid_anew, after_call}
use Rattle.kept.proofs.Truth.{fresh_true, LaidOut, done, refused_with, laid_out}
use Rattle.kept.proofs.Alike.{fresh-same, zero_unusable}
use Rattle.versions.specs.Moved.{in_version, other}
use Rattle.versions.proofs.Words.{summed}
use Rattle.versions.proofs.RoundTrip.{down_is, up_is}
use Rattle.versions.proofs.Serving.{up_commutes, down_commutes}

-- ---- a fresh image, moved, is a fresh image

pub fresh-moved : (v : Version) (a : ℕ) → a ≢ 0 → in_version v (fresh (other v) a) ≡ fresh v a
fresh-moved V1 a some = down_is (fresh V1 a) (fresh V2 a) (fresh-same a some).like
fresh-moved V2 a some =
    up_is (fresh V1 a) (fresh V2 a) (fresh-same a some).like
    (summed (fresh V2 a) (fresh_true a) (λ i l. rw (rest_at V2 a (kept_offset i + 1) (omega arith)) (omega arith)))

moved_call : (v : Version) (m : List ℕ) (x : Turn) → usable (other v) m ≡ true
    → (in_turn heard v (in_version v m) x).image ≡ in_version v (in_turn heard (other v) m x).image
moved_call V1 m x u = down_commutes heard heard_lawful m u x
moved_call V2 m x u = up_commutes heard heard_lawful m u x

-- ---- and so on

usable-some : (v : Version) (a : ℕ) → usable v (fresh v a) ≡ true → a ≢ 0
usable-some v zero u e = absurd (never (sym (zero_unusable v) ∙ u))
usable-some v (suc a) u e = absurd (omega arith)

pub moved_reached : (v : Version) {m : List ℕ} → Reached (other v) m → usable (other v) m ≡ true → Reached v (in_version v m)
moved_reached v (fresh_one a) u = rw (fresh-moved v a (usable-some (other v) a u)) (fresh_one a)
moved_reached v (laid_anew m a r) u = go (laid_out (other v) m a) u (λ w. moved_reached v r w)
  where
    go : LaidOut (other v) m a → usable (other v) (freshened (other v) m a).image ≡ true → (usable (other v) m ≡ true → Reached v (in_version v m))
        → Reached v (in_version v (freshened (other v) m a).image)
    go (done e) u ih = let w = rw e at u in rw (e, fresh-moved v a (usable-some (other v) a w)) (fresh_one a)
    go (refused_with n e) u ih = let w = rw e at u in rw e (ih w)
moved_reached v (after_call m x r) u = go (went heard heard_lawful (other v) m x) u (λ w. moved_reached v r w)
  where
    go : Went heard heard_lawful (other v) m x → usable (other v) (in_turn heard (other v) m x).image ≡ true
        → (usable (other v) m ≡ true → Reached v (in_version v m)) → Reached v (in_version v (in_turn heard (other v) m x).image)
    go (refused n l i) u ih = let w = rw i at u in rw i (ih w)
    go (accepted w e a d h i) u ih = rw (← moved_call v m x w) (after_call (in_version v m) x (ih w))
