-- First check first, and a refusal alters nothing: of each of the five, by laws on lists of checks. Assumes nothing.
use mathlib.Core.Path.{◌≡◌, refl, sym, ap, ◌∙◌}
use mathlib.Core.Logic.{◌≢◌}
use mathlib.Core.List.{List, [], ◌∷◌, map, Memᴰ}
use mathlib.Core.Bool.{Bool, true, false, cond}
use Prim.Native.Nat.{ℕ, ◌*◌, ◌≤◌}
use native.Mathlib.Omega.{arith}
use lib.ListN.{length}
use lib.Dec.{leb, eqb}
use borrow.Author.Tests.{eqb-true, eq-eqb, ne_eqb}
use Rattle.laws.specs.Checks.{Check, check, judged, first_failing, Gives, none, one, rising_from, all}
use Rattle.laws.proofs.Tests.{never, all_of}
use Rattle.laws.proofs.Bytes.{lay-none}
use Rattle.laws.proofs.Checks.{judged-map, gives_first, judged_gives, judged_refused, lowest_given}
use Rattle.output.specs.Output.{OutputAfter, refuse, written}
use Rattle.frame.specs.Apart.{contents_of, frame_checks, apart_checks, apart}
use Rattle.frame.specs.Built.{frame_of, build_checks, built}
use Rattle.image.specs.declared.version.Version.{Version}
use Rattle.image.specs.Version.{current}
use Rattle.image.specs.Usable.{usable, address}
use Rattle.image.specs.Made.{ImageAfter, unmade}
use Rattle.image.specs.Fresh.{fresh_checks, freshened}
use Rattle.image.specs.Held.{unheld, held_of, held_checks, held_parts, HeldAnswer}
use Rattle.rules.specs.declared.switch.Switch.{Switch}
use Rattle.rules.specs.declared.switch.Switch.TheVariants.{Unsealed, Sealed}
use Rattle.rules.specs.Order.{Verdict, Refused, Accepted}
use Rattle.rules.specs.Rules.{byte}
use Rattle.rules.specs.Seal.{lets, is_write}
use Rattle.rules.specs.Verdict.{recognised, verdict_number}
use Rattle.rules.proofs.FirstCheck.{recognised_number}
use Rattle.command.specs.Reply.{refusal, done, BuffersAfter, sent}
use Rattle.izk.specs.Heard.{Hearing, heard, answered}
use Rattle.izk.specs.Block.{served}
use Rattle.izk.specs.Refusals.{serve_checks, rank_of}
use Rattle.izk.proofs.Sealed.{others_as_unsealed}

-- ---- first check first: each gives what its list of checks gives

done_number : (v : Version) (r : Verdict) (c m : List ℕ) → (done v r c m).number ≡ verdict_number r
done_number v (Refused n) c m = refl
done_number v (Accepted e a d) c m = refl

serve_number : (s : Switch) (v : Version) (f m out : List ℕ) → (served (heard s) v f m out).number ≡ first_failing (serve_checks s v f m out)
unfolding served answered heard serve_checks frame_checks first_failing judged
serve_number s v f m out =
    judged-map (λ (b : BuffersAfter). b.number) (λ n. sent (refusal n m) out) outer (sent (answered (heard s) v f m) out)
    ∙ ap (λ (n : ℕ). judged (λ n. n) outer n) (
    done_number v (heard s (address m) f) (contents_of f) m ∙ judged-map verdict_number Refused (frame_checks f) (recognised s (address m) (contents_of f))
    ∙ ap (λ (n : ℕ). judged (λ n. n) (frame_checks f) n) (recognised_number s (address m) (contents_of f))
    )
  where
    outer : List Check
    outer = check 1 (usable v m) ∷ (check 2 (leb 269 (length out)) ∷ [])

pub serve_gives : (s : Switch) (v : Version) (f m out : List ℕ) → Gives (serve_checks s v f m out) (served (heard s) v f m out).number
serve_gives s v f m out = rw (serve_number s v f m out) (gives_first (serve_checks s v f m out))

pub take_apart_gives : (f out : List ℕ) → Gives (apart_checks f out) (apart f out).number
unfolding apart
take_apart_gives f out = judged_gives (λ (a : OutputAfter). a.number) (refuse out) (apart_checks f out) (written out (contents_of f)) (λ n. refl) (λ p. refl)

pub build_gives : (c out : List ℕ) → Gives (build_checks c out) (built c out).number
unfolding built
build_gives c out = judged_gives (λ (a : OutputAfter). a.number) (refuse out) (build_checks c out) (written out (frame_of c)) (λ n. refl) (λ p. refl)

pub fresh_gives : (v : Version) (m : List ℕ) (a : ℕ) → Gives (fresh_checks v m a) (freshened v m a).number
unfolding freshened
fresh_gives v m a = judged_gives (λ (x : ImageAfter). x.number) (unmade m) (fresh_checks v m a) _ (λ n. refl) (λ p. refl)

pub held_gives : (v : Version) (m : List ℕ) (t : ℕ) → Gives (held_checks v m t) (held_parts v m t).number
unfolding held_parts held_of
held_gives v m t = judged_gives (λ (h : HeldAnswer). h.number) unheld (held_checks v m t) _ (λ n. refl) (λ p. refl)

-- the numbers of each list, in its order
pub lists_numbered : (s : Switch) (v : Version) (f m out c : List ℕ) (a t : ℕ)
    → (map (λ x. x.number) (serve_checks s v f m out) ≡ 1 ∷ (2 ∷ (3 ∷ (4 ∷ (5 ∷ (6 ∷ (7 ∷ (8 ∷ (16 ∷ (9 ∷ (10 ∷ (11 ∷ []))))))))))))
    × (map (λ x. x.number) (apart_checks f out) ≡ 2 ∷ (3 ∷ (4 ∷ (5 ∷ (6 ∷ [])))))
    × (map (λ x. x.number) (build_checks c out) ≡ 3 ∷ (2 ∷ []))
    × (map (λ x. x.number) (fresh_checks v m a) ≡ 1 ∷ (11 ∷ []))
    × (map (λ x. x.number) (held_checks v m t) ≡ 1 ∷ (10 ∷ []))
unfolding serve_checks frame_checks
lists_numbered s v f m out c a t = (refl, refl, refl, refl, refl)

-- in three of the five they rise; in building 2 stands behind 3, in serving 16 before 9
pub lists_rise : (s : Switch) (v : Version) (f m out c : List ℕ) (a t : ℕ)
    → (rising_from 0 (apart_checks f out) ≡ true) × (rising_from 0 (fresh_checks v m a) ≡ true) × (rising_from 0 (held_checks v m t) ≡ true)
    × (rising_from 0 (build_checks c out) ≡ false) × (rising_from 0 (serve_checks s v f m out) ≡ false)
unfolding serve_checks frame_checks rising_from
lists_rise s v f m out c a t = (refl, refl, refl, refl, refl)

-- so in these three no check that fails has a lower number than the one given
module _ {x : Check} where
  pub take_apart_lowest : (f out : List ℕ) → Memᴰ x (apart_checks f out) → x.passes ≡ false → (apart f out).number ≤ x.number
  take_apart_lowest f out = lowest_given (apart_checks f out) _ (lists_rise Unsealed current f [] out [] 0 0).0 (take_apart_gives f out)

  pub fresh_lowest : (v : Version) (m : List ℕ) (a : ℕ) → Memᴰ x (fresh_checks v m a) → x.passes ≡ false → (freshened v m a).number ≤ x.number
  fresh_lowest v m a = lowest_given (fresh_checks v m a) _ (lists_rise Unsealed v [] m [] [] a 0).1 (fresh_gives v m a)

  pub held_lowest : (v : Version) (m : List ℕ) (t : ℕ) → Memᴰ x (held_checks v m t) → x.passes ≡ false → (held_parts v m t).number ≤ x.number
  held_lowest v m t = lowest_given (held_checks v m t) _ (lists_rise Unsealed v [] m [] [] 0 t).2 (held_gives v m t)

-- ---- lowest number first, in serving

-- each check with its rank for its number
abbrev pub ranked : Check → Check
ranked x = check (rank_of x.number) x.passes

module _ (s : Switch) (v : Version) (f m out : List ℕ) where
  pub ranks_rise : rising_from 0 (map ranked (serve_checks s v f m out)) ≡ true
  unfolding serve_checks rising_from rank_of
  ranks_rise = refl

  rank_given : rank_of (first_failing (serve_checks s v f m out)) ≡ first_failing (map ranked (serve_checks s v f m out))
  unfolding serve_checks first_failing judged rank_of
  rank_given = judged-map rank_of (λ n. n) (serve_checks s v f m out) 0

  module _ {x : Check} (among : Memᴰ x (serve_checks s v f m out)) (fails : x.passes ≡ false) where
    -- no check that fails ranks before the one given: 16 comes after 8 and before 9
    pub serve_by_rank : rank_of (served (heard s) v f m out).number ≤ rank_of x.number
    serve_by_rank =
        rw (serve_number s v f m out, rank_given)
        (lowest_given (map ranked (serve_checks s v f m out)) _ ranks_rise (gives_first (map ranked (serve_checks s v f m out))) (mathlib.Core.List.Memᴰ.map ranked among) fails)

-- ---- the same by the numbers themselves

by_rank : (n k : ℕ) → n ≢ 16 → rank_of n ≤ rank_of k → n ≤ k
unfolding rank_of
by_rank n k d h = go (eqb k 16) refl (rw (ne_eqb n 16 d) at h)
  where
    go : (t : Bool) → eqb k 16 ≡ t → 2 * n ≤ cond t 17 (2 * k) → n ≤ k
    go true e g = omega (arith, eqb-true k 16 e)
    go false e g = omega arith

behind_8 : (k : ℕ) → rank_of 16 ≤ rank_of k → 9 ≤ k
unfolding rank_of
behind_8 k h = go (eqb k 16) refl h
  where
    go : (t : Bool) → eqb k 16 ≡ t → 17 ≤ cond t 17 (2 * k) → 9 ≤ k
    go true e g = omega (arith, eqb-true k 16 e)
    go false e g = omega arith

module _ (s : Switch) (v : Version) (f m out : List ℕ) {x : Check} (among : Memᴰ x (serve_checks s v f m out)) (fails : x.passes ≡ false) where
  -- a number that is not 16 is the lowest of those that fail
  pub lowest_but_16 : (served (heard s) v f m out).number ≢ 16 → (served (heard s) v f m out).number ≤ x.number
  lowest_but_16 d = by_rank _ _ d (serve_by_rank s v f m out among fails)

  -- and where it is 16, none of 1 to 8 fails
  pub sixteen_past_8 : (served (heard s) v f m out).number ≡ 16 → 9 ≤ x.number
  sixteen_past_8 e = behind_8 _ (rw e at (serve_by_rank s v f m out among fails))

-- ---- who gets 16

module _ (v : Version) (f m out : List ℕ) where
  passes_16 : all (λ x. cond (eqb x.number 16) x.passes true) (serve_checks Unsealed v f m out) ≡ true
  unfolding all serve_checks lets
  passes_16 = refl

  pub unsealed_never_16 : (served (heard Unsealed) v f m out).number ≢ 16
  unsealed_never_16 z = go (serve_gives Unsealed v f m out)
    where
      go : Gives (serve_checks Unsealed v f m out) (served (heard Unsealed) v f m out).number → ⊥
      go (none p e) = omega arith
      go (one c i e) =
          let among : Memᴰ c (serve_checks Unsealed v f m out) = rw i.split (mathlib.Core.List.Memᴰ.append_right i.before (mathlib.Core.List.Memᴰ.head refl)) in
          let passes = all_of (λ x. cond (eqb x.number 16) x.passes true) passes_16 among in
          never (sym i.fails ∙ (rw (eq-eqb c.number 16 (sym e ∙ z)) at passes))

  -- so unsealed the number is the lowest, as before there was a switch
  pub serve_lowest : {x : Check} → Memᴰ x (serve_checks Unsealed v f m out) → x.passes ≡ false → (served (heard Unsealed) v f m out).number ≤ x.number
  serve_lowest among fails = lowest_but_16 Unsealed v f m out among fails unsealed_never_16

-- a write that is sealed, and no other
pub sixteen_only : (s : Switch) (v : Version) (f m out : List ℕ) → (served (heard s) v f m out).number ≡ 16
    → (s ≡ Sealed) × (is_write (byte (contents_of f) 2) ≡ true)
sixteen_only Unsealed v f m out e = absurd (unsealed_never_16 v f m out e)
sixteen_only Sealed v f m out e = (refl, go (is_write (byte (contents_of f) 2)) refl)
  where
    go : (w : Bool) → is_write (byte (contents_of f) 2) ≡ w → w ≡ true
    go true w = refl
    go false w = absurd (unsealed_never_16 v f m out (sym (ap (λ b. b.number) (others_as_unsealed v f m out w)) ∙ e))

-- ---- a refusal reports nothing and alters nothing

-- of serving: no length, and both buffers as they were
pub record Unchanged (a : BuffersAfter) (m o : List ℕ) : Type 0 where
  pub len : a.len ≡ 0
  pub image : a.image ≡ m
  pub out : a.out ≡ o

pub refused_changes_nothing : (ear : Hearing) (v : Version) (f m out : List ℕ) → (served ear v f m out).number ≢ 0 → Unchanged (served ear v f m out) m out
unfolding served answered
refused_changes_nothing ear v f m out =
    judged_refused (λ (b : BuffersAfter). b.number) (λ n. sent (refusal n m) out) _ (sent (answered ear v f m) out) (λ b. Unchanged b m out) same
    (done-same (ear (address m) f))
  where
    same : (k : ℕ) → Unchanged (sent (refusal k m) out) m out
    same k = record { len = refl; image = refl; out = lay-none out 0 }

    done-same : (r : Verdict) → (done v r (contents_of f) m).number ≢ 0 → Unchanged (sent (done v r (contents_of f) m) out) m out
    done-same (Refused k) z = same k
    done-same (Accepted e a d) z = absurd (z refl)

-- of taking apart and building
abbrev pub Unwritten : OutputAfter → List ℕ → Type 0
Unwritten a out = (a.len ≡ 0) × (a.out ≡ out)

pub refused_take_apart : (f out : List ℕ) → (apart f out).number ≢ 0 → Unwritten (apart f out) out
unfolding apart
refused_take_apart f out =
    judged_refused (λ (a : OutputAfter). a.number) (refuse out) (apart_checks f out) (written out (contents_of f)) (λ a. Unwritten a out)
    (λ n. (refl, refl)) (λ z. absurd (z refl))

pub refused_build : (c out : List ℕ) → (built c out).number ≢ 0 → Unwritten (built c out) out
unfolding built
refused_build c out =
    judged_refused (λ (a : OutputAfter). a.number) (refuse out) (build_checks c out) (written out (frame_of c)) (λ a. Unwritten a out)
    (λ n. (refl, refl)) (λ z. absurd (z refl))

pub refused_fresh : (v : Version) (m : List ℕ) (a : ℕ) → (freshened v m a).number ≢ 0 → (freshened v m a).image ≡ m
unfolding freshened
refused_fresh v m a =
    judged_refused (λ (x : ImageAfter). x.number) (unmade m) (fresh_checks v m a) _ (λ x. x.image ≡ m) (λ n. refl) (λ z. absurd (z refl))

-- the held-parts question lends nothing to write, and reports two zeros
pub refused_held : (v : Version) (m : List ℕ) (t : ℕ) → (held_parts v m t).number ≢ 0 → ((held_parts v m t).parts ≡ 0) × ((held_parts v m t).missing ≡ 0)
unfolding held_parts held_of
refused_held v m t =
    judged_refused (λ (h : HeldAnswer). h.number) unheld (held_checks v m t) _ (λ h. (h.parts ≡ 0) × (h.missing ≡ 0)) (λ n. (refl, refl)) (λ z. absurd (z refl))
