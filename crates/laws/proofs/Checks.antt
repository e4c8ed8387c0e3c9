-- Laws of the first check that fails. Assumes nothing.
use mathlib.Core.Path.{◌≡◌, refl, sym, ap, ◌∙◌}
use mathlib.Core.Logic.{◌≢◌, ◌⊎◌, inl, inr}
use mathlib.Core.List.Memᴰ
use mathlib.Core.List.{List, [], ◌∷◌, ◌++◌, Memᴰ}
use mathlib.Core.Bool.{Bool, true, false, cond}
use Prim.Native.Nat.{ℕ, ◌≤◌, ◌<◌}
use native.Mathlib.Omega.{arith}
use lib.Dec.{ltb}
use borrow.Author.Tests.{ltb-true}
use Rattle.laws.specs.Checks.{Check, judged, first_failing, AllPass, First, Gives, none, one, rising_from, all}
use Rattle.laws.proofs.Tests.{and_both, never}

-- what is done with the answer may be done within
pub judged-map : {A B : Type 0} (g : A → B) (refuse : ℕ → A) (cs : List Check) (after : A)
    → g (judged refuse cs after) ≡ judged (λ n. g (refuse n)) cs (g after)
unfolding judged
judged-map {B} g refuse [] after = refl
judged-map {A} {B} g refuse (c ∷ cs) after = go c.passes (judged-map g refuse cs after)
  where
    go : (t : Bool) → g (judged refuse cs after) ≡ judged (λ n. g (refuse n)) cs (g after)
        → g (cond t (judged refuse cs after) (refuse c.number)) ≡ cond t (judged (λ n. g (refuse n)) cs (g after)) (g (refuse c.number))
    go true ih = ih
    go false ih = refl

-- where all pass, what follows is the answer
pub judged_passed : {A : Type 0} (refuse : ℕ → A) (cs : List Check) (after : A) → AllPass cs → judged refuse cs after ≡ after
unfolding judged
judged_passed refuse [] after p = refl
judged_passed refuse (c ∷ cs) after p = rw p.0 (judged_passed refuse cs after p.1)

-- by the test of each
pub all_pass_is : (cs : List Check) → all (λ c. c.passes) cs ≡ true → AllPass cs
unfolding all
all_pass_is [] h = tt
all_pass_is (c ∷ cs) h = let p = and_both c.passes _ h in (p.0, all_pass_is cs p.1)

pub all_pass_if : (cs : List Check) → AllPass cs → all (λ c. c.passes) cs ≡ true
unfolding all
all_pass_if [] p = refl
all_pass_if (c ∷ cs) p = rw p.0 (all_pass_if cs p.1)

-- either all pass, or one check is the first that fails and its number answers every reading of the list
pub data Judged (cs : List Check) : Type 1 where
  passed : AllPass cs → Judged cs
  failed : (c : Check) → First c cs → ((A : Type 0) (refuse : ℕ → A) (after : A) → judged refuse cs after ≡ refuse c.number) → Judged cs

pub judge : (cs : List Check) → Judged cs
unfolding judged
judge [] = passed tt
judge (c ∷ cs) = go c.passes refl (judge cs)
  where
    later : {d : Check} → c.passes ≡ true → First d cs → First d (c ∷ cs)
    later e f = record { before = c ∷ f.before; behind = f.behind; split = ap (λ l. c ∷ l) f.split; passed = (e, f.passed); fails = f.fails }

    go : (t : Bool) → c.passes ≡ t → Judged cs → Judged (c ∷ cs)
    go true e (passed p) = passed (e, p)
    go true e (failed d f h) = failed d (later e f) (λ A refuse after. rw e (h A refuse after))
    go false e j = failed c (record { before = []; behind = cs; split = refl; passed = tt; fails = e }) (λ A refuse after. rw e)

-- what follows is y or z: then so it is behind any checks, as far as they let it through
pub judged_either : {A : Type 0} (refuse : ℕ → A) (cs : List Check) (x y z : A) → (x ≡ y) ⊎ (x ≡ z)
    → (judged refuse cs x ≡ judged refuse cs y) ⊎ (judged refuse cs x ≡ z)
judged_either {A} refuse cs x y z h = go (judge cs)
  where
    go : Judged cs → (judged refuse cs x ≡ judged refuse cs y) ⊎ (judged refuse cs x ≡ z)
    go (passed p) = rw (judged_passed refuse cs x p, judged_passed refuse cs y p) h
    go (failed c f reads) = inl (reads A refuse x ∙ sym (reads A refuse y))

-- ---- what a list gives: the number of the first that fails, and no other

pub gives_first : (cs : List Check) → Gives cs (first_failing cs)
unfolding first_failing
gives_first cs = go (judge cs)
  where
    go : Judged cs → Gives cs (judged (λ n. n) cs 0)
    go (passed p) = none p (judged_passed (λ n. n) cs 0 p)
    go (failed c f h) = one c f (h ℕ (λ n. n) 0)

first_number : (c : Check) (before behind : List Check) → AllPass before → c.passes ≡ false → first_failing (before ++ (c ∷ behind)) ≡ c.number
unfolding first_failing judged
first_number c [] behind p f = rw f
first_number c (b ∷ before) behind p f = rw p.0 (first_number c before behind p.1 f)

pub gives_one : (cs : List Check) (n : ℕ) → Gives cs n → n ≡ first_failing cs
unfolding first_failing
gives_one cs n (none p e) = e ∙ sym (judged_passed (λ n. n) cs 0 p)
gives_one cs n (one c f e) = e ∙ rw f.split (sym (first_number c f.before f.behind f.passed f.fails))

-- ---- what is done with a refusal

module _ {A : Type 0} (number : A → ℕ) (refuse : ℕ → A) (cs : List Check) (after : A) where
  -- where a refusal has its check's number, and what follows the checks has number 0, the number is what the list gives
  pub judged_number : ((n : ℕ) → number (refuse n) ≡ n) → (AllPass cs → number after ≡ 0) → number (judged refuse cs after) ≡ first_failing cs
  unfolding first_failing
  judged_number r z = go (judge cs)
    where
      go : Judged cs → number (judged refuse cs after) ≡ judged (λ n. n) cs 0
      go (passed p) = rw (judged_passed refuse cs after p, judged_passed (λ n. n) cs 0 p) (z p)
      go (failed c f h) = rw (h A refuse after, h ℕ (λ n. n) 0) (r c.number)

  pub judged_gives : ((n : ℕ) → number (refuse n) ≡ n) → (AllPass cs → number after ≡ 0) → Gives cs (number (judged refuse cs after))
  judged_gives r z = rw (judged_number r z) (gives_first cs)

  -- what holds of every refusal, and of what follows if that is one, holds of each outcome whose number is not 0
  pub judged_refused : (Q : A → Type 0) → ((n : ℕ) → Q (refuse n)) → (number after ≢ 0 → Q after)
      → number (judged refuse cs after) ≢ 0 → Q (judged refuse cs after)
  judged_refused Q r q = go (judge cs)
    where
      go : Judged cs → number (judged refuse cs after) ≢ 0 → Q (judged refuse cs after)
      go (passed p) = rw (judged_passed refuse cs after p) q
      go (failed c f h) = rw (h A refuse after) (λ n. r c.number)

-- ---- by the number of the first that fails, where no check is numbered 0

rising-some : (k : ℕ) (c : Check) (cs : List Check) → rising_from k (c ∷ cs) ≡ true → (k < c.number) × (rising_from c.number cs ≡ true)
unfolding rising_from
rising-some k c cs h = let p = and_both (ltb k c.number) (rising_from c.number cs) h in (ltb-true _ _ p.0, p.1)

-- lowest number first: any check that fails has a number no lower than the first's
lowest_first : {c : Check} (k : ℕ) (cs : List Check) → rising_from k cs ≡ true → Memᴰ c cs → c.passes ≡ false
    → (first_failing cs ≤ c.number) × (k < first_failing cs)
unfolding first_failing judged
lowest_first k [] h m f = absurd (Memᴰ.not-nil m)
lowest_first {c} k (d ∷ cs) h m f =
    let r = rising-some k d cs h in
    go d.passes refl r (Memᴰ.cases_cons m) (λ i. lowest_first d.number cs r.1 i f) (above c cs)
  where
    above : (c : Check) (cs : List Check) → (j : ℕ) → rising_from j cs ≡ true → Memᴰ c cs → j < c.number
    above c [] j r i = absurd (Memᴰ.not-nil i)
    above c (x ∷ cs) j r i = later (rising-some j x cs r) (Memᴰ.cases_cons i) (λ s t. above c cs x.number s t)
      where
        later : (j < x.number) × (rising_from x.number cs ≡ true) → (c ≡ x) ⊎ Memᴰ c cs
            → (rising_from x.number cs ≡ true → Memᴰ c cs → x.number < c.number) → j < c.number
        later p (inl e) ih = rw e p.0
        later p (inr i) ih = let z = ih p.1 i in omega arith

    go : (t : Bool) → d.passes ≡ t → (k < d.number) × (rising_from d.number cs ≡ true) → (c ≡ d) ⊎ Memᴰ c cs
        → (Memᴰ c cs → (first_failing cs ≤ c.number) × (d.number < first_failing cs))
        → ((j : ℕ) → rising_from j cs ≡ true → Memᴰ c cs → j < c.number)
        → (cond t (judged (λ n. n) cs 0) d.number ≤ c.number) × (k < cond t (judged (λ n. n) cs 0) d.number)
    go true e p (inl i) ih ab = absurd (never (sym f ∙ rw i e))
    go true e p (inr i) ih ab = let z = ih i in (z.0, omega arith)
    go false e p (inl i) ih ab = (rw i (omega arith), p.0)
    go false e p (inr i) ih ab = let z = ab d.number p.1 i in (omega arith, p.0)

-- so what a list gives is the lowest number of those that fail
pub lowest_given : {c : Check} (cs : List Check) (n : ℕ) → rising_from 0 cs ≡ true → Gives cs n → Memᴰ c cs → c.passes ≡ false → n ≤ c.number
lowest_given cs n r g m f = rw (gives_one cs n g) (lowest_first 0 cs r m f).0

-- numbers that rise are never 0: where the first that fails has number 0, none does
pub none_fails : (k : ℕ) (cs : List Check) → rising_from k cs ≡ true → first_failing cs ≡ 0 → AllPass cs
unfolding first_failing judged
none_fails k [] r z = tt
none_fails k (c ∷ cs) r z = go c.passes refl (rising-some k c cs r) z (λ s e. none_fails c.number cs s e)
  where
    go : (t : Bool) → c.passes ≡ t → (k < c.number) × (rising_from c.number cs ≡ true) → cond t (judged (λ n. n) cs 0) c.number ≡ 0
        → (rising_from c.number cs ≡ true → judged (λ n. n) cs 0 ≡ 0 → AllPass cs) → (c.passes ≡ true) × AllPass cs
    go true e p z ih = (e, ih p.1 z)
    go false e p z ih = absurd (let n : c.number ≡ 0 = z in omega arith)
