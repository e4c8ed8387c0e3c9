-- Checks, in document 01's sense: each has a refusal number, and the first that fails decides. Assumes nothing.
use Rattle.std.specs.Prelude.{◌≡◌, List, [], ◌∷◌, ◌++◌, Bool, true, false, cond, not, ◌&&◌, ◌||◌, ℕ, zero, suc, leb, ltb, eqb}

pub record Check : Type 0 where
  pub number : ℕ
  pub passes : Bool

abbrev pub check : ℕ → Bool → Check
check n t = record { number = n; passes = t }

-- the refusal of the first check that fails; where none does, what follows
unfoldable pub judged : {A : Type 0} → (ℕ → A) → List Check → A → A
judged refuse [] after = after
judged refuse (c ∷ cs) after = cond c.passes (judged refuse cs after) (refuse c.number)

-- its number, 0 where none fails
unfoldable pub first_failing : List Check → ℕ
first_failing cs = judged (λ n. n) cs 0

-- every check of the list passes
abbrev pub AllPass : List Check → Type 0
AllPass [] = Unit {0}
AllPass (c ∷ cs) = (c.passes ≡ true) × AllPass cs

-- c fails, and all that stand before it in the list pass
pub record First (c : Check) (cs : List Check) : Type 0 where
  pub before : List Check
  pub behind : List Check
  pub split : cs ≡ before ++ (c ∷ behind)
  pub passed : AllPass before
  pub fails : c.passes ≡ false

-- n is what the list gives: 0 where none fails, else the number of the first that does
pub data Gives (cs : List Check) (n : ℕ) : Type 0 where
  none : AllPass cs → n ≡ 0 → Gives cs n
  one : (c : Check) → First c cs → n ≡ c.number → Gives cs n

-- each number is above the one before it, the first above n: then the first check that fails is the lowest that does
unfoldable pub rising_from : ℕ → List Check → Bool
rising_from n [] = true
rising_from n (c ∷ cs) = ltb n c.number && rising_from c.number cs

-- ---- tests that the checks are made of

-- from a to b
unfoldable pub within : ℕ → ℕ → ℕ → Bool
within a b n = leb a n && leb n b

-- a test at each number below n
unfoldable pub every : (ℕ → Bool) → ℕ → Bool
every t zero = true
every t (suc n) = t n && every t n

-- a test at some number below n
unfoldable pub some : (ℕ → Bool) → ℕ → Bool
some t zero = false
some t (suc n) = t n || some t n

-- a test of each element
unfoldable pub all : {A : Type 0} → (A → Bool) → List A → Bool
all t [] = true
all t (x ∷ l) = t x && all t l

-- a number is one of a list
unfoldable pub among : ℕ → List ℕ → Bool
among k [] = false
among k (n ∷ ns) = eqb k n || among k ns

-- no number of a list is there twice
unfoldable pub distinct : List ℕ → Bool
distinct [] = true
distinct (n ∷ ns) = not (among n ns) && distinct ns

-- two lists have the same numbers
unfoldable pub same : List ℕ → List ℕ → Bool
same [] [] = true
same [] (y ∷ ys) = false
same (x ∷ xs) [] = false
same (x ∷ xs) (y ∷ ys) = eqb x y && same xs ys
