-- Every command fits: whatever body it accepts, the act fits its stretch, the echo the body and the reply a frame. What a rule has to satisfy
-- is a test of the rule alone, and all fourteen are tested at once. Assumes nothing.
use mathlib.Core.Path.{◌≡◌, refl, sym, ◌∙◌}
use mathlib.Core.Logic.{◌⊎◌, inl, inr}
use mathlib.Core.List.{List, [], ◌∷◌}
use mathlib.Core.Bool.{Bool, true, false, cond, ◌&&◌}
use Prim.Native.Nat.{ℕ, ◌+◌, ◌*◌, ◌≤◌}
use native.Mathlib.Omega.{arith}
use lib.ListN.{length, get_or, drop, length-drop}
use lib.Seq.{get_or-drop}
use lib.Dec.{leb, eqb}
use borrow.Author.Tests.{leb-true, eqb-true}
use Rattle.std.specs.Prelude.{Option, Some, None}
use Rattle.laws.specs.Checks.{Check, judged, AllPass, all}
use Rattle.laws.proofs.Tests.{and_both, within_is, never}
use Rattle.laws.proofs.Checks.{Judged, passed, failed, judge, judged_passed}
use Rattle.image.specs.declared.cell.Cell.{Cell}
use Rattle.image.specs.declared.cell.Cell.TheVariants as Cells
use Rattle.image.specs.Cell.{size, extent, is_cell, is_item}
use Rattle.image.proofs.Cells.{extent_view}
use Rattle.storing.specs.Stored.{FitStore}
use Rattle.rules.specs.declared.rule.Act.{Act}
use Rattle.rules.specs.declared.rule.Act.TheVariants.{Show, Sign, Store}
use Rattle.rules.specs.declared.rule.Long.{Long}
use Rattle.rules.specs.declared.rule.Long.TheVariants.{Is, Rowed}
use Rattle.rules.specs.declared.rule.Names.{Names}
use Rattle.rules.specs.declared.rule.Names.TheVariants as N
use Rattle.rules.specs.declared.rule.Rule.{Rule}
use Rattle.rules.specs.declared.switch.Switch.{Switch}
use Rattle.rules.specs.Order.{Verdict, Refused, Accepted}
use Rattle.rules.specs.Rules.{Command, byte, rowed, long_ok, named_by, commands, rule_of}
use Rattle.rules.specs.Verdict.{tried_on, tried, tried_if, sought, recognised}
use Rattle.rules.specs.Fits.{Fit, longest, FitAccepted, FitVerdict}
use Rattle.rules.proofs.Naming.{Alike, constants_named_lem, errors_named_lem, table_named_lem, part_named_lem, Counted, rows_named_lem}

-- ---- what a rule names

-- what an entry of the column stands for: the first that it names, and whether the body has a count of rows
pub record Kind : Type 0 where
  pub first : Cell
  pub counts : Bool

abbrev pub kind : Names → Kind
kind N.Mask = record { first = Cells.Mask; counts = false }
kind N.Mode = record { first = Cells.Mode; counts = false }
kind N.Clock = record { first = Cells.Clock; counts = false }
kind N.Channel = record { first = Cells.Constants 0; counts = false }
kind N.TablePart = record { first = Cells.Part 0 0; counts = false }
kind N.WholeTable = record { first = Cells.Table 0; counts = false }
kind N.ErrorTable = record { first = Cells.Errors 0; counts = false }
kind N.ErrorRows = record { first = Cells.Errors 0; counts = true }

pub record Has (k : Kind) (c : List ℕ) (d : Cell) : Type 0 where
  pub alike : Alike d k.first
  pub rows : k.counts ≡ true → Counted c d

uncounted : (x d : Cell) (c : List ℕ) → Alike d x → Has (record { first = x; counts = false }) c d
uncounted x d c a = record { alike = a; rows = λ e. absurd (never e) }

cell_is : (x d : Cell) (c : List ℕ) → Some x ≡ Some d → Has (record { first = x; counts = false }) c d
cell_is x d c e =
    let i : d ≡ x = cc in
    uncounted x d c (rw i (record { cell = refl; item = refl; sized = refl; counted = λ b. refl }))

pub names : (s : Names) (c : List ℕ) (d : Cell) → named_by s c ≡ Some d → Has (kind s) c d
names N.Mask c d e = cell_is Cells.Mask d c e
names N.Mode c d e = cell_is Cells.Mode d c e
names N.Clock c d e = cell_is Cells.Clock d c e
names N.Channel c d e = uncounted (Cells.Constants 0) d c (constants_named_lem d (byte c 3) e)
names N.TablePart c d e = uncounted (Cells.Part 0 0) d c (part_named_lem d (byte c 3) (byte c 4) e)
names N.WholeTable c d e = uncounted (Cells.Table 0) d c (table_named_lem d (byte c 3) e)
names N.ErrorTable c d e = uncounted (Cells.Errors 0) d c (errors_named_lem d (byte c 3) e)
names N.ErrorRows c d e = let p = rows_named_lem d c e in record { alike = p.0; rows = λ t. p }

-- ---- the test of a rule

abbrev shortest : Long → ℕ
shortest (Is n) = n
shortest Rowed = 8

-- bytes of a fixed number fill a cell that counts all of its own; rows are stored with their count before them
abbrev store_fits : Long → Kind → ℕ → Bool
store_fits (Is n) x i = eqb (extent x.first 0) (size x.first) && eqb n (size x.first + i + 1)
store_fits Rowed x i = x.counts && eqb i 3

abbrev act_fits : Act → Long → Kind → Bool
act_fits Show l x = is_cell x.first
act_fits Sign l x = is_item x.first
act_fits (Store i) l x = is_cell x.first && store_fits l x i

abbrev rule_fits : Rule → Bool
rule_fits r =
    leb (r.echo + 3) (shortest r.long) && (leb (r.echo + longest r.act (kind r.names).first) 130
    && act_fits r.act r.long (kind r.names))

commands-fit : all (λ l. rule_fits l.rule) commands ≡ true
unfolding all commands
commands-fit = refl

-- ---- what the test means

long_least : (l : Long) (n : ℕ) → long_ok l n ≡ true → shortest l ≤ n
unfolding rowed
long_least (Is k) n h = let e = eqb-true n k h in omega arith
long_least Rowed n h = (within_is _ _ _ (and_both _ _ h).0).0

whole : (x : Cell) → extent x 0 ≡ size x → (b : ℕ) → extent x b ≡ size x
whole x e b = go (extent_view x)
  where
    go : ((n : ℕ) → extent x n ≡ size x) ⊎ ((t : ℕ) × (x ≡ Cells.Errors t)) → extent x b ≡ size x
    go (inl h) = h b
    go (inr (t, i)) = let z = rw i at e in absurd (omega arith)

same-longest : (a : Act) (d x : Cell) → Alike d x → longest a d ≡ longest a x
same-longest Show d x h = h.sized
same-longest Sign d x h = refl
same-longest (Store i) d x h = refl

module _ (c : List ℕ) (d : Cell) (x : Kind) (has : Has x c d) (i : ℕ) where
  store_fits_lem : (l : Long) → long_ok l (length c + 1) ≡ true → is_cell d ≡ true → store_fits l x i ≡ true → FitStore d (drop i c)
  unfolding rowed
  store_fits_lem (Is n) h t f =
      let p = and_both (eqb (extent x.first 0) (size x.first)) _ f in
      let w = whole x.first (eqb-true _ _ p.0) (get_or (drop i c) 0 0) in
      let r : length (drop i c) ≡ size x.first = omega (arith, length-drop i c, eqb-true (length c + 1) n h, eqb-true n (size x.first + i + 1) p.1) in
      record { cell = t; counts = r ∙ sym w ∙ sym (has.alike.counted _); room = omega (arith, has.alike.sized) }
  store_fits_lem Rowed h t f =
      let p = and_both x.counts (eqb i 3) f in
      let r = has.rows p.0 in
      let e : i ≡ 3 = eqb-true i 3 p.1 in
      let q = within_is _ _ _ (and_both _ _ h).0 in
      let n : length (drop 3 c) ≡ 1 + 3 * byte c 4 = omega (arith, length-drop 3 c, r.1) in
      rw e (record { cell = t; counts = n ∙ rw (r.0.counted, get_or-drop); room = omega (arith, r.0.sized, r.1) })

act_fits_lem : (a : Act) (l : Long) (s : Names) (c : List ℕ) (d : Cell) → Has (kind s) c d → long_ok l (length c + 1) ≡ true
    → act_fits a l (kind s) ≡ true → Fit a d c
act_fits_lem Show l s c d h g f = h.alike.cell ∙ f
act_fits_lem Sign l s c d h g f = h.alike.item ∙ f
act_fits_lem (Store i) l s c d h g f =
    let p = and_both (is_cell (kind s).first) _ f in
    store_fits_lem c d (kind s) h i l g (h.alike.cell ∙ p.0) p.1

rule_fits_lem : (r : Rule) → rule_fits r ≡ true → (c : List ℕ) (d : Cell) → long_ok r.long (length c + 1) ≡ true → named_by r.names c ≡ Some d
    → FitAccepted r.echo r.act d c
rule_fits_lem r f c d l n =
    let p = and_both (leb (r.echo + 3) (shortest r.long)) _ f in
    let q = and_both (leb (r.echo + longest r.act (kind r.names).first) 130) _ p.1 in
    let h = names r.names c d n in
    let e : r.echo + 3 ≤ shortest r.long = leb-true _ _ p.0 in
    let w : r.echo + longest r.act (kind r.names).first ≤ 130 = leb-true _ _ q.0 in
    record {
      act = act_fits_lem r.act r.long r.names c d h l q.1;
      echoed = omega (arith, long_least r.long (length c + 1) l);
      reply = rw (same-longest r.act d (kind r.names).first h.alike) w;
    }

-- ---- a verdict's way through the checks

pub judged_fits : (cs : List Check) (v : Verdict) (c : List ℕ) → (AllPass cs → FitVerdict v c) → FitVerdict (judged Refused cs v) c
judged_fits cs v c h = go (judge cs)
  where
    go : Judged cs → FitVerdict (judged Refused cs v) c
    go (passed p) = rw (judged_passed Refused cs v p) (h p)
    go (failed n f g) = rw (g Verdict Refused v) tt

tried_fits : (r : Rule) → rule_fits r ≡ true → (c : List ℕ) → FitVerdict (tried r c) c
unfolding tried
tried_fits r f c = judged_fits _ _ c (λ l. go (named_by r.names c) refl l.0)
  where
    go : (n : Option Cell) → named_by r.names c ≡ n → long_ok r.long (length c + 1) ≡ true → FitVerdict (tried_on r n c) c
    go None e l = tt
    go (Some d) e l = judged_fits _ (Accepted r.echo r.act d) c (λ t. rule_fits_lem r f c d l e)

-- what all commands of a list are tested for, each that is found there has
pub found_tested : (t : ℕ → Rule → Bool) (k : ℕ) (r : Rule) (ls : List Command) → all (λ l. t l.number l.rule) ls ≡ true
    → rule_of k ls ≡ Some r → t k r ≡ true
unfolding all rule_of
found_tested t k r [] h i = absurd (let z : ◌≡◌ {A = ℕ} 0 1 = cc in omega arith)
found_tested t k r (l ∷ ls) h i =
    go (eqb l.number k) refl (and_both (t l.number l.rule) (all (λ l. t l.number l.rule) ls) h) i (λ g j. found_tested t k r ls g j)
  where
    go : (b : Bool) → eqb l.number k ≡ b → (t l.number l.rule ≡ true) × (all (λ l. t l.number l.rule) ls ≡ true)
        → cond b (Some l.rule) (rule_of k ls) ≡ Some r
        → (all (λ l. t l.number l.rule) ls ≡ true → rule_of k ls ≡ Some r → t k r ≡ true) → t k r ≡ true
    go true e p j ih =
        let n : l.number ≡ k = eqb-true _ _ e in
        let q : l.rule ≡ r = cc in
        rw (← n, ← q) p.0
    go false e p j ih = ih p.1 j

-- so what is tried by a command's rule fits
pub found_fits : (k : ℕ) (r : Rule) (c : List ℕ) → rule_of k commands ≡ Some r → FitVerdict (tried r c) c
found_fits k r c i = tried_fits r (found_tested (λ k x. rule_fits x) k r commands commands-fit i) c

sought_fits : (s : Switch) (c : List ℕ) → FitVerdict (sought s commands c) c
unfolding sought
sought_fits s c = go (rule_of (byte c 2) commands) refl
  where
    go : (x : Option Rule) → rule_of (byte c 2) commands ≡ x → FitVerdict (tried_if s x c) c
    go None i = tt
    go (Some r) i = judged_fits _ (tried r c) c (λ t. found_fits (byte c 2) r c i)

-- ---- every verdict fits

pub recognised_fits : (s : Switch) (a : ℕ) (c : List ℕ) → FitVerdict (recognised s a c) c
unfolding recognised
recognised_fits s a c = judged_fits _ (sought s commands c) c (λ t. sought_fits s c)
