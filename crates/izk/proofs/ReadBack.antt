-- What a frame shows is what the image has; so what is written reads back identically: any cell, and each of document 01's five pairs of a write and a
-- read, 51 and 50, 53 and 54, 59 and 60, 62 and 63, 77 and 78. Assumes nothing.
use Rattle.std.specs.Prelude.{Some}
use mathlib.Core.Path.{◌≡◌, refl, ap, ◌∙◌}
use mathlib.Core.List.{List, ◌++◌}
use mathlib.Core.Bool.{true}
use Prim.Native.Nat.{ℕ, ◌+◌, ◌-◌, ◌*◌, ◌≤◌, ◌<◌}
use lib.ListN.{length, get_or, take, drop}
use lib.Dec.{lit<}
use Rattle.laws.specs.Bytes.{slice}
use Rattle.laws.specs.Checks.{within}
use Rattle.laws.proofs.Tests.{and_both}
use Rattle.frame.specs.Apart.{contents_of}
use Rattle.frame.specs.Built.{frame_of}
use Rattle.image.specs.declared.cell.Cell.{Cell}
use Rattle.image.specs.declared.cell.Cell.TheVariants as Cells
use Rattle.image.specs.declared.version.Version.{Version}
use Rattle.image.specs.Cell.{offset, extent, when, errors_named}
use Rattle.image.specs.Usable.{usable, address}
use Rattle.image.proofs.UsableFacts.{facts}
use Rattle.storing.proofs.Stores.{shown_back}
use Rattle.rules.specs.declared.rule.Act.{Act}
use Rattle.rules.specs.declared.rule.Act.TheVariants.{Show, Store}
use Rattle.rules.specs.declared.rule.Names.TheVariants as N
use Rattle.rules.specs.declared.rule.Rule.{Rule}
use Rattle.rules.specs.declared.switch.Switch.{Switch}
use Rattle.rules.specs.Order.{Accepted}
use Rattle.rules.specs.Rules.{byte, rows_named, named_by, commands, rule_of}
use Rattle.rules.proofs.Naming.{when_cell}
use Rattle.command.specs.Act.{says}
use Rattle.command.specs.Reply.{BuffersAfter, reply_in}
use Rattle.izk.specs.Heard.{heard, answered, Hearing, Lawful}
use Rattle.izk.specs.Block.{served}
use Rattle.izk.proofs.Hearing.{heard_lawful}
use Rattle.izk.proofs.Serving.{Accepts, answered-address, answered-usable, served_is, reply_seen, address_stays, zero_is_accepted}
use Rattle.izk.proofs.Changes.{accepted_fits, accepted_leaves}

-- ---- any cell

-- a frame was done, and its reply is this
pub record Replies (a : BuffersAfter) (reply : List ℕ) : Type 0 where
  pub done_is : a.number ≡ 0
  pub reply_is : reply_in a ≡ reply

-- an accepted frame has the reply of its act
pub replies_as_said : (ear : Hearing) → Lawful ear → (v : Version) (g m : List ℕ) (e : ℕ) (a : Act) (d : Cell) → ear (address m) g ≡ Accepted e a d
    → usable v m ≡ true → (out : List ℕ) → 269 ≤ length out → Replies (served ear v g m out) (frame_of (take (2 + e) (contents_of g) ++ says v a d m))
unfolding answered
replies_as_said ear ok v g m e a d accepts u out room =
    record { done_is = rw (served_is ear v g m out u room, accepts); reply_is = reply_seen ear ok v g m out u room ∙ rw accepts }

-- what a frame shows it shows as the image has it, whatever that is and whenever it was stored
pub shows_as_stored : (ear : Hearing) → Lawful ear → (v : Version) (g m : List ℕ) (e : ℕ) (d : Cell) → ear (address m) g ≡ Accepted e Show d
    → usable v m ≡ true → (out : List ℕ) → 269 ≤ length out
    → Replies (served ear v g m out) (frame_of (take (2 + e) (contents_of g) ++ slice (offset d) (extent d (get_or m (offset d) 0)) m))
shows_as_stored ear ok v g m e d shows u out room = replies_as_said ear ok v g m e Show d shows u out room

-- so a 63 that the block serves returns error table n, its count and as many rows as that says, from where it stands in the image
pub error_table_shown : (k : Switch) (v : Version) (g m out : List ℕ) (n : ℕ) → byte (contents_of g) 2 ≡ 63 → byte (contents_of g) 3 ≡ n
    → (served (heard k) v g m out).number ≡ 0
    → Replies (served (heard k) v g m out) (frame_of (take 3 (contents_of g) ++ slice (713 + 64 * (n - 1)) (1 + 3 * get_or m (713 + 64 * (n - 1)) 0) m))
unfolding rule_of commands errors_named when
error_table_shown k v g m out n is-63 is-n z =
    let (u, room, x) = zero_is_accepted (heard k) (heard_lawful k) v g m out z in
    let (r, found) = (heard_lawful k).known (address m) g x.verdict in
    let b = (heard_lawful k).follows (address m) g r x.verdict found in
    let f = rw is-63 at found in
    let s : r.names ≡ N.ErrorTable = cc in
    let e : x.echo ≡ 1 = cc in
    let a : x.act ≡ Show = cc in
    let named : errors_named n ≡ Some x.cell = rw (s, is-n) at b.names in
    let cell = (when_cell (within 1 8 n) (Cells.Errors (n - 1)) x.cell named).1 in
    let shows : heard k (address m) g ≡ Accepted 1 Show x.cell = rw (e, a) at x.verdict in
    rw (← cell) at (shows_as_stored (heard k) (heard_lawful k) v g m 1 x.cell shows u out room)

-- a write and a read need not be heard alike: the switch may be turned between them
module _ (ear ear' : Hearing) (ok : Lawful ear) (ok' : Lawful ear') (v : Version) (f g m : List ℕ) (u : usable v m ≡ true) (e e' k : ℕ) (d : Cell)
    (stores : ear (address m) f ≡ Accepted e (Store k) d) (shows : ear' (address m) g ≡ Accepted e' Show d) where
  back : says v Show d (answered ear v f m).image ≡ drop k (contents_of f)
  back =
      let fit = (accepted_fits ear ok f m e (Store k) d stores).act in
      rw (accepted_leaves ear v f m e (Store k) d stores) (shown_back v d (drop k (contents_of f)) fit m (facts v m u).long_is)

  pub reads_back : (out out' : List ℕ) → 269 ≤ length out → 269 ≤ length out'
      → Replies (served ear' v g (served ear v f m out).image out') (frame_of (take (2 + e') (contents_of g) ++ drop k (contents_of f)))
  reads_back out out' room room' =
      let still = ap (λ (a : ℕ). ear' a g) (answered-address ear ok v f m u) ∙ shows in
      rw (served_is ear v f m out u room, ← back)
      (shows_as_stored ear' ok' v g (answered ear v f m).image e' d still (answered-usable ear ok v f m u) out' room')

-- ---- the five pairs

-- two bodies agree in their first n data bytes
abbrev pub SameBytes : ℕ → List ℕ → List ℕ → Type 0
SameBytes n c c' = (i : ℕ) → i < n → byte c (3 + i) ≡ byte c' (3 + i)

-- what a body of rule x names, a body of rule y with the bytes that y echoes names too
abbrev pub NamesAlike : Rule → Rule → Type 0
NamesAlike x y = (c c' : List ℕ) (d : Cell) → SameBytes y.echo c c' → named_by x.names c ≡ Some d → named_by y.names c' ≡ Some d

-- command w stores what its body has from an index on, and command r shows the cell that w names by the same bytes
pub record Pair (w r : ℕ) : Type 0 where
  pub from : ℕ
  pub writing : Rule
  pub reading : Rule
  pub written : rule_of w commands ≡ Some writing
  pub read : rule_of r commands ≡ Some reading
  pub stores : writing.act ≡ Store from
  pub shows : reading.act ≡ Show
  pub same : NamesAlike writing reading

rows_same : (c : List ℕ) (d : Cell) → rows_named c ≡ Some d → errors_named (byte c 3) ≡ Some d
unfolding rows_named errors_named when
rows_same c d h =
    let p = when_cell _ _ _ h in
    rw (and_both (within 1 8 (byte c 3)) _ p.0).0 (ap Some p.1)

pair_of : {w r : ℕ} {x y : Rule} (k : ℕ) → rule_of w commands ≡ Some x → rule_of r commands ≡ Some y → x.act ≡ Store k → y.act ≡ Show → NamesAlike x y
    → Pair w r
pair_of {x} {y} k i j s t n = record { from = k; writing = x; reading = y; written = i; read = j; stores = s; shows = t; same = n }

pub pairs : Pair 51 50 × Pair 53 54 × Pair 59 60 × Pair 62 63 × Pair 77 78
unfolding rule_of commands
pairs = (
  pair_of 2 refl refl refl refl (λ c c' d h n. n),
  pair_of 3 refl refl refl refl (λ c c' d h n. rw (h 0 (lit< tt)) at n),
  pair_of 4 refl refl refl refl (λ c c' d h n. rw (h 0 (lit< tt), h 1 (lit< tt)) at n),
  pair_of 3 refl refl refl refl (λ c c' d h n. rw (h 0 (lit< tt)) at (rows_same c d n)),
  pair_of 2 refl refl refl refl (λ c c' d h n. n),
)

-- so what the one stores the other replies, after the bytes it echoes, if both were done
pub written_reads_back : {w r : ℕ} (p : Pair w r) (ear ear' : Hearing) → Lawful ear → Lawful ear' → (v : Version) (f g m out out' : List ℕ)
    → byte (contents_of f) 2 ≡ w → byte (contents_of g) 2 ≡ r → SameBytes p.reading.echo (contents_of f) (contents_of g)
    → (served ear v f m out).number ≡ 0 → (served ear' v g (served ear v f m out).image out').number ≡ 0
    → Replies (served ear' v g (served ear v f m out).image out') (frame_of (take (2 + p.reading.echo) (contents_of g) ++ drop p.from (contents_of f)))
written_reads_back p ear ear' ok ok' v f g m out out' cf cg same_bytes zf zg =
    let (u, room, x) = zero_is_accepted ear ok v f m out zf in
    let (u', room', z) = zero_is_accepted ear' ok' v g _ out' zg in
    let y : Accepts ear' (address m) g = rw (address_stays ear ok v f m out u) at z in
    let a = ok.follows (address m) f p.writing x.verdict (rw cf p.written) in
    let b = ok'.follows (address m) g p.reading y.verdict (rw cg p.read) in
    let n = p.same (contents_of f) (contents_of g) x.cell same_bytes a.names in
    let hf : ear (address m) f ≡ Accepted x.echo (Store p.from) x.cell = x.verdict ∙ rw (a.acts, p.stores) in
    let hg : ear' (address m) g ≡ Accepted p.reading.echo Show x.cell = cc in
    reads_back ear ear' ok ok' v f g m u x.echo p.reading.echo p.from x.cell hf hg out out' room room'
