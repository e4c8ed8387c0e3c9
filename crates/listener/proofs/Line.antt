-- A panel on a line whose noise has no 3Ah deals with the frames that stand there, each once and in their order, and with nothing else. What carries it is
-- `found`: from any record a well-formed frame is handed out, at its last byte; and the record that it leaves lets such noise pass. Assumes nothing.
use mathlib.Core.Path.{◌≡◌, refl, sym, ap, ◌∙◌}
use mathlib.Core.List.{List, [], ◌∷◌, ◌++◌, map, append-nil}
use mathlib.Core.Option.{Option, some, none}
use mathlib.Core.Bool.{true, false}
use Prim.Native.Nat.{ℕ, zero, suc, ◌-◌, ◌≤◌}
use lib.ListN.{length, replicate}
use borrow.Author.Tests.{le-leb}
use Rattle.laws.specs.Checks.{judged, first_failing, within, among}
use Rattle.laws.proofs.Checks.{gives_one}
use Rattle.reorder.specs.Reorder.{outcomes, final}
use Rattle.frame.specs.Apart.{length_ok}
use Rattle.image.specs.Version.{current}
use Rattle.image.specs.Usable.{usable}
use Rattle.rules.specs.declared.switch.Switch.{Switch}
use Rattle.izk.specs.Heard.{heard}
use Rattle.izk.specs.Block.{served}
use Rattle.izk.specs.Refusals.{serve_checks}
use Rattle.izk.proofs.Refusals.{serve_gives}
use Rattle.listener.specs.declared.Listener.{Listener}
use Rattle.listener.specs.Listening.{idle}
use Rattle.listener.specs.Handing.{Waits, takes, well_formed}
use Rattle.listener.specs.Line.{Stretch, line, frames_of, Clean, frames, dealt, answers_on, left_on, Panel, serves}
use Rattle.listener.proofs.Steps.{room_stays}
use Rattle.listener.proofs.WellFormed.{short, shortest}
use Rattle.listener.proofs.Waiting.{idle_waits}
use Rattle.listener.proofs.Along.{outcomes-append, final-append}
use Rattle.listener.proofs.Handing.{waits_passes, found, found_held}

-- no byte changes how much room there is
room_after : (l : Listener) (bs : List ℕ) → length (final takes l bs).room ≡ length l.room
room_after l [] = refl
room_after l (b ∷ bs) = room_after (takes l b).1 bs ∙ room_stays l b

-- ---- which frames are handed out

frames-append : (a b : List (Option (List ℕ))) → frames (a ++ b) ≡ frames a ++ frames b
unfolding frames
frames-append [] b = refl
frames-append (none ∷ a) b = frames-append a b
frames-append (some f ∷ a) b = ap (λ (fs : List (List ℕ)). f ∷ fs) (frames-append a b)

no_frames : (n : ℕ) → frames (replicate n none) ≡ []
unfolding frames
no_frames zero = refl
no_frames (suc n) = no_frames n

-- over a line in two pieces
frames_split : (l : Listener) (a b : List ℕ) → frames (outcomes takes l (a ++ b)) ≡ frames (outcomes takes l a) ++ frames (outcomes takes (final takes l a) b)
frames_split l a b = ap frames (outcomes-append takes l a b) ∙ frames-append (outcomes takes l a) (outcomes takes (final takes l a) b)

-- a well-formed frame, from any record
frame_handed : (l : Listener) → length l.room ≡ 269 → (f : List ℕ) → well_formed f ≡ true → frames (outcomes takes l f) ≡ f ∷ []
unfolding frames
frame_handed l room f well = ap frames (found l room [] f well) ∙ frames-append (replicate (length f - 1) none) (some f ∷ []) ∙ rw (no_frames (length f - 1))

-- behind noise without a 3Ah, from a record that waits
past_noise : (l : Listener) → Waits l → (noise rest : List ℕ) → among 58 noise ≡ false
    → frames (outcomes takes l (noise ++ rest)) ≡ frames (outcomes takes l rest)
past_noise l waits noise rest n = let p = waits_passes l waits noise n in frames_split l noise rest ∙ rw (p.0, p.1, no_frames (length noise))

-- the frames that stand on a line with such noise between them, and nothing else, from any record
pub line-handed : (l : Listener) → length l.room ≡ 269 → (xs : List Stretch) → Clean xs → frames (outcomes takes l (line xs)) ≡ frames_of xs
unfolding frames
line-handed l room [] c = refl
line-handed l room (x ∷ xs) (w, (n, c)) =
    let held = found_held l room [] x.frame w in
    let waits : Waits (final takes l x.frame) = rw held.1.1.0 in
    frames_split l x.frame (x.noise ++ line xs)
    ∙ rw (frame_handed l room x.frame w, past_noise (final takes l x.frame) waits x.noise (line xs) n)
    (ap (λ (fs : List (List ℕ)). x.frame ∷ fs) (line-handed (final takes l x.frame) held.1.1.1 xs c))

-- with two frames, in plain words: this is what a line is
pub between : (l : Listener) → length l.room ≡ 269 → (f a g b : List ℕ) → well_formed f ≡ true → among 58 a ≡ false → well_formed g ≡ true
    → among 58 b ≡ false → frames (outcomes takes l (f ++ (a ++ (g ++ b)))) ≡ f ∷ (g ∷ [])
between l room f a g b w n v m =
    rw append-nil at (line-handed l room (record { frame = f; noise = a } ∷ (record { frame = g; noise = b } ∷ [])) (w, (n, (v, (m, tt)))))

-- ---- a panel that deals with frames by any step

module _ {S O : Type 0} (step : S → List ℕ → O × S) where
  -- it deals with the frames that are handed out, and with nothing else
  pub as_handed : (l : Listener) (s : S) (bs : List ℕ)
      → (answers_on step l s bs ≡ outcomes step s (frames (outcomes takes l bs))) × (left_on step l s bs ≡ final step s (frames (outcomes takes l bs)))
  unfolding answers_on left_on frames
  as_handed l s [] = (refl, refl)
  as_handed l s (b ∷ bs) = go (takes l b).0 (as_handed (takes l b).1 _ bs)
    where
      rest : List (Option (List ℕ))
      rest = outcomes takes (takes l b).1 bs

      go : (o : Option (List ℕ))
          → (answers_on step (takes l b).1 (dealt step s o).1 bs ≡ outcomes step (dealt step s o).1 (frames rest))
          × (left_on step (takes l b).1 (dealt step s o).1 bs ≡ final step (dealt step s o).1 (frames rest))
          → ((dealt step s o).0 ++ answers_on step (takes l b).1 (dealt step s o).1 bs ≡ outcomes step s (frames (o ∷ rest)))
          × (left_on step (takes l b).1 (dealt step s o).1 bs ≡ final step s (frames (o ∷ rest)))
      go none r = r
      go (some f) r = (ap (λ (os : List O). (step s f).0 ∷ os) r.0, r.1)

  -- so a line with noise without a 3Ah between its frames is dealt with as the frames by themselves
  pub line_deals : (l : Listener) → length l.room ≡ 269 → (s : S) (xs : List Stretch) → Clean xs
      → (answers_on step l s (line xs) ≡ outcomes step s (frames_of xs)) × (left_on step l s (line xs) ≡ final step s (frames_of xs))
  line_deals l room s xs c = rw (← line-handed l room xs c) (as_handed l s (line xs))

  -- such noise in front too, where the record waits
  pub noise_first : (l : Listener) → length l.room ≡ 269 → Waits l → (s : S) (noise : List ℕ) → among 58 noise ≡ false → (xs : List Stretch) → Clean xs
      → (answers_on step l s (noise ++ line xs) ≡ outcomes step s (frames_of xs)) × (left_on step l s (noise ++ line xs) ≡ final step s (frames_of xs))
  noise_first l room waits s noise n xs c =
      rw (← (past_noise l waits noise (line xs) n ∙ line-handed l room xs c)) (as_handed l s (noise ++ line xs))

  -- any noise in front, from any record: what it may hand out is dealt with first, and the frames are dealt with from what that leaves
  pub after_any_noise : (l : Listener) → length l.room ≡ 269 → (s : S) (noise : List ℕ) (xs : List Stretch) → Clean xs
      → (answers_on step l s (noise ++ line xs) ≡ answers_on step l s noise ++ outcomes step (left_on step l s noise) (frames_of xs))
      × (left_on step l s (noise ++ line xs) ≡ final step (left_on step l s noise) (frames_of xs))
  after_any_noise l room s noise xs c =
      let all = as_handed l s (noise ++ line xs) in
      let first = as_handed l s noise in
      let fs = frames (outcomes takes l noise) in
      let e = frames_split l noise (line xs) ∙ ap (λ (gs : List (List ℕ)). fs ++ gs) (line-handed (final takes l noise) (room_after l noise ∙ room) xs c) in (
        all.0 ∙ ap (outcomes step s) e ∙ outcomes-append step s fs (frames_of xs) ∙ rw (← first.0, ← first.1) refl,
        all.1 ∙ ap (final step s) e ∙ final-append step s fs (frames_of xs) ∙ ap (λ (t : S). final step t (frames_of xs)) (sym first.1),
      )

-- ---- the block's panel

module _ (key : ℕ → Switch) where
  -- it answers what it would answer if it were handed the frames one after the other, and its image and output end as they would
  pub line-served : (l : Listener) → length l.room ≡ 269 → (p : Panel) (xs : List Stretch) → Clean xs
      → (answers_on (serves key) l p (line xs) ≡ outcomes (serves key) p (frames_of xs))
      × (left_on (serves key) l p (line xs) ≡ final (serves key) p (frames_of xs))
  line-served = line_deals (serves key)

  -- with such noise before the first, from the record that `idle` makes
  pub line_served_idle : (p : Panel) (noise : List ℕ) → among 58 noise ≡ false → (xs : List Stretch) → Clean xs
      → (answers_on (serves key) idle p (noise ++ line xs) ≡ outcomes (serves key) p (frames_of xs))
      × (left_on (serves key) idle p (noise ++ line xs) ≡ final (serves key) p (frames_of xs))
  line_served_idle = noise_first (serves key) idle idle_waits.1.1.0 idle_waits.1.1.1

-- ---- what the listener takes for a frame and the block does not

pub short_refused : (s : Switch) (m out : List ℕ) → usable current m ≡ true → 269 ≤ length out → (served (heard s) current short m out).number ≡ 3
unfolding serve_checks first_failing judged length_ok within
short_refused s m out u room =
    gives_one (serve_checks s current short m out) _ (serve_gives s current short m out) ∙ rw (u, le-leb 269 (length out) room)

-- from any record it is handed out, at its last byte
pub short-handed : (l : Listener) → length l.room ≡ 269 → outcomes takes l short ≡ none ∷ (none ∷ (some short ∷ []))
short-handed l room = found l room [] short shortest.0

-- and the panel's one answer to these three bytes is 3
pub short_on_line : (key : ℕ → Switch) (l : Listener) → length l.room ≡ 269 → (p : Panel) → usable current p.image ≡ true → 269 ≤ length p.out
    → map (λ a. a.number) (answers_on (serves key) l p short) ≡ 3 ∷ []
unfolding among
short_on_line key l long p u room =
    ap (map (λ a. a.number)) (line-served key l long p (record { frame = short; noise = [] } ∷ []) (shortest.0, (refl, tt))).0
    ∙ ap (λ (n : ℕ). n ∷ []) (short_refused _ p.image p.out u room)
