-- The bytes that were read are the input's first 65,537, or all that it has; by them its text is the same. Assumes nothing.
use Rattle.std.proofs.Common.{◌≡◌, ℕ, ◌≤◌, ◌<◌, List, [], ◌++◌, Option, None, Some, Result, Ok, Err, OnOk, IfSome, arith, length, take, sym, ap, ◌∙◌, subst, append-nil, length-take-le}
use native.Mathlib.Decide.{dec_lt}
use lib.Seq.{take_at, take_all}
use Rattle.std.specs.Result.{result_and}
use Rattle.std.specs.Io.KnownBytes.{Appends, Consumes, IsAtEnd}
use Rattle.desk_run.specs.Desk.{desk_text}
use Rattle.desk_run.proofs.Portions.{room_enough}
use Rattle.desk.proofs.serve.Goals as goal

-- what was read are the input's first bytes, as many as the buffer has room for
first_bytes : (xs ys buffer : List ℕ) (n : ℕ) → n ≤ length buffer → xs ≡ take n buffer ++ ys → (n < length buffer → ys ≡ [])
    → take (length buffer) xs ≡ take n buffer
first_bytes xs ys buffer n counted read end =
    let long = length-take-le n buffer counted in
    elim (dec_lt n (length buffer)) [
      | yes h ↦ let all = read ∙ ap (λ l. take n buffer ++ l) (end h) ∙ append-nil (take n buffer) in
          take_all (length buffer) xs (omega (arith, ap length all)) ∙ all
      | no h ↦ ap (take (length buffer)) read ∙ take_at (take n buffer) ys (length buffer) (omega arith)
    ]

-- so the text is the same
same_text : (a b : Option (List ℕ)) (n : ℕ) (buffer : List ℕ) → length buffer ≡ 65537 → n ≤ length buffer → Consumes a b (take n buffer)
    → (n < length buffer → IsAtEnd b) → IfSome a (λ xs. desk_text (take n buffer) ≡ desk_text xs)
same_text None b n buffer whole counted read end = tt
same_text (Some xs) None n buffer whole counted read end = absurd read
same_text (Some xs) (Some ys) n buffer whole counted read end =
    let first = first_bytes xs ys buffer n counted read end in
    sym (ap desk_text (ap (λ k. take k xs) (sym whole) ∙ first)) ∙ room_enough xs

appends_same : (a c d : Option (List ℕ)) (text : List ℕ) → Appends c d text → IfSome a (λ xs. text ≡ desk_text xs) → IfSome a (λ xs. Appends c d (desk_text xs))
appends_same (Some xs) c d text put same = subst (Appends c d) same put
appends_same None c d text put same = tt

-- and it was written, where neither failed
written : {E : Type 0} (read put : Result (Unit {0}) E) (a b c d : Option (List ℕ)) (n : ℕ) (buffer : List ℕ) → length buffer ≡ 65537 → n ≤ length buffer
    → Consumes a b (take n buffer) → OnOk read (n < length buffer → IsAtEnd b) → OnOk put (Appends c d (desk_text (take n buffer)))
    → OnOk (result_and read put) (IfSome a (λ xs. Appends c d (desk_text xs)))
written (Ok _) (Ok _) a b c d n buffer whole counted taken end said = appends_same a c d _ said (same_text a b n buffer whole counted taken end)
written (Ok _) (Err _) a b c d n buffer whole counted taken end said = tt
written (Err _) put a b c d n buffer whole counted taken end said = tt

pub returns : goal.returns
returns g c =
    let r = c.read_full-n in
    rw c.and.ensures (written _ _ _ _ _ _ _ _ (omega arith) r.ensures.bound r.ensures.bytes r.ensures.end c.print_all.ensures.text)
