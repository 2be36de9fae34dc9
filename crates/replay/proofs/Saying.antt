-- What a case says, by the tests that the code makes. Assumes nothing.
use Prim.Native.Nat.{ℕ, ◌+◌, ◌≤◌, ◌<◌}
use mathlib.Core.Path.{◌≡◌, refl, ap, sym, ◌∙◌}
use mathlib.Core.Bool.{Bool, true, false, ◌&&◌}
use mathlib.Core.List.{List, [], ◌∷◌}
use native.Mathlib.Omega.{arith}
use lib.Dec.{eqb}
use lib.Pointwise.{pointwise}
use lib.ListN.{length, take}
use lib.Seq.{take-append_seam}
use borrow.Author.Tests.{eq-eqb, ne_eqb, le-leb, lt-leb}
use Rattle.buffer.specs.Buffer.{put_at}
use Rattle.buffer.specs.Bytes.{same}
use Rattle.refusals.specs.declared.Refusal.{Refusal}
use Rattle.refusals.specs.Numbers.{number}
use Rattle.std.specs.Prelude.{Ok, Err}
use Rattle.answer.specs.Answers.{Outcome, line, refused, answer_of, buffer_after}
use Rattle.outcomes.specs.Program.{refusal_line, session_outcome}
use Rattle.outcomes.proofs.Answered.{lined, refused_by, line_left, session_fits}
use Rattle.replay.specs.declared.Verdict.{Verdict}
use Rattle.replay.specs.declared.Tally.{Tally}
use Rattle.replay.specs.Cases.{record_refused, said_lines, said_refusal, said_outcome, verdict_by, lent_room, judged, tally_with}

-- whether two lists are the same, as code compares them
pointwise_same : (x y : List ℕ) → pointwise eqb x y ≡ same x y
unfolding same
pointwise_same [] [] = refl
pointwise_same [] (b ∷ y) = refl
pointwise_same (a ∷ x) [] = refl
pointwise_same (a ∷ x) (b ∷ y) = by (eqb a b) (pointwise_same x y)
  where
    by : {r t : Bool} (c : Bool) → r ≡ t → (c && r) ≡ elim c as (λ _. Bool) [ true ↦ t | false ↦ false ]
    by true e = e
    by false e = refl

pub found_same : (x y : List ℕ) (r : Bool) → r ≡ pointwise eqb x y → r ≡ same x y
found_same x y r e = e ∙ pointwise_same x y

-- what was put at the front of a buffer stands there
pub front : (d d' x : List ℕ) (k : ℕ) → k ≡ length x → d' ≡ put_at d 0 x → take k d' ≡ x
unfolding put_at
front d d' x k n e = (λ i. take (n i) (e i)) ∙ take-append_seam x _

module _ (n : ℕ) (output : List ℕ) where
  module _ (s : List ℕ) where
    pub own_lines : n ≡ 0 → said_lines n output s ≡ same s output
    unfolding said_lines
    own_lines e = rw (eq-eqb n 0 e, said_lines)

    pub no_lines : (n ≡ 0 → ⊥) → n < 11 → said_lines n output s ≡ false
    unfolding said_lines
    no_lines e h = rw (ne_eqb n 0 e, lt-leb 11 n h, said_lines)

    pub no_lines_above : (n ≡ 0 → ⊥) → 14 < n → said_lines n output s ≡ false
    unfolding said_lines
    no_lines_above e h = rw (ne_eqb n 0 e, le-leb 11 n (omega arith), lt-leb n 14 h, said_lines)

    pub record_lines_lem : (n ≡ 0 → ⊥) → 11 ≤ n → n ≤ 14 → said_lines n output s ≡ same s (record_refused n)
    unfolding said_lines
    record_lines_lem e h g = rw (ne_eqb n 0 e, le-leb 11 n h, le-leb n 14 g, said_lines)

  module _ (r : Refusal) where
    pub own_refusal : n ≡ 0 → said_refusal n output r ≡ same (refusal_line r) output
    unfolding said_refusal
    own_refusal e = rw (eq-eqb n 0 e, said_refusal)

    pub by_number : (n ≡ 0 → ⊥) → said_refusal n output r ≡ eqb (number r) n
    unfolding said_refusal
    by_number e = rw (ne_eqb n 0 e, said_refusal)

  -- a session call with room for what it answers
  module _ (sheet lent left : List ℕ) (room : length lent ≡ lent_room) where
    pub line_said : (k : ℕ) → Ok k ≡ answer_of (session_outcome sheet (length lent))
        → left ≡ buffer_after lent (session_outcome sheet (length lent))
        → (k ≤ lent_room) × (said_lines n output (take k left) ≡ said_outcome n output (session_outcome sheet lent_room))
    unfolding said_outcome
    line_said k e b =
        let o = session_outcome sheet (length lent) in
        let t = lined o k e in
        let f = front lent left t.text k (sym t.long) (b ∙ line_left lent o t.text t.is) in (
          omega (arith, session_fits sheet (length lent) t.text t.is, t.long, room),
          ap (said_lines n output) f ∙ ap (said_outcome n output) (sym t.is) ∙ ap (λ (m : ℕ). said_outcome n output (session_outcome sheet m)) room,
        )

    pub refusal_said : (r : Refusal) → Err r ≡ answer_of (session_outcome sheet (length lent))
        → said_refusal n output r ≡ said_outcome n output (session_outcome sheet lent_room)
    unfolding said_outcome
    refusal_said r e =
        ap (said_outcome n output) (sym (refused_by (session_outcome sheet (length lent)) r e)) ∙ ap (λ (m : ℕ). said_outcome n output (session_outcome sheet m)) room

  module _ (sheet : List ℕ) where
    pub skipped : n ≡ 255 → judged n sheet output ≡ Verdict.Skipped
    unfolding judged
    skipped e = rw (eq-eqb n 255 e, judged)

    pub compares : (b : Bool) → (n ≡ 255 → ⊥) → b ≡ said_outcome n output (session_outcome sheet lent_room) → judged n sheet output ≡ verdict_by b
    unfolding judged
    compares b e h =
        let j : judged n sheet output ≡ verdict_by (said_outcome n output (session_outcome sheet lent_room)) = rw (ne_eqb n 255 e, judged) in
        j ∙ ap verdict_by (sym h)

-- each count grows by one at most
pub counted_most : (t : Tally) (v : Verdict) → ((tally_with t v).run ≤ t.run + 1) × (((tally_with t v).parted ≤ t.parted + 1) × ((tally_with t v).skipped ≤ t.skipped + 1))
counted_most t Verdict.Same = omega arith
counted_most t Verdict.Parted = omega arith
counted_most t Verdict.Skipped = omega arith
