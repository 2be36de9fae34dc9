-- One run after the other: measured, counted and written. Assumes nothing.
use Prim.Native.Nat.{ℕ, ◌+◌, ◌≤◌, ◌<◌}
use mathlib.Core.Path.{◌≡◌, refl, sym, ap, ◌∙◌}
use mathlib.Core.List.{List, [], ◌++◌}
use native.Mathlib.Omega.{arith}
use lib.ListN.{length, get_or, drop, length-append}
use Rattle.buffer.specs.Buffer.{put_at}
use Rattle.buffer.proofs.Writing.{put_nil, join}
use Rattle.colour.specs.declared.Settings.{Settings}
use Rattle.measure.specs.declared.Measure.{Measure}
use Rattle.measure.specs.Measures.{grown}
use Rattle.measure.specs.Measured.{grown_append, grown_nil}
use Rattle.comparisons.specs.declared.Spans.{Spans}
use Rattle.layouts.specs.declared.Run.{Run}
use Rattle.layouts.specs.Runs.{no_run, runs_of, run_text, runs_text}
use Rattle.layouts.proofs.Runs.{runs_next, runs_none}

module _ (s : Settings) (d : List ℕ) (from : ℕ) (c : Spans) where
  -- what is shown from run k on
  abbrev pub left_from : ℕ → List ℕ
  left_from k = runs_text s d (drop k (runs_of from c))

  module _ (k : ℕ) (r : Run) (h : k < 17) (e : r ≡ get_or (runs_of from c) k no_run) where
    left_next : left_from k ≡ run_text s d r ++ left_from (k + 1)
    left_next = runs_next s d (runs_of from c) k h ∙ ap (λ (x : Run). run_text s d x ++ left_from (k + 1)) (sym e)

    pub left_bytes : length (left_from k) ≡ length (run_text s d r) + length (left_from (k + 1))
    left_bytes = ap length left_next ∙ length-append (run_text s d r) (left_from (k + 1))

    pub left_grown : (a b : Measure) → b ≡ grown a (run_text s d r) → grown b (left_from (k + 1)) ≡ grown a (left_from k)
    left_grown a b q =
        ap (λ (x : Measure). grown x (left_from (k + 1))) q ∙ grown_append a (run_text s d r) (left_from (k + 1)) ∙ ap (grown a) (sym left_next)

    pub left_put : (o o₁ : List ℕ) (at b : ℕ) → o₁ ≡ put_at o at (run_text s d r) → b ≡ at + length (run_text s d r) → at + length (left_from k) ≤ length o
        → put_at o₁ b (left_from (k + 1)) ≡ put_at o at (left_from k)
    left_put o o₁ at b q p room =
        join o o₁ (put_at o₁ b (left_from (k + 1))) at b (run_text s d r) (left_from (k + 1)) q refl p (omega (arith, left_bytes))
        ∙ ap (put_at o at) (sym left_next)

  -- after the last
  module _ (k : ℕ) (h : k ≤ 17) (n : 17 ≤ k) where
    none_left : left_from k ≡ []
    none_left = ap left_from (let z : k ≡ 17 = omega arith in z) ∙ runs_none s d

    pub done_grown : (a b : Measure) → grown b (left_from k) ≡ a → b ≡ a
    done_grown a b q = sym (grown_nil b) ∙ ap (grown b) (sym none_left) ∙ q

    pub done_bytes : length (left_from k) ≡ 0
    done_bytes = ap length none_left

    pub done_put : (o o₁ : List ℕ) (b : ℕ) → put_at o₁ b (left_from k) ≡ o → o₁ ≡ o
    done_put o o₁ b q = sym (put_nil o₁ b) ∙ ap (put_at o₁ b) (sym none_left) ∙ q
