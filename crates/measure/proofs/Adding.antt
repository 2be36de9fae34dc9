-- A text more, from what code knows of it. Assumes nothing.
use mathlib.Core.Path.{◌≡◌, refl, ap, sym, ◌∙◌}
use mathlib.Core.List.{List}
use Prim.Native.Nat.{ℕ, ◌+◌}
use native.Mathlib.Omega.{arith}
use lib.ListN.{length}
use Rattle.characters.specs.Characters.{chars}
use Rattle.widths.specs.declared.Rule.{Rule}
use Rattle.widths.specs.declared.Wides.{Wides}
use Rattle.colour.specs.declared.Scan.{Scan}
use Rattle.colour.specs.Machine.{scan}
use Rattle.colour.specs.Seeing.{seen_after}
use Rattle.measure.specs.declared.Measure.{Measure}
use Rattle.measure.specs.Measures.{begun_with, eye_on, looking, eye_after, second, grown}
use Rattle.measure.specs.Measured.{measure_eq}

module _ (a : Measure) (s : List ℕ) (t : Scan) (n : ℕ) (e : t ≡ scan a.scan s) (f : n ≡ chars s) where
  -- by the crate's rule
  pub grown_shut : a.eye.rule ≡ Rule.Characters
      → ◌≡◌ {A = Measure} (record { scan = t; eye = a.eye; count = a.count + n; len = a.len + length s }) (grown a s)
  grown_shut h =
      let w = seen_after a.scan (begun_with a.eye.awaited a.eye.bits) s in
      measure_eq t (scan a.scan s) a.eye (eye_after a.eye a.scan s) (a.count + n) (grown a s).count (a.len + length s) (a.len + length s)
      e (ap (λ (r : Rule). looking r a.eye w.pending) (sym h)) (omega (arith, f, ap (λ (r : Rule). second r w.wide) h)) refl

  -- by the places rule
  pub grown_seen : a.eye.rule ≡ Rule.Places → (w : Wides) → w ≡ seen_after a.scan (begun_with a.eye.awaited a.eye.bits) s
      → ◌≡◌ {A = Measure} (record { scan = t; eye = eye_on w.pending; count = a.count + n + w.wide; len = a.len + length s }) (grown a s)
  grown_seen h w g =
      let v = seen_after a.scan (begun_with a.eye.awaited a.eye.bits) s in
      measure_eq t (scan a.scan s) (eye_on w.pending) (eye_after a.eye a.scan s) (a.count + n + w.wide) (grown a s).count (a.len + length s) (a.len + length s)
      e (ap (λ (x : Wides). eye_on x.pending) g ∙ ap (λ (r : Rule). looking r a.eye v.pending) (sym h))
      (omega (arith, f, ap (λ (x : Wides). x.wide) g, ap (λ (r : Rule). second r v.wide) h)) refl
