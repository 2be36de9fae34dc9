-- What stands before a formatted text and after it, measured by its number of bytes. Assumes nothing.
use mathlib.Core.Path.{◌≡◌, refl, ap, sym, ◌∙◌}
use mathlib.Core.List.{List, [], ◌∷◌, ◌++◌, append-nil}
use Prim.Native.Nat.{ℕ, zero, suc, ◌+◌}
use native.Mathlib.Nat.{add-zero}
use native.Mathlib.Omega.{arith}
use lib.ListN.{length, replicate, length-replicate}
use Rattle.utf8.specs.Utf8.{within}
use Rattle.characters.specs.Characters.{begins, chars}
use Rattle.words.specs.declared.Padding.{Padding}
use Rattle.colour.specs.declared.Scan.{Scan}
use Rattle.colour.specs.declared.Settings.{Settings}
use Rattle.colour.specs.declared.Look.{Look}
use Rattle.colour.specs.Sequences.{reset}
use Rattle.colour.specs.Formatting.{prefix_in, pad_byte, ending}
use Rattle.colour.specs.Machine.{scan, resting}
use Rattle.colour.proofs.Counts.{chars_pad}
use Rattle.colour.proofs.Formatted.{ending_reset}
use Rattle.colour.proofs.Prefixes.{whole_prefix_in, chars_prefix_in}
use Rattle.colour.proofs.Wholes.{Whole, scan_reset, seen_reset}
use Rattle.scanning.specs.Resting.{is_resting}
use Rattle.measure.specs.declared.Eye.{Eye}
use Rattle.measure.specs.declared.Measure.{Measure}
use Rattle.measure.specs.Measures.{eye_after, behind_padding, grown, Longer}
use Rattle.measure.specs.Measured.{measure_eq}
use Rattle.measure.proofs.Eyes.{eye_pad, wide_pad, eye_silent, wide_silent}

-- padding is measured by its length, but for the search and the eye
pub grown_pad : (a : Measure) (z : Padding) (n : ℕ) (t : Scan) (e : Eye) → (n ≡ 0 → ⊥) → t ≡ scan a.scan (replicate n (pad_byte z))
    → e ≡ behind_padding a.eye (is_resting t.state t.held)
    → ◌≡◌ {A = Measure} (record { scan = t; eye = e; count = a.count + n; len = a.len + n }) (grown a (replicate n (pad_byte z)))
grown_pad a z zero t e h f g = absurd (h refl)
grown_pad a z (suc n) t e h f g =
    let p = replicate (suc n) (pad_byte z) in
    let o = a.eye in
    measure_eq t (scan a.scan p) e (eye_after o a.scan p) (a.count + suc n) (grown a p).count (a.len + suc n) (a.len + length p)
    f
    (g ∙ ap (λ (u : Scan). behind_padding o (is_resting u.state u.held)) f ∙ sym (eye_pad o.awaited o.bits z n a.scan o.rule))
    (omega (arith, chars_pad z (suc n), wide_pad o.awaited o.bits z n a.scan o.rule))
    (omega (arith, length-replicate {A = ℕ} (suc n) (pad_byte z)))

-- a prefix is one
pub grown_prefix : (a r : Measure) (s : Settings) (k : Look) (n : ℕ) → (n ≡ 0 → ⊥) → n ≡ length (prefix_in s.colour k) → Longer a n 0 r
    → r ≡ grown a (prefix_in s.colour k)
grown_prefix a r s k n g e h =
    let p = prefix_in s.colour k in
    let o = a.eye in
    let w : Whole p = whole_prefix_in s.colour k (λ q. g (e ∙ ap length q)) in
    let t : resting (a.scan.sequences + n) (a.scan.resets + 0) ≡ resting (a.scan.sequences + length p) a.scan.resets =
    λ i. resting (a.scan.sequences + e i) (add-zero a.scan.resets i) in
    measure_eq r.scan (scan a.scan p) r.eye (eye_after o a.scan p) r.count (grown a p).count r.len (a.len + length p)
    (h.0 ∙ t ∙ sym (w.scanned a.scan))
    (h.1.0 ∙ sym (eye_silent o.awaited o.bits a.scan p (w.silent a.scan) o.rule))
    (omega (arith, h.1.1.0, e, chars_prefix_in s.colour k, wide_silent o.awaited o.bits a.scan p (w.silent a.scan) o.rule))
    (omega (arith, h.1.1.1, e))

chars_reset : chars reset ≡ 4
unfolding begins within
chars_reset = refl

-- the reset at the end is one
pub grown_ending : (a r : Measure) (s : Settings) (k : Look) (n : ℕ) → (n ≡ 0 → ⊥) → n ≡ length (prefix_in s.colour k) → Longer a 4 1 r
    → r ≡ grown a (ending (prefix_in s.colour k))
grown_ending a r s k n g e h =
    let p = prefix_in s.colour k in
    let o = a.eye in
    measure_eq r.scan (scan a.scan reset) r.eye (eye_after o a.scan reset) r.count (grown a reset).count r.len (a.len + 4)
    (h.0 ∙ sym (scan_reset a.scan))
    (h.1.0 ∙ sym (eye_silent o.awaited o.bits a.scan reset (seen_reset a.scan) o.rule))
    (omega (arith, h.1.1.0, chars_reset, wide_silent o.awaited o.bits a.scan reset (seen_reset a.scan) o.rule))
    (omega (arith, h.1.1.1))
    ∙ ap (grown a) (sym (ending_reset p (λ q. g (e ∙ ap length q))))

empty : (p : List ℕ) → length p ≡ 0 → p ≡ []
empty [] e = refl
empty (b ∷ p) e = absurd (let z : ⊥ = omega arith in z)

-- without a prefix nothing stands before the padding
pub no_prefix : (s : Settings) (k : Look) (n : ℕ) → n ≡ 0 → n ≡ length (prefix_in s.colour k) → prefix_in s.colour k ≡ []
no_prefix s k n z e = empty (prefix_in s.colour k) (sym e ∙ z)

-- and nothing after it
pub no_ending : (s : Settings) (k : Look) (n : ℕ) (r : List ℕ) → n ≡ 0 → n ≡ length (prefix_in s.colour k) → r ≡ r ++ ending (prefix_in s.colour k)
unfolding ending
no_ending s k n r z e = sym (append-nil r) ∙ ap (λ (p : List ℕ). r ++ ending p) (sym (no_prefix s k n z e))
