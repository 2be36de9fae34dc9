-- Texts of ASCII without byte 27. Assumes nothing.
use mathlib.Core.Path.{◌≡◌, refl, ap, sym, ◌∙◌}
use mathlib.Core.Bool.{Bool, true, false, cond, not, ◌&&◌}
use Rattle.std.specs.List.{list_all}
use mathlib.Core.List.{List, [], ◌∷◌}
use Prim.Native.Nat.{ℕ, ◌+◌}
use native.Mathlib.Omega.{arith}
use lib.Dec.{eqb, ltb}
use lib.ListN.{length}
use borrow.Author.Tests.{ltb-true, ne_eqb, eqb-false}
use Rattle.characters.specs.Characters.{chars}
use Rattle.characters.proofs.Counting.{begins_below}
use Rattle.widths.specs.declared.Rule.{Rule}
use Rattle.widths.specs.declared.Wides.{Wides}
use Rattle.widths.specs.Widths.{none_begun}
use Rattle.colour.specs.declared.State.TheVariants.{Outside}
use Rattle.colour.specs.declared.Scan.{Scan}
use Rattle.colour.specs.Sequences.{esc}
use Rattle.colour.specs.Machine.{scan}
use Rattle.colour.specs.Seeing.{seen_after}
use Rattle.colour.specs.Texts.{Free}
use Rattle.colour.proofs.Scanning.{scan_free}
use Rattle.colour.proofs.Seeing.{Low, ran_low, seen_free}
use Rattle.scanning.specs.Resting.{is_resting}
use Rattle.scanning.proofs.Rests.{rests_outside}
use Rattle.measure.specs.declared.Eye.{Eye}
use Rattle.measure.specs.declared.Measure.{Measure}
use Rattle.measure.specs.Measures.{begun_with, eye_on, eye_after, wide_in, behind_padding, is_plain, grown}
use Rattle.measure.specs.Measured.{measure_eq, grown_nil}

-- ---- byte by byte

-- ASCII, and not byte 27
abbrev pub is_plain_byte : ℕ → Bool
is_plain_byte b = cond (ltb b 0x80) (not (eqb b 27)) false

pub plain_all : (s : List ℕ) → is_plain s ≡ list_all is_plain_byte s
unfolding is_plain
plain_all [] = refl
plain_all (b ∷ s) = by (ltb b 0x80) (eqb b esc) (plain_all s)
  where
    by : {r t : Bool} (l e : Bool) → r ≡ t → ◌≡◌ {A = Bool} (elim l as (λ _. Bool) [ true ↦ elim e [ true ↦ false | false ↦ r ] | false ↦ false ]) (cond l (not e) false && t)
    by true true h = refl
    by true false h = h
    by false e h = refl

-- ---- what it says of every byte

parts : (l e r : Bool) → ◌≡◌ {A = Bool} (elim l as (λ _. Bool) [ true ↦ elim e [ true ↦ false | false ↦ r ] | false ↦ false ]) true → (l ≡ true) × ((e ≡ false) × (r ≡ true))
parts true true r h = (refl, (cc, cc))
parts true false r h = (refl, (refl, h))
parts false e r h = (cc, (cc, cc))

plain_low : (s : List ℕ) → is_plain s ≡ true → Low s
unfolding is_plain
plain_low [] h = tt
plain_low (b ∷ s) h = let p = parts (ltb b 0x80) (eqb b esc) (is_plain s) h in (ltb-true b 0x80 p.0, plain_low s p.1.1)

plain_free : (s : List ℕ) → is_plain s ≡ true → Free s
unfolding is_plain
plain_free [] h = tt
plain_free (b ∷ s) h = let p = parts (ltb b 0x80) (eqb b esc) (is_plain s) h in (eqb-false b esc p.1.0, plain_free s p.1.1)

low_chars : (s : List ℕ) → Low s → chars s ≡ length s
low_chars [] h = refl
low_chars (b ∷ s) h = omega (arith, begins_below b h.0, low_chars s h.1)

-- ---- its measure

module _ (x y : ℕ) (t : Scan) (e : t.state ≡ Outside) (f : t.held ≡ 0) (b : ℕ) (s : List ℕ) (h : is_plain (b ∷ s) ≡ true) where
  all_seen : seen_after t (begun_with x y) (b ∷ s) ≡ none_begun 0
  all_seen = seen_free (b ∷ s) (plain_free (b ∷ s) h) t (begun_with x y) e f ∙ ran_low (b ∷ s) (plain_low (b ∷ s) h) (begun_with x y)

  eye_plain : (r : Rule) → (let o : Eye = record { rule = r; awaited = x; bits = y } in eye_after o t (b ∷ s) ≡ behind_padding o true)
  eye_plain Rule.Characters = refl
  eye_plain Rule.Places = ap (λ (w : Wides). eye_on w.pending) all_seen

  wide_plain : (r : Rule) → (let o : Eye = record { rule = r; awaited = x; bits = y } in wide_in o t (b ∷ s) ≡ 0)
  wide_plain Rule.Characters = refl
  wide_plain Rule.Places = ap (λ (w : Wides). w.wide) all_seen

pub grown_plain : (a : Measure) (s : List ℕ) (e : Eye) → is_resting a.scan.state a.scan.held ≡ true → is_plain s ≡ true
    → e ≡ cond (eqb (length s) 0) a.eye (behind_padding a.eye (is_resting a.scan.state a.scan.held))
    → ◌≡◌ {A = Measure} (record { scan = a.scan; eye = e; count = a.count + length s; len = a.len + length s }) (grown a s)
grown_plain a [] e r h g =
    measure_eq a.scan a.scan e a.eye (a.count + 0) a.count (a.len + 0) a.len refl g (omega arith) (omega arith) ∙ sym (grown_nil a)
grown_plain a (b ∷ s) e r h g =
    let o = a.eye in
    let q = rests_outside a.scan.state a.scan.held r in
    measure_eq a.scan (scan a.scan (b ∷ s)) e (eye_after o a.scan (b ∷ s))
    (a.count + length (b ∷ s)) (grown a (b ∷ s)).count (a.len + length (b ∷ s)) (a.len + length (b ∷ s))
    (sym (scan_free (b ∷ s) (plain_free (b ∷ s) h) a.scan q.0 q.1))
    (g ∙ ap (λ (z : Bool). cond z o (behind_padding o (is_resting a.scan.state a.scan.held))) (ne_eqb (length (b ∷ s)) 0 (λ z. omega (arith, z))) ∙ ap (behind_padding o) r ∙ sym (eye_plain o.awaited o.bits a.scan q.0 q.1 b s h o.rule))
    (omega (arith, low_chars (b ∷ s) (plain_low (b ∷ s) h), wide_plain o.awaited o.bits a.scan q.0 q.1 b s h o.rule))
    refl
