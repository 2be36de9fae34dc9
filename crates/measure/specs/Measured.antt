-- Scaffolding, for proofs alone: laws of measures: texts joined, and numbers that are no larger than the bytes. Assumes nothing.
use mathlib.Core.Path.{◌≡◌, refl, ap, sym, ◌∙◌}
use mathlib.Core.List.{List, [], ◌∷◌, ◌++◌}
use Prim.Native.Nat.{ℕ, ◌+◌, ◌≤◌}
use native.Mathlib.Nat.{add-zero}
use native.Mathlib.Omega.{arith}
use native.Mathlib.Decide.{dec_lt}
use lib.ListN.{length, length-append}
use Rattle.characters.specs.Characters.{begins, chars}
use Rattle.characters.proofs.Counting.{begins_below, chars_append, chars_length}
use Rattle.widths.specs.declared.Rule.{Rule}
use Rattle.widths.specs.declared.Wides.{Wides}
use Rattle.widths.specs.Fitting.{FewBits}
use Rattle.widths.proofs.Running.{raised}
use Rattle.colour.specs.declared.State.{State}
use Rattle.colour.specs.declared.Act.{Act}
use Rattle.colour.specs.declared.Act.TheVariants.{Text}
use Rattle.colour.specs.declared.Scan.{Scan}
use Rattle.colour.specs.Machine.{act_of, moved, scan}
use Rattle.colour.specs.Seeing.{seen_after}
use Rattle.colour.proofs.Acts.{act_high}
use Rattle.colour.proofs.Scanning.{scan_append, sequences_grow, resets_small}
use Rattle.colour.proofs.Seeing.{seen_append, seen_raised, seen_few, fits_seen}
use Rattle.measure.specs.declared.Eye.{Eye}
use Rattle.measure.specs.declared.Measure.{Measure}
use Rattle.measure.specs.Measures.{begun_with, eye_on, eye_after, wide_in, nothing, grown, more, Small}

-- equal parts make equal measures
pub measure_eq : (t t' : Scan) (e e' : Eye) (c c' l l' : ℕ) → t ≡ t' → e ≡ e' → c ≡ c' → l ≡ l'
    → ◌≡◌ {A = Measure} (record { scan = t; eye = e; count = c; len = l }) (record { scan = t'; eye = e'; count = c'; len = l' })
measure_eq t t' e e' c c' l l' p o q r = λ i. record { scan = p i; eye = o i; count = q i; len = r i }

-- ---- the eye, by its rule and what has begun

-- behind a text the count begins anew
pub anew : (t : Scan) (w : Wides) (s : List ℕ) → seen_after t w s ≡ raised w.wide (seen_after t (record { pending = w.pending; wide = 0 }) s)
anew t w s =
    ap (λ (k : ℕ). seen_after t (record { pending = w.pending; wide = k }) s) (sym (add-zero w.wide))
    ∙ seen_raised w.wide s t (record { pending = w.pending; wide = 0 })

module _ (n x : ℕ) (t : Scan) (s u : List ℕ) where
  -- a longer text goes on behind a shorter one
  in_two : raised (seen_after t (begun_with n x) s).wide (seen_after (scan t s) (record { pending = (seen_after t (begun_with n x) s).pending; wide = 0 }) u) ≡ seen_after t (begun_with n x) (s ++ u)
  in_two = sym (anew (scan t s) (seen_after t (begun_with n x) s) u) ∙ sym (seen_append s u t (begun_with n x))

  pub eye_append : (r : Rule) → (let e : Eye = record { rule = r; awaited = n; bits = x } in eye_after (eye_after e t s) (scan t s) u ≡ eye_after e t (s ++ u))
  eye_append Rule.Characters = refl
  eye_append Rule.Places = ap (λ (w : Wides). eye_on w.pending) in_two

  pub wide_append : (r : Rule)
      → (let e : Eye = record { rule = r; awaited = n; bits = x } in wide_in e t s + wide_in (eye_after e t s) (scan t s) u ≡ wide_in e t (s ++ u))
  wide_append Rule.Characters = refl
  wide_append Rule.Places = ap (λ (w : Wides). w.wide) in_two

-- a text of no bytes
module _ (n x : ℕ) (t : Scan) where
  pub eye_nil : (r : Rule) → (let e : Eye = record { rule = r; awaited = n; bits = x } in eye_after e t [] ≡ e)
  eye_nil Rule.Characters = refl
  eye_nil Rule.Places = refl

  pub wide_nil : (r : Rule) → (let e : Eye = record { rule = r; awaited = n; bits = x } in wide_in e t [] ≡ 0)
  wide_nil Rule.Characters = refl
  wide_nil Rule.Places = refl

-- what has begun has few bits, and wide characters are few
module _ (n x : ℕ) (t : Scan) (s : List ℕ) where
  pub eye_few : (r : Rule) → FewBits n x
      → (let e : Eye = record { rule = r; awaited = n; bits = x } in FewBits (eye_after e t s).awaited (eye_after e t s).bits)
  eye_few Rule.Characters h = h
  eye_few Rule.Places h = fits_seen s t (begun_with n x) h

  pub wide_few : (r : Rule) → (let e : Eye = record { rule = r; awaited = n; bits = x } in chars s + wide_in e t s ≤ length s)
  wide_few Rule.Characters = omega (arith, chars_length s)
  wide_few Rule.Places = omega (arith, seen_few s t (begun_with n x))

-- ---- texts joined

pub grown_append : (a : Measure) (s t : List ℕ) → grown (grown a s) t ≡ grown a (s ++ t)
grown_append a s t =
    let e = a.eye in
    measure_eq (scan (scan a.scan s) t) (scan a.scan (s ++ t)) (grown (grown a s) t).eye (grown a (s ++ t)).eye
    (grown (grown a s) t).count (grown a (s ++ t)).count (a.len + length s + length t) (a.len + length (s ++ t))
    (sym (scan_append s t a.scan))
    (eye_append e.awaited e.bits a.scan s t e.rule)
    (omega (arith, chars_append s t, wide_append e.awaited e.bits a.scan s t e.rule))
    (omega (arith, length-append s t))

pub grown_nil : (a : Measure) → grown a [] ≡ a
grown_nil a =
    let e = a.eye in
    measure_eq a.scan a.scan (eye_after e a.scan []) e (grown a []).count a.count (a.len + 0) a.len
    refl (eye_nil e.awaited e.bits a.scan e.rule) (omega (arith, wide_nil e.awaited e.bits a.scan e.rule)) (add-zero a.len)

-- ---- small numbers

-- a byte that goes on with a sequence or ends one is a character
seen_grows : (q : State) (b : ℕ) (t : Scan) → (moved (act_of q b) t).sequences + (moved (act_of q b) t).held ≤ t.sequences + t.held + begins b
seen_grows q b t =
    elim (dec_lt b 0x80) [
      | yes h ↦ omega (arith, sequences_grow (act_of q b) t, begins_below b h)
      | no g ↦ above (act_high q b (omega arith))
    ]
  where
    above : act_of q b ≡ Text → (moved (act_of q b) t).sequences + (moved (act_of q b) t).held ≤ t.sequences + t.held + begins b
    above e = omega (arith, ap (λ (a : Act). (moved a t).sequences) e, ap (λ (a : Act). (moved a t).held) e)

seen_small : (s : List ℕ) (t : Scan) → (scan t s).sequences + (scan t s).held ≤ t.sequences + t.held + chars s
seen_small [] t = omega arith
seen_small (b ∷ s) t = omega (arith, seen_small s (moved (act_of t.state b) t), seen_grows t.state b t)

pub small_nothing : (r : Rule) → Small (nothing r)
small_nothing r = record { resets = omega arith; count = omega arith; seen = omega arith; few = omega arith }

pub small_grown : (a : Measure) (s : List ℕ) → Small a → Small (grown a s)
small_grown a s h =
    let e = a.eye in
    record {
      resets = omega (arith, resets_small s a.scan, h.resets);
      count = omega (arith, wide_few e.awaited e.bits a.scan s e.rule, h.count);
      seen = omega (arith, seen_small s a.scan, h.seen);
      few = eye_few e.awaited e.bits a.scan s e.rule h.few;
    }

pub small_more : (a : Measure) (n : ℕ) → Small a → Small (more a n)
small_more a n h = record {
  resets = omega (arith, h.resets);
  count = omega (arith, h.count);
  seen = omega (arith, h.seen);
  few = h.few;
}
