-- The eye behind padding, behind whole sequences, and behind a text with what a format puts around it. Assumes nothing.
use mathlib.Core.Path.{◌≡◌, refl, ap, sym, ◌∙◌}
use mathlib.Core.Bool.{Bool, true, false}
use mathlib.Core.List.{List}
use Prim.Native.Nat.{ℕ, zero, suc, ◌+◌}
use native.Mathlib.Omega.{arith}
use lib.ListN.{replicate}
use borrow.Author.Tests.{ne_eqb}
use Rattle.widths.specs.declared.Rule.{Rule}
use Rattle.widths.specs.declared.Wides.{Wides}
use Rattle.widths.specs.Widths.{none_begun, advanced}
use Rattle.widths.proofs.Running.{advanced_ascii}
use Rattle.words.specs.declared.Padding.{Padding}
use Rattle.colour.specs.declared.State.{State}
use Rattle.colour.specs.declared.State.TheVariants.{Outside, Escape, Bracket, LoneZero, Digits}
use Rattle.colour.specs.declared.Act.{Act}
use Rattle.colour.specs.declared.Act.TheVariants.{Text, Esc, More, Done, Reset}
use Rattle.colour.specs.declared.Scan.{Scan}
use Rattle.colour.specs.Formatting.{pad_byte}
use Rattle.colour.specs.Machine.{act_of, moved, scan}
use Rattle.colour.specs.Seeing.{let_go, looked_at, seen_after}
use Rattle.colour.proofs.Counts.{pad_ascii}
use Rattle.colour.proofs.Scanning.{scan_free}
use Rattle.colour.proofs.Seeing.{let_go_wide}
use Rattle.colour.proofs.Shows.{free_pad}
use Rattle.colour.proofs.Strip.{Stays, stays_pad}
use Rattle.scanning.specs.Resting.{is_resting}
use Rattle.measure.specs.declared.Eye.{Eye}
use Rattle.measure.specs.Measures.{begun_with, eye_on, eye_after, wide_in, let_go_by, behind_padding}

-- ---- padding

abbrev pub rests : Scan → Bool
rests u = is_resting u.state u.held

-- what is seen behind padding after which the search rests or not
abbrev pub after_pad : Bool → Wides → Wides
after_pad true w = none_begun w.wide
after_pad false w = w

-- where a byte is held the search does not rest
held_not : (q : State) (k : ℕ) → is_resting q (k + 1) ≡ false
held_not Outside k = ne_eqb (k + 1) 0 (λ e. omega (arith, e))
held_not Escape k = refl
held_not Bracket k = refl
held_not LoneZero k = refl
held_not Digits k = refl

-- text of ASCII ends what has begun, whether bytes were held or not
text_pad : (z : Padding) (k : ℕ) (w : Wides) → advanced (let_go k w) (pad_byte z) ≡ none_begun w.wide
text_pad z k w = advanced_ascii (let_go k w) (pad_byte z) (pad_ascii z) ∙ ap none_begun (let_go_wide k w)

-- outside a sequence padding is seen
pad_rests : (z : Padding) (n : ℕ) (t : Scan) → rests (scan (moved Text t) (replicate n (pad_byte z))) ≡ true
pad_rests z n t = ap rests (scan_free (replicate n (pad_byte z)) (free_pad z n) (moved Text t) refl refl)

-- so many bytes of padding
abbrev Behind : Padding → ℕ → Type 0
Behind z n = (t : Scan) (w : Wides) → seen_after t w (replicate n (pad_byte z)) ≡ after_pad (rests (scan t (replicate n (pad_byte z)))) w

first_at : (z : Padding) (t : Scan) (w : Wides) (a : Act) → Stays a → looked_at a t.held w (pad_byte z) ≡ after_pad (rests (moved a t)) w
first_at z t w Text h = text_pad z t.held w
first_at z t w Esc h = absurd h
first_at z t w (More q) h = ap (λ (x : Bool). after_pad x w) (sym (held_not q t.held))
first_at z t w Done h = absurd h
first_at z t w Reset h = absurd h

next_at : (z : Padding) (n : ℕ) → Behind z n → (t : Scan) (w : Wides) (a : Act) → Stays a
    → seen_after (moved a t) (looked_at a t.held w (pad_byte z)) (replicate n (pad_byte z)) ≡ after_pad (rests (scan (moved a t) (replicate n (pad_byte z)))) w
next_at z n rest t w Text h =
    let v = advanced (let_go t.held w) (pad_byte z) in
    rest (moved Text t) v
    ∙ ap (λ (x : Bool). after_pad x v) (pad_rests z n t)
    ∙ ap (λ (x : Wides). none_begun x.wide) (text_pad z t.held w)
    ∙ ap (λ (x : Bool). after_pad x w) (sym (pad_rests z n t))
next_at z n rest t w Esc h = absurd h
next_at z n rest t w (More q) h = rest (moved (More q) t) w
next_at z n rest t w Done h = absurd h
next_at z n rest t w Reset h = absurd h

seen_pad : (z : Padding) (n : ℕ) → Behind z (suc n)
seen_pad z zero t w = first_at z t w (act_of t.state (pad_byte z)) (stays_pad z t.state)
seen_pad z (suc n) t w = next_at z (suc n) (seen_pad z n) t w (act_of t.state (pad_byte z)) (stays_pad z t.state)

module _ (x y : ℕ) (z : Padding) (n : ℕ) (t : Scan) where
  pad_eye_by : (b : Bool) → eye_on (after_pad b (begun_with x y)).pending ≡ behind_padding (record { rule = Rule.Places; awaited = x; bits = y }) b
  pad_eye_by true = refl
  pad_eye_by false = refl

  pad_wide_by : (b : Bool) → (after_pad b (begun_with x y)).wide ≡ 0
  pad_wide_by true = refl
  pad_wide_by false = refl

  pub eye_pad : (r : Rule)
      → (let e : Eye = record { rule = r; awaited = x; bits = y } in
      let u = scan t (replicate (suc n) (pad_byte z)) in
      eye_after e t (replicate (suc n) (pad_byte z)) ≡ behind_padding e (is_resting u.state u.held))
  eye_pad Rule.Characters = refl
  eye_pad Rule.Places =
      ap (λ (w : Wides). eye_on w.pending) (seen_pad z n t (begun_with x y)) ∙ pad_eye_by (rests (scan t (replicate (suc n) (pad_byte z))))

  pub wide_pad : (r : Rule) → (let e : Eye = record { rule = r; awaited = x; bits = y } in wide_in e t (replicate (suc n) (pad_byte z)) ≡ 0)
  wide_pad Rule.Characters = refl
  wide_pad Rule.Places = ap (λ (w : Wides). w.wide) (seen_pad z n t (begun_with x y)) ∙ pad_wide_by (rests (scan t (replicate (suc n) (pad_byte z))))

-- ---- whole sequences

module _ (x y : ℕ) (t : Scan) (p : List ℕ) (h : (w : Wides) → seen_after t w p ≡ let_go t.held w) where
  let_eye_by : (k : ℕ) → eye_on (let_go k (begun_with x y)).pending ≡ let_go_by (record { rule = Rule.Places; awaited = x; bits = y }) k
  let_eye_by zero = refl
  let_eye_by (suc k) = refl

  pub eye_silent : (r : Rule) → (let e : Eye = record { rule = r; awaited = x; bits = y } in eye_after e t p ≡ let_go_by e t.held)
  eye_silent Rule.Characters = refl
  eye_silent Rule.Places = ap (λ (w : Wides). eye_on w.pending) (h (begun_with x y)) ∙ let_eye_by t.held

  pub wide_silent : (r : Rule) → (let e : Eye = record { rule = r; awaited = x; bits = y } in wide_in e t p ≡ 0)
  wide_silent Rule.Characters = refl
  wide_silent Rule.Places = ap (λ (w : Wides). w.wide) (h (begun_with x y)) ∙ let_go_wide t.held (begun_with x y)
