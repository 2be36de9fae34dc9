-- A formatted text is measured in one pass, and its padding and insertions come from the measure of the text alone. Assumes nothing.
use mathlib.Core.Path.{◌≡◌, refl, ap, sym, ◌∙◌}
use mathlib.Core.List.{List, ◌++◌}
use Prim.Native.Nat.{ℕ, ◌+◌, ◌-◌}
use native.Mathlib.Omega.{arith}
use lib.ListN.{length, replicate, length-append}
use Rattle.characters.specs.Characters.{chars}
use Rattle.characters.proofs.Counting.{chars_append}
use Rattle.widths.specs.declared.Rule.{Rule}
use Rattle.widths.specs.declared.Wides.{Wides}
use Rattle.widths.specs.Widths.{places, count}
use Rattle.widths.proofs.Running.{raised}
use Rattle.colour.specs.declared.Scan.{Scan}
use Rattle.colour.specs.declared.Settings.{Settings}
use Rattle.colour.specs.declared.Format.{Format}
use Rattle.colour.specs.Sequences.{visible, reinserted}
use Rattle.colour.specs.Formatting.{due, prefix_in, inserted, counted, padded, before, pad_byte, ending, framed}
use Rattle.colour.specs.Machine.{scan, start}
use Rattle.colour.specs.Seeing.{seen_after}
use Rattle.colour.proofs.Characters.{visible_chars}
use Rattle.colour.proofs.Inserting.{bump}
use Rattle.colour.proofs.Prefixes.{chars_prefix_in, whole_or_none_prefix_in}
use Rattle.colour.proofs.Measures.{length_reinserted, chars_reinserted, inserted_resets, scan_in_one_pass}
use Rattle.colour.proofs.Seeing.{visible_wides, seen_raised, seen_in_one_pass}
use Rattle.measure.specs.declared.Eye.{Eye}
use Rattle.measure.specs.declared.Measure.{Measure}
use Rattle.measure.specs.Measures.{fresh, begun_with, eye_on, eye_after, wide_in, nothing, grown, more, inserted_in, padding_in}
use Rattle.measure.specs.Measured.{measure_eq, anew}

-- the eye behind the three parts in turn: what was counted before is only added to
module _ (s : Settings) (f : Format) (x y : ℕ) (t : Scan) (u : List ℕ) (n : ℕ) where
  abbrev p : List ℕ
  p = prefix_in s.colour f.look

  abbrev l : List ℕ
  l = p ++ replicate (before f.alignment n) (pad_byte f.padding)

  abbrev r : List ℕ
  r = replicate (n - before f.alignment n) (pad_byte f.padding) ++ ending p

  -- the search behind the first part, and behind the second with the bytes inserted
  abbrev t₁ : Scan
  t₁ = scan t l

  abbrev t₂ : Scan
  t₂ = bump (scan t₁ u) (inserted p u)

  abbrev w₁ : Wides
  w₁ = seen_after t (begun_with x y) l

  abbrev w₂ : Wides
  w₂ = seen_after t₁ (record { pending = w₁.pending; wide = 0 }) u

  abbrev w₃ : Wides
  w₃ = seen_after t₂ (record { pending = w₂.pending; wide = 0 }) r

  in_turn : raised w₁.wide (raised w₂.wide w₃) ≡ seen_after t (begun_with x y) (framed p f n u)
  in_turn =
      ap (raised w₁.wide) (sym (anew t₂ w₂ r))
      ∙ sym (seen_raised w₁.wide r t₂ w₂)
      ∙ ap (λ (w : Wides). seen_after t₂ w r) (sym (anew t₁ w₁ u))
      ∙ seen_in_one_pass p (whole_or_none_prefix_in s.colour f.look) f n u t (begun_with x y)

  pub eye_walked : (k : Rule)
      → (let e : Eye = record { rule = k; awaited = x; bits = y } in eye_after (eye_after (eye_after e t l) t₁ u) t₂ r ≡ eye_after e t (framed p f n u))
  eye_walked Rule.Characters = refl
  eye_walked Rule.Places = ap (λ (w : Wides). eye_on w.pending) in_turn

  pub wide_walked : (k : Rule)
      → (let e : Eye = record { rule = k; awaited = x; bits = y } in
      wide_in e t l + (wide_in (eye_after e t l) t₁ u + wide_in (eye_after (eye_after e t l) t₁ u) t₂ r) ≡ wide_in e t (framed p f n u))
  wide_walked Rule.Characters = refl
  wide_walked Rule.Places = ap (λ (w : Wides). w.wide) in_turn

-- the prefix and the padding before, the text, the bytes inserted by their number, the padding after and the end
pub walked : (s : Settings) (f : Format) (a : Measure) (t : List ℕ) (n : ℕ)
    → grown (more (grown (grown a (prefix_in s.colour f.look ++ replicate (before f.alignment n) (pad_byte f.padding))) t)
    (inserted (prefix_in s.colour f.look) t))
    (replicate (n - before f.alignment n) (pad_byte f.padding) ++ ending (prefix_in s.colour f.look))
    ≡ grown a (framed (prefix_in s.colour f.look) f n t)
unfolding framed
walked s f a t n =
    let p = prefix_in s.colour f.look in
    let l = replicate (before f.alignment n) (pad_byte f.padding) in
    let r = replicate (n - before f.alignment n) (pad_byte f.padding) in
    let i = reinserted p t in
    let m = inserted p t in
    let e = a.eye in
    measure_eq
    (scan (bump (scan (scan a.scan (p ++ l)) t) m) (r ++ ending p)) (scan a.scan (p ++ (l ++ (i ++ (r ++ ending p)))))
    (grown (more (grown (grown a (p ++ l)) t) m) (r ++ ending p)).eye (grown a (framed p f n t)).eye
    (grown (more (grown (grown a (p ++ l)) t) m) (r ++ ending p)).count (grown a (framed p f n t)).count
    (a.len + length (p ++ l) + length t + m + length (r ++ ending p)) (a.len + length (p ++ (l ++ (i ++ (r ++ ending p)))))
    (scan_in_one_pass p (whole_or_none_prefix_in s.colour f.look) f n t a.scan)
    (eye_walked s f e.awaited e.bits a.scan t n e.rule)
    (omega (
      arith,
      chars_append p l,
      chars_append p (l ++ (i ++ (r ++ ending p))),
      chars_append l (i ++ (r ++ ending p)),
      chars_append i (r ++ ending p),
      chars_reinserted p t (chars_prefix_in s.colour f.look),
      inserted_resets p t,
      wide_walked s f e.awaited e.bits a.scan t n e.rule,
    ))
    (omega (
      arith,
      length-append p l,
      length-append p (l ++ (i ++ (r ++ ending p))),
      length-append l (i ++ (r ++ ending p)),
      length-append i (r ++ ending p),
      length_reinserted p t,
      inserted_resets p t,
    ))

pub inserted_measured : (s : Settings) (f : Format) (t : List ℕ) → inserted_in s f (grown (nothing s.rule) t) ≡ inserted (prefix_in s.colour f.look) t
unfolding inserted_in
inserted_measured s f t = sym (inserted_resets (prefix_in s.colour f.look) t)

-- what is counted of what is visible: what the measure counts less the bytes of whole sequences
count_visible : (r : Rule) (t : List ℕ) → count r (visible t) + (scan start t).sequences ≡ chars t + wide_in (fresh r) start t
unfolding count places
count_visible Rule.Characters t = omega (arith, visible_chars t)
count_visible Rule.Places t = omega (arith, visible_chars t, visible_wides t)

pub padding_measured : (s : Settings) (f : Format) (t : List ℕ)
    → padding_in s f (grown (nothing s.rule) t) (inserted (prefix_in s.colour f.look) t) ≡ padded s f t
unfolding padding_in padded due
padding_measured s f t =
    let d : f.width - ((grown (nothing s.rule) t).count - (scan start t).sequences) ≡ f.width - count s.rule (visible t) = omega (arith, count_visible s.rule t) in
    ap (λ (x : ℕ). counted s.straight x (inserted (prefix_in s.colour f.look) t)) d
