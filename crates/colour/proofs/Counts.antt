-- What is counted, by either rule: one for each byte of padding, and the same in every mode. Assumes nothing.
use mathlib.Core.Path.{◌≡◌, refl, ap, sym, ◌∙◌}
use mathlib.Core.List.{List, [], ◌∷◌, ◌++◌}
use Prim.Native.Nat.{ℕ, zero, suc, ◌+◌, ◌-◌, ◌<◌}
use native.Mathlib.Omega.{arith}
use lib.ListN.{replicate}
use Rattle.characters.specs.Characters.{chars}
use Rattle.characters.proofs.Counting.{chars_append, chars_replicate}
use Rattle.widths.specs.declared.Rule.{Rule}
use Rattle.widths.specs.declared.Wides.{Wides}
use Rattle.widths.specs.Widths.{none_begun, ran, places, count}
use Rattle.widths.proofs.Running.{advanced_ascii, ran_append}
use Rattle.words.specs.declared.Padding.{Padding}
use Rattle.words.specs.declared.Padding.TheVariants.{Space, Zero}
use Rattle.colour.specs.declared.Settings.{Settings}
use Rattle.colour.specs.declared.Format.{Format}
use Rattle.colour.specs.Modes.{plain, straight, coloured}
use Rattle.colour.specs.Sequences.{visible}
use Rattle.colour.specs.Formatting.{due, pad_byte}

pub pad_ascii : (z : Padding) → pad_byte z < 0x80
unfolding pad_byte
pad_ascii Space = omega arith
pad_ascii Zero = omega arith

pub chars_pad : (z : Padding) (n : ℕ) → chars (replicate n (pad_byte z)) ≡ n
chars_pad z n = chars_replicate n (pad_byte z) (pad_ascii z)

-- no padding is wide
ran_before : (z : Padding) (n : ℕ) (t : List ℕ) → ran (none_begun 0) (replicate n (pad_byte z) ++ t) ≡ ran (none_begun 0) t
unfolding ran
ran_before z zero t = refl
ran_before z (suc n) t = ap (λ (w : Wides). ran w (replicate n (pad_byte z) ++ t)) (advanced_ascii (none_begun 0) (pad_byte z) (pad_ascii z)) ∙ ran_before z n t

ran_pad : (z : Padding) (n : ℕ) (w : Wides) → (ran w (replicate n (pad_byte z))).wide ≡ w.wide
unfolding ran
ran_pad z zero w = refl
ran_pad z (suc n) w = ap (λ (v : Wides). (ran v (replicate n (pad_byte z))).wide) (advanced_ascii w (pad_byte z) (pad_ascii z)) ∙ ran_pad z n (none_begun w.wide)

-- before a text
pub count_pad_before : (r : Rule) (z : Padding) (n : ℕ) (t : List ℕ) → count r (replicate n (pad_byte z) ++ t) ≡ n + count r t
unfolding count places
count_pad_before Rule.Characters z n t = omega (arith, chars_append (replicate n (pad_byte z)) t, chars_pad z n)
count_pad_before Rule.Places z n t =
    omega (arith, chars_append (replicate n (pad_byte z)) t, chars_pad z n, ap (λ (w : Wides). w.wide) (ran_before z n t))

-- after a text
pub count_pad_after : (r : Rule) (z : Padding) (n : ℕ) (t : List ℕ) → count r (t ++ replicate n (pad_byte z)) ≡ count r t + n
unfolding count places
count_pad_after Rule.Characters z n t = omega (arith, chars_append t (replicate n (pad_byte z)), chars_pad z n)
count_pad_after Rule.Places z n t =
    omega (
      arith,
      chars_append t (replicate n (pad_byte z)),
      chars_pad z n,
      ap (λ (w : Wides). w.wide) (ran_append (none_begun 0) t (replicate n (pad_byte z))),
      ran_pad z n (ran (none_begun 0) t),
    )

-- the three modes keep the rule
pub modes_keep : (s : Settings) → ((plain s).rule ≡ s.rule) × (((straight s).rule ≡ s.rule) × ((coloured s).rule ≡ s.rule))
modes_keep s = (refl, (refl, refl))

-- by one rule, texts of which the same is visible have the same padding due, whatever the colour and the mode
pub due_any_mode : (s u : Settings) → s.rule ≡ u.rule → (f : Format) (t v : List ℕ) → visible t ≡ visible v → due s f t ≡ due u f v
unfolding due
due_any_mode s u r f t v e = ap (λ (n : ℕ). f.width - n) (ap (count s.rule) e ∙ ap (λ (q : Rule). count q (visible v)) r)
