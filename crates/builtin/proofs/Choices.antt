-- What a caller's numbers choose, case by case, and how long it is at most. Assumes nothing.
use Prim.Native.Nat.{ℕ, ◌≤◌}
use mathlib.Core.Path.{◌≡◌, ap}
use mathlib.Core.Bool.{Bool, true, false}
use mathlib.Core.List.{List}
use native.Mathlib.Omega.{arith}
use borrow.Author.Tests.{eq-eqb, ne_eqb}
use lib.ListN.{length, length-append}
use Rattle.buffer.specs.Bytes.{bytes}
use Rattle.builtin.specs.declared.Style.{Style}
use Rattle.builtin.specs.Builtins.{builtin, for_host, builtin_text}
use Rattle.builtin.specs.Rows.{template_row}
use Rattle.builtin.specs.Choices.{style_of, is_yes, chosen}
use Rattle.builtin.proofs.Choosing.{row_below, row_chosen}
use Rattle.builtin.proofs.Rule.{row}

pub style_default : (n : ℕ) → n ≡ 0 → Style.Default ≡ style_of n
unfolding style_of
style_default n h = rw (eq-eqb n 0 h, style_of)

pub style_one_line : (n : ℕ) → (n ≡ 0 → ⊥) → Style.OneLine ≡ style_of n
unfolding style_of
style_one_line n h = rw (ne_eqb n 0 h, style_of)

pub chosen_as : (style location timestamp host : ℕ) (k : Style) (l t h : Bool) → k ≡ style_of style → l ≡ is_yes location → t ≡ is_yes timestamp → h ≡ is_yes host
    → builtin_text k l t h ≡ chosen style location timestamp host
unfolding chosen
chosen_as style location timestamp host k l t h p q r s = λ i. builtin_text (p i) (q i) (r i) (s i)

-- ---- lengths

builtin_short : (style : Style) (location timestamp : Bool) → length (builtin style location timestamp) ≤ 64
builtin_short style location timestamp =
    let r = row (template_row style location timestamp) (row_below style location timestamp) in
    omega (arith, r.size, r.short, ap length (row_chosen style location timestamp))

for_host_short : (host : Bool) (t : List ℕ) → length t ≤ 64 → length (for_host host t) ≤ 71
unfolding for_host
for_host_short true t h = omega (arith, length-append t (bytes " (HOST)"))
for_host_short false t h = omega (arith, h)

pub chosen_short : (style location timestamp host : ℕ) → length (chosen style location timestamp host) ≤ 71
unfolding chosen
chosen_short style location timestamp host =
    for_host_short (is_yes host) (builtin (style_of style) (is_yes location) (is_yes timestamp)) (builtin_short (style_of style) (is_yes location) (is_yes timestamp))
