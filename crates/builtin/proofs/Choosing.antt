-- The row of each choice has the template that was chosen. Assumes nothing.
use mathlib.Core.Path.{◌≡◌, refl, ap, sym, ◌∙◌}
use mathlib.Core.Bool.{Bool, true, false}
use mathlib.Core.List.{List, ◌++◌}
use Prim.Native.Nat.{ℕ, ◌<◌}
use native.Mathlib.Omega.{arith}
use Rattle.buffer.specs.Bytes.{bytes}
use Rattle.builtin.specs.Builtins.{builtin, for_host, builtin_text}
use Rattle.builtin.specs.Rows.{template_row, row_text}
use Rattle.builtin.specs.declared.Style.{Style}
use Rattle.builtin.specs.declared.Style.TheVariants.{Default, OneLine}

pub row_below : (style : Style) (location timestamp : Bool) → template_row style location timestamp < 8
row_below Default false false = omega arith
row_below Default false true = omega arith
row_below Default true false = omega arith
row_below Default true true = omega arith
row_below OneLine false false = omega arith
row_below OneLine false true = omega arith
row_below OneLine true false = omega arith
row_below OneLine true true = omega arith

pub row_chosen : (style : Style) (location timestamp : Bool) → row_text (template_row style location timestamp) ≡ builtin style location timestamp
unfolding row_text builtin
row_chosen Default false false = refl
row_chosen Default false true = refl
row_chosen Default true false = refl
row_chosen Default true true = refl
row_chosen OneLine false false = refl
row_chosen OneLine false true = refl
row_chosen OneLine true false = refl
row_chosen OneLine true true = refl

pub row_plain : (k : ℕ) (style : Style) (location timestamp host : Bool) → k ≡ template_row style location timestamp → host ≡ false
    → row_text k ≡ builtin_text style location timestamp host
unfolding for_host
row_plain k style location timestamp host e f =
    ap row_text e ∙ row_chosen style location timestamp ∙ ap (λ (h : Bool). for_host h (builtin style location timestamp)) (sym f)

pub row_for_host : (k : ℕ) (style : Style) (location timestamp host : Bool) → k ≡ template_row style location timestamp → host ≡ true
    → row_text k ++ bytes " (HOST)" ≡ builtin_text style location timestamp host
unfolding for_host
row_for_host k style location timestamp host e f =
    ap (λ (x : List ℕ). x ++ bytes " (HOST)") (ap row_text e ∙ row_chosen style location timestamp)
    ∙ ap (λ (h : Bool). for_host h (builtin style location timestamp)) (sym f)
