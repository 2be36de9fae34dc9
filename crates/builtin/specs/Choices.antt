-- What a caller's numbers choose among the built-in templates. Assumes nothing.
use Rattle.std.specs.Prelude.{ℕ, Bool, true, false, not, List, eqb}
use Rattle.builtin.specs.declared.Style.{Style}
use Rattle.builtin.specs.Builtins.{builtin_text}

-- 0 is the default style, any other number the one-line one
unfoldable pub style_of : ℕ → Style
style_of n = elim (eqb n 0) [ true ↦ Style.Default | false ↦ Style.OneLine ]

-- 0 is no, any other number yes
unfoldable pub is_yes : ℕ → Bool
is_yes n = not (eqb n 0)

-- the template that four numbers of a call choose
unfoldable pub chosen : ℕ → ℕ → ℕ → ℕ → List ℕ
chosen style location timestamp host = builtin_text (style_of style) (is_yes location) (is_yes timestamp) (is_yes host)
