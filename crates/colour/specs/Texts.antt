-- Texts without byte 27, and what is said of each specifier and group shown. Assumes nothing.
use Rattle.std.specs.Prelude.{ℕ, ◌≡◌, List, [], ◌∷◌}
use Rattle.colour.specs.declared.Settings.{Settings}
use Rattle.colour.specs.declared.Format.{Format}
use Rattle.colour.specs.Sequences.{esc}
use Rattle.colour.specs.Shown.{Shown, text, specifier, group, Members, none, more, joined}

-- no byte of a text is byte 27
abbrev pub Free : List ℕ → Type 0
Free [] = Unit {0}
Free (b ∷ s) = (b ≡ esc → ⊥) × Free s

-- no text shown holds byte 27
abbrev mutual
  pub Quiet : Shown → Type 0
  Quiet (text t) = Free t
  Quiet (specifier f t) = Free t
  Quiet (group f m) = Quiets m

  pub Quiets : Members → Type 0
  Quiets none = Unit {0}
  Quiets (more x m) = Quiet x × Quiets m

-- P holds of each specifier and group shown, at any depth: of its format, and of its text before it is formatted
abbrev mutual
  pub Each : (Format → List ℕ → Type 0) → Settings → Shown → Type 0
  Each P s (text t) = Unit {0}
  Each P s (specifier f t) = P f t
  Each P s (group f m) = P f (joined s m) × Eachs P s m

  pub Eachs : (Format → List ℕ → Type 0) → Settings → Members → Type 0
  Eachs P s none = Unit {0}
  Eachs P s (more x m) = Each P s x × Eachs P s m
