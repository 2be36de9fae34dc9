-- What is shown of a line: texts, specifiers and groups with their formats, and the bytes that they make. Assumes nothing.
use Rattle.std.specs.Prelude.{ℕ, List, [], ◌++◌}
use Rattle.colour.specs.declared.Settings.{Settings}
use Rattle.colour.specs.declared.Format.{Format}
use Rattle.colour.specs.Formatting.{formatted}

-- a bare text, a specifier's text in its format, a group of members in its format
mutual
  pub data Shown : Type 0 where
    text : List ℕ → Shown
    specifier : Format → List ℕ → Shown
    group : Format → Members → Shown

  pub data Members : Type 0 where
    none : Members
    more : Shown → Members → Members

-- "A group's text is the texts of its members joined, then formatted as one"
unfoldable mutual
  pub text_of : Settings → Shown → List ℕ
  text_of s (text t) = t
  text_of s (specifier f t) = formatted s f t
  text_of s (group f m) = formatted s f (joined s m)

  pub joined : Settings → Members → List ℕ
  joined s none = []
  joined s (more x m) = text_of s x ++ joined s m
