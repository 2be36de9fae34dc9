-- Laws of what is said of each specifier and group shown. Assumes nothing.
use mathlib.Core.List.{List}
use Prim.Native.Nat.{ℕ}
use Rattle.colour.specs.declared.Settings.{Settings}
use Rattle.colour.specs.declared.Format.{Format}
use Rattle.colour.specs.Shown.{Shown, text, specifier, group, Members, none, more, joined}
use Rattle.colour.specs.Texts.{Free, Quiet, Quiets, Each, Eachs}

module _ (P : Format → List ℕ → Type 0) (s : Settings) where
  -- what is said of a group is said of its format with its members joined, and of each inside it
  pub each_group : (f : Format) (m : Members) → Each P s (group f m) → P f (joined s m) × Eachs P s m
  each_group f m h = (h.0, h.1)

  pub each_specifier : (f : Format) (t : List ℕ) → Each P s (specifier f t) → P f t
  each_specifier f t h = h

  -- what is said of members is said of the first and of the others
  pub eachs_more : (x : Shown) (m : Members) → Eachs P s (more x m) → Each P s x × Eachs P s m
  eachs_more x m h = (h.0, h.1)

-- what holds of every format and text holds of each specifier and group shown
module _ (P : Format → List ℕ → Type 0) (h : (f : Format) (t : List ℕ) → P f t) (s : Settings) where
  mutual
    pub each_all : (x : Shown) → Each P s x
    each_all (text t) = tt
    each_all (specifier f t) = h f t
    each_all (group f m) = (h f (joined s m), eachs_all m)

    pub eachs_all : (m : Members) → Eachs P s m
    eachs_all none = tt
    eachs_all (more x m) = (each_all x, eachs_all m)

-- a group holds no byte 27 where its members hold none, and a specifier where its text holds none
pub quiet_group : (f : Format) (m : Members) → Quiets m → Quiet (group f m)
quiet_group f m q = q

pub quiet_specifier : (f : Format) (t : List ℕ) → Free t → Quiet (specifier f t)
quiet_specifier f t q = q
