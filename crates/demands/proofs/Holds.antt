-- Demand 3 holds. Assumes nothing.
use mathlib.Core.Path.{◌≡◌, refl, ap, sym, ◌∙◌, subst}
use mathlib.Core.List.{List, ◌++◌}
use Prim.Native.Nat.{ℕ}
use native.Mathlib.Omega.{arith}
use Rattle.colour.specs.declared.Settings.{Settings}
use Rattle.colour.specs.declared.Format.{Format}
use Rattle.colour.specs.Sequences.{visible}
use Rattle.colour.specs.Formatting.{due, padded, formatted}
use Rattle.colour.specs.Shown.{Shown, text, specifier, group, Members, none, more, text_of, joined}
use Rattle.colour.specs.Texts.{Free, Quiet, Quiets}
use Rattle.colour.proofs.Trees.{eachs_all}
use Rattle.colour.proofs.Shows.{Shows, shows_visible, shows_nil, shows_append, shows_free, visible_free, free_append}
use Rattle.colour.proofs.Counts.{modes_keep, due_any_mode}
use Rattle.colour.proofs.Formatted.{with_padding, shows_formatted, formatted_plain, free_with_padding, count_formatted, padded_plain, padded_straight, padded_crate}
use Rattle.demands.specs.Demand3.{Fills, FallsShort, Demand3}
use Rattle.colour.specs.Modes.{plain, straight, coloured}

-- ---- one specifier or group

-- where all that is due is written, the text fills its extent
fills : (s : Settings) (f : Format) (t : List ℕ) → padded s f t ≡ due s f t → Fills s f t
unfolding due
fills s f t e = omega (arith, count_formatted s f t)

fills_plain : (s : Settings) (f : Format) (t : List ℕ) → Fills (plain s) f t
fills_plain s f t = fills (plain s) f t (padded_plain (plain s) f t refl)

fills_straight : (s : Settings) (f : Format) (t : List ℕ) → Fills (straight s) f t
fills_straight s f t = fills (straight s) f t (padded_straight (straight s) f t refl)

falls_short : (s : Settings) (f : Format) (t : List ℕ) → FallsShort (coloured s) f t
unfolding due
falls_short s f t = record {
  padding = omega (arith, padded_crate (coloured s) f t refl);
  filled = omega (arith, padded_crate (coloured s) f t refl, count_formatted (coloured s) f t);
}

-- ---- the line

module _ (s : Settings) where
  -- formatted in straight mode, a text shows what is written of it with colour off
  formatted_same : (f : Format) (t v : List ℕ) → Shows t v → Free v → Shows (formatted (straight s) f t) (formatted (plain s) f v)
  formatted_same f t v h g =
      let e : visible t ≡ visible v = shows_visible t v h ∙ sym (visible_free v g) in
      let n : padded (straight s) f t ≡ padded (plain s) f v =
      padded_straight (straight s) f t refl ∙ due_any_mode (straight s) (plain s) refl f t v e ∙ sym (padded_plain (plain s) f v refl) in
      subst (λ (x : List ℕ). Shows (formatted (straight s) f t) x)
      (ap (λ (k : ℕ). with_padding f k v) n ∙ sym (formatted_plain (plain s) f v refl))
      (shows_formatted (straight s) f t v h)

  free_formatted : (f : Format) (v : List ℕ) → Free v → Free (formatted (plain s) f v)
  free_formatted f v g = subst Free (sym (formatted_plain (plain s) f v refl)) (free_with_padding f (padded (plain s) f v) v g)

-- at every place of a line: no sequence is open in straight mode, what is visible is the plain text, and that holds no byte 27
abbrev Same : List ℕ → List ℕ → Type 0
Same t v = Shows t v × Free v

mutual
  unfolding text_of

  same_text : (s : Settings) (x : Shown) → Quiet x → Same (text_of (straight s) x) (text_of (plain s) x)
  same_text s (text t) q = (shows_free t q, q)
  same_text s (specifier f t) q = (formatted_same s f t t (shows_free t q) q, free_formatted s f t q)
  same_text s (group f m) q =
      let r = same_joined s m q in
      (formatted_same s f (joined (straight s) m) (joined (plain s) m) r.0 r.1, free_formatted s f (joined (plain s) m) r.1)

  same_joined : (s : Settings) (m : Members) → Quiets m → Same (joined (straight s) m) (joined (plain s) m)
  same_joined s none q = (shows_nil, tt)
  same_joined s (more x m) q =
      let a = same_text s x q.0 in
      let b = same_joined s m q.1 in (
        shows_append (text_of (straight s) x) (joined (straight s) m) (text_of (plain s) x) (joined (plain s) m) a.0 b.0,
        free_append (text_of (plain s) x) (joined (plain s) m) a.1 b.1,
      )

-- with colour off both coloured modes write the same
formatted_one : (s : Settings) (f : Format) (t : List ℕ) → formatted (plain s) f t ≡ formatted (plain (straight s)) f t
formatted_one s f t =
    formatted_plain (plain s) f t refl
    ∙ ap (λ (n : ℕ). with_padding f n t)
    (padded_plain (plain s) f t refl ∙ due_any_mode (plain s) (plain (straight s)) refl f t t refl ∙ sym (padded_plain (plain (straight s)) f t refl))
    ∙ sym (formatted_plain (plain (straight s)) f t refl)

mutual
  unfolding text_of

  text_one : (s : Settings) (x : Shown) → text_of (plain s) x ≡ text_of (plain (straight s)) x
  text_one s (text t) = refl
  text_one s (specifier f t) = formatted_one s f t
  text_one s (group f m) = formatted_one s f (joined (plain s) m) ∙ ap (formatted (plain (straight s)) f) (joined_one s m)

  joined_one : (s : Settings) (m : Members) → joined (plain s) m ≡ joined (plain (straight s)) m
  joined_one s none = refl
  joined_one s (more x m) = λ i. text_one s x i ++ joined_one s m i

-- ---- the demand

pub demand3 : (s : Settings) (m : Members) → Demand3 s m
demand3 s m = record {
  kept = modes_keep s;
  same = λ q. shows_visible (joined (straight s) m) (joined (plain s) m) (same_joined s m q).0;
  plain_free = λ q. (same_joined s m q).1;
  plain_one = joined_one s m;
  fills_plain = eachs_all (Fills (plain s)) (fills_plain s) (plain s) m;
  fills_straight = eachs_all (Fills (straight s)) (fills_straight s) (straight s) m;
  falls_short = eachs_all (FallsShort (coloured s)) (falls_short s) (coloured s) m;
}
