-- Laws of parameters: words of several tables, widths. Assumes nothing.
use Prim.Native.Nat.{ℕ, ◌+◌, ◌≤◌, ◌<◌}
use mathlib.Core.Path.{◌≡◌, refl, sym, ap, ◌∙◌}
use mathlib.Core.List.{List, [], ◌∷◌}
use native.Mathlib.Omega.{arith}
use lib.Dec.{leb}
use lib.ListN.{length, get_or}
use borrow.Author.Tests.{lt-ltb, le-ltb, le-leb, lt-leb}
use Rattle.buffer.specs.Bytes.{part, same}
use Rattle.buffer.specs.Table.{Maybe, none, some, lookup}
use Rattle.buffer.proofs.Parts.{part_step}
use Rattle.refusals.specs.declared.Refusal.{Refusal}
use Rattle.words.specs.declared.Alignment.{Alignment}
use Rattle.words.specs.declared.Alignment.TheVariants.{Left}
use Rattle.words.specs.declared.Padding.{Padding}
use Rattle.words.specs.declared.Parameter.{Parameter}
use Rattle.runs.specs.Runs.{decimal, digit, lowered, letters_end, digits_end}
use Rattle.words.specs.Trying.{fit, misfit, refused}
use Rattle.std.specs.Bool.{then_some}
use Rattle.std.specs.Prelude.{Some, None}
use Rattle.words.specs.Within.{found}
use Rattle.words.specs.Words.{sense, either, sensed, level_colours, colours, styles, parameter_of, name, alignments, padding_of, width_of, digits_to, aligned, byte_at, width_at}
use Rattle.runs.proofs.Counting.{number_tells}
use Rattle.runs.proofs.Matching.{part_none}
use Rattle.buffer.proofs.Tables.{lookup_on, lookup_none}
use Rattle.words.proofs.Naming.{name_sensed, one_other}
use Rattle.runs.proofs.Running.{run_end_lem}

-- ---- words

pub same_sense : (j : ℕ) (x y : Maybe Parameter) → x ≡ y → sensed j (sense x) ≡ sensed j (sense y)
same_sense j x y q = ap (λ (z : Maybe Parameter). sensed j (sense z)) q

module _ (x y : Maybe Parameter) where
  pub either_other : x ≡ none → either x y ≡ y
  unfolding either
  either_other q = ap (λ (z : Maybe Parameter). either z y) q

-- what is found in the first is what is found
pub either_found : {A : Type 0} (f : A → Parameter) (a : A) (x y : Maybe Parameter) → found f (Some a) ≡ x → found f (Some a) ≡ either x y
unfolding either found
either_found f a x y q = sym (ap (λ (z : Maybe Parameter). either z y) (sym q))

pub either_grouped : {A : Type 0} (x y z : Maybe A) → either x (either y z) ≡ either (either x y) z
unfolding either
either_grouped none y z = refl
either_grouped (some a) y z = refl

-- the colours, then the styles: what the run of letters that ends at j names
pub parameter_named : (t : List ℕ) (i e j : ℕ) → j ≡ letters_end t i e → (m : Maybe Parameter)
    → m ≡ either (either (lookup level_colours (part i j t)) (lookup colours (lowered (part i j t)))) (lookup styles (part i j t))
    → sensed j (sense m) ≡ name parameter_of t i e
unfolding parameter_of
parameter_named t i e j q m r =
    let w = part i j t in
    same_sense j _ _ (r ∙ sym (either_grouped (lookup level_colours w) (lookup colours (lowered w)) (lookup styles w))) ∙ sym (name_sensed parameter_of t i e j q)

pub no_parameter : (t : List ℕ) (i e j : ℕ) → j ≡ letters_end t i e → j ≤ i → name parameter_of t i e ≡ misfit
unfolding parameter_of sense either lookup lowered same sensed
no_parameter t i e j q h = name_sensed parameter_of t i e j q ∙ ap (λ (w : List ℕ). sensed j (parameter_of w)) (part_none t i j h)

-- ---- widths: the digits end at j

padding_first : (b : ℕ) (w : List ℕ) → padding_of (b ∷ w) ≡ padding_of (b ∷ [])
unfolding padding_of
padding_first b w = refl

module _ (a : Alignment) (t : List ℕ) (i e j : ℕ) (q : j ≡ digits_end t i e) where
  pub digits_none : j ≤ i → digits_to a t i (digits_end t i e) ≡ misfit
  unfolding digits_to
  digits_none h = ap (digits_to a t i) (sym q) ∙ rw (le-ltb i j h, digits_to)

  digits_read : i < j → digits_to a t i (digits_end t i e) ≡ width_of a (part i j t) j
  unfolding digits_to
  digits_read h = ap (digits_to a t i) (sym q) ∙ rw (lt-ltb i j h, digits_to)

  pub digits_wide : i < j → None ≡ then_some (leb (decimal 0 (part i j t)) 512) (decimal 0 (part i j t)) → digits_to a t i (digits_end t i e) ≡ refused Refusal.TooWide
  unfolding width_of
  digits_wide h c = digits_read h ∙ rw (lt-leb (decimal 0 (part i j t)) 512 (number_tells _ _ None c), width_of)

  pub digits_fit : i < j → j ≤ length t → (n : ℕ) → Some n ≡ then_some (leb (decimal 0 (part i j t)) 512) (decimal 0 (part i j t))
      → (z : Padding) → z ≡ padding_of (get_or t i 0 ∷ []) → digits_to a t i (digits_end t i e) ≡ fit (Parameter.WidthAndAlignment n z a) j
  unfolding width_of
  digits_fit h l n c z r =
      let d = number_tells _ _ (Some n) c in
      digits_read h
      ∙ rw (le-leb (decimal 0 (part i j t)) 512 (omega arith), width_of)
      (ap (λ (m : ℕ). fit (Parameter.WidthAndAlignment m (padding_of (part i j t)) a) j) d.0
      ∙ ap (λ (y : Padding). fit (Parameter.WidthAndAlignment n y a) j) (ap padding_of (part_step t i j h l) ∙ padding_first _ _ ∙ sym r))

-- ---- alignments: the byte at i

module _ (t : List ℕ) (i e : ℕ) where
  pub width_end : e ≤ i → width_at t i e ≡ misfit
  unfolding width_at byte_at aligned lookup same
  width_end h = rw (le-ltb i e h, byte_at) (digits_none Left t i e i (sym (run_end_lem digit t e i h)) (omega arith))

  width_here : i < e → width_at t i e ≡ aligned t i e (lookup alignments (get_or t i 0 ∷ []))
  unfolding width_at byte_at
  width_here h = rw (lt-ltb i e h, byte_at)

  -- it is k, which stands for the alignment a
  pub width_aligned : i < e → (k : ℕ) → get_or t i 0 ≡ k → (a : Alignment) → lookup alignments (k ∷ []) ≡ some a
      → width_at t i e ≡ digits_to a t (i + 1) (digits_end t (i + 1) e)
  unfolding aligned
  width_aligned h k b a q = width_here h ∙ ap (λ (x : ℕ). aligned t i e (lookup alignments (x ∷ []))) b ∙ ap (aligned t i e) q

  pub width_plain : i < e → (get_or t i 0 ≡ 0x3C → ⊥) → (get_or t i 0 ≡ 0x5E → ⊥) → (get_or t i 0 ≡ 0x3E → ⊥)
      → width_at t i e ≡ digits_to Left t i (digits_end t i e)
  unfolding aligned
  width_plain h l c r =
      width_here h
      ∙ ap (aligned t i e)
      (lookup_on _ _ _ (one_other 0x3C _ l) ∙ lookup_on _ _ _ (one_other 0x5E _ c) ∙ lookup_on _ _ _ (one_other 0x3E _ r) ∙ lookup_none _)
