-- Laws of names and of what they stand for. Assumes nothing.
use Prim.Native.Nat.{ℕ, zero, suc, ◌+◌, ◌-◌, ◌≤◌, ◌<◌}
use mathlib.Core.Path.{◌≡◌, sym, ap, ◌∙◌}
use mathlib.Core.Bool.{true, false}
use mathlib.Core.List.{List, [], ◌∷◌}
use native.Mathlib.Omega.{arith}
use lib.ListN.{length, get_or, replicate}
use borrow.Author.Tests.{ne_eqb, le-leb, lt-leb}
use Rattle.buffer.specs.Bytes.{part, same}
use Rattle.buffer.specs.Table.{none, lookup}
use Rattle.refusals.specs.declared.Refusal.{Refusal}
use Rattle.words.specs.declared.LogMetadata.{LogMetadata}
use Rattle.words.specs.declared.LogMetadata.TheVariants.{FileName}
use Rattle.runs.specs.Runs.{letters_end}
use Rattle.words.specs.Trying.{fit, misfit, refused}
use Rattle.std.specs.Prelude.{Option, Some, None, Ok, MatchOption, ⊤}
use Rattle.std.specs.Option.{option_map}
use Rattle.words.specs.Within.{told, told_read, found, found_sense, Fitting, Named, MetadataWithin}
use Rattle.words.specs.Words.{Sense, sense, stands_for, nothing, not_allowed, sensed, name_to, name, specifiers, specifier_of, or_repeated_f, repeated_f, count_of_f}
use Rattle.runs.proofs.Matching.{part_none, same_lengths}
use Rattle.buffer.proofs.Tables.{lookup_on, lookup_none}
use Rattle.buffer.proofs.Parts.{part_step}

-- ---- the run tried as a name ends at j

module _ {A : Type 0} (senseOf : List ℕ → Sense A) (t : List ℕ) (i e j : ℕ) (q : j ≡ letters_end t i e) where
  pub name_sensed : name senseOf t i e ≡ sensed j (senseOf (part i j t))
  unfolding name name_to
  name_sensed = ap (name_to senseOf t i) (sym q)

module _ {A : Type 0} (j : ℕ) (s : Sense A) where
  pub sensed_fit : (a : A) → s ≡ stands_for a → sensed j s ≡ fit a j
  unfolding sensed
  sensed_fit a q = ap (sensed j) q

  pub sensed_misfit : s ≡ nothing → sensed j s ≡ misfit
  unfolding sensed
  sensed_misfit q = ap (sensed j) q

  pub sensed_refused : (r : Refusal) → s ≡ not_allowed r → sensed j s ≡ refused r
  unfolding sensed
  sensed_refused r q = ap (sensed j) q

-- ---- `f` repeated n times

allowed : (n : ℕ) → 1 ≤ n → n ≤ 255 → count_of_f n ≡ stands_for (FileName n)
unfolding count_of_f
allowed zero g k = absurd (let z : ⊥ = omega arith in z)
allowed (suc n) g k = rw (le-leb (suc n) 255 k, count_of_f)

too_many : (n : ℕ) → 255 < n → count_of_f n ≡ not_allowed Refusal.TooManyF
unfolding count_of_f
too_many zero g = absurd (let z : ⊥ = omega arith in z)
too_many (suc n) g = rw (lt-leb (suc n) 255 g, count_of_f)

-- ---- specifiers of any number of letters but one

module _ (w : List ℕ) (h : length w ≡ 1 → ⊥) where
  unlisted : lookup specifiers w ≡ none
  unlisted =
      let no : 1 ≡ length w → ⊥ = λ q. h (sym q) in
      lookup_on _ _ w (same_lengths _ w no)
      ∙ lookup_on _ _ w (same_lengths _ w no)
      ∙ lookup_on _ _ w (same_lengths _ w no)
      ∙ lookup_on _ _ w (same_lengths _ w no)
      ∙ lookup_on _ _ w (same_lengths _ w no)
      ∙ lookup_on _ _ w (same_lengths _ w no)
      ∙ lookup_on _ _ w (same_lengths _ w no)
      ∙ lookup_on _ _ w (same_lengths _ w no)
      ∙ lookup_none w

  longer : specifier_of w ≡ repeated_f w
  unfolding specifier_of or_repeated_f
  longer = ap (or_repeated_f w) unlisted

  pub other_name : same (replicate (length w) 0x66) w ≡ false → specifier_of w ≡ nothing
  unfolding repeated_f
  other_name b = longer ∙ rw (b, repeated_f)

  repeated_f_lem : same (replicate (length w) 0x66) w ≡ true → specifier_of w ≡ count_of_f (length w)
  unfolding repeated_f
  repeated_f_lem b = longer ∙ rw (b, repeated_f)

  pub file_name_lem : same (replicate (length w) 0x66) w ≡ true → 1 ≤ length w → length w ≤ 255 → specifier_of w ≡ stands_for (FileName (length w))
  file_name_lem b g k = repeated_f_lem b ∙ allowed (length w) g k

  pub too_many_f : same (replicate (length w) 0x66) w ≡ true → 255 < length w → specifier_of w ≡ not_allowed Refusal.TooManyF
  too_many_f b g = repeated_f_lem b ∙ too_many (length w) g

pub no_name : (j : ℕ) (t : List ℕ) (i e : ℕ) → e ≤ i → sensed j (specifier_of (part i e t)) ≡ misfit
unfolding specifier_of or_repeated_f repeated_f count_of_f lookup same sensed
no_name j t i e h = ap (λ (w : List ℕ). sensed j (specifier_of w)) (part_none t i e h)

-- ---- specifiers of one letter

pub letter_alone : (t : List ℕ) (i j : ℕ) → j - i ≡ 1 → j ≤ length t
    → sensed j (specifier_of (part i j t)) ≡ sensed j (specifier_of (get_or t i 0 ∷ []))
letter_alone t i j h g =
    ap (λ (w : List ℕ). sensed j (specifier_of w))
    (part_step t i j (omega arith) g ∙ ap (λ (w : List ℕ). get_or t i 0 ∷ w) (part_none t (i + 1) j (omega arith)))

-- the letter is the whole word, which ends at j
pub letter_told : (j : ℕ) (o : Option LogMetadata) (s : Sense LogMetadata) → found_sense o ≡ s → told_read (Ok (option_map (λ m. (j, m)) o)) ≡ sensed j s
unfolding told found sense sensed
letter_told j None s q = ap (sensed j) q
letter_told j (Some m) s q = ap (sensed j) q

pub letter_within : (from to j : ℕ) (o : Option LogMetadata) → MatchOption o ⊤ Named → from + 1 ≤ j → j ≤ to → MetadataWithin from to (Ok (option_map (λ m. (j, m)) o))
unfolding Fitting
letter_within from to j None n g h = tt
letter_within from to j (Some m) n g h = (g, h, n)

pub one_other : (a b : ℕ) → (b ≡ a → ⊥) → same (a ∷ []) (b ∷ []) ≡ false
unfolding same
one_other a b h = rw (ne_eqb a b (λ q. h (sym q)), same)
