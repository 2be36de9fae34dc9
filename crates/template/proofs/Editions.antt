-- The two editions, one law for each case. Assumes nothing.
use Prim.Native.Nat.{ℕ, ◌≤◌, ◌<◌}
use mathlib.Core.Path.{◌≡◌, refl, sym, ap, ◌∙◌}
use mathlib.Core.Bool.{true, false}
use mathlib.Core.List.{List}
use native.Mathlib.Omega.{arith}
use lib.ListN.{length}
use borrow.Author.Tests.{le-leb, lt-leb}
use Rattle.buffer.specs.Table.{Maybe, none, some}
use Rattle.utf8.specs.Utf8.{valid}
use Rattle.letters.specs.Marked.{marked}
use Rattle.refusals.specs.declared.Refusal.{Refusal}
use Rattle.words.specs.Trying.{Tried, fit, misfit, refused}
use Rattle.segments.specs.Segments.{LogSegments, named_among}
use Rattle.building.specs.Reading.{Top}
use Rattle.unused.specs.Unused.{first_of, unused_in}
use Rattle.unused.specs.Looking.{WasRead}
use Rattle.template.specs.declared.Edition.{Edition}
use Rattle.template.specs.Template.{Template, read, refusal, with_message, reading, ended, top_level, read_template, all_used, read_by}
use Rattle.template.specs.Parsing.{judged_by}

-- ---- a template that was read

module _ (t : List ℕ) (s : LogSegments) where
  not_stopped : (x : Tried Top) → reading t ≡ x → ended x ≡ read s → WasRead t
  unfolding ended with_message named_among
  not_stopped (fit top j) q e = record { top = top; end = j; reads = q }
  not_stopped misfit q e = absurd (let z : ◌≡◌ {A = ℕ} 0 1 = cc in let y : ⊥ = omega arith in y)
  not_stopped (refused r) q e = absurd (let z : ◌≡◌ {A = ℕ} 0 1 = cc in let y : ⊥ = omega arith in y)

  pub was_read : top_level t ≡ read s → WasRead t
  unfolding top_level
  was_read e = not_stopped (reading t) refl e

-- ---- what the first edition refuses

pub refused_alike : (u : Maybe ℕ) (r : Refusal) → all_used u (refusal r) ≡ refusal r
unfolding all_used
refused_alike none r = refl
refused_alike (some p) r = refl

pub judged_alike : (edition : Edition) (t : List ℕ) (x : Template) (r : Refusal) → x ≡ refusal r → judged_by edition t x ≡ refusal r
judged_alike Edition.First t x r q = q
judged_alike Edition.Strict t x r q = ap (all_used (first_of (unused_in t))) q ∙ refused_alike (first_of (unused_in t)) r

pub judged_same : (edition : Edition) (t u : List ℕ) → t ≡ u → judged_by edition t (top_level t) ≡ judged_by edition u (top_level u)
judged_same edition t u q = ap (λ (m : List ℕ). judged_by edition m (top_level m)) q

-- ---- a whole template

by_edition : (edition : Edition) (t : List ℕ) → read_by edition t ≡ judged_by edition (marked t) (read_template t)
unfolding read_by
by_edition Edition.First t = refl
by_edition Edition.Strict t = refl

module _ (edition : Edition) (t : List ℕ) where
  pub too_long_lem : 1024 < length t → refusal Refusal.TemplateTooLong ≡ read_by edition t
  unfolding read_template
  too_long_lem h = sym (by_edition edition t ∙ judged_alike edition (marked t) (read_template t) Refusal.TemplateTooLong (rw (lt-leb (length t) 1024 h, read_template)))

  pub not_text : length t ≤ 1024 → valid t ≡ false → refusal Refusal.TemplateNotUtf8 ≡ read_by edition t
  unfolding read_template
  not_text h v =
      sym (by_edition edition t ∙ judged_alike edition (marked t) (read_template t) Refusal.TemplateNotUtf8 (rw (le-leb (length t) 1024 h, v, read_template)))

  pub is_read_lem : length t ≤ 1024 → valid t ≡ true → (x : Template) → x ≡ judged_by edition (marked t) (top_level (marked t)) → x ≡ read_by edition t
  unfolding read_template
  is_read_lem h v x q =
      q ∙ ap (judged_by edition (marked t)) (sym (let z : read_template t ≡ top_level (marked t) = rw (le-leb (length t) 1024 h, v, read_template) in z))
      ∙ sym (by_edition edition t)
