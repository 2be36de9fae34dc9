-- What is told of a template that was read, and of one that was not. Assumes nothing.
use mathlib.Core.Path.{◌≡◌, refl, ap, sym, subst, ◌∙◌}
use mathlib.Core.Bool.{Bool, true, false}
use mathlib.Core.List.{List}
use Prim.Native.Nat.{ℕ, ◌*◌, ◌≤◌, ◌<◌, ◌^◌}
use native.Mathlib.Omega.{arith}
use Rattle.refusals.specs.declared.Refusal.{Refusal}
use Rattle.refusals.specs.Numbers.{value_with}
use Rattle.segments.specs.declared.Cell.{Cell}
use Rattle.segments.specs.Pool.{chain_at}
use Rattle.std.specs.Prelude.{Ok, Err, MatchResult, IsOkAnd}
use Rattle.std.specs.Int.{from_bool}
use Rattle.packing.specs.Packing.{Packable, packed_answer}
use Rattle.template.specs.declared.Edition.{Edition}
use Rattle.template.specs.Template.{Template, refusal, read_by, names_timestamp}
use Rattle.template.specs.Parsing.{Parsed, tell_parsed}
use Rattle.template.proofs.Refusing.{refused_by, small_value}
use Rattle.settings.specs.Bits.{is_known, edition_of}
use Rattle.checking.specs.Templates.{template_asked, refusal_told, check_of, timestamp_of}

-- ---- by the settings byte

module _ (settings : ℕ) (t : List ℕ) where
  pub asked_known : is_known settings ≡ true → (e : Edition) → e ≡ edition_of settings → (x : Template) → x ≡ read_by e t → x ≡ template_asked settings t
  unfolding template_asked
  asked_known h e q x r = r ∙ ap (λ (z : Edition). read_by z t) q ∙ sym (rw (h, template_asked))

  pub asked_unknown : is_known settings ≡ false → (cells : List Cell) → tell_parsed (Err Refusal.NotASheet) cells ≡ template_asked settings t
  unfolding template_asked
  asked_unknown h cells = sym (rw (h, template_asked))

  -- what comes with a refusal is small
  small : (b : Bool) → is_known settings ≡ b → (r : Refusal)
      → ◌≡◌ {A = Template} (elim b [ true ↦ read_by (edition_of settings) t | false ↦ refusal Refusal.NotASheet ]) (refusal r) → value_with r ≤ 1024
  small true h r q = small_value _ r (refused_by (edition_of settings) t r q)
  small false h r q = let e : value_with r ≡ 0 = ap value_with (let z : r ≡ Refusal.NotASheet = cc in z) in omega arith

  pub asked_small : (r : Refusal) → template_asked settings t ≡ refusal r → value_with r < 2 ^ 56
  unfolding template_asked
  asked_small r q = let h = small (is_known settings) refl r q in omega arith

-- ---- by what was read: a answers a length where it was, and the refusal where it was not

module _ (settings : ℕ) (t : List ℕ) (cells : List Cell) where
  asked_refused : (r : Refusal) → tell_parsed (Err r) cells ≡ template_asked settings t → Packable (Err r)
  unfolding Packable
  asked_refused r w = asked_small settings t r (sym w)

  module _ (Gives : ℕ → ℕ → Type 0) where
    pub packs : (o a : Parsed) → tell_parsed o cells ≡ template_asked settings t → ((n k : ℕ) → Gives n k → k ≤ 1)
        → MatchResult o (λ n. IsOkAnd a (Gives n)) (λ r. a ≡ Err r) → Packable a
    unfolding Packable
    packs (Ok n) (Ok k) w few h = let g = few n k h in omega (arith, g)
    packs (Ok n) (Err q) w few h = absurd h
    packs (Err r) a w few h = subst Packable (sym h) (asked_refused r w)

    pub checked : (o a : Parsed) → tell_parsed o cells ≡ template_asked settings t → ((n k : ℕ) → Gives n k → k ≡ 0)
        → MatchResult o (λ n. IsOkAnd a (Gives n)) (λ r. a ≡ Err r) → packed_answer a ≡ check_of (template_asked settings t)
    unfolding packed_answer check_of refusal_told
    checked (Ok n) (Ok k) w is h = ap (λ x. 256 * x) (is n k h) ∙ ap check_of w
    checked (Ok n) (Err q) w is h = absurd h
    checked (Err r) a w is h = ap packed_answer h ∙ ap check_of w

    pub timed : (o a : Parsed) → tell_parsed o cells ≡ template_asked settings t → ((n k : ℕ) → Gives n k → k ≡ from_bool (names_timestamp (chain_at cells n)))
        → MatchResult o (λ n. IsOkAnd a (Gives n)) (λ r. a ≡ Err r) → packed_answer a ≡ timestamp_of (template_asked settings t)
    unfolding packed_answer timestamp_of refusal_told
    timed (Ok n) (Ok k) w is h = ap (λ x. 256 * x) (is n k h) ∙ by (names_timestamp (chain_at cells n)) ∙ ap timestamp_of w
      where
        by : (b : Bool) → 256 * from_bool b ≡ elim b [ true ↦ 256 | false ↦ 0 ]
        by true = refl
        by false = refl
    timed (Ok n) (Err q) w is h = absurd h
    timed (Err r) a w is h = ap packed_answer h ∙ ap timestamp_of w

pub one_or_none : (b : Bool) → from_bool b ≤ 1
one_or_none true = omega arith
one_or_none false = omega arith
