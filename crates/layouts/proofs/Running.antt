-- A run is a text in a frame without padding. Assumes nothing.
use Prim.Native.Nat.{ℕ, ◌+◌, ◌-◌, ◌≤◌}
use mathlib.Core.Path.{◌≡◌, refl, sym, ap, ◌∙◌}
use mathlib.Core.Bool.{Bool, true, false}
use mathlib.Core.List.{List, [], ◌++◌, append-nil}
use native.Mathlib.Omega.{arith}
use lib.ListN.{length, replicate}
use Rattle.colour.specs.declared.Settings.{Settings}
use Rattle.colour.specs.declared.Format.{Format}
use Rattle.colour.specs.Looks.{ink_codes, where_it_applies, codes, sequence, prefix}
use Rattle.colour.specs.Formatting.{prefix_in, padded, before, pad_byte, framed, formatted}
use Rattle.colour.specs.Shown.{group, Members, text_of, joined}
use Rattle.colour.proofs.Formatted.{before_small, padded_small, laid_plain}
use Rattle.measure.specs.declared.Measure.{Measure}
use Rattle.measure.specs.Measures.{nothing, grown, inserted_in}
use Rattle.measure.proofs.Walked.{inserted_measured}
use Rattle.comparisons.specs.Comparisons.{bare_format}
use Rattle.dress.specs.declared.Frame.{Frame}
use Rattle.dress.proofs.Framing.{empty, opening, Framed, framed_length}

-- its frame, with n bytes inserted
abbrev pub frame_of : Format → ℕ → Frame
frame_of f n = record { format = f; left = 0; right = 0; inserted = n }

pub run_framed : (s : Settings) (f : Format) (t : List ℕ) (x : Measure) (n : ℕ) → f.width ≡ 0 → x ≡ grown (nothing s.rule) t → n ≡ inserted_in s f x
    → Framed s (frame_of f n) t (formatted s f t)
unfolding formatted
run_framed s f t x n z xe ne =
    let q : padded s f t ≡ 0 = omega (arith, padded_small s f t) in
    let b : before f.alignment (padded s f t) ≡ 0 = omega (arith, before_small f.alignment (padded s f t)) in
    record {
      left = sym b;
      right = omega arith;
      between = ne ∙ ap (inserted_in s f) xe ∙ inserted_measured s f t;
      text = refl;
    }

-- a run is no shorter than its text
pub run_longer : (s : Settings) (f : Format) (t : List ℕ) → f.width ≡ 0 → length t ≤ length (formatted s f t)
run_longer s f t z =
    let x = grown (nothing s.rule) t in
    let h = run_framed s f t x (inserted_in s f x) z refl refl in
    omega (arith, framed_length s (frame_of f (inserted_in s f x)) t (formatted s f t) h)

-- without a prefix it is its text
pub run_bare : (s : Settings) (f : Format) (t : List ℕ) → f.width ≡ 0 → length (opening s f) ≡ 0 → formatted s f t ≡ t
unfolding formatted
run_bare s f t z p =
    let q : padded s f t ≡ 0 = omega (arith, padded_small s f t) in
    let b : before f.alignment 0 ≡ 0 = omega (arith, before_small f.alignment 0) in
    ap (λ (k : List ℕ). framed k f (padded s f t) t) (empty (opening s f) p)
    ∙ ap (λ (k : ℕ). framed [] f k t) q
    ∙ laid_plain f 0 t
    ∙ ap (λ (k : ℕ). replicate k (pad_byte f.padding) ++ (t ++ replicate (0 - k) (pad_byte f.padding))) b
    ∙ append-nil t

-- no look, no prefix
no_prefix : (on : Bool) → length (prefix_in on bare_format.look) ≡ 0
unfolding prefix_in prefix sequence codes where_it_applies ink_codes
no_prefix true = refl
no_prefix false = refl

pub bare_opening : (s : Settings) → length (opening s bare_format) ≡ 0
bare_opening s = no_prefix s.colour

-- so a group without width or look adds nothing to its members
pub bare_group : (s : Settings) (m : Members) → text_of s (group bare_format m) ≡ joined s m
unfolding text_of
bare_group s m = run_bare s bare_format (joined s m) refl (bare_opening s)
