-- The runs of a layout are what is laid out, and each stands within the record's bytes. Assumes nothing.
use Prim.Native.Nat.{ℕ, zero, suc, ◌+◌, ◌≤◌, ◌<◌, ◌^◌}
use mathlib.Core.Path.{◌≡◌, refl, sym, ap, ◌∙◌, subst}
use mathlib.Core.Bool.{Bool, true, false}
use mathlib.Core.List.{List, [], ◌∷◌, ◌++◌}
use native.Mathlib.Numerals.{add-one}
use native.Mathlib.Omega.{arith}
use native.Mathlib.Decide.{dec_lt}
use borrow.Author.Tests.{eq-eqb, ne_eqb}
use lib.ListN.{length, get_or, drop}
use Rattle.buffer.specs.Bytes.{part}
use Rattle.buffer.proofs.Parts.{part_step, part_end}
use Rattle.words.specs.declared.Styles.{Styles}
use Rattle.words.specs.declared.Color.TheVariants.{Red, Green}
use Rattle.words.specs.declared.Color.{Color}
use Rattle.std.specs.Prelude.{Option, Some, None}
use Rattle.colour.specs.declared.Settings.{Settings}
use Rattle.colour.specs.declared.Format.{Format}
use Rattle.colour.specs.Looks.{foreground, ink_codes, where_it_applies, codes, following, sequence, prefix}
use Rattle.colour.specs.Formatting.{formatted}
use Rattle.colour.specs.Shown.{text, specifier, Members, more, text_of, joined}
use Rattle.colour.specs.Shown as shown
use Rattle.measure.specs.declared.Measure.{Measure}
use Rattle.measure.specs.Measures.{nothing, grown, inserted_in, Small}
use Rattle.measure.specs.Measured.{small_nothing, small_grown}
use Rattle.dress.proofs.Framing.{opening, Framed}
use Rattle.comparisons.specs.declared.Spans.{Spans}
use Rattle.comparisons.specs.Comparisons.{bare_format, run_format, one_run}
use Rattle.comparisons.specs.Places.{three_runs, placed, SpansWithin}
use Rattle.layouts.specs.declared.text.Text.{Text}
use Rattle.layouts.specs.declared.text.Text.TheVariants.{Head, Part, Fixed}
use Rattle.layouts.specs.Texts.{fixed, text_bytes, TextWithin}
use Rattle.layouts.specs.declared.Run.{Run}
use Rattle.layouts.specs.Runs.{run_of, bare_run, bold_run, red_run, green_run, bold_red_run, bold_green_run, no_run, runs_of, RunFits, is_left_out, run_text, runs_text, laid_text}
use Rattle.layouts.proofs.Running.{frame_of, run_framed, run_longer, run_bare, bare_opening}

-- ---- one run

pub left_out : (s : Settings) (d : List ℕ) (r : Run) → is_left_out r.text ≡ true → run_text s d r ≡ []
unfolding run_text
left_out s d r e = rw (e, run_text)

pub shown_run : (s : Settings) (d : List ℕ) (r : Run) → is_left_out r.text ≡ false → run_text s d r ≡ formatted s r.format (text_bytes r.text d)
unfolding run_text
shown_run s d r e = rw (e, run_text)

-- one that isn't left out
module _ (s : Settings) (d : List ℕ) (r : Run) (z : r.format.width ≡ 0) (q : is_left_out r.text ≡ false) where
  -- is no shorter than its text
  pub shown_longer : length (text_bytes r.text d) ≤ length (run_text s d r)
  shown_longer = omega (arith, run_longer s r.format (text_bytes r.text d) z, ap length (shown_run s d r q))

  -- is its text where it has no prefix
  pub shown_bare : length (opening s r.format) ≡ 0 → run_text s d r ≡ text_bytes r.text d
  shown_bare p = shown_run s d r q ∙ run_bare s r.format (text_bytes r.text d) z p

  -- its text can be measured by itself
  pub shown_countable : (m : Measure) → m ≡ nothing s.rule → length (run_text s d r) < 2 ^ 57 → Small m × (m.len + length (text_bytes r.text d) < 2 ^ 58)
  shown_countable m me h = (subst Small (sym me) (small_nothing s.rule), omega (arith, ap (λ (k : Measure). k.len) me, shown_longer))

  -- and from that measure x it is framed
  module _ (m x : Measure) (me : m ≡ nothing s.rule) (xe : x ≡ grown m (text_bytes r.text d)) where
    measured : x ≡ grown (nothing s.rule) (text_bytes r.text d)
    measured = xe ∙ ap (λ (k : Measure). grown k (text_bytes r.text d)) me

    pub shown_len : x.len ≡ length (text_bytes r.text d)
    shown_len = omega (arith, ap (λ (k : Measure). k.len) measured)

    pub shown_resets : length (run_text s d r) < 2 ^ 57 → x.scan.resets < 2 ^ 58
    shown_resets h =
        let n = small_grown (nothing s.rule) (text_bytes r.text d) (small_nothing s.rule) in
        omega (arith, (subst Small (sym measured) n).resets, shown_len, shown_longer)

    pub shown_framed : (n : ℕ) → n ≡ inserted_in s r.format x → Framed s (frame_of r.format n) (text_bytes r.text d) (run_text s d r)
    shown_framed n e =
        subst (Framed s (frame_of r.format n) (text_bytes r.text d)) (sym (shown_run s d r q))
        (run_framed s r.format (text_bytes r.text d) x n z measured e)

-- ---- all of them

module _ (s : Settings) (d : List ℕ) where
  runs_step : (rs : List Run) (k : ℕ) → k < length rs → runs_text s d (drop k rs) ≡ run_text s d (get_or rs k no_run) ++ runs_text s d (drop (suc k) rs)
  unfolding runs_text
  runs_step [] k h = absurd (let z : ⊥ = omega arith in z)
  runs_step (r ∷ rs) zero h = refl
  runs_step (r ∷ rs) (suc k) h = runs_step rs k (omega arith)

  -- the next of the runs that are left
  pub runs_next : (rs : List Run) (k : ℕ) → k < length rs → runs_text s d (drop k rs) ≡ run_text s d (get_or rs k no_run) ++ runs_text s d (drop (k + 1) rs)
  runs_next rs k h = runs_step rs k h ∙ ap (λ (n : ℕ). run_text s d (get_or rs k no_run) ++ runs_text s d (drop n rs)) (sym (add-one k))

  pub runs_none : runs_text s d [] ≡ []
  unfolding runs_text
  runs_none = refl

  -- a look and its text, a bare text, a run that may be left out
  in_look : (f : Format) (t : List ℕ) (r : Run) (rest : List Run) (m : Members) → run_text s d r ≡ formatted s f t → runs_text s d rest ≡ joined s m
      → runs_text s d (r ∷ rest) ≡ joined s (more (specifier f t) m)
  unfolding runs_text joined text_of
  in_look f t r rest m e g = ap (λ (x : List ℕ). x ++ runs_text s d rest) e ∙ ap (λ (x : List ℕ). formatted s f t ++ x) g

  fixed_shown : (b : Bool) (i : Option Color) (u v x y : ℕ) → run_text s d (run_of b i u v (Fixed x y)) ≡ formatted s (run_of b i u v (Fixed x y)).format (part x y fixed)
  unfolding run_text is_left_out text_bytes
  fixed_shown b i u v x y = refl

  fixed_look : (b : Bool) (i : Option Color) (u v x y : ℕ) (rest : List Run) (m : Members) → runs_text s d rest ≡ joined s m
      → runs_text s d (run_of b i u v (Fixed x y) ∷ rest) ≡ joined s (more (specifier (run_of b i u v (Fixed x y)).format (part x y fixed)) m)
  fixed_look b i u v x y rest m g = in_look (run_of b i u v (Fixed x y)).format (part x y fixed) (run_of b i u v (Fixed x y)) rest m (fixed_shown b i u v x y) g

  fixed_bare : (x y : ℕ) (rest : List Run) (m : Members) → runs_text s d rest ≡ joined s m
      → runs_text s d (run_of false None 0 0 (Fixed x y) ∷ rest) ≡ joined s (more (text (part x y fixed)) m)
  unfolding runs_text joined text_of
  fixed_bare x y rest m g =
      ap (λ (z : List ℕ). z ++ runs_text s d rest) (fixed_shown false None 0 0 x y ∙ run_bare s bare_format (part x y fixed) refl (bare_opening s))
      ∙ ap (λ (z : List ℕ). part x y fixed ++ z) g

  head_shown : (b : Bool) (i : Option Color) (u v from to : ℕ) → run_text s d (run_of b i u v (Head from to)) ≡ formatted s (run_of b i u v (Head from to)).format (text_bytes (Head from to) d)
  unfolding run_text is_left_out
  head_shown b i u v from to = refl

  head_look : (b : Bool) (i : Option Color) (u v from to : ℕ) (rest : List Run) (m : Members) → runs_text s d rest ≡ joined s m
      → runs_text s d (run_of b i u v (Head from to) ∷ rest) ≡ joined s (more (specifier (run_of b i u v (Head from to)).format (text_bytes (Head from to) d)) m)
  head_look b i u v from to rest m g =
      in_look (run_of b i u v (Head from to)).format (text_bytes (Head from to) d) (run_of b i u v (Head from to)) rest m (head_shown b i u v from to) g

  run_some : (y : Styles) (i : Option Color) (t : List ℕ) (b : ℕ) (u : List ℕ) (m : Members) → t ≡ b ∷ u → joined s (one_run y i t m) ≡ joined s (more (specifier (run_format y i) t) m)
  unfolding one_run
  run_some y i t b u m e = ap (λ (x : List ℕ). joined s (one_run y i x m)) e ∙ ap (λ (x : List ℕ). joined s (more (specifier (run_format y i) x) m)) (sym e)

  run_none : (y : Styles) (i : Option Color) (t : List ℕ) (m : Members) → t ≡ [] → joined s (one_run y i t m) ≡ joined s m
  unfolding one_run
  run_none y i t m e = ap (λ (x : List ℕ). joined s (one_run y i x m)) e

  module _ (b : Bool) (c : Option Color) (u v i j : ℕ) (rest : List Run) (m : Members) (h : i ≤ j) (g : j ≤ length d) (e : runs_text s d rest ≡ joined s m) where
    part_out : i ≡ j → is_left_out (Part i j) ≡ true
    unfolding is_left_out
    part_out q = eq-eqb i j q

    part_in : (i ≡ j → ⊥) → is_left_out (Part i j) ≡ false
    unfolding is_left_out
    part_in q = ne_eqb i j q

    part_shown : is_left_out (Part i j) ≡ false → run_text s d (run_of b c u v (Part i j)) ≡ formatted s (run_of b c u v (Part i j)).format (part i j d)
    unfolding text_bytes
    part_shown q = shown_run s d (run_of b c u v (Part i j)) q

    past : is_left_out (Part i j) ≡ true → runs_text s d (run_of b c u v (Part i j) ∷ rest) ≡ joined s m
    unfolding runs_text
    past q = ap (λ (x : List ℕ). x ++ runs_text s d rest) (left_out s d (run_of b c u v (Part i j)) q) ∙ e

    part_look : runs_text s d (run_of b c u v (Part i j) ∷ rest) ≡ joined s (one_run (run_of b c u v (Part i j)).format.look.styles c (part i j d) m)
    part_look = elim (dec_lt i j) [
      | yes l ↦
          in_look (run_of b c u v (Part i j)).format (part i j d) (run_of b c u v (Part i j)) rest m (part_shown (part_in (λ q. omega arith))) e
          ∙ sym (run_some _ c (part i j d) (get_or d i 0) (part (i + 1) j d) m (part_step d i j l g))
      | no l ↦
          let q : i ≡ j = omega arith in
          past (part_out q) ∙ sym (run_none _ c (part i j d) m (ap (λ (k : ℕ). part i k d) (sym q) ∙ part_end d i))
    ]

-- no runs are no members
nothing_joined : (s : Settings) (d : List ℕ) → runs_text s d [] ≡ joined s shown.none
unfolding runs_text joined
nothing_joined s d = refl

-- ---- where they stand

abbrev Alls : List ℕ → List Run → Type 0
Alls d [] = Unit {0}
Alls d (r ∷ rs) = RunFits d r × Alls d rs

all_at : (d : List ℕ) (rs : List Run) → Alls d rs → (k : ℕ) → k < length rs → RunFits d (get_or rs k no_run)
all_at d [] f k h = absurd (let z : ⊥ = omega arith in z)
all_at d (r ∷ rs) f zero h = f.0
all_at d (r ∷ rs) f (suc k) h = all_at d rs f.1 k (omega arith)

-- each look has its prefix
fits_bare : (d : List ℕ) (x : Text) → TextWithin (length d) x → RunFits d (bare_run x)
unfolding prefix sequence following codes where_it_applies ink_codes foreground
fits_bare d x h = record { width = refl; within = h; place = (omega arith, omega arith); prefix_is = refl }

fits_bold : (d : List ℕ) (x : Text) → TextWithin (length d) x → RunFits d (bold_run x)
unfolding prefix sequence following codes where_it_applies ink_codes foreground
fits_bold d x h = record { width = refl; within = h; place = (omega arith, omega arith); prefix_is = refl }

fits_red : (d : List ℕ) (x : Text) → TextWithin (length d) x → RunFits d (red_run x)
unfolding prefix sequence following codes where_it_applies ink_codes foreground
fits_red d x h = record { width = refl; within = h; place = (omega arith, omega arith); prefix_is = refl }

fits_green : (d : List ℕ) (x : Text) → TextWithin (length d) x → RunFits d (green_run x)
unfolding prefix sequence following codes where_it_applies ink_codes foreground
fits_green d x h = record { width = refl; within = h; place = (omega arith, omega arith); prefix_is = refl }

fits_bold_red : (d : List ℕ) (x : Text) → TextWithin (length d) x → RunFits d (bold_red_run x)
unfolding prefix sequence following codes where_it_applies ink_codes foreground
fits_bold_red d x h = record { width = refl; within = h; place = (omega arith, omega arith); prefix_is = refl }

fits_bold_green : (d : List ℕ) (x : Text) → TextWithin (length d) x → RunFits d (bold_green_run x)
unfolding prefix sequence following codes where_it_applies ink_codes foreground
fits_bold_green d x h = record { width = refl; within = h; place = (omega arith, omega arith); prefix_is = refl }

module _ (d : List ℕ) (from : ℕ) (c : Spans) (w : SpansWithin from (length d) (Some c)) where
  right_place : (k : ℕ) → k ≤ c.right.to → k ≤ length d
  right_place k h = omega (arith, w.1.0.1)

  left_place : (k : ℕ) → k ≤ c.left.to → k ≤ length d
  left_place k h = omega (arith, w.1.0.0, w.1.0.1, w.1.1.1.begins, w.1.1.1.goes_on, w.1.1.1.ends)

  left_begun : c.left.begun ≤ length d
  left_begun = left_place c.left.begun (omega (arith, w.1.1.0.goes_on, w.1.1.0.ends))

  left_rest : c.left.rest ≤ length d
  left_rest = left_place c.left.rest w.1.1.0.ends

  left_to : c.left.to ≤ length d
  left_to = left_place c.left.to (omega arith)

  right_begun : c.right.begun ≤ length d
  right_begun = right_place c.right.begun (omega (arith, w.1.1.1.goes_on, w.1.1.1.ends))

  right_rest : c.right.rest ≤ length d
  right_rest = right_place c.right.rest w.1.1.1.ends

  right_to : c.right.to ≤ length d
  right_to = right_place c.right.to (omega arith)

  head_to : c.head ≤ length d
  head_to = left_place c.head (omega (arith, w.0.1, w.1.1.0.begins, w.1.1.0.goes_on, w.1.1.0.ends))

  right_fit : Alls d (drop 12 (runs_of from c))
  right_fit = (
    fits_bare d (Fixed 24 25) (omega arith, omega arith),
    (
      fits_green d (Fixed 25 26) (omega arith, omega arith),
      (
        fits_green d (Part c.right.from c.right.begun) (w.1.1.1.begins, right_begun),
        (
          fits_bold_green d (Part c.right.begun c.right.rest) (w.1.1.1.goes_on, right_rest),
          (fits_green d (Part c.right.rest c.right.to) (w.1.1.1.ends, right_to), tt),
        ),
      ),
    ),
  )

  left_fit : Alls d (drop 8 (runs_of from c))
  left_fit = (
    fits_red d (Fixed 23 24) (omega arith, omega arith),
    (
      fits_red d (Part c.left.from c.left.begun) (w.1.1.0.begins, left_begun),
      (
        fits_bold_red d (Part c.left.begun c.left.rest) (w.1.1.0.goes_on, left_rest),
        (fits_red d (Part c.left.rest c.left.to) (w.1.1.0.ends, left_to), right_fit),
      ),
    ),
  )

  all_fit : Alls d (runs_of from c)
  all_fit = (
    fits_bold d (Head from c.head) (w.0.0, head_to),
    (
      fits_bare d (Fixed 0 1) (omega arith, omega arith),
      (
        fits_bold d (Fixed 1 5) (omega arith, omega arith),
        (
          fits_bare d (Fixed 5 6) (omega arith, omega arith),
          (
            fits_red d (Fixed 6 12) (omega arith, omega arith),
            (
              fits_bare d (Fixed 12 15) (omega arith, omega arith),
              (fits_green d (Fixed 15 22) (omega arith, omega arith), (fits_bare d (Fixed 22 23) (omega arith, omega arith), left_fit)),
            ),
          ),
        ),
      ),
    ),
  )

  -- each run stands within the record's bytes
  pub run_fits : (k : ℕ) (r : Run) → k < 17 → r ≡ get_or (runs_of from c) k no_run → RunFits d r
  run_fits k r h e = subst (RunFits d) (sym e) (all_at d (runs_of from c) all_fit k h)

  -- and together they are the layout
  pub runs_laid : (s : Settings) → runs_text s d (runs_of from c) ≡ laid_text s d from c
  unfolding placed three_runs text_bytes
  runs_laid s =
      head_look s d true None 0 4 from c.head _ _
      (fixed_bare s d 0 1 _ _
      (fixed_look s d true None 0 4 1 5 _ _
      (fixed_bare s d 5 6 _ _
      (fixed_look s d false (Some Red) 4 9 6 12 _ _
      (fixed_bare s d 12 15 _ _
      (fixed_look s d false (Some Green) 9 14 15 22 _ _
      (fixed_bare s d 22 23 _ _
      (fixed_look s d false (Some Red) 4 9 23 24 _ _
      (part_look s d false (Some Red) 4 9 c.left.from c.left.begun _ _ w.1.1.0.begins left_begun
      (part_look s d true (Some Red) 14 21 c.left.begun c.left.rest _ _ w.1.1.0.goes_on left_rest
      (part_look s d false (Some Red) 4 9 c.left.rest c.left.to _ _ w.1.1.0.ends left_to
      (fixed_bare s d 24 25 _ _
      (fixed_look s d false (Some Green) 9 14 25 26 _ _
      (part_look s d false (Some Green) 9 14 c.right.from c.right.begun _ _ w.1.1.1.begins right_begun
      (part_look s d true (Some Green) 21 28 c.right.begun c.right.rest _ _ w.1.1.1.goes_on right_rest
      (part_look s d false (Some Green) 9 14 c.right.rest c.right.to [] shown.none w.1.1.1.ends right_to
      (nothing_joined s d)))))))))))))))))
