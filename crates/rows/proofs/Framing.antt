-- A segment's text from its text before it is formatted and the frame around it, measured. Assumes nothing.
use Prim.Native.Nat.{ℕ, ◌+◌, ◌-◌, ◌≤◌}
use mathlib.Core.Path.{◌≡◌, refl, sym, ap, ◌∙◌, subst}
use mathlib.Core.Bool.{Bool, true, false, cond, ◌&&◌, ◌||◌}
use mathlib.Core.List.{List, [], ◌∷◌, ◌++◌, append-nil}
use native.Mathlib.Omega.{arith}
use borrow.Author.Tests.{ne_eqb, eqb-true}
use lib.Dec.{eqb}
use lib.ListN.{length, replicate}
use Rattle.colour.specs.declared.Settings.{Settings}
use Rattle.colour.specs.declared.Format.{Format}
use Rattle.colour.specs.Formatting.{inserted, padded, before, pad_byte, ending, framed, formatted}
use Rattle.colour.proofs.Formatted.{padded_small, inserted_nil, laid_plain}
use Rattle.colour.proofs.Measures.{length_laid, inserted_resets}
use Rattle.measure.specs.declared.Measure.{Measure}
use Rattle.measure.specs.Measures.{nothing, grown, inserted_in, padding_in}
use Rattle.measure.proofs.Walked.{inserted_measured, padding_measured}
use Rattle.segments.specs.Segments.{LogSegment}
use Rattle.record.specs.declared.Level.{Level}
use Rattle.record.specs.Records.{Record}
use Rattle.record.specs.Placed.{laid_by}
use Rattle.record.specs.Contents.{record_of}
use Rattle.rows.specs.declared.Row.{Row}
use Rattle.dress.specs.declared.Frame.{Frame}
use Rattle.dress.proofs.Framing.{empty, opening, Framed}
use Rattle.leaves.specs.declared.Shown.{Shown}
use Rattle.leaves.specs.Places.{has_comparison, record_by, source_by, level_by, Lent}
use Rattle.leaves.proofs.Fields.{there_told}
use Rattle.rows.specs.Texts.{segment_text, raw_text, is_host, bare_message, bare_by, is_bare, format_of}
use Rattle.rows.specs.Rows.{bare_row, row_in, row_of, frame_by, is_empty}
use Rattle.buffer.proofs.Sameness.{both_true}
use Rattle.rows.proofs.Segments.{segment_bare, segment_formatted}

pub frame_made : (f g : Format) (w v : Row) (l : ℕ) → g ≡ f → v ≡ w → l ≡ before g.alignment v.padding
    → ◌≡◌ {A = Frame} (record { format = g; left = l; right = v.padding - l; inserted = v.inserted }) (frame_by f w)
unfolding frame_by
frame_made f g w v l e o h =
    (λ j. record { format = g; left = h j; right = v.padding - h j; inserted = v.inserted }) ∙ (λ j. frame_by (e j) (o j))

-- the prefix and the reset at the end
ends_length : (p : List ℕ) → cond (eqb (length p) 0) 0 (length p + 4) ≡ length p + length (ending p)
unfolding ending
ends_length [] = refl
ends_length (b ∷ p) = rw (ne_eqb (length (b ∷ p)) 0 (λ e. omega arith))

module _ (s : Settings) (t : List ℕ) (r : Record) (x : LogSegment) where
  pub row_of_bare : is_bare (bare_message r) x ≡ true → row_of s t r x ≡ bare_row (length (segment_text s t r x))
  unfolding row_of
  row_of_bare e = rw (e, row_of)

  pub row_of_formatted : is_bare (bare_message r) x ≡ false → row_of s t r x ≡ row_in s (format_of r.level x) (raw_text s t r x) (length (segment_text s t r x))
  unfolding row_of
  row_of_formatted e = rw (e, row_of)

  pub row_length_lem : (row_of s t r x).len ≡ length (segment_text s t r x)
  unfolding bare_row row_in
  row_length_lem = by (is_bare (bare_message r) x) refl
    where
      by : (b : Bool) → is_bare (bare_message r) x ≡ b → (row_of s t r x).len ≡ length (segment_text s t r x)
      by true e = ap (λ (w : Row). w.len) (row_of_bare e)
      by false e = ap (λ (w : Row). w.len) (row_of_formatted e)

module _ (s : Settings) (t d : List ℕ) (shown : Shown) (lent : Lent d shown) where
  -- what is lent tells of the record
  same_source : is_host (source_by shown) ≡ is_host (record_by shown d).source
  unfolding record_by record_of laid_by source_by
  same_source = refl

  told : bare_by shown ≡ bare_message (record_by shown d)
  unfolding bare_by bare_message
  told = ap (λ (b : Bool). b || has_comparison shown) same_source ∙ ap (λ (b : Bool). is_host (record_by shown d).source || b) (sym (there_told d shown lent))

  same_level : level_by shown ≡ (record_by shown d).level
  unfolding record_by record_of laid_by level_by
  same_level = refl

  known : (x : LogSegment) (b : Bool) → is_bare (bare_by shown) x ≡ b → is_bare (bare_message (record_by shown d)) x ≡ b
  known x b e = ap (λ (q : Bool). is_bare q x) (sym told) ∙ e

  pub bare_text : (x : LogSegment) → is_bare (bare_by shown) x ≡ true → segment_text s t (record_by shown d) x ≡ raw_text s t (record_by shown d) x
  bare_text x e = segment_bare s t (record_by shown d) x (known x true e)

  pub formatted_text : (x : LogSegment) → is_bare (bare_by shown) x ≡ false
      → segment_text s t (record_by shown d) x ≡ formatted s (format_of (level_by shown) x) (raw_text s t (record_by shown d) x)
  formatted_text x e =
      segment_formatted s t (record_by shown d) x (known x false e)
      ∙ ap (λ (l : Level). formatted s (format_of l x) (raw_text s t (record_by shown d) x)) (sym same_level)

  -- ---- rows

  row_is_bare : (x : LogSegment) → is_bare (bare_by shown) x ≡ true → row_of s t (record_by shown d) x ≡ bare_row (length (segment_text s t (record_by shown d) x))
  row_is_bare x e = row_of_bare s t (record_by shown d) x (known x true e)

  row_formatted : (x : LogSegment) → is_bare (bare_by shown) x ≡ false
      → row_of s t (record_by shown d) x ≡ row_in s (format_of (level_by shown) x) (raw_text s t (record_by shown d) x) (length (segment_text s t (record_by shown d) x))
  row_formatted x e =
      row_of_formatted s t (record_by shown d) x (known x false e)
      ∙ ap (λ (l : Level). row_in s (format_of l x) (raw_text s t (record_by shown d) x) (length (segment_text s t (record_by shown d) x))) (sym same_level)

  -- what a format adds to the bytes of a text
  formatted_length : (x : LogSegment) (f : Format) → is_bare (bare_by shown) x ≡ false → f ≡ format_of (level_by shown) x
      → length (segment_text s t (record_by shown d) x)
      ≡ length (raw_text s t (record_by shown d) x) + (inserted (opening s f) (raw_text s t (record_by shown d) x) + (padded s f (raw_text s t (record_by shown d) x) + (length (opening s f) + length (ending (opening s f)))))
  unfolding formatted
  formatted_length x f b e =
      let y = raw_text s t (record_by shown d) x in
      omega (
        arith,
        ap length (formatted_text x b ∙ ap (λ (g : Format). formatted s g y) (sym e)),
        length_laid (opening s f) f (padded s f y) y,
        inserted_resets (opening s f) y,
      )

  pub row_bare : (x : LogSegment) (w : Row) (n : ℕ) → is_bare (bare_by shown) x ≡ true → n ≡ length (raw_text s t (record_by shown d) x) → w ≡ bare_row n
      → w ≡ row_of s t (record_by shown d) x
  row_bare x w n e ne we = we ∙ ap bare_row (ne ∙ ap length (sym (bare_text x e))) ∙ sym (row_is_bare x e)

  -- no width and no prefix: nothing to pad, nothing to insert
  pub row_none : (x : LogSegment) (f : Format) (w : Row) (n : ℕ) → is_bare (bare_by shown) x ≡ false → f ≡ format_of (level_by shown) x → f.width ≡ 0
      → length (opening s f) ≡ 0 → n ≡ length (raw_text s t (record_by shown d) x) → w ≡ bare_row n → w ≡ row_of s t (record_by shown d) x
  unfolding bare_row row_in ending
  row_none x f w n b e z p ne we =
      let y = raw_text s t (record_by shown d) x in
      let q = empty (opening s f) p in
      let u : 0 ≡ padded s f y = omega (arith, padded_small s f y) in
      let v : 0 ≡ inserted (opening s f) y = sym (ap (λ (k : List ℕ). inserted k y) q ∙ inserted_nil y) in
      let l : n ≡ length (segment_text s t (record_by shown d) x) = omega (arith, formatted_length x f b e, ap (λ (k : List ℕ). length (ending k)) q) in
      we ∙ (λ j. record { padding = u j; inserted = v j; len = l j })
      ∙ ap (λ (g : Format). row_in s g y (length (segment_text s t (record_by shown d) x))) e ∙ sym (row_formatted x b)

  -- else all come from the measure of the text and the length of the prefix
  module _ (x : LogSegment) (f : Format) (m : Measure) (n p q e : ℕ) (b : is_bare (bare_by shown) x ≡ false) (fe : f ≡ format_of (level_by shown) x)
      (me : m ≡ grown (nothing s.rule) (raw_text s t (record_by shown d) x)) (ne : n ≡ inserted_in s f m) (pe : p ≡ padding_in s f m n) (qe : q ≡ length (opening s f))
      (ee : e ≡ cond (eqb q 0) 0 (q + 4)) where
    inserted_is : n ≡ inserted (opening s f) (raw_text s t (record_by shown d) x)
    inserted_is = ne ∙ ap (inserted_in s f) me ∙ inserted_measured s f (raw_text s t (record_by shown d) x)

    padded_is : p ≡ padded s f (raw_text s t (record_by shown d) x)
    padded_is =
        let y = raw_text s t (record_by shown d) x in
        pe ∙ ap (λ (k : Measure). padding_in s f k n) me ∙ ap (padding_in s f (grown (nothing s.rule) y)) inserted_is ∙ padding_measured s f y

    pub row_counted : m.len + (n + (p + e)) ≡ length (segment_text s t (record_by shown d) x)
    row_counted =
        omega (
          arith,
          ap (λ (k : Measure). k.len) me,
          inserted_is,
          padded_is,
          ee ∙ ap (λ (k : ℕ). cond (eqb k 0) 0 (k + 4)) qe ∙ ends_length (opening s f),
          formatted_length x f b fe,
        )

    pub row_made : ◌≡◌ {A = Row} (record { padding = p; inserted = n; len = m.len + (n + (p + e)) }) (row_of s t (record_by shown d) x)
    unfolding row_in
    row_made =
        let y = raw_text s t (record_by shown d) x in
        (λ j. record { padding = padded_is j; inserted = inserted_is j; len = row_counted j })
        ∙ ap (λ (g : Format). row_in s g y (length (segment_text s t (record_by shown d) x))) fe ∙ sym (row_formatted x b)

  -- ---- frames

  framed_plain : (f : Format) (y z : List ℕ) (n : ℕ) → z ≡ formatted s f y → Framed s (frame_by f (row_in s f y n)) y z
  unfolding frame_by row_in formatted
  framed_plain f y z n e = record { left = refl; right = refl; between = refl; text = e }

  pub framed_by : (x : LogSegment) (w : Frame) (row : Row) → is_bare (bare_by shown) x ≡ false → row ≡ row_of s t (record_by shown d) x
      → w ≡ frame_by (format_of (level_by shown) x) row → Framed s w (raw_text s t (record_by shown d) x) (segment_text s t (record_by shown d) x)
  framed_by x w row b re we =
      subst (λ (k : Frame). Framed s k (raw_text s t (record_by shown d) x) (segment_text s t (record_by shown d) x))
      (sym (we ∙ ap (frame_by (format_of (level_by shown) x)) (re ∙ row_formatted x b)))
      (framed_plain (format_of (level_by shown) x) (raw_text s t (record_by shown d) x) (segment_text s t (record_by shown d) x) (length (segment_text s t (record_by shown d) x)) (formatted_text x b))

  -- a text is no longer before it is formatted
  pub raw_shorter : (x : LogSegment) (b : Bool) → is_bare (bare_by shown) x ≡ b
      → length (raw_text s t (record_by shown d) x) ≤ length (segment_text s t (record_by shown d) x)
  unfolding formatted
  raw_shorter x true e = omega (arith, ap length (bare_text x e))
  raw_shorter x false e =
      let f = format_of (level_by shown) x in
      let y = raw_text s t (record_by shown d) x in
      omega (arith, ap length (formatted_text x e), length_laid (opening s f) f (padded s f y) y)

module _ (s : Settings) (w : Frame) (x y : List ℕ) (h : Framed s w x y) where
  -- an empty frame leaves the text as it is
  pub framed_none : is_empty s w ≡ true → y ≡ x
  unfolding is_empty
  framed_none e =
      let f = w.format in
      let p = opening s f in
      let z = pad_byte f.padding in
      let n = padded s f x in
      let b = both_true (eqb w.left 0) (eqb w.right 0 && eqb (length p) 0) e in
      let g = both_true (eqb w.right 0) (eqb (length p) 0) b.1 in
      h.text
      ∙ ap (λ (q : List ℕ). framed q f n x) (empty p (eqb-true (length p) 0 g.1))
      ∙ laid_plain f n x
      ∙ ap (λ (k : ℕ). replicate k z ++ (x ++ replicate (n - before f.alignment n) z)) (sym h.left ∙ eqb-true w.left 0 b.0)
      ∙ ap (λ (k : ℕ). x ++ replicate k z) (sym h.right ∙ eqb-true w.right 0 g.0)
      ∙ append-nil x
