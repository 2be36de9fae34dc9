-- The records of a sheet, one after the other, and a session as their lines. Assumes nothing.
use mathlib.Core.Path.{◌≡◌, refl, ap, sym, subst, ◌∙◌}
use mathlib.Core.Bool.{Bool, true, false}
use mathlib.Core.List.{List, [], ◌∷◌, ◌++◌}
use Prim.Native.Nat.{ℕ, zero, suc, ◌+◌, ◌-◌, ◌≤◌, ◌<◌}
use native.Mathlib.Omega.{arith}
use lib.ListN.{length, length-append}
use Rattle.buffer.specs.Buffer.{put_at}
use Rattle.buffer.proofs.Writing.{put_put}
use Rattle.buffer.specs.Bytes.{part}
use Rattle.buffer.specs.Table.{some}
use Rattle.refusals.specs.declared.Refusal.{Refusal}
use Rattle.refusals.specs.Numbers.{value_with}
use Rattle.segments.specs.declared.Cell.{Cell}
use Rattle.segments.specs.Segments.{LogSegments}
use Rattle.template.specs.declared.Edition.{Edition}
use Rattle.template.specs.Template.{Template, read, refusal, read_by}
use Rattle.record.specs.declared.Form.{Form}
use Rattle.record.specs.Layout.{u32, right_size, laid_out}
use Rattle.sheet.specs.Sheets.{Sheet, body_count, contents_end, bodies_from, are_records, is_sheet, sheet_of, all_laid_out}
use Rattle.sheet.proofs.Standing.{both_true, stands, sheet_some, sheet_none}
use Rattle.sheet.proofs.Walk.{Left, next_fits, next_left, bodies_next, bodies_end}
use Rattle.sheet.proofs.Heads.{head_of, sheet_held}
use Rattle.std.specs.Prelude.{Result, Ok, Err}
use Rattle.template.specs.Parsing.{tell_parsed, ParsedKeeps}
use Rattle.segments.specs.Pool.{chain_at}
use Rattle.answer.specs.Maker.{Maker}
use Rattle.answer.specs.Rooms.{segments_of, outcome_by}
use Rattle.answer.proofs.Answering.{sized}
use Rattle.answer.specs.Answers.{line, refused, in_room, record_outcome}
use Rattle.settings.specs.Bits.{is_known, settings_of, edition_of}
use Rattle.template.proofs.Refusing.{read_short, refused_by, small_value}
use Rattle.outcomes.specs.Program.{line_room, outcome_line, record_lines, sheet_text, maybe_sheet_text, session_text, fitting, session_outcome, refusal_line, as_output, output}
use Rattle.session.specs.Walking.{sheet_or, opened_by, opening, tell_opened, OpenedKeeps, settings_in, form_by, template_in, records_from, maker_in, records_of, Ready, Standing, lines_from, lines_by, all_lines}

-- ---- what `sheet_in` answers

pub no_sheet : (d : List ℕ) (r : Refusal) (b : Bool) → sheet_or b d ≡ Err r → (b ≡ false) × (Refusal.NotASheet ≡ r)
unfolding sheet_or
no_sheet d r true e = let z : ◌≡◌ {A = ℕ} 0 1 = cc in absurd (omega (arith, z))
no_sheet d r false e = (refl, cc)

pub its_sheet : (d s : List ℕ) (b : Bool) → sheet_or b d ≡ Ok s → d ≡ s
unfolding sheet_or
its_sheet d s true e = cc
its_sheet d s false e = let z : ◌≡◌ {A = ℕ} 0 1 = cc in absurd (omega (arith, z))

-- ---- a sheet that is one

one_more : (d : List ℕ) → is_sheet d ≡ true → body_count d ≡ suc (body_count d - 1)
one_more d e = let s = stands d e in omega (arith, s.some_body)

pub some_body : (d : List ℕ) → is_sheet d ≡ true → 1 ≤ body_count d
some_body d e = (stands d e).some_body

pub record Headed (d : List ℕ) : Type 0 where
  pub long : 6 ≤ length d
  pub end : records_from d ≤ length d
  pub byte : contents_end d + 1 ≤ records_from d
  pub settings : is_known (settings_in d) ≡ true
  pub short : length d ≤ 65536

pub headed_at : (d : List ℕ) → is_sheet d ≡ true → Headed d
unfolding records_from
headed_at d e =
    let h = head_of d (body_count d - 1) (one_more d e) e in
    let s = stands d e in
    record {
      long = h.room.0;
      end = h.room.1;
      byte = omega (arith, h.byte);
      settings = h.settings;
      short = s.short;
    }

-- ---- its records, one after the other

at_first : (d : List ℕ) → is_sheet d ≡ true → Standing (body_count d - 1) d 6 (records_from d)
unfolding records_from
at_first d e =
    let h = head_of d (body_count d - 1) (one_more d e) e in
    record { lengths = omega (arith, h.left.lengths); whole = h.left.whole }

-- in the numbers that the code has
module _ (d : List ℕ) (count from : ℕ) (p : count ≡ body_count d) (q : from ≡ records_from d) where
  pub begins : is_sheet d ≡ true → Standing (count - 1) d 6 from
  begins e = subst (λ (m : ℕ). Standing (m - 1) d 6 from) (sym p) (subst (λ (j : ℕ). Standing (body_count d - 1) d 6 j) (sym q) (at_first d e))

  pub begins_all : bodies_from (count - 1) d 6 from ≡ records_of d
  unfolding records_of
  begins_all = λ k. bodies_from (p k - 1) d 6 (q k)

module _ (left : ℕ) (d : List ℕ) (i j : ℕ) where
  pub stands_at_end : left < 1 → bodies_from left d i j ≡ []
  stands_at_end h = bodies_end left d i j (omega (arith, h))

  module _ (more : 1 ≤ left) (at : Standing left d i j) where
    one_less : left ≡ suc (left - 1)
    one_less = omega (arith, more)

    its_left : Left left d i j
    its_left = record { lengths = at.lengths; whole = at.whole }

    pub record_fits : (i + 4 ≤ length d) × (j + u32 d i ≤ length d)
    record_fits = next_fits left (left - 1) d i j one_less its_left

    module _ (size : ℕ) (e : size ≡ u32 d i) where
      pub next_stands : Standing (left - 1) d (i + 4) (j + size)
      next_stands =
          let n = next_left left (left - 1) d i j one_less its_left in
          subst (λ (k : ℕ). Standing (left - 1) d (i + 4) (j + k)) (sym e) (record { lengths = n.lengths; whole = n.whole })

      pub next_is : bodies_from left d i j ≡ part j (j + size) d ∷ bodies_from (left - 1) d (i + 4) (j + size)
      next_is =
          bodies_next left (left - 1) d i j one_less
          ∙ ap (λ (k : ℕ). part j (j + k) d ∷ bodies_from (left - 1) d (i + 4) (j + k)) (sym e)

count_of : (m : ℕ) (d : List ℕ) (i j : ℕ) → length (bodies_from m d i j) ≡ m
unfolding bodies_from
count_of zero d i j = refl
count_of (suc m) d i j = ap suc (count_of m d (i + 4) (j + u32 d i))

pub few : (d : List ℕ) → is_sheet d ≡ true → length (records_of d) ≤ 65535
unfolding records_of
few d e =
    let h = at_first d e in
    let s = stands d e in
    omega (arith, count_of (body_count d - 1) d 6 (records_from d), h.lengths, s.short)

-- ---- one record and the others

module _ (r : Maker) (records : List (List ℕ)) where
  module _ (x : List ℕ) (rest : List (List ℕ)) (e : records ≡ x ∷ rest) where
    pub lines_more : lines_by r records ≡ outcome_line (outcome_by r x line_room) ++ lines_by r rest
    unfolding lines_by
    lines_more = ap (lines_by r) e

    pub lines_count : length (lines_by r records) ≡ length (outcome_line (outcome_by r x line_room)) + length (lines_by r rest)
    lines_count = ap length lines_more ∙ length-append (outcome_line (outcome_by r x line_room)) (lines_by r rest)

  pub lines_end : records ≡ [] → lines_by r records ≡ []
  unfolding lines_by
  lines_end e = ap (lines_by r) e

-- records of the right size have the lines that they have by their form
lines_sized : (r : Maker) (records : List (List ℕ)) → are_records r.form records ≡ true → lines_by r records ≡ lines_from r.form r.settings r.template (segments_of r) records
unfolding lines_by lines_from are_records
lines_sized r [] e = refl
lines_sized r (x ∷ rest) e =
    let b = both_true (right_size r.form x) (are_records r.form rest) e in
    λ k. outcome_line (sym (sized r x line_room b.0) k) ++ lines_sized r rest b.1 k

-- ---- the text of a session

-- what the sheet holds
abbrev sheet_in : List ℕ → Sheet
sheet_in d = record {
  settings = settings_in d;
  template = template_in d;
  records = all_laid_out (form_by d) (records_of d);
}

sheet_in_lem : (d : List ℕ) → is_sheet d ≡ true → sheet_of d ≡ some (sheet_in d)
unfolding template_in records_of records_from
sheet_in_lem d e = sheet_some d e ∙ ap some (sheet_held d (body_count d - 1) (one_more d e) e)

pub opening_none : (d : List ℕ) → is_sheet d ≡ false → opening d ≡ refusal Refusal.NotASheet
unfolding opening opened_by
opening_none d e = ap opened_by (sheet_none d e)

-- its template in the edition that its settings byte asks for
abbrev pub read_in : List ℕ → Template
read_in d = read_by (edition_of (settings_in d)) (template_in d)

pub opening_some : (d : List ℕ) → is_sheet d ≡ true → opening d ≡ read_in d
unfolding opening opened_by
opening_some d e = ap opened_by (sheet_in_lem d e)

lines_are : (d : List ℕ) (s : LogSegments) (records : List (List ℕ))
    → record_lines (sheet_in d) s (all_laid_out (form_by d) records) ≡ lines_from (form_by d) (settings_of (settings_in d)) (template_in d) s records
unfolding record_lines all_laid_out lines_from
lines_are d s [] = refl
lines_are d s (x ∷ rest) =
    ap (λ (l : List ℕ). outcome_line (record_outcome (form_by d) (settings_of (settings_in d)) (template_in d) s (laid_out (form_by d) x) line_room) ++ l) (lines_are d s rest)

pub text_lines : (d : List ℕ) (s : LogSegments) → is_sheet d ≡ true → opening d ≡ read s → session_text d ≡ line (all_lines d s)
unfolding session_text maybe_sheet_text sheet_text
text_lines d s e r =
    ap maybe_sheet_text (sheet_in_lem d e)
    ∙ ap (sheet_text (sheet_in d)) (sym (opening_some d e) ∙ r)
    ∙ ap line (lines_are d s (records_of d))

-- what comes with a refusal of the whole sheet is small
text_refused : (d : List ℕ) (r : Refusal) (b : Bool) → is_sheet d ≡ b → opening d ≡ refusal r → (session_text d ≡ refused r) × (value_with r ≤ 1024)
unfolding session_text maybe_sheet_text sheet_text
text_refused d r true e o =
    let t = sym (opening_some d e) ∙ o in
    (ap maybe_sheet_text (sheet_in_lem d e) ∙ ap (sheet_text (sheet_in d)) t, small_value _ r (refused_by (edition_of (settings_in d)) (template_in d) r t))
text_refused d r false e o =
    let f : Refusal.NotASheet ≡ r = cc (opening_none d e) in
    let v : value_with r ≡ 0 = ap value_with (sym f) in
    (ap maybe_sheet_text (sheet_none d e) ∙ ap refused f, omega (arith, v))

-- ---- the bodies, as the code has them

module _ (d : List ℕ) (cells : List Cell) (t : List ℕ) (x : Edition) (sheet : is_sheet d ≡ true) (is-template : t ≡ template_in d) (is-edition : x ≡ edition_of (settings_in d)) where
  reads_in : read_by x t ≡ read_in d
  reads_in = λ k. read_by (is-edition k) (is-template k)

  pub opens : (r : Result ℕ Refusal) → tell_parsed r cells ≡ read_by x t → 64 ≤ length cells → ParsedKeeps cells r → (tell_opened r cells ≡ opening d) × OpenedKeeps d cells r
  unfolding tell_opened
  opens (Ok n) told pool keeps =
      let p : read (chain_at cells n) ≡ read_in d = told ∙ reads_in in
      (p ∙ sym (opening_some d sheet), record { sheet = sheet; read = record { pool = pool; read = keeps; template = read_short (edition_of (settings_in d)) (template_in d) (chain_at cells n) (sym p) } })
  opens (Err q) told pool keeps = (told ∙ reads_in ∙ sym (opening_some d sheet), tt)

pub lines_read : (d : List ℕ) (cells : List Cell) (n : ℕ) → is_sheet d ≡ true → lines_by (maker_in d cells n) (records_of d) ≡ all_lines d (chain_at cells n)
unfolding records_of records_from
lines_read d cells n e =
    let h = head_of d (body_count d - 1) (one_more d e) e in
    lines_sized (maker_in d cells n) (records_of d) h.records

-- what is written after what is written
pub put_then : (d d' : List ℕ) (at to : ℕ) (s t : List ℕ) → d' ≡ put_at d at s → to ≡ at + length s → at + (length s + length t) ≤ length d → put_at d' to t ≡ put_at d at (s ++ t)
put_then d d' at to s t e n h = ap (λ (x : List ℕ). put_at x to t) e ∙ put_put d at to s t n h

-- ---- the whole session, by what opening the sheet answers

module _ (d : List ℕ) (cells : List Cell) where
  pub whole_read : (n : ℕ) → tell_opened (Ok n) cells ≡ opening d → Ready d cells n → (room : ℕ) → session_outcome d room ≡ in_room room (all_lines d (chain_at cells n))
  unfolding tell_opened session_outcome fitting
  whole_read n told k room = ap (fitting room) (text_lines d (chain_at cells n) k.sheet (sym told))

  pub whole_refused : (q : Refusal) → tell_opened (Err q) cells ≡ opening d → (room : ℕ) → (session_outcome d room ≡ refused q) × (value_with q ≤ 1024)
  unfolding tell_opened session_outcome fitting
  whole_refused q told room =
      let t = text_refused d q (is_sheet d) refl (sym told) in
      (ap (fitting room) t.0, t.1)

  -- the program's two ways: it writes the lines of all records, or the line of the refusal
  pub output_read : (n : ℕ) → tell_opened (Ok n) cells ≡ opening d → Ready d cells n → output d ≡ all_lines d (chain_at cells n)
  unfolding tell_opened output as_output
  output_read n told k = ap as_output (text_lines d (chain_at cells n) k.sheet (sym told))

  pub output_refused : (q : Refusal) → tell_opened (Err q) cells ≡ opening d → output d ≡ refusal_line q
  unfolding tell_opened output as_output
  output_refused q told = ap as_output (text_refused d q (is_sheet d) refl (sym told)).0

pub none_refused : (d : List ℕ) → is_sheet d ≡ false → (room : ℕ) → (session_outcome d room ≡ refused Refusal.NotASheet) × (value_with Refusal.NotASheet ≤ 1024)
unfolding tell_opened
none_refused d e room = whole_refused d [] Refusal.NotASheet (sym (opening_none d e)) room
