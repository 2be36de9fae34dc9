-- A whole template by either edition of the rules: its segments, or its refusal. Assumes nothing.
use Rattle.std.specs.Prelude.{ℕ, Bool, true, false, List, leb, length}
use Rattle.buffer.specs.Table.{Maybe, none, some}
use Rattle.utf8.specs.Utf8.{valid}
use Rattle.letters.specs.Marked.{marked}
use Rattle.refusals.specs.declared.Refusal.{Refusal}
use Rattle.words.specs.Trying.{Tried, fit, misfit, refused, repeated}
use Rattle.segments.specs.Segments as segments
use Rattle.segments.specs.Segments.{LogSegments, is_log, is_timestamp, named_among}
use Rattle.building.specs.Reading.{Top, top_at}
use Rattle.unused.specs.Unused.{first_of, unused_in}
use Rattle.template.specs.declared.Edition.{Edition}

-- what reading a template gives
pub data Template : Type 0 where
  read : LogSegments → Template
  refusal : Refusal → Template

-- refusal 4: "read, but no `{s}` at any depth; the empty template too"
unfoldable pub with_message : LogSegments → Template
with_message s = elim (named_among is_log s) [ true ↦ read s | false ↦ refusal Refusal.NoMessage ]

-- (what is repeated never misfits)
unfoldable pub ended : Tried Top → Template
ended (fit s j) = with_message s.segments
ended misfit = with_message segments.none
ended (refused r) = refusal r

-- "Where neither fits, reading stops and the rest is dropped": what a template is read as, from its first byte on
abbrev pub reading : List ℕ → Tried Top
reading t = repeated (top_at t (length t)) (length t) 0 (record { segments = segments.none; made = 0 })

-- a template that is short enough and UTF-8, its letters marked
unfoldable pub top_level : List ℕ → Template
top_level t = ended (reading t)

-- Order: 1; 2; then 3 and 5 to 9, "the first met in the crate's own order of trying"; 4.
-- "Please decide letters as Rust's `is_alphabetic` does" (document 02, E3): it is read with its letters beyond ASCII marked
unfoldable pub read_template : List ℕ → Template
read_template t =
    elim (leb (length t) 1024) [
      | true ↦ elim (valid t) [ true ↦ top_level (marked t) | false ↦ refusal Refusal.TemplateNotUtf8 ]
      | false ↦ refusal Refusal.TemplateTooLong
    ]

-- ---- the second edition

-- Refusal 17: "bytes dropped or a parameter lost, with the place .. checked after 3 to 10": of a template that is read otherwise, by the first place of all
-- that it leaves unused
unfoldable pub all_used : Maybe ℕ → Template → Template
all_used none x = x
all_used (some p) (read s) = refusal (Refusal.Dropped p)
all_used (some p) (refusal r) = refusal r

-- "It reads exactly the templates that the first edition reads with every byte used and every parameter still in force, and gives the same segments. The first
-- edition stays for old projects"
unfoldable pub read_by : Edition → List ℕ → Template
read_by Edition.First t = read_template t
read_by Edition.Strict t = all_used (first_of (unused_in (marked t))) (read_template t)

-- ---- the time

-- "the yes/no whether a template names `{t}`"
unfoldable pub names_timestamp : LogSegments → Bool
names_timestamp s = named_among is_timestamp s
