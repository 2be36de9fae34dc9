-- What is told of a template alone, as one number. Assumes nothing.
use Rattle.std.specs.Prelude.{ℕ, ◌+◌, ◌*◌, true, false, List}
use Rattle.refusals.specs.declared.Refusal.{Refusal}
use Rattle.refusals.specs.Numbers.{number, value_with}
use Rattle.template.specs.Template.{Template, read, refusal, read_by, names_timestamp}
use Rattle.settings.specs.Bits.{is_known, edition_of}

-- what the template is read as in the edition that the settings byte asks for; "an unknown settings bit .. is 15", and comes first
unfoldable pub template_asked : ℕ → List ℕ → Template
template_asked settings t = elim (is_known settings) [ true ↦ read_by (edition_of settings) t | false ↦ refusal Refusal.NotASheet ]

-- a refusal as one number: 17 with the place, the others of a template with nothing
unfoldable pub refusal_told : Refusal → ℕ
refusal_told r = number r + 256 * value_with r

-- 0 where it is read, else its refusal
unfoldable pub check_of : Template → ℕ
check_of (read s) = 0
check_of (refusal r) = refusal_told r

-- "the yes/no whether a template names `{t}`": a length of 1 for yes and 0 for no, or its refusal
unfoldable pub timestamp_of : Template → ℕ
timestamp_of (read s) = elim (names_timestamp s) [ true ↦ 256 | false ↦ 0 ]
timestamp_of (refusal r) = refusal_told r

-- what a check of the template answers
abbrev pub check_entry : List ℕ → ℕ → ℕ
check_entry t settings = check_of (template_asked settings t)

-- what the question for the time answers
abbrev pub timestamp_entry : List ℕ → ℕ → ℕ
timestamp_entry t settings = timestamp_of (template_asked settings t)
