-- The session sheet (document 01, "Session sheet and its program"). Assumes nothing.
use Rattle.std.specs.Prelude.{ℕ, zero, suc, ◌+◌, ◌*◌, Bool, true, false, ◌&&◌, List, [], ◌∷◌, eqb, leb, length}
use Rattle.buffer.specs.Bytes.{part}
use Rattle.buffer.specs.Table.{Maybe, none, some}
use Rattle.settings.specs.Bits.{is_known, form_of}
use Rattle.record.specs.declared.Form.{Form}
use Rattle.record.specs.Layout.{u16, u32, right_size, Laid, laid_out}

-- ---- the bodies of a sheet

-- "u16 n (at least 1), then n u32 lengths; then the n bodies"
unfoldable pub body_count : List ℕ → ℕ
body_count d = u16 d 0

-- where the contents end and body 0 begins
unfoldable pub contents_end : List ℕ → ℕ
contents_end d = 2 + 4 * body_count d

-- the bytes of n bodies whose lengths stand from place i on
unfoldable pub body_bytes : ℕ → List ℕ → ℕ → ℕ
body_bytes zero d i = 0
body_bytes (suc n) d i = u32 d i + body_bytes n d (i + 4)

-- n bodies whose lengths stand from place i on, and which themselves begin at place j
unfoldable pub bodies_from : ℕ → List ℕ → ℕ → ℕ → List (List ℕ)
bodies_from zero d i j = []
bodies_from (suc n) d i j = part j (j + u32 d i) d ∷ bodies_from n d (i + 4) (j + u32 d i)

-- the bodies of a sheet
unfoldable pub bodies : List ℕ → List (List ℕ)
bodies d = bodies_from (body_count d) d 2 (contents_end d)

-- ---- what makes a sheet

-- "Body 0: a settings byte .., then the template"; "A body 0 without a byte, an unknown settings bit .. is 15"
unfoldable pub is_head : List ℕ → Bool
is_head [] = false
is_head (settings ∷ template) = is_known settings

-- "Old sheets are told apart by settings bit 8": the form that body 0 says the records have; one without a byte says none, and is no body 0
unfoldable pub form_in : List ℕ → Form
form_in [] = Form.Old
form_in (settings ∷ template) = form_of settings

-- "or a record of the wrong size is 15"
unfoldable pub are_records : Form → List (List ℕ) → Bool
are_records form [] = true
are_records form (body ∷ rest) = right_size form body && are_records form rest

-- body 0, and records
unfoldable pub are_bodies : List (List ℕ) → Bool
are_bodies [] = false
are_bodies (head ∷ records) = is_head head && are_records (form_in head) records

-- refusal 15: "sheet over 65,536 bytes, or not laid out exactly as the sheet section says"
unfoldable pub is_sheet : List ℕ → Bool
is_sheet d =
    leb (length d) 65536
    && leb 2 (length d)
    && leb 1 (body_count d)
    && leb (contents_end d) (length d)
    && eqb (contents_end d + body_bytes (body_count d) d 2) (length d)
    && are_bodies (bodies d)

-- ---- what a sheet holds

-- what a sheet says
pub record Sheet : Type 0 where
  pub settings : ℕ
  pub template : List ℕ
  pub records : List Laid

-- the records that bodies lay out
unfoldable pub all_laid_out : Form → List (List ℕ) → List Laid
all_laid_out form [] = []
all_laid_out form (body ∷ rest) = laid_out form body ∷ all_laid_out form rest

-- a sheet by its body 0 and its other bodies
unfoldable pub headed : List ℕ → List (List ℕ) → Sheet
headed [] records = record { settings = 0; template = []; records = all_laid_out Form.Old records }
headed (settings ∷ template) records = record { settings = settings; template = template; records = all_laid_out (form_of settings) records }

-- a sheet by its bodies
unfoldable pub held : List (List ℕ) → Sheet
held [] = headed [] []
held (head ∷ records) = headed head records

-- what bytes hold, if they are a sheet
unfoldable pub sheet_of : List ℕ → Maybe Sheet
sheet_of d = elim (is_sheet d) [ true ↦ some (held (bodies d)) | false ↦ none ]
