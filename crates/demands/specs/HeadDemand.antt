-- Document 02, E7: which head measured it. Assumes nothing.
use Rattle.std.specs.Prelude.{ℕ, ◌+◌, ◌%◌, ◌<◌, ◌≡◌, true, false, List, [], ◌∷◌, ◌++◌, ◌≢◌, take, drop}
use Rattle.buffer.specs.Bytes.{bytes}
use Rattle.buffer.specs.Table.{none, Entry, ◌means◌, lookup}
use Rattle.words.specs.declared.LogMetadata.{LogMetadata}
use Rattle.words.specs.declared.LogMetadata.TheVariants.{CrateName, FilePath, LineNumber, Log, LogLevel, ModulePath, Timestamp, HeadSerial}
use Rattle.words.specs.Words.{Sense, stands_for, or_repeated_f, specifier_of}
use Rattle.record.specs.declared.Form.{Form}
use Rattle.record.specs.Records.{Record, absent, given}
use Rattle.record.specs.Layout.{Laid, right_size, laid_out}
use Rattle.record.specs.Contents.{record_of}
use Rattle.checks.specs.Checks.{record_refusal}
use Rattle.formats.specs.Formats.{default_width}
use Rattle.fields.specs.Texts.{wording}
use Rattle.answer.specs.Answers.{call_outcome}

-- ---- the specifier

-- document 01's own: "Specifiers: `c F l s L m t`, or `f` repeated"
abbrev pub first_specifiers : List (Entry LogMetadata)
first_specifiers =
    "c" means CrateName
    ∷ "F" means FilePath
    ∷ "l" means LineNumber
    ∷ "s" means Log
    ∷ "L" means LogLevel
    ∷ "m" means ModulePath
    ∷ "t" means Timestamp
    ∷ []

-- what a word named before
unfoldable pub first_specifier_of : List ℕ → Sense LogMetadata
first_specifier_of w = or_repeated_f w (lookup first_specifiers w)

-- what `{d}` is, in every template
pub record SpecifierDemand : Type 0 where
  -- "shown by a new specifier `{d}`"
  pub named : specifier_of (bytes "d") ≡ stands_for HeadSerial
  -- "Templates in which `d` is tried as a name now part from the crate": no other word does
  pub others : (w : List ℕ) → w ≢ bytes "d" → specifier_of w ≡ first_specifier_of w
  -- "with default width 0"
  pub width : default_width HeadSerial ≡ 0
  -- "and `<head>` when absent"; one that is there is shown as it is, and so is an empty one
  pub absent_shown : (r : Record) → r.serial ≡ absent → wording r HeadSerial ≡ bytes "<head>"
  pub given_shown : (r : Record) (t : List ℕ) → r.serial ≡ given t → wording r HeadSerial ≡ t

-- ---- the two forms

-- a record of the old form as one of the new form without a serial: "its length comes after the message's"
abbrev pub renewed : List ℕ → List ℕ
renewed d = take 15 d ++ 0 ∷ 0 ∷ drop 15 d

-- of the bytes of a record: "Old sheets are told apart by settings bit 8, which new ones set"
pub record FormDemand (d : List ℕ) : Type 0 where
  -- an old record has no serial, so that `{d}` shows `<head>` of each that passes
  pub old_empty : (laid_out Form.Old d).serial ≡ []
  pub old_absent : record_refusal Form.Old (laid_out Form.Old d) ≡ none → (record_of (laid_out Form.Old d)).serial ≡ absent
  -- no bytes are a record in both forms: one that is taken for the other is 15, never a line of something else
  pub apart : right_size Form.Old d ≡ true → right_size Form.New d ≡ false
  -- laid out anew it is the same record, and gets the same answer by any known settings, but for a mask of 8 or more, which only the new form allows
  pub same_size : right_size Form.Old d ≡ true → right_size Form.New (renewed d) ≡ true
  pub same_record : right_size Form.Old d ≡ true → laid_out Form.New (renewed d) ≡ laid_out Form.Old d
  pub same_answer : right_size Form.Old d ≡ true → (settings : ℕ) → settings < 32 → settings % 16 < 8 → (laid_out Form.Old d).mask < 8 → (t : List ℕ) (room : ℕ)
      → call_outcome (settings + 8) t (renewed d) room ≡ call_outcome settings t d room
