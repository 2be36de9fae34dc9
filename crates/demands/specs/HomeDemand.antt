-- Document 02, E11: what a template doesn't name stays home. Assumes nothing.
use Rattle.std.specs.Prelude.{ℕ, ◌≡◌, true, List, ◌≢◌}
use Rattle.words.specs.declared.LogMetadata.{LogMetadata}
use Rattle.words.specs.declared.LogMetadata.TheVariants.{CrateName, FileName, FilePath, LineNumber, Log, LogLevel, ModulePath, Timestamp, HeadSerial}
use Rattle.segments.specs.Segments.{LogSegment, LogSegments, text, specifier, group, none, more}
use Rattle.template.specs.Template.{read, read_by}
use Rattle.record.specs.declared.Level.{Level}
use Rattle.record.specs.declared.Level.TheVariants.{Print, Named, Refused}
use Rattle.record.specs.declared.Form.{Form}
use Rattle.record.specs.Records.{Record}
use Rattle.record.specs.Layout.{Laid, right_size}
use Rattle.record.specs.Contents.{record_of}
use Rattle.settings.specs.Bits.{edition_of, form_of}
use Rattle.answer.specs.Answers.{Meets, call_outcome, line_entry}
use Rattle.demands.specs.Conditions.{RecordPasses, laid_in}

-- ---- what a template names

-- what a specifier can name of a record
pub data Part : Type 0 where
  the_file : Part
  the_line : Part
  the_module : Part
  the_timestamp : Part
  the_message : Part
  the_head : Part
  the_level : Part

-- "`{f}` and `{F}` name the file, `{c}` and `{m}` the module"; since E7, `{d}` the head
abbrev pub named_by : LogMetadata → Part
named_by CrateName = the_module
named_by (FileName n) = the_file
named_by FilePath = the_file
named_by LineNumber = the_line
named_by Log = the_message
named_by LogLevel = the_level
named_by ModulePath = the_module
named_by Timestamp = the_timestamp
named_by HeadSerial = the_head

-- two records have the same there, and whether it is there at all; a line number that is absent is 0, and 0 is shown alike
abbrev pub AgreeOn : Part → Record → Record → Type 0
AgreeOn the_file r r' = r.file ≡ r'.file
AgreeOn the_line r r' = r.line ≡ r'.line
AgreeOn the_module r r' = r.module_path ≡ r'.module_path
AgreeOn the_timestamp r r' = r.timestamp ≡ r'.timestamp
AgreeOn the_message r r' = r.message ≡ r'.message
AgreeOn the_head r r' = r.serial ≡ r'.serial
AgreeOn the_level r r' = r.level ≡ r'.level

-- "agree on every field the template names", at any depth
abbrev mutual
  pub AgreeIn : LogSegment → Record → Record → Type 0
  AgreeIn (text i j) r r' = Unit {0}
  AgreeIn (specifier m f) r r' = AgreeOn (named_by m) r r'
  AgreeIn (group s f) r r' = AgreeAmong s r r'

  pub AgreeAmong : LogSegments → Record → Record → Type 0
  AgreeAmong none r r' = Unit {0}
  AgreeAmong (more x rest) r r' = AgreeIn x r r' × AgreeAmong rest r r'

-- "For a print without level, agreement on the message is enough"; no record of a refused level passes
abbrev pub AgreeAt : Level → LogSegments → Record → Record → Type 0
AgreeAt Print s r r' = AgreeOn the_message r r'
AgreeAt (Named n c) s r r' = AgreeAmong s r r'
AgreeAt Refused s r r' = AgreeOn the_message r r'

-- ---- what it doesn't name

-- no specifier names p, at any depth
abbrev mutual
  pub UnnamedIn : Part → LogSegment → Type 0
  UnnamedIn p (text i j) = Unit {0}
  UnnamedIn p (specifier m f) = named_by m ≢ p
  UnnamedIn p (group s f) = UnnamedAmong p s

  pub UnnamedAmong : Part → LogSegments → Type 0
  UnnamedAmong p none = Unit {0}
  UnnamedAmong p (more x rest) = UnnamedIn p x × UnnamedAmong p rest

-- two records that may differ in p alone
abbrev pub AgreeBut : Part → Record → Record → Type 0
AgreeBut p r r' = (q : Part) → q ≢ p → AgreeOn q r r'

-- ---- the demand

-- "two records of the same source and level that pass 11, 12 and 14", of which A holds
pub record Pair (form : Form) (d d' : Laid) (A : Record → Record → Type 0) : Type 0 where
  pub passes : RecordPasses form d
  pub passes' : RecordPasses form d'
  pub source : (record_of d).source ≡ (record_of d').source
  pub level : (record_of d).level ≡ (record_of d').level
  pub agree : A (record_of d) (record_of d')

-- of line calls on any template, read or refused, in either edition and either form
pub record HomeDemand (settings : ℕ) (t d d' : List ℕ) : Type 0 where
  -- "with the same settings and room, the line, the needed length and the choice between line and 13 are the same": the outcome is
  pub same : right_size (form_of settings) d ≡ true → right_size (form_of settings) d' ≡ true
      → ((s : LogSegments) → read_by (edition_of settings) t ≡ read s → Pair (form_of settings) (laid_in settings d) (laid_in settings d') (AgreeAt (record_of (laid_in settings d)).level s))
      → (room : ℕ) → call_outcome settings t d room ≡ call_outcome settings t d' room
  -- so what a template doesn't name may be anything: "site paths or module names"
  pub unnamed : right_size (form_of settings) d ≡ true → right_size (form_of settings) d' ≡ true
      → (p : Part) → p ≢ the_message → Pair (form_of settings) (laid_in settings d) (laid_in settings d') (AgreeBut p)
      → ((s : LogSegments) → read_by (edition_of settings) t ≡ read s → UnnamedAmong p s)
      → (room : ℕ) → call_outcome settings t d room ≡ call_outcome settings t d' room
  -- and of two calls with the same outcome nobody can tell from answer and buffer which was which
  pub told : (lent : List ℕ) → line_entry t settings d lent ≡ line_entry t settings d' lent → (left left' : List ℕ) (answer answer' : ℕ)
      → Meets (line_entry t settings d lent) lent left answer → Meets (line_entry t settings d' lent) lent left' answer' → (answer ≡ answer') × (left ≡ left')
