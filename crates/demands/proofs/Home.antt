-- `HomeDemand` holds. Assumes nothing.
use Prim.Native.Nat.{ℕ}
use mathlib.Core.Path.{◌≡◌, refl, ap, sym, ◌∙◌}
use mathlib.Core.Bool.{Bool, true, false}
use mathlib.Core.List.{List}
use mathlib.Core.Logic.{◌≢◌}
use Rattle.buffer.specs.Table.{none, some}
use Rattle.words.specs.declared.LogMetadata.{LogMetadata}
use Rattle.words.specs.declared.LogMetadata.TheVariants.{CrateName, FileName, FilePath, LineNumber, Log, LogLevel, ModulePath, Timestamp, HeadSerial}
use Rattle.words.specs.declared.LogFormat.{LogFormat}
use Rattle.colour.specs.declared.Settings.{Settings}
use Rattle.colour.specs.Shown.{joined}
use Rattle.colour.specs.Shown as shown
use Rattle.segments.specs.Segments.{LogSegment, LogSegments, text, specifier, group, more}
use Rattle.segments.specs.Segments as segments
use Rattle.template.specs.declared.Edition.{Edition}
use Rattle.template.specs.Template.{Template, read, refusal, read_by}
use Rattle.record.specs.declared.Source.{Source}
use Rattle.record.specs.declared.Source.TheVariants.{Defmt, Host}
use Rattle.record.specs.declared.Level.{Level}
use Rattle.record.specs.declared.Level.TheVariants.{Print, Named, Refused}
use Rattle.record.specs.declared.Form.{Form}
use Rattle.record.specs.Records.{Given, Record}
use Rattle.record.specs.Layout.{Laid, right_size}
use Rattle.record.specs.Levels.{name_of}
use Rattle.record.specs.Contents.{record_of}
use Rattle.paths.specs.Paths.{file_name, before_colons}
use Rattle.fields.specs.Texts.{no_crate, no_file, no_module, no_time, no_head, or_placeholder, there, decimal_text, time_of, wording}
use Rattle.formats.specs.Formats.{specifier_format, group_format}
use Rattle.comparisons.specs.Comparisons.{laid_or_else}
use Rattle.fields.specs.Lines.{in_format, compared_from, message_from, specifier_shown, segment_shown, segments_shown, print_shown, record_shown, line_of}
use Rattle.settings.specs.Bits.{is_known, settings_of, edition_of, form_of}
use Rattle.answer.specs.Answers.{Outcome, in_room, record_outcome, by_template, outcome, buffer_after, packed, call_outcome, Meets, line_entry}
use Rattle.answer.proofs.Answering.{passed_outcome, unknown_bit, is_call_lem}
use Rattle.demands.specs.Conditions.{laid_in}
use Rattle.demands.specs.HomeDemand.{Part, the_message, named_by, AgreeOn, AgreeIn, AgreeAmong, AgreeAt, UnnamedIn, UnnamedAmong, AgreeBut, Pair, HomeDemand}
use Rattle.demands.proofs.Records.{passes_when}

-- ---- what is shown

module _ (r r' : Record) (source : r.source ≡ r'.source) (level : r.level ≡ r'.level) where
  wording_same : (m : LogMetadata) → AgreeOn (named_by m) r r' → wording r m ≡ wording r' m
  unfolding wording
  wording_same CrateName a = ap (λ (g : Given). or_placeholder no_crate (there before_colons g)) a
  wording_same (FileName n) a = ap (λ (g : Given). or_placeholder no_file (there (file_name n) g)) a
  wording_same FilePath a = ap (λ (g : Given). or_placeholder no_file (there some g)) a
  wording_same LineNumber a = ap decimal_text a
  wording_same Log a = a
  wording_same LogLevel a = ap name_of a
  wording_same ModulePath a = ap (λ (g : Given). or_placeholder no_module (there some g)) a
  wording_same Timestamp a = λ k. or_placeholder no_time (time_of (source k) (a k))
  wording_same HeadSerial a = ap (λ (g : Given). or_placeholder no_head (there some g)) a

  format_same : (m : LogMetadata) (f : LogFormat) → AgreeOn (named_by m) r r' → in_format r m f ≡ in_format r' m f
  unfolding in_format
  format_same m f a = λ k. shown.specifier (specifier_format (level k) m f) (wording_same m a k)

  message_same : (x : Source) (f : LogFormat) → AgreeOn the_message r r' → message_from x r f ≡ message_from x r' f
  unfolding message_from
  message_same Defmt f a = λ k. laid_or_else (format_same Log f a k) (compared_from (source k) (a k))
  message_same Host f a = ap shown.text a

  specifier_same : (m : LogMetadata) (f : LogFormat) → AgreeOn (named_by m) r r' → specifier_shown r m f ≡ specifier_shown r' m f
  unfolding specifier_shown
  specifier_same CrateName f a = format_same CrateName f a
  specifier_same (FileName n) f a = format_same (FileName n) f a
  specifier_same FilePath f a = format_same FilePath f a
  specifier_same LineNumber f a = format_same LineNumber f a
  specifier_same Log f a = ap (λ (x : Source). message_from x r f) source ∙ message_same r'.source f a
  specifier_same LogLevel f a = format_same LogLevel f a
  specifier_same ModulePath f a = format_same ModulePath f a
  specifier_same Timestamp f a = format_same Timestamp f a
  specifier_same HeadSerial f a = format_same HeadSerial f a

  mutual
    unfolding segment_shown

    segment_same : (t : List ℕ) (x : LogSegment) → AgreeIn x r r' → segment_shown t r x ≡ segment_shown t r' x
    segment_same t (text i j) a = refl
    segment_same t (specifier m f) a = specifier_same m f a
    segment_same t (group s f) a = λ k. shown.group (group_format (level k) f) (segments_same t s a k)

    segments_same : (t : List ℕ) (s : LogSegments) → AgreeAmong s r r' → segments_shown t r s ≡ segments_shown t r' s
    segments_same t segments.none a = refl
    segments_same t (more x s) a = λ k. shown.more (segment_same t x a.0 k) (segments_same t s a.1 k)

  record_same : (l : Level) (t : List ℕ) (s : LogSegments) → AgreeAt l s r r' → record_shown l t r s ≡ record_shown l t r' s
  unfolding record_shown print_shown
  record_same Print t s a = λ k. shown.more (laid_or_else (shown.text (a k)) (compared_from (source k) (a k))) shown.none
  record_same (Named n c) t s a = segments_same t s a
  record_same Refused t s a = λ k. shown.more (laid_or_else (shown.text (a k)) (compared_from (source k) (a k))) shown.none

  line_same : (settings : Settings) (t : List ℕ) (s : LogSegments) → AgreeAt r.level s r r' → line_of settings t s r ≡ line_of settings t s r'
  unfolding line_of
  line_same settings t s a = ap (joined settings) (record_same r.level t s a ∙ ap (λ (l : Level). record_shown l t r' s) level)

-- ---- outcomes

module _ (form : Form) (settings : Settings) (t : List ℕ) (d d' : Laid) (room : ℕ) where
  record_home : (s : LogSegments) → Pair form d d' (AgreeAt (record_of d).level s) → record_outcome form settings t s d room ≡ record_outcome form settings t s d' room
  record_home s a =
      passed_outcome form settings t s d room ((passes_when form d).1 a.passes)
      ∙ ap (in_room room) (line_same (record_of d) (record_of d') a.source a.level settings t s a.agree)
      ∙ sym (passed_outcome form settings t s d' room ((passes_when form d').1 a.passes'))

  template_home : (x : Template) → ((s : LogSegments) → x ≡ read s → Pair form d d' (AgreeAt (record_of d).level s))
      → by_template form settings t d room x ≡ by_template form settings t d' room x
  unfolding by_template
  template_home (read s) a = record_home s (a s refl)
  template_home (refusal r) a = refl

  home : (edition : Edition) → ((s : LogSegments) → read_by edition t ≡ read s → Pair form d d' (AgreeAt (record_of d).level s))
      → outcome form edition settings t d room ≡ outcome form edition settings t d' room
  unfolding outcome
  home edition a = template_home (read_by edition t) a

-- ---- what is not named

module _ (r r' : Record) (p : Part) (but : AgreeBut p r r') where
  mutual
    unnamed_in : (x : LogSegment) → UnnamedIn p x → AgreeIn x r r'
    unnamed_in (text i j) u = tt
    unnamed_in (specifier m f) u = but (named_by m) u
    unnamed_in (group s f) u = unnamed_among s u

    unnamed_among : (s : LogSegments) → UnnamedAmong p s → AgreeAmong s r r'
    unnamed_among segments.none u = tt
    unnamed_among (more x s) u = (unnamed_in x u.0, unnamed_among s u.1)

  unnamed_at : (l : Level) (s : LogSegments) → p ≢ the_message → UnnamedAmong p s → AgreeAt l s r r'
  unnamed_at Print s h u = but the_message (λ e. h (sym e))
  unnamed_at (Named n c) s h u = unnamed_among s u
  unnamed_at Refused s h u = but the_message (λ e. h (sym e))

-- ---- the demand

module _ (settings : ℕ) (t d d' : List ℕ) (right : right_size (form_of settings) d ≡ true) (right' : right_size (form_of settings) d' ≡ true) where
  abbrev Agreed : LogSegments → Type 0
  Agreed s = Pair (form_of settings) (laid_in settings d) (laid_in settings d') (AgreeAt (record_of (laid_in settings d)).level s)

  same : ((s : LogSegments) → read_by (edition_of settings) t ≡ read s → Agreed s) → (room : ℕ) → call_outcome settings t d room ≡ call_outcome settings t d' room
  same a room = by (is_known settings) refl
    where
      by : (b : Bool) → is_known settings ≡ b → call_outcome settings t d room ≡ call_outcome settings t d' room
      by true k =
          sym (is_call_lem settings t d room k right)
          ∙ home (form_of settings) (settings_of settings) t (laid_in settings d) (laid_in settings d') room (edition_of settings) a
          ∙ is_call_lem settings t d' room k right'
      by false k = sym (unknown_bit settings t d room k) ∙ unknown_bit settings t d' room k

  unnamed : (p : Part) → p ≢ the_message → Pair (form_of settings) (laid_in settings d) (laid_in settings d') (AgreeBut p)
      → ((s : LogSegments) → read_by (edition_of settings) t ≡ read s → UnnamedAmong p s)
      → (room : ℕ) → call_outcome settings t d room ≡ call_outcome settings t d' room
  unnamed p h w u =
      same
      (λ s e. record {
        passes = w.passes;
        passes' = w.passes';
        source = w.source;
        level = w.level;
        agree = unnamed_at (record_of (laid_in settings d)) (record_of (laid_in settings d')) p w.agree (record_of (laid_in settings d)).level s h (u s e);
      })

-- what meets the same outcome is the same
told_alike : (o o' : Outcome) (lent : List ℕ) → o ≡ o' → (left left' : List ℕ) (answer answer' : ℕ) → Meets o lent left answer → Meets o' lent left' answer'
    → (answer ≡ answer') × (left ≡ left')
told_alike o o' lent e left left' answer answer' m n = (
  m.returned ∙ ap packed e ∙ sym n.returned,
  m.buffer ∙ ap (buffer_after lent) e ∙ sym n.buffer,
)

pub home_demand : (settings : ℕ) (t d d' : List ℕ) → HomeDemand settings t d d'
home_demand settings t d d' = record {
  same = same settings t d d';
  unnamed = unnamed settings t d d';
  told = λ lent e left left' answer answer'. told_alike (line_entry t settings d lent) (line_entry t settings d' lent) lent e left left' answer answer';
}
