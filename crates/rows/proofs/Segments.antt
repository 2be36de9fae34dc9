-- The text of a segment, from its text before it is formatted, and of segments one after the other. Assumes nothing.
use Prim.Native.Nat.{ℕ, ◌+◌, ◌≤◌}
use mathlib.Core.Path.{◌≡◌, refl, sym, ap, ◌∙◌}
use mathlib.Core.Bool.{true, false, ◌||◌}
use mathlib.Core.List.{List, [], ◌++◌, append_assoc, append-nil}
use native.Mathlib.Omega.{arith}
use lib.ListN.{length, length-append}
use Rattle.buffer.specs.Bytes.{part}
use Rattle.buffer.specs.Table.{Maybe, some}
use Rattle.buffer.specs.Table as table
use Rattle.buffer.specs.Buffer.{put_at}
use Rattle.buffer.proofs.Writing.{put_nil, join}
use Rattle.words.specs.declared.LogMetadata.{LogMetadata}
use Rattle.words.specs.declared.LogMetadata.TheVariants.{CrateName, FileName, FilePath, LineNumber, Log, LogLevel, ModulePath, Timestamp, HeadSerial}
use Rattle.words.specs.declared.LogFormat.{LogFormat}
use Rattle.colour.specs.declared.Settings.{Settings}
use Rattle.colour.specs.Formatting.{formatted}
use Rattle.colour.specs.Shown.{Shown, text_of, joined}
use Rattle.measure.specs.declared.Measure.{Measure}
use Rattle.measure.specs.Measures.{grown}
use Rattle.measure.proofs.Measured.{grown_append, grown_nil}
use Rattle.segments.specs.declared.Cell.{Cell}
use Rattle.segments.specs.declared.Kind.{Kind}
use Rattle.segments.specs.Segments.{LogSegment, LogSegments, text, specifier, group, none, more, ◌and_then◌}
use Rattle.segments.specs.Pool.{kind_at, back, last_member, segment_at, chain_at}
use Rattle.segments.proofs.Chains.{chain_none, chain_step, segment_text_lem, segment_group, segment_specifier}
use Rattle.comparisons.specs.Comparisons.{Comparison, layout, laid_or_else}
use Rattle.layouts.proofs.Running.{bare_group}
use Rattle.leaves.specs.Fields.{is_there, message_text, field_text}
use Rattle.record.specs.declared.Source.{Source}
use Rattle.record.specs.Records.{Record}
use Rattle.fields.specs.Texts.{wording}
use Rattle.formats.specs.Formats.{specifier_format}
use Rattle.fields.specs.Lines.{in_format, compared_from, comparison_of, message_from, specifier_shown, segment_shown, segments_shown}
use Rattle.rows.specs.Texts.{segment_text, segments_text, raw_text, is_host, bare_message, bare_from, is_bare, format_of}

module _ (s : Settings) (t : List ℕ) (r : Record) where
  pub text_none : segments_text s t r none ≡ []
  unfolding joined segments_shown
  text_none = refl

  -- one segment more, at the end
  pub text_and_then : (xs : LogSegments) (x : LogSegment) → segments_text s t r (xs and_then x) ≡ segments_text s t r xs ++ segment_text s t r x
  unfolding joined segments_shown ◌and_then◌
  text_and_then none x = append-nil (segment_text s t r x)
  text_and_then (more y rest) x =
      ap (λ (z : List ℕ). segment_text s t r y ++ z) (text_and_then rest x)
      ∙ sym (append_assoc (segment_text s t r y) (segments_text s t r rest) (segment_text s t r x))

  -- ---- bare or formatted

  -- a layout is what its members are
  laid_bare : (x : Shown) (m : List ℕ) (c : Maybe Comparison) → is_there c ≡ true → text_of s (laid_or_else x c) ≡ message_text s m c
  unfolding is_there laid_or_else message_text
  laid_bare x m table.none e = cc
  laid_bare x m (some c) e = bare_group s (layout c)

  laid_not : (x : Shown) (c : Maybe Comparison) → is_there c ≡ false → text_of s (laid_or_else x c) ≡ text_of s x
  unfolding is_there laid_or_else
  laid_not x table.none e = refl
  laid_not x (some c) e = cc

  unlaid : (m : List ℕ) (c : Maybe Comparison) → is_there c ≡ false → message_text s m c ≡ m
  unfolding is_there message_text
  unlaid m table.none e = refl
  unlaid m (some c) e = cc

  -- a host's message is none
  from_host : r.source ≡ Source.Host → comparison_of r ≡ table.none
  unfolding compared_from
  from_host e = ap (λ (q : Source). compared_from q r.message) e

  message_bare : (q : Source) (f : LogFormat) → r.source ≡ q → (is_host q || is_there (comparison_of r)) ≡ true → text_of s (message_from q r f) ≡ field_text s r Log
  unfolding is_host message_from text_of field_text message_text
  message_bare Source.Defmt f k e = laid_bare (in_format r Log f) r.message (comparison_of r) e
  message_bare Source.Host f k e = sym (ap (message_text s r.message) (from_host k))

  message_formatted : (q : Source) (f : LogFormat) → (is_host q || is_there (comparison_of r)) ≡ false
      → text_of s (message_from q r f) ≡ formatted s (specifier_format r.level Log f) (field_text s r Log)
  unfolding is_host message_from in_format text_of field_text wording
  message_formatted Source.Defmt f e =
      laid_not (in_format r Log f) (comparison_of r) e ∙ ap (formatted s (specifier_format r.level Log f)) (sym (unlaid r.message (comparison_of r) e))
  message_formatted Source.Host f e = cc

  specifier_bare : (m : LogMetadata) (f : LogFormat) → bare_from (bare_message r) m ≡ true → text_of s (specifier_shown r m f) ≡ field_text s r m
  unfolding bare_from bare_message specifier_shown
  specifier_bare CrateName f e = cc
  specifier_bare (FileName n) f e = cc
  specifier_bare FilePath f e = cc
  specifier_bare LineNumber f e = cc
  specifier_bare Log f e = message_bare r.source f refl e
  specifier_bare LogLevel f e = cc
  specifier_bare ModulePath f e = cc
  specifier_bare Timestamp f e = cc
  specifier_bare HeadSerial f e = cc

  specifier_formatted : (m : LogMetadata) (f : LogFormat) → bare_from (bare_message r) m ≡ false
      → text_of s (specifier_shown r m f) ≡ formatted s (specifier_format r.level m f) (field_text s r m)
  unfolding bare_from bare_message specifier_shown in_format text_of field_text
  specifier_formatted CrateName f e = refl
  specifier_formatted (FileName n) f e = refl
  specifier_formatted FilePath f e = refl
  specifier_formatted LineNumber f e = refl
  specifier_formatted Log f e = message_formatted r.source f e
  specifier_formatted LogLevel f e = refl
  specifier_formatted ModulePath f e = refl
  specifier_formatted Timestamp f e = refl
  specifier_formatted HeadSerial f e = refl

  -- what is formatted is a wording
  message_worded : (q : Source) → (is_host q || is_there (comparison_of r)) ≡ false → field_text s r Log ≡ wording r Log
  unfolding is_host field_text wording
  message_worded Source.Defmt e = unlaid r.message (comparison_of r) e
  message_worded Source.Host e = cc

  specifier_worded : (m : LogMetadata) → bare_from (bare_message r) m ≡ false → field_text s r m ≡ wording r m
  unfolding bare_from bare_message field_text
  specifier_worded CrateName e = refl
  specifier_worded (FileName n) e = refl
  specifier_worded FilePath e = refl
  specifier_worded LineNumber e = refl
  specifier_worded Log e = message_worded r.source e
  specifier_worded LogLevel e = refl
  specifier_worded ModulePath e = refl
  specifier_worded Timestamp e = refl
  specifier_worded HeadSerial e = refl

  pub field_worded : (m : LogMetadata) (f : LogFormat) → is_bare (bare_message r) (specifier m f) ≡ false → field_text s r m ≡ wording r m
  unfolding is_bare
  field_worded m f e = specifier_worded m e

  pub segment_bare : (x : LogSegment) → is_bare (bare_message r) x ≡ true → segment_text s t r x ≡ raw_text s t r x
  unfolding is_bare raw_text segment_shown text_of
  segment_bare (text i j) e = refl
  segment_bare (specifier m f) e = specifier_bare m f e
  segment_bare (group xs f) e = cc

  pub segment_formatted : (x : LogSegment) → is_bare (bare_message r) x ≡ false
      → segment_text s t r x ≡ formatted s (format_of r.level x) (raw_text s t r x)
  unfolding is_bare raw_text format_of segment_shown text_of
  segment_formatted (text i j) e = cc
  segment_formatted (specifier m f) e = specifier_formatted m f e
  segment_formatted (group xs f) e = refl

  -- ---- in a pool

  module _ (cells : List Cell) where
    pub pool_none : segments_text s t r (chain_at cells 0) ≡ []
    pool_none = ap (segments_text s t r) (chain_none cells) ∙ text_none

    pub pool_step : (m : ℕ) → segments_text s t r (chain_at cells (m + 1)) ≡ segments_text s t r (chain_at cells (back cells m)) ++ segment_text s t r (segment_at cells m)
    pool_step m = ap (segments_text s t r) (chain_step cells m) ∙ text_and_then (chain_at cells (back cells m)) (segment_at cells m)

    pub raw_of_text : (i : ℕ) {from to : ℕ} → kind_at cells i ≡ Kind.Text from to → raw_text s t r (segment_at cells i) ≡ part from to t
    unfolding raw_text
    raw_of_text i k = ap (raw_text s t r) (segment_text_lem cells i k)

    pub raw_of_group : (i : ℕ) {last : ℕ} → kind_at cells i ≡ Kind.Group last → raw_text s t r (segment_at cells i) ≡ segments_text s t r (chain_at cells (last_member cells i))
    unfolding raw_text
    raw_of_group i k = ap (raw_text s t r) (segment_group cells i k)

    pub raw_of_specifier : (i : ℕ) (m : LogMetadata) → kind_at cells i ≡ Kind.Specifier m → raw_text s t r (segment_at cells i) ≡ field_text s r m
    unfolding raw_text
    raw_of_specifier i m k = ap (raw_text s t r) (segment_specifier cells i m k)

    -- a group's members, by the link to the last of them
    pub raw_of_members : (i l : ℕ) {last : ℕ} → kind_at cells i ≡ Kind.Group last → l ≡ last_member cells i → raw_text s t r (segment_at cells i) ≡ segments_text s t r (chain_at cells l)
    raw_of_members i l k e = raw_of_group i k ∙ ap (λ (n : ℕ). segments_text s t r (chain_at cells n)) (sym e)

    -- the members back from a link that isn't 0, with i the place it leads to and b the link back from there
    pub members_none : (l : ℕ) → l ≡ 0 → segments_text s t r (chain_at cells l) ≡ []
    members_none l e = ap (λ (n : ℕ). segments_text s t r (chain_at cells n)) e ∙ pool_none

    pub members_step : (l i b : ℕ) → l ≡ i + 1 → b ≡ back cells i → segments_text s t r (chain_at cells l) ≡ segments_text s t r (chain_at cells b) ++ segment_text s t r (segment_at cells i)
    members_step l i b e f =
        ap (λ (n : ℕ). segments_text s t r (chain_at cells n)) e ∙ pool_step i
        ∙ ap (λ (n : ℕ). segments_text s t r (chain_at cells n) ++ segment_text s t r (segment_at cells i)) (sym f)

    pub members_length : (l i b : ℕ) → l ≡ i + 1 → b ≡ back cells i
        → length (segments_text s t r (chain_at cells l)) ≡ length (segments_text s t r (chain_at cells b)) + length (segment_text s t r (segment_at cells i))
    members_length l i b e f = ap length (members_step l i b e f) ∙ length-append (segments_text s t r (chain_at cells b)) (segment_text s t r (segment_at cells i))

    -- measured one after the other
    pub measured_none : (l : ℕ) (a : Measure) → l ≡ 0 → a ≡ grown a (segments_text s t r (chain_at cells l))
    measured_none l a e = sym (ap (grown a) (members_none l e) ∙ grown_nil a)

    pub measured_step : (l i b : ℕ) (a x y : Measure) → l ≡ i + 1 → b ≡ back cells i → x ≡ grown a (segments_text s t r (chain_at cells b))
        → y ≡ grown x (segment_text s t r (segment_at cells i)) → y ≡ grown a (segments_text s t r (chain_at cells l))
    measured_step l i b a x y e f xe ye =
        ye ∙ ap (λ (k : Measure). grown k (segment_text s t r (segment_at cells i))) xe
        ∙ grown_append a (segments_text s t r (chain_at cells b)) (segment_text s t r (segment_at cells i)) ∙ ap (grown a) (sym (members_step l i b e f))

    -- written one after the other
    pub written_none : (l at : ℕ) (o : List ℕ) → l ≡ 0 → (at ≡ at + length (segments_text s t r (chain_at cells l))) × (o ≡ put_at o at (segments_text s t r (chain_at cells l)))
    written_none l at o e = (omega (arith, ap length (members_none l e)), sym (ap (put_at o at) (members_none l e) ∙ put_nil o at))

    pub written_step : (l i b at m n : ℕ) (o o₁ o₂ : List ℕ) → l ≡ i + 1 → b ≡ back cells i
        → m ≡ at + length (segments_text s t r (chain_at cells b)) → o₁ ≡ put_at o at (segments_text s t r (chain_at cells b))
        → n ≡ m + length (segment_text s t r (segment_at cells i)) → o₂ ≡ put_at o₁ m (segment_text s t r (segment_at cells i))
        → at + length (segments_text s t r (chain_at cells l)) ≤ length o
        → (n ≡ at + length (segments_text s t r (chain_at cells l))) × (o₂ ≡ put_at o at (segments_text s t r (chain_at cells l)))
    written_step l i b at m n o o₁ o₂ e f me e₁ ne e₂ room =
        let z = members_length l i b e f in
        (omega arith, join o o₁ o₂ at m (segments_text s t r (chain_at cells b)) (segment_text s t r (segment_at cells i)) e₁ e₂ me (omega arith) ∙ ap (put_at o at) (sym (members_step l i b e f)))
