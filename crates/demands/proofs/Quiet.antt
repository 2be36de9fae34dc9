-- What is shown of a template and a record without byte 27 holds no byte 27 either. Assumes nothing.
use Prim.Native.Nat.{ℕ, zero, suc, ◌+◌, ◌-◌, ◌/◌, ◌%◌}
use mathlib.Core.Path.{◌≡◌, refl}
use mathlib.Core.Bool.{Bool, true, false}
use mathlib.Core.List.{List, [], ◌∷◌, ◌++◌}
use native.Mathlib.Omega.{arith}
use lib.Dec.{eqb, ltb}
use lib.ListN.{length}
use Rattle.buffer.specs.Bytes.{bytes, same}
use Rattle.buffer.specs.Table.{Maybe, none, some}
use Rattle.words.specs.declared.LogMetadata.{LogMetadata}
use Rattle.words.specs.declared.LogMetadata.TheVariants.{CrateName, FileName, FilePath, LineNumber, Log, LogLevel, ModulePath, Timestamp, HeadSerial}
use Rattle.words.specs.declared.LogFormat.{LogFormat}
use Rattle.colour.specs.Sequences.{esc}
use Rattle.colour.specs.Shown as shown
use Rattle.colour.specs.Texts.{Free, Quiet, Quiets}
use Rattle.colour.proofs.Shows.{free_by_test, free_append}
use Rattle.segments.specs.Segments.{LogSegment, LogSegments, text, specifier, group}
use Rattle.segments.specs.Segments as segments
use Rattle.record.specs.declared.Source.{Source}
use Rattle.record.specs.declared.Source.TheVariants.{Defmt, Host}
use Rattle.record.specs.declared.Level.{Level}
use Rattle.record.specs.declared.Level.TheVariants.{Print, Named, Refused}
use Rattle.record.specs.declared.Name.{Name}
use Rattle.record.specs.declared.Name.TheVariants.{Error, Warn, Info, Debug, Trace}
use Rattle.record.specs.Records.{Given, absent, given, Record}
use Rattle.record.specs.Levels.{level_name, name_of}
use Rattle.paths.specs.Paths.{before_first, pieces, is_dropped, kept, root, starts_with_dot, leading_dot, components, last_of, slashed, joined_by_slash, file_name, after_byte, before_colons}
use Rattle.fields.specs.Texts.{no_crate, no_file, no_module, no_time, no_head, or_placeholder, there, digits, decimal_text, not_empty, time_of, wording}
use Rattle.fields.specs.Lines.{in_format, message_from, specifier_shown, segment_shown, segments_shown, print_shown, record_shown}
use Rattle.demands.proofs.Frees.{FreeMaybe, Frees, frees_append, frees_drop}
use Rattle.demands.proofs.Layouts.{quiet_laid}
use Rattle.demands.specs.Lines.{FreeGiven, FreeRecord, FreeSegment, FreeSegments}

-- ---- texts that may be missing

free_or : (p : List ℕ) → Free p → (m : Maybe (List ℕ)) → FreeMaybe m → Free (or_placeholder p m)
unfolding or_placeholder
free_or p f none h = f
free_or p f (some t) h = h

free_there : (f : List ℕ → Maybe (List ℕ)) → ((t : List ℕ) → Free t → FreeMaybe (f t)) → (g : Given) → FreeGiven g → FreeMaybe (there f g)
unfolding there
free_there f h absent k = tt
free_there f h (given t) k = h t k

-- ---- paths

frees_before_first : (b : ℕ) → (b ≡ esc → ⊥) → (x : List (List ℕ)) → Frees x → Frees (before_first b x)
unfolding before_first
frees_before_first b n [] f = ((n, tt), tt)
frees_before_first b n (a ∷ x) f = ((n, f.0), f.1)

frees_piece : (b : ℕ) (x : Bool) (rest : List (List ℕ)) → (b ≡ esc → ⊥) → Frees rest → Frees (elim x [ true ↦ [] ∷ rest | false ↦ before_first b rest ])
frees_piece b true rest n f = (tt, f)
frees_piece b false rest n f = frees_before_first b n rest f

frees_pieces : (s : List ℕ) → Free s → Frees (pieces s)
unfolding pieces
frees_pieces [] f = (tt, tt)
frees_pieces (b ∷ s) f = frees_piece b (eqb b 0x2F) (pieces s) f.0 (frees_pieces s f.1)

frees_kept_at : (a : List ℕ) (x : Bool) (rest : List (List ℕ)) → Free a → Frees rest → Frees (elim x [ true ↦ rest | false ↦ a ∷ rest ])
frees_kept_at a true rest f g = g
frees_kept_at a false rest f g = (f, g)

frees_kept : (x : List (List ℕ)) → Frees x → Frees (kept x)
unfolding kept
frees_kept [] f = tt
frees_kept (a ∷ x) f = frees_kept_at a (is_dropped a) (kept x) f.0 (frees_kept x f.1)

frees_root_at : (x : Bool) → Frees (elim x [ true ↦ bytes "/" ∷ [] | false ↦ [] ])
frees_root_at true = (free_by_test (bytes "/") refl, tt)
frees_root_at false = tt

frees_root : (s : List ℕ) → Frees (root s)
unfolding root
frees_root [] = tt
frees_root (b ∷ s) = frees_root_at (eqb b 0x2F)

frees_dot_at : (x : Bool) → Frees (elim x [ true ↦ bytes "." ∷ [] | false ↦ [] ])
frees_dot_at true = (free_by_test (bytes ".") refl, tt)
frees_dot_at false = tt

frees_dot : (s : List ℕ) → Frees (leading_dot s)
unfolding leading_dot
frees_dot s = frees_dot_at (starts_with_dot s)

frees_components : (s : List ℕ) → Free s → Frees (components s)
unfolding components
frees_components s f =
    let k = kept (pieces s) in
    frees_append (root s) (leading_dot s ++ k) (frees_root s) (frees_append (leading_dot s) k (frees_dot s) (frees_kept (pieces s) (frees_pieces s f)))

free_slashed : (x : List (List ℕ)) → Frees x → Free (slashed x)
unfolding slashed
free_slashed [] f = tt
free_slashed (a ∷ x) f = free_append (bytes "/") (a ++ slashed x) (free_by_test (bytes "/") refl) (free_append a (slashed x) f.0 (free_slashed x f.1))

free_joined : (x : List (List ℕ)) → Frees x → FreeMaybe (joined_by_slash x)
unfolding joined_by_slash
free_joined [] f = tt
free_joined (a ∷ x) f = free_append a (slashed x) f.0 (free_slashed x f.1)

free_file_name : (n : ℕ) (s : List ℕ) → Free s → FreeMaybe (file_name n s)
unfolding file_name last_of
free_file_name n s f = free_joined (last_of n (components s)) (frees_drop (length (components s) - n) (components s) (frees_components s f))

-- ---- the crate of a module path

free_after : (a : ℕ) → (a ≡ esc → ⊥) → (m : Maybe (List ℕ)) → FreeMaybe m → FreeMaybe (after_byte a m)
unfolding after_byte
free_after a n none h = tt
free_after a n (some t) h = (n, h)

free_colons_at : (a : ℕ) (x : Bool) (m : Maybe (List ℕ)) → (a ≡ esc → ⊥) → FreeMaybe m → FreeMaybe (elim x [ true ↦ some [] | false ↦ after_byte a m ])
free_colons_at a true m n h = tt
free_colons_at a false m n h = free_after a n m h

free_before_colons : (s : List ℕ) → Free s → FreeMaybe (before_colons s)
unfolding before_colons
free_before_colons [] f = tt
free_before_colons (a ∷ []) f = tt
free_before_colons (a ∷ (b ∷ s)) f =
    free_colons_at a (same (bytes "::") (a ∷ b ∷ [])) (before_colons (b ∷ s)) f.0 (free_before_colons (b ∷ s) f.1)

-- ---- numbers

free_digits_at : (n : ℕ) (x : Bool) (rest : List ℕ) → Free rest → Free (elim x [ true ↦ (0x30 + n) ∷ [] | false ↦ rest ++ (0x30 + n % 10) ∷ [] ])
free_digits_at n true rest f = ((λ e. omega arith), tt)
free_digits_at n false rest f = free_append rest ((0x30 + n % 10) ∷ []) f ((λ e. omega arith), tt)

free_digits : (k n : ℕ) → Free (digits k n)
unfolding digits
free_digits zero n = tt
free_digits (suc k) n = free_digits_at n (ltb n 10) (digits k (n / 10)) (free_digits k (n / 10))

-- ---- every specifier

free_name : (n : Name) → Free (level_name n)
free_name Error = free_by_test (level_name Error) refl
free_name Warn = free_by_test (level_name Warn) refl
free_name Info = free_by_test (level_name Info) refl
free_name Debug = free_by_test (level_name Debug) refl
free_name Trace = free_by_test (level_name Trace) refl

free_level : (l : Level) → Free (name_of l)
free_level Print = tt
free_level (Named n c) = free_name n
free_level Refused = tt

free_not_empty : (t : List ℕ) → Free t → FreeMaybe (not_empty t)
unfolding not_empty
free_not_empty [] f = tt
free_not_empty (b ∷ t) f = f

free_time : (x : Source) (t : List ℕ) → Free t → FreeMaybe (time_of x t)
unfolding time_of
free_time Defmt t f = free_not_empty t f
free_time Host t f = tt

free_wording : (r : Record) → FreeRecord r → (m : LogMetadata) → Free (wording r m)
unfolding wording decimal_text
free_wording r f CrateName = free_or no_crate (free_by_test no_crate refl) (there before_colons r.module_path) (free_there before_colons free_before_colons r.module_path f.module_path)
free_wording r f (FileName n) = free_or no_file (free_by_test no_file refl) (there (file_name n) r.file) (free_there (file_name n) (free_file_name n) r.file f.file)
free_wording r f FilePath = free_or no_file (free_by_test no_file refl) (there some r.file) (free_there some (λ t h. h) r.file f.file)
free_wording r f LineNumber = free_digits 10 r.line
free_wording r f Log = f.message
free_wording r f LogLevel = free_level r.level
free_wording r f ModulePath = free_or no_module (free_by_test no_module refl) (there some r.module_path) (free_there some (λ t h. h) r.module_path f.module_path)
free_wording r f Timestamp = free_or no_time (free_by_test no_time refl) (time_of r.source r.timestamp) (free_time r.source r.timestamp f.timestamp)
free_wording r f HeadSerial = free_or no_head (free_by_test no_head refl) (there some r.serial) (free_there some (λ t h. h) r.serial f.serial)

-- ---- whatever is shown

quiet_message : (x : Source) (r : Record) → FreeRecord r → (a : LogFormat) → Quiet (message_from x r a)
unfolding message_from in_format
quiet_message Defmt r f a = quiet_laid (in_format r Log a) (free_wording r f Log) r.source r.message f.message
quiet_message Host r f a = f.message

quiet_specifier : (r : Record) → FreeRecord r → (m : LogMetadata) (a : LogFormat) → Quiet (specifier_shown r m a)
unfolding specifier_shown in_format
quiet_specifier r f CrateName a = free_wording r f CrateName
quiet_specifier r f (FileName n) a = free_wording r f (FileName n)
quiet_specifier r f FilePath a = free_wording r f FilePath
quiet_specifier r f LineNumber a = free_wording r f LineNumber
quiet_specifier r f Log a = quiet_message r.source r f a
quiet_specifier r f LogLevel a = free_wording r f LogLevel
quiet_specifier r f ModulePath a = free_wording r f ModulePath
quiet_specifier r f Timestamp a = free_wording r f Timestamp
quiet_specifier r f HeadSerial a = free_wording r f HeadSerial

mutual
  unfolding segment_shown

  quiet_segment : (t : List ℕ) (r : Record) → FreeRecord r → (x : LogSegment) → FreeSegment t x → Quiet (segment_shown t r x)
  quiet_segment t r f (text i j) h = h
  quiet_segment t r f (specifier m a) h = quiet_specifier r f m a
  quiet_segment t r f (group s a) h = quiet_segments t r f s h

  quiet_segments : (t : List ℕ) (r : Record) → FreeRecord r → (s : LogSegments) → FreeSegments t s → Quiets (segments_shown t r s)
  quiet_segments t r f segments.none h = tt
  quiet_segments t r f (segments.more x s) h = (quiet_segment t r f x h.0, quiet_segments t r f s h.1)

quiet_print : (r : Record) → FreeRecord r → Quiet (print_shown r)
unfolding print_shown
quiet_print r f = quiet_laid (shown.text r.message) f.message r.source r.message f.message

pub quiet_record : (l : Level) (t : List ℕ) (r : Record) → FreeRecord r → (s : LogSegments) → FreeSegments t s → Quiets (record_shown l t r s)
unfolding record_shown
quiet_record Print t r f s h = (quiet_print r f, tt)
quiet_record (Named n c) t r f s h = quiet_segments t r f s h
quiet_record Refused t r f s h = (quiet_print r f, tt)
