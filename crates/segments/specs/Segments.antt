-- What a template is read as: segments, in groups and alone. Assumes nothing.
use Rattle.std.specs.Prelude.{ℕ, Bool, true, false, ◌||◌}
use Rattle.words.specs.declared.LogMetadata.{LogMetadata}
use Rattle.words.specs.declared.LogMetadata.TheVariants.{CrateName, FileName, FilePath, LineNumber, Log, LogLevel, ModulePath, Timestamp, HeadSerial}
use Rattle.words.specs.declared.LogFormat.{LogFormat}

-- "Each text, specifier and group is a segment": a text is a place in the template (its bytes from one place up to another)
mutual
  pub data LogSegment : Type 0 where
    text : ℕ → ℕ → LogSegment
    specifier : LogMetadata → LogFormat → LogSegment
    group : LogSegments → LogFormat → LogSegment

  pub data LogSegments : Type 0 where
    none : LogSegments
    more : LogSegment → LogSegments → LogSegments

infixl 40 ◌and_then◌
-- one segment more, at the end
unfoldable pub ◌and_then◌ : LogSegments → LogSegment → LogSegments
none and_then x = more x none
(more y rest) and_then x = more y (rest and_then x)

-- a specifier, not a text or a group
abbrev pub is_specifier : LogSegment → Bool
is_specifier (text i j) = false
is_specifier (specifier m f) = true
is_specifier (group s f) = false

-- "at least one specifier as a direct member"
unfoldable pub any_specifier : LogSegments → Bool
any_specifier none = false
any_specifier (more x rest) = is_specifier x || any_specifier rest

-- `{s}`
abbrev pub is_log : LogMetadata → Bool
is_log CrateName = false
is_log (FileName n) = false
is_log FilePath = false
is_log LineNumber = false
is_log Log = true
is_log LogLevel = false
is_log ModulePath = false
is_log Timestamp = false
is_log HeadSerial = false

-- `{t}`
abbrev pub is_timestamp : LogMetadata → Bool
is_timestamp CrateName = false
is_timestamp (FileName n) = false
is_timestamp FilePath = false
is_timestamp LineNumber = false
is_timestamp Log = false
is_timestamp LogLevel = false
is_timestamp ModulePath = false
is_timestamp Timestamp = true
is_timestamp HeadSerial = false

-- a specifier of some kind is named "at any depth"
unfoldable mutual
  pub named_in : (LogMetadata → Bool) → LogSegment → Bool
  named_in kind (text i j) = false
  named_in kind (specifier m f) = kind m
  named_in kind (group s f) = named_among kind s

  pub named_among : (LogMetadata → Bool) → LogSegments → Bool
  named_among kind none = false
  named_among kind (more x rest) = named_in kind x || named_among kind rest
