-- What is named of a kind that two tests tell alike, and of the two kinds that templates are searched for. Assumes nothing.
use mathlib.Core.Path.{◌≡◌, refl, ap, ◌∙◌}
use mathlib.Core.Bool.{Bool, ◌||◌}
use Rattle.words.specs.declared.LogMetadata.{LogMetadata}
use Rattle.words.specs.declared.LogMetadata.TheVariants.{CrateName, FileName, FilePath, LineNumber, Log, LogLevel, ModulePath, Timestamp, HeadSerial}
use Rattle.segments.specs.Segments.{LogSegment, LogSegments, text, specifier, group, none, more, is_log, is_timestamp, named_in, named_among}
use Rattle.naming.specs.Wanted.{is_wanted}

module _ (f g : LogMetadata → Bool) (e : (m : LogMetadata) → f m ≡ g m) where
  mutual
    unfolding named_in named_among

    alike : (x : LogSegment) → named_in f x ≡ named_in g x
    alike (text i j) = refl
    alike (specifier m w) = e m
    alike (group s w) = among_alike s

    among_alike : (s : LogSegments) → named_among f s ≡ named_among g s
    among_alike none = refl
    among_alike (more x rest) = ap (λ (b : Bool). b || named_among f rest) (alike x) ∙ ap (λ (b : Bool). named_in g x || b) (among_alike rest)

log_is : (m : LogMetadata) → is_wanted Log m ≡ is_log m
log_is CrateName = refl
log_is (FileName n) = refl
log_is FilePath = refl
log_is LineNumber = refl
log_is Log = refl
log_is LogLevel = refl
log_is ModulePath = refl
log_is Timestamp = refl
log_is HeadSerial = refl

timestamp_is : (m : LogMetadata) → is_wanted Timestamp m ≡ is_timestamp m
timestamp_is CrateName = refl
timestamp_is (FileName n) = refl
timestamp_is FilePath = refl
timestamp_is LineNumber = refl
timestamp_is Log = refl
timestamp_is LogLevel = refl
timestamp_is ModulePath = refl
timestamp_is Timestamp = refl
timestamp_is HeadSerial = refl

pub message_named : (s : LogSegments) → named_among (is_wanted Log) s ≡ named_among is_log s
message_named s = among_alike _ _ log_is s

pub time_named : (s : LogSegments) → named_among (is_wanted Timestamp) s ≡ named_among is_timestamp s
time_named s = among_alike _ _ timestamp_is s
