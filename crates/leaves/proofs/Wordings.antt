-- How long the text of a specifier is at most, where the record's texts are short. Assumes nothing.
use Prim.Native.Nat.{ℕ, zero, suc, ◌+◌, ◌-◌, ◌/◌, ◌%◌, ◌≤◌, ◌<◌, ◌^◌}
use mathlib.Core.Path.{◌≡◌}
use mathlib.Core.Bool.{Bool, true, false}
use mathlib.Core.List.{List, [], ◌∷◌, ◌++◌}
use native.Mathlib.Omega.{arith}
use native.Mathlib.Decide.{dec_lt}
use borrow.Author.Tests.{lt-ltb, le-ltb}
use lib.ListN.{length, drop, length-append}
use Rattle.buffer.specs.Bytes.{bytes, same}
use Rattle.buffer.specs.Table.{Maybe, none, some}
use Rattle.words.specs.declared.LogMetadata.{LogMetadata}
use Rattle.words.specs.declared.LogMetadata.TheVariants.{CrateName, FileName, FilePath, LineNumber, Log, LogLevel, ModulePath, Timestamp, HeadSerial}
use Rattle.record.specs.declared.Source.{Source}
use Rattle.record.specs.declared.Level.{Level}
use Rattle.record.specs.declared.Level.TheVariants.{Print, Named, Refused}
use Rattle.record.specs.declared.Name.TheVariants.{Error, Warn, Info, Debug, Trace}
use Rattle.record.specs.Layout.{Laid}
use Rattle.record.specs.Levels.{level_of, name_of}
use Rattle.record.specs.Contents.{source_of, has_file, has_module, has_serial, given_if, record_of}
use Rattle.paths.specs.Paths.{components, last_of, slashed, joined_by_slash, file_name, after_byte, before_colons}
use Rattle.paths.proofs.Short.{slashed_first, slashed_components}
use Rattle.fields.specs.Texts.{no_crate, no_file, no_module, no_time, no_head, or_placeholder, there, digits, decimal_text, not_empty, time_of, wording}
use Rattle.colour.specs.declared.Settings.{Settings}
use Rattle.leaves.specs.Places.{Short}
use Rattle.leaves.specs.Fields.{field_text}
use Rattle.leaves.proofs.Fields.{message_small}

-- a text of n bytes at most, if there is one
abbrev Within : ℕ → Maybe (List ℕ) → Type 0
Within n none = Unit {0}
Within n (some t) = length t ≤ n

placeholder : (p : List ℕ) (y : Maybe (List ℕ)) (n : ℕ) → length p ≤ n → Within n y → length (or_placeholder p y) ≤ n
unfolding or_placeholder
placeholder p none n h g = h
placeholder p (some t) n h g = g

there_within : (f : List ℕ → Maybe (List ℕ)) (b : Bool) (t : List ℕ) (n : ℕ) → Within n (f t) → Within n (there f (given_if b t))
unfolding there given_if
there_within f true t n h = h
there_within f false t n h = tt

-- ---- the crate of a module path

after_within : (b n : ℕ) (y : Maybe (List ℕ)) → Within n y → Within (suc n) (after_byte b y)
unfolding after_byte
after_within b n none h = tt
after_within b n (some t) h = omega arith

colons_within : (x : List ℕ) → Within (length x) (before_colons x)
unfolding before_colons
colons_within [] = tt
colons_within (a ∷ []) = tt
colons_within (a ∷ (b ∷ s)) = by (same (bytes "::") (a ∷ b ∷ [])) (colons_within (b ∷ s))
  where
    by : (v : Bool) → Within (suc (length s)) (before_colons (b ∷ s))
        → Within (suc (suc (length s))) (elim v [ true ↦ some [] | false ↦ after_byte a (before_colons (b ∷ s)) ])
    by true h = omega arith
    by false h = after_within a (suc (length s)) (before_colons (b ∷ s)) h

-- ---- paths

drop_small : (n : ℕ) (xs : List (List ℕ)) → length (slashed (drop n xs)) ≤ length (slashed xs)
drop_small zero xs = omega arith
drop_small (suc n) [] = omega arith
drop_small (suc n) (x ∷ xs) = omega (arith, drop_small n xs, slashed_first x xs)

joined_within : (xs : List (List ℕ)) (n : ℕ) → length (slashed xs) ≤ n → Within n (joined_by_slash xs)
unfolding joined_by_slash
joined_within [] n h = tt
joined_within (x ∷ xs) n h = omega (arith, slashed_first x xs, length-append x (slashed xs))

name_within : (n : ℕ) (x : List ℕ) → Within (length x + 5) (file_name n x)
unfolding file_name last_of
name_within n x =
    let xs = components x in
    joined_within (drop (length xs - n) xs) (length x + 5) (omega (arith, drop_small (length xs - n) xs, slashed_components x))

-- ---- numbers, levels and times

digits_small : (k n : ℕ) → length (digits k n) ≤ k
unfolding digits
digits_small zero n = omega arith
digits_small (suc k) n = elim (dec_lt n 10) [
  | yes h ↦ let z : length (digits (suc k) n) ≡ 1 = rw (lt-ltb n 10 h, digits) in omega arith
  | no h ↦
      let z : length (digits (suc k) n) ≡ length (digits k (n / 10) ++ (0x30 + n % 10) ∷ []) = rw (le-ltb n 10 (omega arith), digits) in
      omega (arith, length-append (digits k (n / 10)) ((0x30 + n % 10) ∷ []), digits_small k (n / 10))
]

name_small : (l : Level) → length (name_of l) ≤ 5
name_small Print = omega arith
name_small (Named Error c) = omega arith
name_small (Named Warn c) = omega arith
name_small (Named Info c) = omega arith
name_small (Named Debug c) = omega arith
name_small (Named Trace c) = omega arith
name_small Refused = omega arith

time_within : (q : Source) (t : List ℕ) → Within (length t) (time_of q t)
unfolding time_of not_empty
time_within Source.Defmt [] = tt
time_within Source.Defmt (b ∷ t) = omega arith
time_within Source.Host t = tt

weaker : (y : Maybe (List ℕ)) (m n : ℕ) → m ≤ n → Within m y → Within n y
weaker none m n h g = tt
weaker (some t) m n h g = omega arith

-- twice the longest text and a few bytes: far more than any wording has, and what is counted with it stays small
pub wording_short : (d : Laid) → Short d → (m : LogMetadata) → length (wording (record_of d) m) ≤ 8200
unfolding record_of wording decimal_text
wording_short d h CrateName =
    placeholder no_crate (there before_colons (given_if (has_module d) d.module_path)) 8200 (omega arith)
    (there_within before_colons (has_module d) d.module_path 8200
    (weaker (before_colons d.module_path) (length d.module_path) 8200 (omega (arith, h.module_path)) (colons_within d.module_path)))
wording_short d h (FileName n) =
    placeholder no_file (there (file_name n) (given_if (has_file d) d.file)) 8200 (omega arith)
    (there_within (file_name n) (has_file d) d.file 8200 (weaker (file_name n d.file) (length d.file + 5) 8200 (omega (arith, h.file)) (name_within n d.file)))
wording_short d h FilePath =
    placeholder no_file (there some (given_if (has_file d) d.file)) 8200 (omega arith)
    (there_within some (has_file d) d.file 8200 (omega (arith, h.file)))
wording_short d h LineNumber = omega (arith, digits_small 10 d.line)
wording_short d h Log = omega (arith, h.message)
wording_short d h LogLevel = omega (arith, name_small (level_of d.level))
wording_short d h ModulePath =
    placeholder no_module (there some (given_if (has_module d) d.module_path)) 8200 (omega arith)
    (there_within some (has_module d) d.module_path 8200 (omega (arith, h.module_path)))
wording_short d h Timestamp =
    placeholder no_time (time_of (source_of d.source) d.timestamp) 8200 (omega arith)
    (weaker (time_of (source_of d.source) d.timestamp) (length d.timestamp) 8200 (omega (arith, h.timestamp)) (time_within (source_of d.source) d.timestamp))
wording_short d h HeadSerial =
    placeholder no_head (there some (given_if (has_serial d) d.serial)) 8200 (omega arith)
    (there_within some (has_serial d) d.serial 8200 (omega (arith, h.serial)))

-- and what it shows
pub field_short : (s : Settings) (d : Laid) → Short d → (m : LogMetadata) → length (field_text s (record_of d) m) < 2 ^ 18
unfolding record_of field_text
field_short s d h CrateName = omega (arith, wording_short d h CrateName)
field_short s d h (FileName n) = omega (arith, wording_short d h (FileName n))
field_short s d h FilePath = omega (arith, wording_short d h FilePath)
field_short s d h LineNumber = omega (arith, wording_short d h LineNumber)
field_short s d h Log = message_small s (record_of d) h.message
field_short s d h LogLevel = omega (arith, wording_short d h LogLevel)
field_short s d h ModulePath = omega (arith, wording_short d h ModulePath)
field_short s d h Timestamp = omega (arith, wording_short d h Timestamp)
field_short s d h HeadSerial = omega (arith, wording_short d h HeadSerial)
