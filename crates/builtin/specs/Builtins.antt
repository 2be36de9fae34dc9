-- The eight built-in templates (document 01, "Built-in templates"; in the crate: `DefaultStyle` and `OneLineStyle`). Assumes nothing.
use Rattle.std.specs.Prelude.{ℕ, Bool, true, false, List, ◌++◌}
use Rattle.buffer.specs.Bytes.{bytes}
use Rattle.builtin.specs.declared.Style.{Style}
use Rattle.builtin.specs.declared.Style.TheVariants.{Default, OneLine}

-- "They are chosen by style, location and timestamp"
unfoldable pub builtin : Style → Bool → Bool → List ℕ
builtin Default false false = bytes "{L} {s}"
builtin Default false true = bytes "{t} {L} {s}"
builtin Default true false = bytes "{L} {s}\n└─ {m} @ {F}:{l}"
builtin Default true true = bytes "{t} {L} {s}\n└─ {m} @ {F}:{l}"
builtin OneLine false false = bytes "{[{L}]%bold} {s}"
builtin OneLine false true = bytes "{t} {[{L}]%bold} {s}"
builtin OneLine true false = bytes "{[{L}]%bold} {s} {({c:bold} {fff}:{l:1})%dimmed}"
builtin OneLine true true = bytes "{t} {[{L}]%bold} {s} {({c:bold} {fff}:{l:1})%dimmed}"

-- "a host formatter appends ` (HOST)`"
unfoldable pub for_host : Bool → List ℕ → List ℕ
for_host true t = t ++ bytes " (HOST)"
for_host false t = t

-- the template that a formatter reads
abbrev pub builtin_text : Style → Bool → Bool → Bool → List ℕ
builtin_text style location timestamp host = for_host host (builtin style location timestamp)
