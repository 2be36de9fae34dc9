-- `rows::segment::is_bare_field` meets its contract. Assumes nothing.
use mathlib.Core.Path.{◌≡◌, refl, sym, ap, ◌∙◌}
use mathlib.Core.Bool.{Bool, true, false, ◌||◌}
use Rattle.words.specs.declared.LogMetadata.{LogMetadata}
use Rattle.record.specs.declared.Source.{Source}
use Rattle.leaves.specs.declared.Shown.{Shown}
use Rattle.leaves.specs.Places.{has_comparison, source_by}
use Rattle.rows.specs.Texts.{is_host, bare_by, bare_from}
use Rattle.rows.proofs.segment.is_bare_field.Goals as goal
use Rattle.rows.proofs.segment.is_bare_field.Goals.{in-Host, in_default-matches}

-- the other arm: each of the other variants
not_log : (q : Bool) (m : LogMetadata) → (m ≡ LogMetadata.Log → ⊥) → false ≡ bare_from q m
unfolding bare_from
not_log q LogMetadata.CrateName h = refl
not_log q (LogMetadata.FileName n) h = refl
not_log q LogMetadata.FilePath h = refl
not_log q LogMetadata.LineNumber h = refl
not_log q LogMetadata.Log h = absurd (h refl)
not_log q LogMetadata.LogLevel h = refl
not_log q LogMetadata.ModulePath h = refl
not_log q LogMetadata.Timestamp h = refl
not_log q LogMetadata.HeadSerial h = refl

no_host : (q : Source) → (q ≡ Source.Host → ⊥) → q ≡ Source.Defmt
no_host Source.Defmt h = refl
no_host Source.Host h = absurd (h refl)

bare_host : (x : Shown) (m : LogMetadata) → m ≡ LogMetadata.Log → source_by x ≡ Source.Host → true ≡ bare_from (bare_by x) m
unfolding bare_from bare_by is_host
bare_host x m e q = sym (ap (bare_from (bare_by x)) e ∙ ap (λ (y : Source). is_host y || has_comparison x) q)

bare_device : (x : Shown) (m : LogMetadata) → m ≡ LogMetadata.Log → source_by x ≡ Source.Defmt → has_comparison x ≡ bare_from (bare_by x) m
unfolding bare_from bare_by is_host
bare_device x m e q = sym (ap (bare_from (bare_by x)) e ∙ ap (λ (y : Source). is_host y || has_comparison x) q)

pub returns-in_default : goal.returns-in_default
returns-in_default c = not_log (bare_by c.args.shown.now) c.args.m c.in_default.not-Log

pub returns-then-matches : goal.returns-then-matches
unfolding source_by
returns-then-matches c = elim c.match-matches.branch [
  | in-Host w ↦ w.matches-is ∙ bare_host c.args.shown.now c.args.m c.in-Log.is (sym c.source_of.ensures ∙ w.in-Host.is)
  | in_default-matches w ↦ let z : false ≡ true = sym w.matches-is ∙ c.if-matches.true in cc
]

pub returns-else-matches : goal.returns-else-matches
unfolding source_by has_comparison
returns-else-matches c = elim c.match-matches.branch [
  | in-Host w ↦ let z : true ≡ false = sym w.matches-is ∙ c.if-matches.false in cc
  | in_default-matches w ↦ c.is_some.ensures ∙ bare_device c.args.shown.now c.args.m c.in-Log.is (sym c.source_of.ensures ∙ no_host _ w.in_default-matches.not-Host)
]
