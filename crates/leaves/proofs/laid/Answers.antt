-- `leaves::laid` meets its contract. Assumes nothing.
use Rattle.std.specs.Prelude.{Option, None}
use mathlib.Core.Path.{◌≡◌, refl, sym, ap}
use Rattle.words.specs.declared.LogMetadata.{LogMetadata}
use Rattle.comparisons.specs.declared.Spans.{Spans}
use Rattle.leaves.specs.declared.Shown.{Shown}
use Rattle.leaves.specs.Fields.{laid}
use Rattle.leaves.proofs.laid.Goals as goal

-- the other arm: each of the other variants
not_log : (x : Shown) (m : LogMetadata) → (m ≡ LogMetadata.Log → ⊥) → ◌≡◌ {A = Option Spans} None (laid x m)
unfolding laid
not_log x LogMetadata.CrateName h = refl
not_log x (LogMetadata.FileName k) h = refl
not_log x LogMetadata.FilePath h = refl
not_log x LogMetadata.LineNumber h = refl
not_log x LogMetadata.Log h = absurd (h refl)
not_log x LogMetadata.LogLevel h = refl
not_log x LogMetadata.ModulePath h = refl
not_log x LogMetadata.Timestamp h = refl
not_log x LogMetadata.HeadSerial h = refl

pub returns-in_default : goal.returns-in_default
returns-in_default c = not_log c.args.shown.now c.args.m c.in_default.not-Log

pub returns-in-Log : goal.returns-in-Log
unfolding laid
returns-in-Log c = sym (ap (laid c.args.shown.now) c.in-Log.is)
