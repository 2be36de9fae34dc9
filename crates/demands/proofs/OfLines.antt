-- Demand 3 holds of every template and record. Assumes nothing.
use mathlib.Core.List.{List}
use Prim.Native.Nat.{ℕ}
use Rattle.colour.specs.declared.Settings.{Settings}
use Rattle.segments.specs.Segments.{LogSegments}
use Rattle.record.specs.Records.{Record}
use Rattle.fields.specs.Lines.{record_shown, line_of}
use Rattle.demands.specs.Lines.{LineDemand3}
use Rattle.demands.proofs.Holds.{demand3}
use Rattle.demands.proofs.Quiet.{quiet_record}

pub line_demand3 : (settings : Settings) (t : List ℕ) (s : LogSegments) (r : Record) → LineDemand3 settings t s r
unfolding line_of
line_demand3 settings t s r =
    let d = demand3 settings (record_shown r.level t r s) in
    record {
      same = λ h f. d.same (quiet_record r.level t r f s h);
      fills_plain = d.fills_plain;
      fills_straight = d.fills_straight;
      falls_short = d.falls_short;
    }
