-- `characters::count_chars` meets its contract. The loop's invariant: a byte passed begins a character or was counted, and b was met or is
-- still to come. Assumes nothing.
use native.Mathlib.Omega.{arith}
use mathlib.Core.Path.{◌≡◌, ap, sym, ◌∙◌}
use mathlib.Core.List.{List, ◌++◌}
use Prim.Native.Nat.{ℕ, ◌+◌}
use lib.ListN.{drop, take-append-drop}
use Rattle.characters.specs.Characters.{chars}
use Rattle.characters.proofs.Counting.{chars_append, met_round}
use Rattle.characters.proofs.count_chars.Goals as goal

pub loop-round-preserved : goal.loop-round-preserved
loop-round-preserved c =
    let l = c.loop-round.invariant in
    let t = c.in-Some.ensures.cases in
    let x = c.in-Some.round.now in
    let r = c.loop-round.rest.now in
    let e = sym (take-append-drop 128 r) ∙ ap (λ (y : List ℕ). y ++ drop 128 r) (sym t.1) ∙ ap (λ (y : List ℕ). x ++ y) (sym t.2) in
    let k : chars r ≡ chars x + chars c.in-Some.others.now = ap chars e ∙ chars_append x c.in-Some.others.now in
    record {
      few = omega arith;
      counted = omega arith;
      met = met_round c.args.b _ x _ c.loop-round.met _ e c.tally-t.ensures.met_value ∙ l.met;
    }

pub returns : goal.returns
returns c =
    let l = c.loop-round.invariant in
    record {
      chars_value = omega arith;
      met_value = c.tally-last.ensures.met_value ∙ l.met;
    }
