-- `rows::segment::is_empty` meets its contract. Assumes nothing.
use borrow.Author.Tests.{eq-eqb, ne_eqb}
use mathlib.Core.Path.{sym, ap, ◌∙◌}
use mathlib.Core.Bool.{Bool, ◌&&◌}
use Prim.Native.Nat.{ℕ}
use lib.Dec.{eqb}
use lib.ListN.{length}
use Rattle.colour.specs.declared.Settings.{Settings}
use Rattle.colour.specs.Formatting.{prefix_in}
use Rattle.dress.specs.declared.Frame.{Frame}
use Rattle.rows.specs.Rows.{is_empty}
use Rattle.rows.proofs.segment.is_empty.Goals as goal
use Rattle.rows.proofs.segment.is_empty.Goals.{else-w-eq0-via-then-w-eq0+else-w-eq0-2, else-w-eq0-via-else-w-eq0}

-- where its padding is told on either side
abbrev told : Settings → Frame → Bool → Bool → Bool
told s w left right = left && (right && eqb (length (prefix_in s.colour w.format.look)) 0)

pub returns-then-w-eq0-2 : goal.returns-then-w-eq0-2
unfolding is_empty
returns-then-w-eq0-2 c =
    ap (λ (n : ℕ). eqb n 0) c.prefix_len.ensures.0
    ∙ sym (λ j. told c.args.s c.args.w (eq-eqb c.args.w.left 0 c.if-w-eq0.true j) (eq-eqb c.args.w.right 0 c.if-w-eq0-2.true j))

pub returns : goal.returns
unfolding is_empty
returns c = elim c.else-w-eq0.branch [
  | else-w-eq0-via-then-w-eq0+else-w-eq0-2 w ↦ sym (λ j. told c.args.s c.args.w (eq-eqb c.args.w.left 0 w.if-w-eq0.true j) (ne_eqb c.args.w.right 0 w.if-w-eq0-2.false j))
  | else-w-eq0-via-else-w-eq0 w ↦ sym (ap (λ (b : Bool). told c.args.s c.args.w b (eqb c.args.w.right 0)) (ne_eqb c.args.w.left 0 w.if-w-eq0.false))
]
