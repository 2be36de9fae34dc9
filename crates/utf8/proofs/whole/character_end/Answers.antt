-- `utf8::whole::character_end` meets its contract. Assumes nothing.
use native.Mathlib.Omega.{arith}
use mathlib.Core.Path.{◌∙◌, subst, sym}
use mathlib.Core.List.{[], ◌∷◌}
use Prim.Native.Nat.{◌+◌, ◌-◌}
use lib.ListN.{length, get_or}
use borrow.Author.Tests.{lt-leb}
use Rattle.utf8.specs.Windows.{Whole}
use Rattle.utf8.proofs.Reached.{ascii_on}
use Rattle.utf8.proofs.Wholes.{short, short_of_two, short_of_three, short_of_four, reached_two, reached_three, reached_four, taken}
use Rattle.utf8.proofs.whole.character_end.Goals as goal
use Rattle.utf8.proofs.whole.character_end.Goals.{then-n-ge2, else-n-ge2, then-n-ge3, else-n-ge3, then-n-ge4, else-n-ge4}

pub returns-then-a-lt128 : goal.returns-then-a-lt128
returns-then-a-lt128 c = (omega arith, omega arith, ascii_on c.args.s.now c.args.i c.requires.0 c.if-a-lt128.true c.requires.1)

pub returns-then-a-lt224 : goal.returns-then-a-lt224
returns-then-a-lt224 c =
    let s = c.args.s.now in
    let i = c.args.i in
    elim c.if-n-ge2.branch [
      | then-n-ge2 w ↦
          let t = get_or s i 0 ∷ get_or s (i + 1) 0 ∷ [] in
          taken s i 2 t (omega (arith, w.if-n-ge2.true)) (reached_two s i (omega (arith, w.if-n-ge2.true)) c.requires.1) _ _
          (subst (Whole t) (sym w.then_some-is) w.is_two.ensures) c.then_some.ensures (omega arith)
      | else-n-ge2 w ↦
          short s (i + 1) (i + 2) _ _ (w.then_some-is ∙ lt-leb 2 (length s - i) w.if-n-ge2.false) c.then_some.ensures
          (short_of_two s i c.requires.0 c.requires.1 c.if-a-lt128.false w.if-n-ge2.false)
    ]

pub returns-then-a-lt240 : goal.returns-then-a-lt240
returns-then-a-lt240 c =
    let s = c.args.s.now in
    let i = c.args.i in
    elim c.if-n-ge3.branch [
      | then-n-ge3 w ↦
          let t = get_or s i 0 ∷ get_or s (i + 1) 0 ∷ get_or s (i + 2) 0 ∷ [] in
          taken s i 3 t (omega (arith, w.if-n-ge3.true)) (reached_three s i (omega (arith, w.if-n-ge3.true)) c.requires.1) _ _
          (subst (Whole t) (sym w.then_some-is) w.is_three.ensures) c.then_some-then-a-lt240.ensures (omega arith)
      | else-n-ge3 w ↦
          short s (i + 1) (i + 3) _ _ (w.then_some-is ∙ lt-leb 3 (length s - i) w.if-n-ge3.false) c.then_some-then-a-lt240.ensures
          (short_of_three s i c.requires.0 c.if-a-lt224.false w.if-n-ge3.false)
    ]

pub returns : goal.returns
returns c =
    let s = c.args.s.now in
    let i = c.args.i in
    elim c.if-n-ge4.branch [
      | then-n-ge4 w ↦
          let t = get_or s i 0 ∷ get_or s (i + 1) 0 ∷ get_or s (i + 2) 0 ∷ get_or s (i + 3) 0 ∷ [] in
          taken s i 4 t (omega (arith, w.if-n-ge4.true)) (reached_four s i (omega (arith, w.if-n-ge4.true)) c.requires.1) _ _
          (subst (Whole t) (sym w.then_some-is) w.is_four.ensures) c.then_some-2.ensures (omega arith)
      | else-n-ge4 w ↦
          short s (i + 1) (i + 4) _ _ (w.then_some-is ∙ lt-leb 4 (length s - i) w.if-n-ge4.false) c.then_some-2.ensures
          (short_of_four s i c.requires.0 c.if-a-lt240.false w.if-n-ge4.false)
    ]
