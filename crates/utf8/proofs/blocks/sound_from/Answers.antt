-- `utf8::blocks::sound_from` meets its contract. The loop's invariant: the text is not broken up to i. Assumes nothing.
use mathlib.Core.Path.{◌≡◌, sym, subst}
use Prim.Native.Nat.{◌+◌, ◌-◌}
use native.Mathlib.Omega.{arith}
use lib.ListN.{length}
use Rattle.utf8.specs.Windows.{Told}
use Rattle.utf8.proofs.Reached.{sound_through}
use Rattle.utf8.proofs.Checking.{at_end}
use Rattle.utf8.proofs.blocks.sound_from.Goals as goal

pub loop-i-init : goal.loop-i-init
loop-i-init c = (c.requires.1, c.requires.2, c.requires.3)

pub is_sound-requires : goal.is_sound-requires
is_sound-requires c = (omega (arith, c.min-at.ensures), omega (arith, c.min-at.ensures))

pub returns-then-not-is_sound : goal.returns-then-not-is_sound
returns-then-not-is_sound c = sym (c.is_sound.ensures.1 (c.if-not-is_sound.true))

pub loop-i-preserved : goal.loop-i-preserved
loop-i-preserved c =
    let s = c.args.s.now in
    let at = c.min-at.result in
    let i = c.loop-i.i in
    let sound = c.is_sound.ensures.0 (c.if-not-is_sound.false) in (
      omega arith,
      omega (arith, c.min-at.ensures),
      sound_through s i (at + 32) ((at + 32) - i) (omega (arith, c.min-at.ensures)) (λ k f. sound k (omega (arith, c.min-at.ensures))) c.loop-i.invariant.2,
    )

pub returns : goal.returns
returns c =
    let s = c.args.s.now in
    let e : c.loop-i.i ≡ length s = omega arith in
    at_end s c.due_at.result (omega arith) (subst (Told s) e c.loop-i.invariant.2) c.due_at.ensures
