-- `prefix::length::prefix_len` meets its contract: the sum is the length of the codes, each with the byte after it. Assumes nothing.
use native.Mathlib.Omega.{arith}
use mathlib.Core.Path.{◌≡◌, refl, sym, ◌∙◌}
use borrow.Author.Tests.{not-true, not-false}
use Prim.Native.Nat.{◌+◌, ◌*◌}
use lib.ListN.{length}
use Rattle.colour.specs.Looks.{codes, following}
use Rattle.colour.specs.Formatting.{prefix_in}
use Rattle.prefix.proofs.Lengths.{length_codes, length_none, length_some, counted_few}
use Rattle.prefix.proofs.length.prefix_len.Goals as goal

pub returns-then-not-s : goal.returns-then-not-s
unfolding prefix_in
returns-then-not-s c = rw (not-true c.args.s.colour c.if-not-s.true, prefix_in) (refl, omega arith)

pub returns-then-n-eq0 : goal.returns-then-n-eq0
unfolding prefix_in
returns-then-n-eq0 c =
    let m : length (following (codes c.args.k)) ≡ 0 = omega (arith, length_codes c.args.k) in
    rw (not-false c.args.s.colour c.if-not-s.false, prefix_in) (sym (length_none c.args.k m), omega arith)

pub returns-else-n-eq0 : goal.returns-else-n-eq0
unfolding prefix_in
returns-else-n-eq0 c =
    let y = c.args.k.styles in
    let m : length (following (codes c.args.k)) ≡ 2 * c.count_styles.result + c.ink_len.result = omega (arith, length_codes c.args.k) in
    rw (not-false c.args.s.colour c.if-not-s.false, prefix_in) (omega (arith, length_some c.args.k (λ z. c.if-n-eq0.false (sym m ∙ z))), omega (arith, counted_few y.bold y.dimmed y.underline y.italic y.strike))
