-- `comparisons::line_at` meets its contract. Assumes nothing.
use native.Mathlib.Omega.{arith}
use Prim.Native.Nat.{ℕ, ◌+◌, ◌-◌, ◌<◌}
use mathlib.Core.Path.{◌≡◌, sym, ◌∙◌}
use Rattle.buffer.proofs.Parts.{part_length}
use Rattle.comparisons.proofs.Lining.{line_open, line_ended}
use Rattle.comparisons.proofs.Finding.{at_part, in_whole, single_part}
use Rattle.comparisons.proofs.line_at.Goals as goal

pub returns-in-Some : goal.returns-in-Some
returns-in-Some c =
    let d = c.args.d.now in
    let i = c.args.i in
    let e = c.args.e in
    let n = c.in-Some.n in
    let f = rw c.in-Some.is at c.newline_in.ensures in
    let l = part_length d i e (omega arith) c.requires.1 in
    let h : i + n < e = omega (arith, f.0, c.requires.0) in
    let none = in_whole (λ (b : ℕ). b ≡ 0x0A → ⊥) d i e 0 n (omega arith) (λ k a b. f.2 k b) in
    line_ended d i (i + n) e _ (omega arith) h c.requires.1 (single_part d (i + n) (omega (arith, c.requires.1)) n i (omega arith) (λ k a b. none k (omega arith) b)) (sym (at_part d i e n (omega arith)) ∙ f.1) c.ended_line.ensures.0 c.ended_line.ensures.1.0 c.ended_line.ensures.1.1

pub returns-in-None : goal.returns-in-None
returns-in-None c =
    let d = c.args.d.now in
    let i = c.args.i in
    let e = c.args.e in
    let f = rw c.in-None.is at c.newline_in.ensures in
    let l = part_length d i e (omega arith) c.requires.1 in
    let none = in_whole (λ (b : ℕ). b ≡ 0x0A → ⊥) d i e 0 (e - i) (omega arith) (λ k a b. f k (omega arith)) in
    line_open d i e c.requires.0 c.requires.1 (single_part d e c.requires.1 (e - i) i (omega arith) (λ k a b. none k (omega arith) (omega arith)))
