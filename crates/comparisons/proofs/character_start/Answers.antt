-- `comparisons::character_start` meets its contract. Assumes nothing.
use native.Mathlib.Omega.{arith}
use Prim.Native.Nat.{ℕ, ◌+◌, ◌-◌, ◌<◌}
use mathlib.Core.Path.{refl, subst, ◌∙◌}
use lib.ListN.{get_or}
use Rattle.buffer.proofs.Parts.{part_length}
use Rattle.comparisons.specs.Places.{Starts}
use Rattle.comparisons.proofs.Splitting.{goes_at, last_at, only_at}
use Rattle.comparisons.proofs.Finding.{at_part, in_whole, trails_part, starts_by}
use Rattle.comparisons.proofs.character_start.Goals as goal

pub returns-in-Some : goal.returns-in-Some
returns-in-Some c =
    let d = c.args.d.now in
    let i = c.args.i + 1 in
    let e = c.args.e in
    let n = c.in-Some.n in
    let f = rw c.in-Some.is at c.last_start.ensures in
    let l = part_length d i e (omega arith) c.requires.1 in
    let h : i + n < e = omega (arith, f.0, c.requires.0) in
    let none = in_whole (λ (b : ℕ). Starts b → ⊥) d i e (n + 1) (e - i) (omega arith) (λ k a b. f.2 k (omega arith) (omega arith)) in
    let t = trails_part d e c.requires.1 (e - (i + n + 1)) (i + n + 1) (omega arith) (λ k a b. none k (omega arith) (omega arith)) in
    let s = starts_by (get_or d (i + n) 0) (subst Starts (at_part d i e n (omega arith)) f.1) in
    ((omega arith, h), last_at d c.args.i (i + n) e (omega arith) h c.requires.1 t (goes_at d (i + n) e h c.requires.1 ∙ s))

pub returns-in-None : goal.returns-in-None
returns-in-None c =
    let d = c.args.d.now in
    let i = c.args.i + 1 in
    let e = c.args.e in
    let f = rw c.in-None.is at c.last_start.ensures in
    let l = part_length d i e (omega arith) c.requires.1 in
    let none = in_whole (λ (b : ℕ). Starts b → ⊥) d i e 0 (e - i) (omega arith) (λ k a b. f k (omega arith)) in
    let t = trails_part d e c.requires.1 (e - i) i (omega arith) (λ k a b. none k (omega arith) (omega arith)) in
    ((omega arith, c.requires.0), only_at d c.args.i c.args.i e refl c.requires.0 c.requires.1 t)
