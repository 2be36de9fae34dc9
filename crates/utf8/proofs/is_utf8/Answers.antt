-- `utf8::is_utf8` meets its contract: ASCII, a short text by characters, a longer one by blocks. Assumes nothing.
use mathlib.Core.Path.{◌≡◌, sym, ap, ◌∙◌}
use mathlib.Core.Bool.{true}
use mathlib.Core.List.{List, [], append-nil}
use Prim.Native.Nat.{ℕ, ◌+◌, ◌-◌, ◌<◌, ◌≤◌}
use native.Mathlib.Decide.{dec_lt}
use native.Mathlib.Omega.{arith}
use lib.ListN.{length, drop, length-drop}
use lib.Seq.{take_all}
use Rattle.buffer.specs.Bytes.{part}
use Rattle.buffer.proofs.Parts.{part_length}
use Rattle.utf8.specs.Utf8.{awaited, complete, valid}
use Rattle.utf8.specs.Windows.{reached, top_of}
use Rattle.utf8.proofs.Reached.{reached_all, ascii_over, told_ended}
use Rattle.utf8.proofs.is_utf8.Goals as goal

-- ASCII up to the end
ascii_end : (s : List ℕ) (i g : ℕ) → i ≤ length s → g ≡ top_of (part i (length s) s) → g < 0x80 → reached s i ≡ awaited [] → true ≡ valid s
ascii_end s i g h e t r =
    let w = ascii_over s i (part i (length s) s) [] (sym (append-nil (part i (length s) s) ∙ take_all (length s - i) (drop i s) (omega (arith, length-drop i s)))) h r (omega arith) in
    let n : i + length (part i (length s) s) ≡ length s = omega (arith, part_length s i (length s) h) in
    sym (ap complete w.1) ∙ ap (λ (k : ℕ). complete (reached s k)) n ∙ reached_all s

-- where more is left after them, the text is long
long : (n i r e : ℕ) → (n < i + 38 → r ≡ n) → (i + 38 ≤ n → r ≡ i + 3) → r ≤ e → e < n → (35 ≤ n) × (3 ≤ e)
long n i r e f g p q =
    elim (dec_lt n (i + 38)) [
      | yes a ↦ absurd (omega (arith, f a))
      | no b ↦ (let z = g (omega arith) in (omega (arith, z), omega (arith, z)))
    ]

pub returns-then-greatest-lt128 : goal.returns-then-greatest-lt128
returns-then-greatest-lt128 c =
    ascii_end c.args.s.now c.ascii_end-i.result c.greatest.result c.ascii_end-i.ensures.0 c.greatest.ensures c.if-greatest-lt128.true c.ascii_end-i.ensures.1

pub sound_from-requires : goal.sound_from-requires
sound_from-requires c =
    let w = c.in-Some.ensures in
    let s = c.args.s.now in
    let v = long (length s) c.ascii_end-i.result c.start.result c.in-Some.first c.start.ensures.0 c.start.ensures.1 w.0 (omega arith) in
    (v.0, v.1, w.1, told_ended s c.in-Some.first w.1 w.2)
