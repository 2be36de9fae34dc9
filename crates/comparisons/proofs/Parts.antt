-- Parts joined. Assumes nothing.
use mathlib.Core.Path.{◌≡◌, ap, sym, ◌∙◌}
use mathlib.Core.List.{List, [], ◌∷◌, ◌++◌}
use Prim.Native.Nat.{ℕ, ◌+◌, ◌-◌, ◌<◌, ◌≤◌}
use native.Mathlib.Omega.{arith}
use lib.ListN.{length, take, drop, get_or}
use lib.Seq.{take-add, drop-drop}
use Rattle.buffer.specs.Bytes.{part}
use Rattle.buffer.proofs.Parts.{part_step}

-- two parts, the second where the first ends
pub part_join : (d : List ℕ) (i m e : ℕ) → i ≤ m → m ≤ e → part i m d ++ part m e d ≡ part i e d
part_join d i m e h g =
    let a : i + (m - i) ≡ m = omega arith in
    let b : (m - i) + (e - m) ≡ e - i = omega arith in
    ap (λ (n : ℕ). take (m - i) (drop i d) ++ take (e - m) (drop n d)) (sym a)
    ∙ ap (λ (l : List ℕ). take (m - i) (drop i d) ++ take (e - m) l) (sym (drop-drop (m - i) i d))
    ∙ sym (take-add (m - i) (e - m) (drop i d))
    ∙ ap (λ (n : ℕ). take n (drop i d)) b

pub part_none : (d : List ℕ) (i e : ℕ) → e ≤ i → part i e d ≡ []
part_none d i e h = let z : e - i ≡ 0 = omega arith in ap (λ (n : ℕ). take n (drop i d)) z

pub part_one : (d : List ℕ) (i e : ℕ) → e ≡ i + 1 → i < length d → part i e d ≡ get_or d i 0 ∷ []
part_one d i e q h =
    part_step d i e (omega arith) (omega arith) ∙ ap (λ (l : List ℕ). get_or d i 0 ∷ l) (part_none d (i + 1) e (omega arith))
