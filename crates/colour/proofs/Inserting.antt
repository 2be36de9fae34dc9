-- Laws of `ins`, the insertion after resets as the search makes it: its length, and what the scan finds of it. Assumes nothing.
use mathlib.Core.Path.{◌≡◌, refl, ap, sym, ◌∙◌}
use mathlib.Core.List.{List, [], ◌∷◌, ◌++◌, append_assoc}
use Prim.Native.Nat.{ℕ, ◌+◌, ◌*◌}
use native.Mathlib.Omega.{arith}
use native.Mathlib.Nat.{add_assoc, add-zero, add-mul, one-mul, add_comm}
use lib.ListN.{length, length-append}
use Rattle.colour.specs.declared.State.{State}
use Rattle.colour.specs.declared.Act.{Act}
use Rattle.colour.specs.declared.Act.TheVariants.{Text, Esc, More, Done, Reset}
use Rattle.colour.specs.declared.Scan.{Scan}
use Rattle.colour.specs.Machine.{act_of, after, state_after, moved, scan, resting, behind, ins}
use Rattle.colour.proofs.Scanning.{scan_append, moved_state}
use Rattle.colour.proofs.Wholes.{Whole}

-- insertion goes over a join, with the state between
pub ins_append : (p : List ℕ) (a b : List ℕ) (q : State) → ins p q (a ++ b) ≡ ins p q a ++ ins p (state_after q a) b
ins_append p [] b q = refl
ins_append p (x ∷ a) b q =
    ap (λ (l : List ℕ). x ∷ behind (act_of q x) p ++ l) (ins_append p a b (after (act_of q x)))
    ∙ ap (λ (l : List ℕ). x ∷ l) (sym (append_assoc (behind (act_of q x) p) (ins p (after (act_of q x)) a) (ins p (state_after (after (act_of q x)) a) b)))

-- ---- the bytes added

-- how many bytes the insertion adds
abbrev pub added : List ℕ → State → List ℕ → ℕ
added p q [] = 0
added p q (b ∷ s) = length (behind (act_of q b) p) + added p (after (act_of q b)) s

pub length_ins : (p s : List ℕ) (q : State) → length (ins p q s) ≡ length s + added p q s
length_ins p [] q = refl
length_ins p (b ∷ s) q = omega (arith, length-append (behind (act_of q b) p) (ins p (after (act_of q b)) s), length_ins p s (after (act_of q b)))

-- the added bytes: the prefix for each reset
behind_many : (p : List ℕ) (a : Act) (t : Scan) → length (behind a p) + t.resets * length p ≡ (moved a t).resets * length p
behind_many p Text t = omega arith
behind_many p Esc t = omega arith
behind_many p (More q) t = omega arith
behind_many p Done t = omega arith
behind_many p Reset t = let e : (t.resets + 1) * length p ≡ t.resets * length p + 1 * length p = add-mul t.resets 1 (length p) in omega (arith, one-mul (length p))

pub added_many : (p s : List ℕ) (t : Scan) → added p t.state s + t.resets * length p ≡ (scan t s).resets * length p
added_many p [] t = omega arith
added_many p (b ∷ s) t =
    let a = act_of t.state b in
    let e : added p (moved a t).state s ≡ added p (after a) s = ap (λ (q : State). added p q s) (moved_state a t) in
    omega (arith, behind_many p a t, added_many p s (moved a t))

-- ---- what the scan finds

-- the scan with n more bytes in sequences
abbrev pub bump : Scan → ℕ → Scan
bump t n = record { state = t.state; held = t.held; sequences = t.sequences + n; resets = t.resets }

bump_bump : (t : Scan) (m n : ℕ) → bump (bump t m) n ≡ bump t (m + n)
bump_bump t m n = ap (λ (x : ℕ). record { state = t.state; held = t.held; sequences = x; resets = t.resets }) (add_assoc t.sequences m n)

pub bump_zero : (t : Scan) → bump t 0 ≡ t
bump_zero t = ap (λ (x : ℕ). record { state = t.state; held = t.held; sequences = x; resets = t.resets }) (add-zero t.sequences)

moved_bump : (a : Act) (t : Scan) (n : ℕ) → moved a (bump t n) ≡ bump (moved a t) n
moved_bump Text t n = refl
moved_bump Esc t n = refl
moved_bump (More q) t n = refl
moved_bump Done t n = let e : t.sequences + n + (t.held + 1) ≡ t.sequences + (t.held + 1) + n = omega arith in ap (λ (x : ℕ). resting x t.resets) e
moved_bump Reset t n = let e : t.sequences + n + (t.held + 1) ≡ t.sequences + (t.held + 1) + n = omega arith in ap (λ (x : ℕ). resting x (t.resets + 1)) e

-- bytes counted before stay counted
pub scan_bump : (s : List ℕ) (t : Scan) (n : ℕ) → scan (bump t n) s ≡ bump (scan t s) n
scan_bump [] t n = refl
scan_bump (b ∷ s) t n = ap (λ (u : Scan). scan u s) (moved_bump (act_of t.state b) t n) ∙ scan_bump s (moved (act_of t.state b) t) n

-- behind a byte the scan only counts more bytes of sequences
behind_scan : (p : List ℕ) → Whole p → (a : Act) (t : Scan) → scan (moved a t) (behind a p) ≡ bump (moved a t) (length (behind a p))
behind_scan p w Text t = sym (bump_zero (moved Text t))
behind_scan p w Esc t = sym (bump_zero (moved Esc t))
behind_scan p w (More q) t = sym (bump_zero (moved (More q) t))
behind_scan p w Done t = sym (bump_zero (moved Done t))
behind_scan p w Reset t = w.scanned (moved Reset t)

-- inserting a prefix after each reset changes neither the state nor the resets, and adds its bytes to those in sequences
pub ins_scan : (p : List ℕ) → Whole p → (s : List ℕ) (t : Scan) → scan t (ins p t.state s) ≡ bump (scan t s) (added p t.state s)
ins_scan p w [] t = sym (bump_zero t)
ins_scan p w (b ∷ s) t =
    let a = act_of t.state b in
    let u = moved a t in
    let m = length (behind a p) in
    scan_append (behind a p) (ins p (after a) s) u
    ∙ ap (λ (v : Scan). scan v (ins p (after a) s)) (behind_scan p w a t)
    ∙ scan_bump (ins p (after a) s) u m
    ∙ ap (λ (q : State). bump (scan u (ins p q s)) m) (sym (moved_state a t))
    ∙ ap (λ (v : Scan). bump v m) (ins_scan p w s u)
    ∙ bump_bump (scan u s) (added p u.state s) m
    ∙ ap (λ (q : State). bump (scan u s) (added p q s + m)) (moved_state a t)
    ∙ ap (λ (n : ℕ). bump (scan u s) n) (add_comm (added p (after a) s) m)
