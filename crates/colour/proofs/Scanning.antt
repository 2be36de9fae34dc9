-- Laws of the scan: byte by byte, over joined texts, over texts without byte 27. Assumes nothing.
use mathlib.Core.Path.{◌≡◌, refl, ap, sym, ◌∙◌}
use mathlib.Core.List.{List, [], ◌∷◌, ◌++◌}
use Prim.Native.Nat.{ℕ, ◌+◌, ◌-◌, ◌<◌, ◌≤◌}
use native.Mathlib.Omega.{arith}
use lib.ListN.{length, drop, get_or, drop_of_length-le, take-append-drop}
use lib.Seq.{drop-drop}
use Rattle.buffer.specs.Bytes.{part}
use Rattle.buffer.proofs.Parts.{drop_step}
use Rattle.colour.specs.declared.State.{State}
use Rattle.colour.specs.declared.State.TheVariants.{Outside}
use Rattle.colour.specs.declared.Act.{Act}
use Rattle.colour.specs.declared.Act.TheVariants.{Text, Esc, More, Done, Reset}
use Rattle.colour.specs.declared.Scan.{Scan}
use Rattle.colour.specs.Machine.{act_of, after, state_after, moved, scan}
use Rattle.colour.specs.Texts.{Free}
use Rattle.colour.proofs.Acts.{act_outside}

-- ---- one byte on

pub scan_step : (t : Scan) (s : List ℕ) (i : ℕ) → i < length s → scan t (drop i s) ≡ scan (moved (act_of t.state (get_or s i 0)) t) (drop (i + 1) s)
scan_step t s i h = ap (scan t) (drop_step s i h)

pub scan_end : (t : Scan) (s : List ℕ) (i : ℕ) → length s ≤ i → scan t (drop i s) ≡ t
scan_end t s i h = ap (scan t) (drop_of_length-le s h)

-- ---- each number grows by no more than the bytes read

pub held_grows : (a : Act) (t : Scan) → (moved a t).held ≤ t.held + 1
held_grows Text t = omega arith
held_grows Esc t = omega arith
held_grows (More q) t = omega arith
held_grows Done t = omega arith
held_grows Reset t = omega arith

pub sequences_grow : (a : Act) (t : Scan) → (moved a t).sequences + (moved a t).held ≤ t.sequences + t.held + 1
sequences_grow Text t = omega arith
sequences_grow Esc t = omega arith
sequences_grow (More q) t = omega arith
sequences_grow Done t = omega arith
sequences_grow Reset t = omega arith

pub resets_grow : (a : Act) (t : Scan) → (moved a t).resets ≤ t.resets + 1
resets_grow Text t = omega arith
resets_grow Esc t = omega arith
resets_grow (More q) t = omega arith
resets_grow Done t = omega arith
resets_grow Reset t = omega arith

pub held_small : (s : List ℕ) (t : Scan) → (scan t s).held ≤ t.held + length s
held_small [] t = omega arith
held_small (b ∷ s) t = omega (arith, held_small s (moved (act_of t.state b) t), held_grows (act_of t.state b) t)

pub sequences_small : (s : List ℕ) (t : Scan) → (scan t s).sequences + (scan t s).held ≤ t.sequences + t.held + length s
sequences_small [] t = omega arith
sequences_small (b ∷ s) t = omega (arith, sequences_small s (moved (act_of t.state b) t), sequences_grow (act_of t.state b) t)

pub resets_small : (s : List ℕ) (t : Scan) → (scan t s).resets ≤ t.resets + length s
resets_small [] t = omega arith
resets_small (b ∷ s) t = omega (arith, resets_small s (moved (act_of t.state b) t), resets_grow (act_of t.state b) t)

-- ---- texts joined

-- the scan of two texts joined
pub scan_append : (a b : List ℕ) (t : Scan) → scan t (a ++ b) ≡ scan (scan t a) b
scan_append [] b t = refl
scan_append (x ∷ a) b t = scan_append a b (moved (act_of t.state x) t)

-- the scan of a text in two parts
pub scan_part : (s : List ℕ) (i e : ℕ) (t : Scan) → i ≤ e → e ≤ length s → scan t (drop i s) ≡ scan (scan t (part i e s)) (drop e s)
scan_part s i e t h g =
    let n : i + (e - i) ≡ e = omega arith in
    ap (scan t) (sym (take-append-drop (e - i) (drop i s)))
    ∙ scan_append (part i e s) (drop (e - i) (drop i s)) t
    ∙ ap (scan (scan t (part i e s))) (drop-drop (e - i) i s ∙ ap (λ (k : ℕ). drop k s) n)

pub state_append : (a b : List ℕ) (q : State) → state_after q (a ++ b) ≡ state_after (state_after q a) b
state_append [] b q = refl
state_append (x ∷ a) b q = state_append a b (after (act_of q x))

-- ---- texts without byte 27

-- outside a sequence, with nothing held, a text without byte 27 moves nothing
pub scan_free : (s : List ℕ) → Free s → (t : Scan) → t.state ≡ Outside → t.held ≡ 0 → scan t s ≡ t
scan_free [] f t e g = refl
scan_free (b ∷ s) f t e g =
    let a : act_of t.state b ≡ Text = ap (λ (q : State). act_of q b) e ∙ act_outside b f.0 in
    let m : moved (act_of t.state b) t ≡ t =
    ap (λ (x : Act). moved x t) a ∙ (λ i. record { state = sym e i; held = sym g i; sequences = t.sequences; resets = t.resets }) in
    ap (λ (u : Scan). scan u s) m ∙ scan_free s f.1 t e g

-- ---- states

-- the state after what a byte does
pub moved_state : (a : Act) (t : Scan) → (moved a t).state ≡ after a
moved_state Text t = refl
moved_state Esc t = refl
moved_state (More q) t = refl
moved_state Done t = refl
moved_state Reset t = refl

-- the state of the scan is the state after the text
pub scan_state : (s : List ℕ) (t : Scan) → (scan t s).state ≡ state_after t.state s
scan_state [] t = refl
scan_state (b ∷ s) t =
    scan_state s (moved (act_of t.state b) t) ∙ ap (λ (q : State). state_after q s) (moved_state (act_of t.state b) t)
