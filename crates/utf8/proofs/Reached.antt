-- Laws of `reached`, what the front of a text leaves to come, and of `Told`: three bytes tell it at every place. Assumes nothing.
use mathlib.Core.Path.{◌≡◌, refl, ap, sym, ◌∙◌, subst}
use mathlib.Core.Bool.{true, false}
use mathlib.Core.Logic.{◌⊎◌, inl, inr}
use mathlib.Core.List.{List, [], ◌∷◌, ◌++◌, append_assoc}
use Prim.Native.Nat.{ℕ, zero, suc, ◌+◌, ◌<◌, ◌≤◌}
use native.Mathlib.Numerals.{add-one}
use native.Mathlib.Omega.{arith}
use lib.ListN.{length, take, drop, get_or, take-append-drop, length-append}
use lib.Seq.{take-suc, take-length, length-take-le, take_at, drop_at}
use Rattle.utf8.specs.Utf8.{Awaited, awaited, broken, step, run, complete, valid}
use Rattle.utf8.specs.Windows.{reached, top_of, past, Lives, Follows, ended, Told, Unbroken, due_after}
use Rattle.utf8.proofs.Running.{run_append, run_broken, step_broken, step_ascii}
use Rattle.utf8.proofs.Following.{follows_on, due_some}

-- one byte on
pub reached_on : (s : List ℕ) (k : ℕ) → k < length s → reached s (k + 1) ≡ step (reached s k) (get_or s k 0)
reached_on s k h =
    ap (λ (n : ℕ). run (awaited []) (take n s)) (add-one k)
    ∙ ap (run (awaited [])) (take-suc s k 0 h)
    ∙ run_append (awaited []) (take k s) (get_or s k 0 ∷ [])

-- all of a text
pub reached_all : (s : List ℕ) → complete (reached s (length s)) ≡ valid s
reached_all s = ap (λ (t : List ℕ). complete (run (awaited []) t)) (take-length s)

-- a text that is broken at a place is no UTF-8
pub broken_invalid : (s : List ℕ) (k : ℕ) → reached s k ≡ broken → valid s ≡ false
broken_invalid s k e =
    ap (λ (t : List ℕ). complete (run (awaited []) t)) (sym (take-append-drop k s))
    ∙ ap complete (run_append (awaited []) (take k s) (drop k s))
    ∙ ap (λ (x : Awaited). complete (run x (drop k s))) e
    ∙ ap complete (run_broken (drop k s))

-- the byte at a place is the last of the three before the next
pub past_at : (s : List ℕ) (k : ℕ) → past s (k + 3) ≡ get_or s k 0
past_at s k =
    let e : k + 3 ≡ suc (suc (suc k)) = omega arith in
    ap (past s) e

-- one byte on the three bytes tell what is to come, if the text is not broken
pub told_on : (s : List ℕ) (k : ℕ) → k < length s → Lives (step (reached s k) (get_or s k 0)) → Told s k → Told s (k + 1)
told_on s k h v t =
    let e : k + 2 ≡ (k + 1) + 1 = omega arith in
    let f : k + 3 ≡ (k + 1) + 2 = omega arith in
    let w = follows_on (past s k) (past s (k + 1)) (past s (k + 2)) (get_or s k 0) (reached s k) t v in
    subst (λ (n : ℕ). Follows (past s (k + 1)) (past s n) (past s ((k + 1) + 2)) (reached s (k + 1))) e
    (subst (λ (b : ℕ). Follows (past s (k + 1)) (past s (k + 2)) b (reached s (k + 1))) (sym (past_at s k) ∙ ap (past s) f)
    (subst (Follows (past s (k + 1)) (past s (k + 2)) (get_or s k 0)) (sym (reached_on s k h)) w))

lives_or : (x : Awaited) → Lives x ⊎ (x ≡ broken)
lives_or (awaited m) = inl tt
lives_or broken = inr refl

told_start : (s : List ℕ) → Told s 0
told_start s = ended 0 0 0 (omega arith) (omega arith) (omega arith)

-- at each place the three bytes before it tell what is to come, or the text is broken there
pub told_or : (s : List ℕ) (k : ℕ) → k ≤ length s → Told s k ⊎ (reached s k ≡ broken)
told_or s zero h = inl (told_start s)
told_or s (suc k) h =
    subst (λ (n : ℕ). Told s n ⊎ (reached s n ≡ broken)) (add-one k) (on (told_or s k (omega arith)))
  where
    judged : Told s k → Lives (step (reached s k) (get_or s k 0)) ⊎ (step (reached s k) (get_or s k 0) ≡ broken)
        → Told s (k + 1) ⊎ (reached s (k + 1) ≡ broken)
    judged t (inl v) = inl (told_on s k (omega arith) v t)
    judged t (inr e) = inr (reached_on s k (omega arith) ∙ e)

    on : Told s k ⊎ (reached s k ≡ broken) → Told s (k + 1) ⊎ (reached s (k + 1) ≡ broken)
    on (inl t) = judged t (lives_or (step (reached s k) (get_or s k 0)))
    on (inr e) = inr (reached_on s k (omega arith) ∙ ap (λ (x : Awaited). step x (get_or s k 0)) e ∙ step_broken (get_or s k 0))

-- a byte that breaks the text wherever it is not broken yet
pub breaks : (s : List ℕ) (k : ℕ) → k < length s → (Told s k → step (reached s k) (get_or s k 0) ≡ broken) → valid s ≡ false
breaks s k h f = on (told_or s k (omega arith))
  where
    on : Told s k ⊎ (reached s k ≡ broken) → valid s ≡ false
    on (inl t) = broken_invalid s (k + 1) (reached_on s k h ∙ f t)
    on (inr e) = broken_invalid s k e

-- where a character has ended the three bytes tell it
pub told_ended : (s : List ℕ) (k : ℕ) → k ≤ length s → reached s k ≡ awaited [] → Told s k
told_ended s k h e = on (told_or s k h)
  where
    on : Told s k ⊎ (reached s k ≡ broken) → Told s k
    on (inl t) = t
    on (inr f) = absurd (subst Lives (sym e ∙ f) tt)

-- a text that ends inside a character is no UTF-8
pub cut_off : (s : List ℕ) → 0 < due_after (past s (length s)) (past s (length s + 1)) (past s (length s + 2)) → valid s ≡ false
cut_off s h = on (told_or s (length s) (omega arith))
  where
    on : Told s (length s) ⊎ (reached s (length s) ≡ broken) → valid s ≡ false
    on (inl t) = sym (reached_all s) ∙ due_some _ _ _ _ t h
    on (inr e) = broken_invalid s (length s) e

-- through bytes none of which breaks the text
pub sound_through : (s : List ℕ) (i e n : ℕ) → i + n ≡ e → Unbroken s i e → Told s i → Told s e
sound_through s i e zero h f t =
    let z : i ≡ e = omega arith in
    subst (Told s) z t
sound_through s i e (suc n) h f t =
    sound_through s (i + 1) e n (omega arith) (λ k g. f k (omega arith)) (f i (omega arith) (omega arith) t)

-- ASCII after a whole character
pub ascii_on : (s : List ℕ) (k : ℕ) → k < length s → get_or s k 0 < 0x80 → reached s k ≡ awaited [] → reached s (k + 1) ≡ awaited []
ascii_on s k h b e =
    reached_on s k h ∙ ap (λ (x : Awaited). step x (get_or s k 0)) e ∙ step_ascii (get_or s k 0) (omega arith)

ascii_run : (s : List ℕ) → top_of s < 0x80 → run (awaited []) s ≡ awaited []
ascii_run [] h = refl
ascii_run (b ∷ s) h = ap (λ (x : Awaited). run x s) (step_ascii b (omega (arith, h))) ∙ ascii_run s (omega (arith, h))

-- ASCII is UTF-8
pub ascii_valid : (s : List ℕ) → top_of s < 0x80 → valid s ≡ true
ascii_valid s h = ap complete (ascii_run s h)

-- ASCII after a whole character: what comes behind it is left
pub ascii_over : (s : List ℕ) (i : ℕ) (x rest : List ℕ) → drop i s ≡ x ++ rest → i ≤ length s → reached s i ≡ awaited [] → top_of x < 0x80
    → (drop (i + length x) s ≡ rest) × (reached s (i + length x) ≡ awaited [])
ascii_over s i x rest e h r t =
    let l : length (take i s ++ x) ≡ i + length x = omega (arith, length-append (take i s) x, length-take-le i s h) in
    let z : s ≡ (take i s ++ x) ++ rest = sym (take-append-drop i s) ∙ ap (λ (y : List ℕ). take i s ++ y) e ∙ sym (append_assoc (take i s) x rest) in (
      ap (drop (i + length x)) z ∙ drop_at (take i s ++ x) rest (i + length x) l,
      ap (λ (y : List ℕ). run (awaited []) (take (i + length x) y)) z
          ∙ ap (run (awaited [])) (take_at (take i s ++ x) rest (i + length x) l)
          ∙ run_append (awaited []) (take i s) x
          ∙ ap (λ (y : Awaited). run y x) r
          ∙ ascii_run x t,
    )
