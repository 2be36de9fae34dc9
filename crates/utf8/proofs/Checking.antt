-- Laws of `Checked`: what is known of the bytes passed, one byte more and a block more. Assumes nothing.
use mathlib.Core.Path.{◌≡◌, refl, ap, sym, ◌∙◌, subst}
use mathlib.Core.Bool.{Bool, true, false}
use mathlib.Core.List.{List, []}
use Prim.Native.Nat.{ℕ, max, ◌≤◌, ◌<◌, ◌+◌, ◌-◌}
use native.Mathlib.Decide.{dec_lt}
use native.Mathlib.Omega.{arith}
use lib.Dec.{eqb}
use lib.ListN.{length, get_or}
use borrow.Author.Tests.{eqb-true, eqb-false}
use Rattle.utf8.specs.Utf8.{Awaited, awaited, step, complete, valid}
use Rattle.utf8.specs.Windows.{reached, past, Lives, Follows, Told, Unbroken, Judged, Checked, due_after}
use Rattle.utf8.proofs.Following.{due_none, due_some, due_ascii, after_ascii}
use Rattle.utf8.proofs.Running.{step_ascii}
use Rattle.utf8.proofs.Reached.{past_at, told_on, breaks, reached_all}

-- no byte yet
pub checked_none : (s : List ℕ) (i : ℕ) → Checked s i i 0
checked_none s i = (λ z k f g. absurd (omega arith), λ z. absurd (omega arith))

-- one byte more, judged by r
pub checked_on : (s : List ℕ) (i e w r : ℕ) → e < length s → Checked s i e w
    → (Told s e → Judged r (step (reached s e) (get_or s e 0))) → Checked s i (e + 1) (max w r)
checked_on s i e w r h p q = (fine, flawed)
  where
    none : (x y : ℕ) → max x y ≡ 0 → (x ≡ 0) × (y ≡ 0)
    none x y z = (omega arith, omega arith)

    one : (x y : ℕ) → 0 < max x y → (0 < x → ⊥) → 0 < y
    one x y z n = omega arith

    fine : max w r ≡ 0 → Unbroken s i (e + 1)
    fine z k f g t =
        let v = none w r z in
        elim (dec_lt k e) [
          | yes l ↦ p.0 v.0 k f l t
          | no n ↦ (
              let a : k ≡ e = omega arith in
              subst (λ (j : ℕ). Told s (j + 1)) (sym a) (told_on s e h ((q (subst (Told s) a t)).0 v.1) (subst (Told s) a t)))
        ]

    flawed : 0 < max w r → valid s ≡ false
    flawed z = elim (dec_lt 0 w) [ yes l ↦ p.1 l | no n ↦ breaks s e h (λ t. (q t).1 (one w r z n)) ]

-- what tells at the third place after j: the bytes at j and after it
pub told_by : (s : List ℕ) (j : ℕ) → Told s (j + 3)
    → Follows (get_or s j 0) (get_or s (j + 1) 0) (get_or s (j + 2) 0) (reached s (j + 3))
told_by s j t =
    let e : (j + 3) + 1 ≡ (j + 1) + 3 = omega arith in
    let f : (j + 3) + 2 ≡ (j + 2) + 3 = omega arith in
    subst (λ (a : ℕ). Follows a (get_or s (j + 1) 0) (get_or s (j + 2) 0) (reached s (j + 3))) (past_at s j)
    (subst (λ (b : ℕ). Follows (past s (j + 3)) b (get_or s (j + 2) 0) (reached s (j + 3))) (ap (past s) e ∙ past_at s (j + 1))
    (subst (λ (c : ℕ). Follows (past s (j + 3)) (past s ((j + 3) + 1)) c (reached s (j + 3))) (ap (past s) f ∙ past_at s (j + 2)) t))

-- one place more, judged by the four bytes from j on
pub checked_more : (s : List ℕ) (i j w r t : ℕ) → j + 3 < length s → t ≡ max w r
    → ((x : Awaited) → Follows (get_or s j 0) (get_or s (j + 1) 0) (get_or s (j + 2) 0) x → Judged r (step x (get_or s (j + 3) 0)))
    → Checked s i (j + 3) w → Checked s i (j + 1 + 3) t
checked_more s i j w r t h e q p =
    let b : (j + 3) + 1 ≡ j + 1 + 3 = omega arith in
    subst (λ (m : ℕ). Checked s i (j + 1 + 3) m) (sym e)
    (subst (λ (m : ℕ). Checked s i m (max w r)) b (checked_on s i (j + 3) w r h p (λ f. q (reached s (j + 3)) (told_by s j f))))

-- the three bytes before a place tell what is to come there
pub told_before : (s : List ℕ) (i : ℕ) → 3 ≤ i → Told s i → Follows (get_or s (i - 3) 0) (get_or s (i - 2) 0) (get_or s (i - 1) 0) (reached s i)
told_before s i h t =
    let e : i ≡ (i - 3) + 3 = omega arith in
    let f : (i - 3) + 1 ≡ i - 2 = omega arith in
    let g : (i - 3) + 2 ≡ i - 1 = omega arith in
    subst (λ (n : ℕ). Follows (get_or s (i - 3) 0) (get_or s (i - 2) 0) (get_or s (i - 1) 0) (reached s n)) (sym e)
    (subst (λ (n : ℕ). Follows (get_or s (i - 3) 0) (get_or s (i - 2) 0) (get_or s n 0) (reached s ((i - 3) + 3))) g
    (subst (λ (n : ℕ). Follows (get_or s (i - 3) 0) (get_or s n 0) (get_or s ((i - 3) + 2) 0) (reached s ((i - 3) + 3))) f
    (told_by s (i - 3) (subst (Told s) e t))))

-- how many of the three bytes before a place ask that the next one go on with a character
abbrev pub asked : List ℕ → ℕ → ℕ
asked s i = due_after (get_or s (i - 3) 0) (get_or s (i - 2) 0) (get_or s (i - 1) 0)

-- ASCII does not break a text after a whole character, nor after ASCII
module _ (s : List ℕ) (i e : ℕ) (h : 3 ≤ i) (g : e ≤ length s) (f : (k : ℕ) → i ≤ k → k < e → get_or s k 0 < 0x80) where
  lives : (k : ℕ) → i ≤ k → k < e → reached s k ≡ awaited [] → Lives (step (reached s k) (get_or s k 0))
  lives k p q z = subst Lives (sym (ap (λ (x : Awaited). step x (get_or s k 0)) z ∙ step_ascii (get_or s k 0) (omega (arith, f k p q)))) tt

  ended_at : (k : ℕ) → i ≤ k → k < e → asked s i ≡ 0 → Told s k → reached s k ≡ awaited []
  ended_at k p q a t =
      elim (dec_lt i k) [
        | yes l ↦ after_ascii _ _ _ _ (told_before s k (omega arith) t) (f (k - 1) (omega arith) (omega arith))
        | no n ↦ (
            let z : k ≡ i = omega arith in
            ap (reached s) z ∙ due_none _ _ _ _ (told_before s i h (subst (Told s) z t)) a)
      ]

  pub ascii_sound : asked s i ≡ 0 → Unbroken s i e
  ascii_sound a k p q t = told_on s k (omega arith) (lives k p q (ended_at k p q a t)) t

  -- it breaks a text that asks for something else
  pub ascii_breaks : i < e → 0 < asked s i → valid s ≡ false
  ascii_breaks l a =
      breaks s i (omega arith) (λ t. due_ascii _ _ _ _ _ (told_before s i h t) a (f i (omega arith) l))

-- the end of a text
pub end_whole : (s : List ℕ) → 3 ≤ length s → Told s (length s) → asked s (length s) ≡ 0 → valid s ≡ true
end_whole s h t e = sym (reached_all s) ∙ ap complete (due_none _ _ _ _ (told_before s (length s) h t) e)

pub end_open : (s : List ℕ) → 3 ≤ length s → Told s (length s) → 0 < asked s (length s) → valid s ≡ false
end_open s h t e = sym (reached_all s) ∙ due_some _ _ _ _ (told_before s (length s) h t) e

-- a number that is not 0
positive : (r q : ℕ) → r ≡ q → (r ≡ 0 → ⊥) → 0 < q
positive r q e n = omega arith

-- what a comparison with 0 says of a block that was checked from three bytes before it on
pub checked_block : (s : List ℕ) (i n r : ℕ) → 3 ≤ i → Checked s ((i - 3) + 3) ((i - 3) + 3 + n) r
    → (eqb r 0 ≡ true → Unbroken s i (i + n)) × (eqb r 0 ≡ false → valid s ≡ false)
checked_block s i n r h p =
    let e : (i - 3) + 3 ≡ i = omega arith in
    let w : Checked s i (i + n) r = subst (λ (j : ℕ). Checked s j (j + n) r) e p in
    (λ t. w.0 (eqb-true r 0 t), λ t. w.1 (positive r r refl (eqb-false r 0 t)))

-- the same of a block of ASCII
pub ascii_block : (s : List ℕ) (i n r : ℕ) → 3 ≤ i → 0 < n → i + n ≤ length s → ((k : ℕ) → i ≤ k → k < i + n → get_or s k 0 < 0x80) → r ≡ asked s i
    → (eqb r 0 ≡ true → Unbroken s i (i + n)) × (eqb r 0 ≡ false → valid s ≡ false)
ascii_block s i n r h m g f e = (
  λ t. ascii_sound s i (i + n) h g f (sym e ∙ eqb-true r 0 t),
  λ t. ascii_breaks s i (i + n) h g f (beyond m) (above r (asked s i) e (eqb-false r 0 t)),
)
  where
    beyond : 0 < n → i < i + n
    beyond p = omega arith

    above : (r q : ℕ) → r ≡ q → (r ≡ 0 → ⊥) → 0 < q
    above r q e n = omega arith

-- and of the end
pub at_end : (s : List ℕ) (r : ℕ) → 3 ≤ length s → Told s (length s) → r ≡ asked s (length s) → eqb r 0 ≡ valid s
at_end s r h t e = by (eqb r 0) refl
  where
    by : (b : Bool) → eqb r 0 ≡ b → eqb r 0 ≡ valid s
    by true f = f ∙ sym (end_whole s h t (sym e ∙ eqb-true r 0 f))
    by false f = f ∙ sym (end_open s h t (positive r (asked s (length s)) e (eqb-false r 0 f)))
