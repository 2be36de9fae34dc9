-- The search that goes byte by byte inserts what is to be inserted after resets. Assumes nothing.
use mathlib.Core.Path.{◌≡◌, refl, ap, sym, ◌∙◌, subst}
use mathlib.Core.Bool.{Bool, true, false, cond}
use mathlib.Core.List.{List, [], ◌∷◌, ◌++◌}
use Prim.Native.Nat.{ℕ}
use native.Mathlib.Omega.{arith}
use lib.Dec.{eqb}
use borrow.Author.Tests.{eqb-true}
use Rattle.utf8.specs.Utf8.{within}
use Rattle.runs.specs.Runs.{digit}
use Rattle.colour.specs.declared.State.{State}
use Rattle.colour.specs.declared.State.TheVariants.{Outside, Escape, Bracket, LoneZero, Digits}
use Rattle.colour.specs.declared.Act.{Act}
use Rattle.colour.specs.declared.Act.TheVariants.{Text, Esc, More, Done, Reset}
use Rattle.colour.specs.Sequences.{esc, reset, in_sequence, starts_with, rest_of_reset, copying, reinserted}
use Rattle.colour.specs.Machine.{act_among, act_in, act_of, after, state_after, behind, ins}
use Rattle.colour.proofs.Inserting.{ins_append}

-- ---- looking ahead

-- where no reset begins, a byte is copied
copying_no : (p : List ℕ) (b : ℕ) (s : List ℕ) → starts_with reset (b ∷ s) ≡ false → copying p 0 (b ∷ s) ≡ b ∷ copying p 0 s
unfolding copying rest_of_reset
copying_no p b s e = ap (λ (x : Bool). b ∷ copying p (rest_of_reset x) s) e

copying_other : (p : List ℕ) (b : ℕ) (s : List ℕ) → eqb b esc ≡ false → copying p 0 (b ∷ s) ≡ b ∷ copying p 0 s
unfolding starts_with
copying_other p b s e = copying_no p b s (rw (e, starts_with))

-- ---- how near a reset is

-- what has come of a reset, in each state of the search
abbrev near : State → List ℕ
near Outside = []
near Escape = esc ∷ []
near Bracket = esc ∷ 0x5B ∷ []
near LoneZero = esc ∷ 0x5B ∷ 0x30 ∷ []
near Digits = []

-- whether a byte is the next of the reset
abbrev is_next : State → ℕ → Bool
is_next Outside b = false
is_next Escape b = eqb b 0x5B
is_next Bracket b = eqb b 0x30
is_next LoneZero b = eqb b 0x6D
is_next Digits b = false

esc_not_next : (q : State) → is_next q esc ≡ false
esc_not_next Outside = refl
esc_not_next Escape = refl
esc_not_next Bracket = refl
esc_not_next LoneZero = refl
esc_not_next Digits = refl

-- what has come is copied where the next byte of the reset does not come
copying_near : (p : List ℕ) (q : State) (b : ℕ) (s : List ℕ) → is_next q b ≡ false → copying p 0 (near q ++ b ∷ s) ≡ near q ++ copying p 0 (b ∷ s)
unfolding starts_with
copying_near p Outside b s e = refl
copying_near p Escape b s e = copying_no p esc (b ∷ s) (rw (e, starts_with))
copying_near p Bracket b s e =
    copying_no p esc (0x5B ∷ b ∷ s) (rw (e, starts_with)) ∙ ap (λ (l : List ℕ). esc ∷ l) (copying_other p 0x5B (b ∷ s) refl)
copying_near p LoneZero b s e =
    copying_no p esc (0x5B ∷ 0x30 ∷ b ∷ s) (rw (e, starts_with))
    ∙ ap (λ (l : List ℕ). esc ∷ l) (copying_other p 0x5B (0x30 ∷ b ∷ s) refl)
    ∙ ap (λ (l : List ℕ). esc ∷ 0x5B ∷ l) (copying_other p 0x30 (b ∷ s) refl)
copying_near p Digits b s e = refl

-- ---- byte by byte

-- from every state on, the search inserts what looking ahead inserts
abbrev Ahead : List ℕ → List ℕ → Type 0
Ahead p s = (q : State) → near q ++ ins p q s ≡ copying p 0 (near q ++ s)

-- what a byte does with which no reset can come any more
abbrev Away : Act → Type 0
Away Text = Unit {0}
Away Esc = ⊥
Away (More q) = q ≡ Digits
Away Done = Unit {0}
Away Reset = ⊥

away_cond : (x : Bool) (a b : Act) → Away a → Away b → Away (cond x a b)
away_cond true a b g h = g
away_cond false a b g h = h

away_onward : (b : ℕ) → Away (cond (in_sequence b) (More Digits) Text)
away_onward b = away_cond (in_sequence b) (More Digits) Text refl tt

away_among : (b : ℕ) → Away (act_among Done Digits b)
away_among b = away_cond (eqb b 0x6D) Done (cond (in_sequence b) (More Digits) Text) tt (away_onward b)

away : (q : State) (b : ℕ) → eqb b esc ≡ false → is_next q b ≡ false → Away (act_of q b)
unfolding act_of act_in
away Outside b e f = rw e tt
away Escape b e f = rw (e, f) tt
away Bracket b e f = rw (e, f) (away_among b)
away LoneZero b e f = rw (e, f) (away_onward b)
away Digits b e f = rw e (away_among b)

away_step : (p s : List ℕ) → Ahead p s → (a : Act) → Away a → behind a p ++ ins p (after a) s ≡ copying p 0 s
away_step p s rest Text h = rest Outside
away_step p s rest Esc h = absurd h
away_step p s rest (More q) h = ap (λ (k : State). ins p k s) h ∙ rest Digits
away_step p s rest Done h = rest Outside
away_step p s rest Reset h = absurd h

-- the next byte of the reset; with `m` it is whole
next_step : (p : List ℕ) (q : State) (b : ℕ) (s : List ℕ) → Ahead p s → is_next q b ≡ true → near q ++ ins p q (b ∷ s) ≡ copying p 0 (near q ++ b ∷ s)
unfolding act_of act_in in_sequence digit within copying rest_of_reset starts_with
next_step p Outside b s rest e = absurd (let z : ◌≡◌ {A = ℕ} 0 1 = cc in let y : ⊥ = omega arith in y)
next_step p Escape b s rest e =
    subst (λ (b : ℕ). near Escape ++ ins p Escape (b ∷ s) ≡ copying p 0 (near Escape ++ b ∷ s)) (sym (eqb-true b 0x5B e)) (rest Bracket)
next_step p Bracket b s rest e =
    subst (λ (b : ℕ). near Bracket ++ ins p Bracket (b ∷ s) ≡ copying p 0 (near Bracket ++ b ∷ s)) (sym (eqb-true b 0x30 e)) (rest LoneZero)
next_step p LoneZero b s rest e =
    subst (λ (b : ℕ). near LoneZero ++ ins p LoneZero (b ∷ s) ≡ copying p 0 (near LoneZero ++ b ∷ s)) (sym (eqb-true b 0x6D e))
    (ap (λ (l : List ℕ). reset ++ (p ++ l)) (rest Outside))
next_step p Digits b s rest e = absurd (let z : ◌≡◌ {A = ℕ} 0 1 = cc in let y : ⊥ = omega arith in y)

step : (p : List ℕ) (q : State) (b : ℕ) (s : List ℕ) → Ahead p s → (x y : Bool) → eqb b esc ≡ x → is_next q b ≡ y
    → near q ++ ins p q (b ∷ s) ≡ copying p 0 (near q ++ b ∷ s)
unfolding act_of
step p q b s rest true y e f =
    subst (λ (b : ℕ). near q ++ ins p q (b ∷ s) ≡ copying p 0 (near q ++ b ∷ s)) (sym (eqb-true b esc e))
    (ap (λ (l : List ℕ). near q ++ l) (rest Escape) ∙ sym (copying_near p q esc s (esc_not_next q)))
step p q b s rest false true e f = next_step p q b s rest f
step p q b s rest false false e f =
    ap (λ (l : List ℕ). near q ++ b ∷ l) (away_step p s rest (act_of q b) (away q b e f))
    ∙ ap (λ (l : List ℕ). near q ++ l) (sym (copying_other p b s e))
    ∙ sym (copying_near p q b s f)

ahead : (p s : List ℕ) → Ahead p s
unfolding copying rest_of_reset starts_with
ahead p [] Outside = refl
ahead p [] Escape = refl
ahead p [] Bracket = refl
ahead p [] LoneZero = refl
ahead p [] Digits = refl
ahead p (b ∷ s) q = step p q b s (ahead p s) (eqb b esc) (is_next q b) refl refl

-- ---- the laws

-- what is inserted after resets is what the search inserts
pub reinserted_ins : (p s : List ℕ) → reinserted p s ≡ ins p Outside s
unfolding reinserted
reinserted_ins p s = sym (ahead p s Outside)

-- insertion goes over a join where no sequence is open between the texts
pub reinserted_append : (p a b : List ℕ) → state_after Outside a ≡ Outside → reinserted p (a ++ b) ≡ reinserted p a ++ reinserted p b
reinserted_append p a b e =
    reinserted_ins p (a ++ b) ∙ ins_append p a b Outside ∙ ap (λ (q : State). ins p Outside a ++ ins p q b) e
    ∙ (λ i. sym (reinserted_ins p a) i ++ sym (reinserted_ins p b) i)
