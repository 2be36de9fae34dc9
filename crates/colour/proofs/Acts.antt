-- What single bytes do in the search for colour sequences. Assumes nothing.
use mathlib.Core.Path.{◌≡◌, refl, ap, sym, ◌∙◌}
use mathlib.Core.Bool.{Bool, true, false, cond}
use mathlib.Core.List.{List, [], ◌∷◌, ◌++◌}
use Prim.Native.Nat.{ℕ, ◌≤◌}
use native.Mathlib.Omega.{arith}
use lib.Dec.{eqb}
use borrow.Author.Tests.{ne_eqb}
use Rattle.utf8.specs.Utf8.{within}
use Rattle.utf8.proofs.Ranges.{within_above}
use Rattle.runs.specs.Runs.{digit}
use Rattle.colour.specs.declared.State.{State}
use Rattle.colour.specs.declared.State.TheVariants.{Outside, Escape, Bracket, LoneZero, Digits}
use Rattle.colour.specs.declared.Act.TheVariants.{Text, Esc, More}
use Rattle.colour.specs.Sequences.{esc, in_sequence}
use Rattle.colour.specs.Machine.{act_in, act_of}

-- ---- digits and `;`

-- a byte that may stand in a sequence is none that may not
pub in_sequence_not : (b c : ℕ) → in_sequence b ≡ true → in_sequence c ≡ false → b ≡ c → ⊥
in_sequence_not b c g h e =
    let z : true ≡ false = sym g ∙ ap in_sequence e ∙ h in
    let y : ◌≡◌ {A = ℕ} 0 1 = cc in
    omega arith

pub in_sequence_not_esc : (b : ℕ) → in_sequence b ≡ true → b ≡ esc → ⊥
in_sequence_not_esc b h = in_sequence_not b esc h (unfold in_sequence digit within in refl)

pub in_sequence_not_m : (b : ℕ) → in_sequence b ≡ true → b ≡ 0x6D → ⊥
in_sequence_not_m b h = in_sequence_not b 0x6D h (unfold in_sequence digit within in refl)

pub in_sequence_high : (b : ℕ) → 0x80 ≤ b → in_sequence b ≡ false
unfolding in_sequence digit
in_sequence_high b h = rw (within_above 0x30 0x39 b (omega arith), ne_eqb b 0x3B (λ e. omega arith))

-- digits and `;` only
abbrev pub Parameters : List ℕ → Type 0
Parameters [] = Unit {0}
Parameters (b ∷ s) = (in_sequence b ≡ true) × Parameters s

pub parameters_append : (a b : List ℕ) → Parameters a → Parameters b → Parameters (a ++ b)
parameters_append [] b g h = h
parameters_append (x ∷ a) b g h = (g.0, parameters_append a b g.1 h)

-- ---- what a byte does

-- byte 27 begins a sequence in every state
pub act_escape : (q : State) → act_of q esc ≡ Esc
unfolding act_of
act_escape q = refl

-- any other byte is what the state says
pub act_in_lem : (q : State) (b : ℕ) → (b ≡ esc → ⊥) → act_of q b ≡ act_in q b
unfolding act_of
act_in_lem q b h = rw (ne_eqb b 27 h)

-- outside a sequence it is text
pub act_outside : (b : ℕ) → (b ≡ esc → ⊥) → act_of Outside b ≡ Text
unfolding act_in
act_outside b h = act_in_lem Outside b h

-- a byte that has no part in sequences is text in every state
pub act_text : (q : State) (b : ℕ) → (b ≡ esc → ⊥) → (b ≡ 0x5B → ⊥) → (b ≡ 0x6D → ⊥) → in_sequence b ≡ false → act_of q b ≡ Text
unfolding act_in
act_text Outside b e f g h = act_in_lem Outside b e
act_text Escape b e f g h = act_in_lem Escape b e ∙ rw (ne_eqb b 0x5B f)
act_text Bracket b e f g h = act_in_lem Bracket b e ∙ rw (ne_eqb b 0x6D g, h)
act_text LoneZero b e f g h = act_in_lem LoneZero b e ∙ rw (ne_eqb b 0x6D g, h)
act_text Digits b e f g h = act_in_lem Digits b e ∙ rw (ne_eqb b 0x6D g, h)

pub act_high : (q : State) (b : ℕ) → 0x80 ≤ b → act_of q b ≡ Text
act_high q b h = act_text q b (λ e. omega arith) (λ e. omega arith) (λ e. omega arith) (in_sequence_high b h)

-- ---- after byte 27 and `[`

-- the states after byte 27 and `[`
abbrev pub Begun : State → Type 0
Begun Outside = ⊥
Begun Escape = ⊥
Begun Bracket = Unit {0}
Begun LoneZero = Unit {0}
Begun Digits = Unit {0}

-- the state after a digit or `;`
abbrev pub onward : State → ℕ → State
onward Outside b = Digits
onward Escape b = Digits
onward Bracket b = cond (eqb b 0x30) LoneZero Digits
onward LoneZero b = Digits
onward Digits b = Digits

pub begun_onward : (q : State) (b : ℕ) → Begun (onward q b)
begun_onward Outside b = tt
begun_onward Escape b = tt
begun_onward Bracket b = either (eqb b 0x30)
  where
    either : (x : Bool) → Begun (cond x LoneZero Digits)
    either true = tt
    either false = tt
begun_onward LoneZero b = tt
begun_onward Digits b = tt

-- a digit or `;` goes on with the sequence
pub act_onward : (q : State) (b : ℕ) → Begun q → in_sequence b ≡ true → act_of q b ≡ More (onward q b)
unfolding act_in
act_onward Outside b g h = absurd g
act_onward Escape b g h = absurd g
act_onward Bracket b g h = act_in_lem Bracket b (in_sequence_not_esc b h) ∙ rw (ne_eqb b 0x6D (in_sequence_not_m b h), h)
act_onward LoneZero b g h = act_in_lem LoneZero b (in_sequence_not_esc b h) ∙ rw (ne_eqb b 0x6D (in_sequence_not_m b h), h)
act_onward Digits b g h = act_in_lem Digits b (in_sequence_not_esc b h) ∙ rw (ne_eqb b 0x6D (in_sequence_not_m b h), h)

-- any byte but `m`, a digit and `;` shows that there is no sequence
pub act_breaks : (q : State) (b : ℕ) → Begun q → (b ≡ esc → ⊥) → (b ≡ 0x6D → ⊥) → in_sequence b ≡ false → act_of q b ≡ Text
unfolding act_in
act_breaks Outside b k e g h = absurd k
act_breaks Escape b k e g h = absurd k
act_breaks Bracket b k e g h = act_in_lem Bracket b e ∙ rw (ne_eqb b 0x6D g, h)
act_breaks LoneZero b k e g h = act_in_lem LoneZero b e ∙ rw (ne_eqb b 0x6D g, h)
act_breaks Digits b k e g h = act_in_lem Digits b e ∙ rw (ne_eqb b 0x6D g, h)
