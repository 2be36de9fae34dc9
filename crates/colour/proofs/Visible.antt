-- The search that goes byte by byte leaves what is visible. Assumes nothing.
use mathlib.Core.Path.{◌≡◌, refl, ap, sym, ◌∙◌, subst}
use mathlib.Core.Bool.{Bool, true, false}
use mathlib.Core.List.{List, [], ◌∷◌, ◌++◌, append_assoc, append-nil}
use Prim.Native.Nat.{ℕ, suc}
use native.Mathlib.Omega.{arith}
use lib.ListN.{length, length-append}
use lib.Dec.{eqb}
use borrow.Author.Tests.{ne_eqb, eqb-true, eqb-false}
use Rattle.utf8.specs.Utf8.{within}
use Rattle.runs.specs.Runs.{digit}
use Rattle.colour.specs.declared.State.{State}
use Rattle.colour.specs.declared.State.TheVariants.{Outside, Escape, Bracket, LoneZero, Digits}
use Rattle.colour.specs.declared.Act.{Act}
use Rattle.colour.specs.declared.Act.TheVariants.{Text}
use Rattle.colour.specs.Sequences.{esc, in_sequence, longer, tail_length, bracket_length, sequence_length, unless_sequence, passing, visible}
use Rattle.colour.specs.Machine.{act_in, act_of, left_by, strip}
use Rattle.colour.specs.Texts.{Free}
use Rattle.colour.proofs.Acts.{in_sequence_not_esc, in_sequence_not_m, Parameters, parameters_append, act_outside, Begun, onward, begun_onward, act_onward, act_breaks}

-- a byte that is not esc is visible
passing_other : (b : ℕ) (s : List ℕ) → (b ≡ esc → ⊥) → passing 0 (b ∷ s) ≡ b ∷ passing 0 s
unfolding passing unless_sequence
passing_other b s h = ap (λ (n : ℕ). unless_sequence n b (λ k. passing k s)) (let e : sequence_length (b ∷ s) ≡ 0 = unfold sequence_length in rw (ne_eqb b esc h, sequence_length) in e)

passing_free : (h s : List ℕ) → Free h → passing 0 (h ++ s) ≡ h ++ passing 0 s
passing_free [] s f = refl
passing_free (b ∷ h) s f = passing_other b (h ++ s) f.0 ∙ ap (λ (l : List ℕ). b ∷ l) (passing_free h s f.1)

parameters_free : (ps : List ℕ) → Parameters ps → Free ps
parameters_free [] g = tt
parameters_free (b ∷ ps) g = (in_sequence_not_esc b g.0, parameters_free ps g.1)

-- passing over
passing_skip : (x s : List ℕ) → passing (length x) (x ++ s) ≡ passing 0 s
unfolding passing
passing_skip [] s = refl
passing_skip (b ∷ x) s = passing_skip x s

-- where a text goes on neither with `m` nor with a digit or `;`
abbrev Stops : List ℕ → Type 0
Stops s = tail_length s ≡ 0

tail_parameters : (ps s : List ℕ) → Parameters ps → Stops s → tail_length (ps ++ s) ≡ 0
unfolding tail_length longer
tail_parameters [] s g h = h
tail_parameters (b ∷ ps) s g h = rw (ne_eqb b 0x6D (in_sequence_not_m b g.0), g.0, tail_length) (ap longer (tail_parameters ps s g.1 h))

tail_done : (ps s : List ℕ) → Parameters ps → tail_length (ps ++ 0x6D ∷ s) ≡ suc (length ps)
unfolding tail_length longer
tail_done [] s g = refl
tail_done (b ∷ ps) s g = rw (ne_eqb b 0x6D (in_sequence_not_m b g.0), g.0, tail_length) (ap longer (tail_done ps s g.1))

stops_nil : Stops []
unfolding tail_length
stops_nil = refl

stops_at : (b : ℕ) (s : List ℕ) → (b ≡ 0x6D → ⊥) → in_sequence b ≡ false → Stops (b ∷ s)
unfolding tail_length
stops_at b s h g = rw (ne_eqb b 0x6D h, g, tail_length)

-- a sequence that begins and does not end is visible
passing_open : (ps s : List ℕ) → Parameters ps → Stops s → passing 0 (esc ∷ 0x5B ∷ (ps ++ s)) ≡ esc ∷ 0x5B ∷ (ps ++ passing 0 s)
unfolding passing unless_sequence
passing_open ps s g h =
    let e : sequence_length (esc ∷ 0x5B ∷ (ps ++ s)) ≡ 0 = unfold sequence_length bracket_length longer in rw (tail_parameters ps s g h) in
    ap (λ (n : ℕ). unless_sequence n esc (λ k. passing k (0x5B ∷ (ps ++ s)))) e
    ∙ ap (λ (l : List ℕ). esc ∷ l) (passing_free (0x5B ∷ ps) s ((λ z. omega arith), parameters_free ps g))

passing_lone : (s : List ℕ) → bracket_length s ≡ 0 → passing 0 (esc ∷ s) ≡ esc ∷ passing 0 s
unfolding passing unless_sequence
passing_lone s h =
    let e : sequence_length (esc ∷ s) ≡ 0 = unfold sequence_length longer in rw h in
    ap (λ (n : ℕ). unless_sequence n esc (λ k. passing k s)) e

passing_done : (ps s : List ℕ) → Parameters ps → passing 0 (esc ∷ 0x5B ∷ (ps ++ 0x6D ∷ s)) ≡ passing 0 s
unfolding passing unless_sequence
passing_done ps s g =
    let e : sequence_length (esc ∷ 0x5B ∷ (ps ++ 0x6D ∷ s)) ≡ suc (suc (suc (length ps))) = unfold sequence_length bracket_length longer in rw (tail_done ps s g) in
    let l : length (ps ++ 0x6D ∷ []) ≡ suc (length ps) = length-append ps (0x6D ∷ []) ∙ omega arith in
    ap (λ (n : ℕ). unless_sequence n esc (λ k. passing k (0x5B ∷ (ps ++ 0x6D ∷ s)))) e
    ∙ ap (λ (n : ℕ). passing n (ps ++ 0x6D ∷ s)) (sym l)
    ∙ ap (passing (length (ps ++ 0x6D ∷ []))) (sym (append_assoc ps (0x6D ∷ []) s))
    ∙ passing_skip (ps ++ 0x6D ∷ []) s

-- what the search holds back, in each of its states
data Held : State → List ℕ → Type 0 where
  nothing : Held Outside []
  escaped : Held Escape (esc ∷ [])
  begun : (q : State) → Begun q → (ps : List ℕ) → Parameters ps → Held q (esc ∷ 0x5B ∷ ps)

-- from every state on, the search leaves what looking ahead leaves
abbrev Ahead : List ℕ → Type 0
Ahead s = (q : State) (h : List ℕ) → Held q h → strip q h s ≡ passing 0 (h ++ s)

-- outside a sequence
at_rest : (b : ℕ) (s : List ℕ) → Ahead s → (x : Bool) → eqb b esc ≡ x → strip Outside [] (b ∷ s) ≡ passing 0 (b ∷ s)
unfolding act_of
at_rest b s rest true e = subst (λ (b : ℕ). strip Outside [] (b ∷ s) ≡ passing 0 (b ∷ s)) (sym (eqb-true b esc e)) (rest Escape (esc ∷ []) escaped)
at_rest b s rest false e =
    ap (λ (a : Act). left_by a [] b (λ q h. strip q h s)) (act_outside b (eqb-false b esc e))
    ∙ ap (λ (l : List ℕ). b ∷ l) (rest Outside [] nothing) ∙ sym (passing_other b s (eqb-false b esc e))

-- after byte 27
bracket_none : (b : ℕ) (s : List ℕ) → (b ≡ 0x5B → ⊥) → bracket_length (b ∷ s) ≡ 0
unfolding bracket_length
bracket_none b s h = rw (ne_eqb b 0x5B h, bracket_length)

at_escape : (b : ℕ) (s : List ℕ) → Ahead s → (x y : Bool) → eqb b esc ≡ x → eqb b 0x5B ≡ y → strip Escape (esc ∷ []) (b ∷ s) ≡ passing 0 (esc ∷ b ∷ s)
unfolding act_of act_in
at_escape b s rest true y e g =
    subst (λ (b : ℕ). strip Escape (esc ∷ []) (b ∷ s) ≡ passing 0 (esc ∷ b ∷ s)) (sym (eqb-true b esc e))
    (ap (λ (l : List ℕ). esc ∷ l) (rest Escape (esc ∷ []) escaped) ∙ sym (passing_lone (esc ∷ s) (bracket_none esc s (λ z. omega arith))))
at_escape b s rest false true e g =
    subst (λ (b : ℕ). strip Escape (esc ∷ []) (b ∷ s) ≡ passing 0 (esc ∷ b ∷ s)) (sym (eqb-true b 0x5B g)) (rest Bracket (esc ∷ 0x5B ∷ []) (begun Bracket tt [] tt))
at_escape b s rest false false e g =
    ap (λ (a : Act). left_by a (esc ∷ []) b (λ q h. strip q h s)) (let z : act_of Escape b ≡ Text = rw (e, g) in z)
    ∙ ap (λ (l : List ℕ). esc ∷ b ∷ l) (rest Outside [] nothing)
    ∙ ap (λ (l : List ℕ). esc ∷ l) (sym (passing_other b s (eqb-false b esc e)))
    ∙ sym (passing_lone (b ∷ s) (bracket_none b s (eqb-false b 0x5B g)))

-- after byte 27 and `[`
ends : (q : State) → Begun q → (h : List ℕ) (next : State → List ℕ → List ℕ) → left_by (act_of q 0x6D) h 0x6D next ≡ next Outside []
unfolding act_of act_in
ends Outside g h next = absurd g
ends Escape g h next = absurd g
ends Bracket g h next = refl
ends LoneZero g h next = refl
ends Digits g h next = refl

at_begun : (q : State) (ps : List ℕ) (b : ℕ) (s : List ℕ) → Begun q → Parameters ps → Ahead s → (x y z : Bool) → eqb b esc ≡ x → eqb b 0x6D ≡ y → in_sequence b ≡ z
    → strip q (esc ∷ 0x5B ∷ ps) (b ∷ s) ≡ passing 0 (esc ∷ 0x5B ∷ (ps ++ b ∷ s))
at_begun q ps b s k g rest true y z e f h =
    subst (λ (b : ℕ). strip q (esc ∷ 0x5B ∷ ps) (b ∷ s) ≡ passing 0 (esc ∷ 0x5B ∷ (ps ++ b ∷ s))) (sym (eqb-true b esc e))
    (unfold act_of in (ap (λ (l : List ℕ). esc ∷ 0x5B ∷ (ps ++ l)) (rest Escape (esc ∷ []) escaped)
    ∙ sym (passing_open ps (esc ∷ s) g (stops_at esc s (λ w. omega arith) (unfold in_sequence digit within in refl)))))
at_begun q ps b s k g rest false true z e f h =
    subst (λ (b : ℕ). strip q (esc ∷ 0x5B ∷ ps) (b ∷ s) ≡ passing 0 (esc ∷ 0x5B ∷ (ps ++ b ∷ s))) (sym (eqb-true b 0x6D f))
    (ends q k (esc ∷ 0x5B ∷ ps) (λ q' h'. strip q' h' s) ∙ rest Outside [] nothing ∙ sym (passing_done ps s g))
at_begun q ps b s k g rest false false true e f h =
    ap (λ (a : Act). left_by a (esc ∷ 0x5B ∷ ps) b (λ q' h'. strip q' h' s)) (act_onward q b k h)
    ∙ rest (onward q b) (esc ∷ 0x5B ∷ (ps ++ b ∷ [])) (begun (onward q b) (begun_onward q b) (ps ++ b ∷ []) (parameters_append ps (b ∷ []) g (h, tt)))
    ∙ ap (λ (l : List ℕ). passing 0 (esc ∷ 0x5B ∷ l)) (append_assoc ps (b ∷ []) s)
at_begun q ps b s k g rest false false false e f h =
    ap (λ (a : Act). left_by a (esc ∷ 0x5B ∷ ps) b (λ q' h'. strip q' h' s)) (act_breaks q b k (eqb-false b esc e) (eqb-false b 0x6D f) h)
    ∙ ap (λ (l : List ℕ). esc ∷ 0x5B ∷ (ps ++ b ∷ l)) (rest Outside [] nothing)
    ∙ ap (λ (l : List ℕ). esc ∷ 0x5B ∷ (ps ++ l)) (sym (passing_other b s (eqb-false b esc e)))
    ∙ sym (passing_open ps (b ∷ s) g (stops_at b s (eqb-false b 0x6D f) h))

ahead : (s : List ℕ) → Ahead s
unfolding passing bracket_length
ahead [] q h nothing = refl
ahead [] q h escaped = sym (passing_lone [] refl)
ahead [] q h (begun q' k ps g) = ap (λ (l : List ℕ). esc ∷ 0x5B ∷ l) (sym (append-nil ps)) ∙ sym (passing_open ps [] g stops_nil)
ahead (b ∷ s) q h nothing = at_rest b s (ahead s) (eqb b esc) refl
ahead (b ∷ s) q h escaped = at_escape b s (ahead s) (eqb b esc) (eqb b 0x5B) refl refl
ahead (b ∷ s) q h (begun q' k ps g) = at_begun q ps b s k g (ahead s) (eqb b esc) (eqb b 0x6D) (in_sequence b) refl refl refl

-- what is visible is what the search leaves
pub visible_strip : (s : List ℕ) → visible s ≡ strip Outside [] s
unfolding visible
visible_strip s = sym (ahead s Outside [] nothing)
