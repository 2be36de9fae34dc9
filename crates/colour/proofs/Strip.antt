-- Laws of `strip`, what the search leaves: of joined texts, of an insertion, of padding at the end. Assumes nothing.
use mathlib.Core.Path.{◌≡◌, refl, ap, sym, ◌∙◌}
use mathlib.Core.Bool.{Bool, true, false, cond}
use mathlib.Core.List.{List, [], ◌∷◌, ◌++◌, append_assoc, append-nil}
use Prim.Native.Nat.{ℕ, zero, suc}
use lib.Dec.{eqb}
use lib.ListN.{replicate}
use Rattle.utf8.specs.Utf8.{within}
use Rattle.words.specs.declared.Padding.{Padding}
use Rattle.words.specs.declared.Padding.TheVariants.{Space, Zero}
use Rattle.runs.specs.Runs.{digit}
use Rattle.colour.specs.declared.State.{State}
use Rattle.colour.specs.declared.State.TheVariants.{Outside, Escape, Bracket, LoneZero, Digits}
use Rattle.colour.specs.declared.Act.{Act}
use Rattle.colour.specs.declared.Act.TheVariants.{Text, Esc, More, Done, Reset}
use Rattle.colour.specs.Sequences.{esc, reset, in_sequence}
use Rattle.colour.specs.Machine.{act_in, act_of, after, state_after, left_by, strip, behind, ins}
use Rattle.colour.specs.Formatting.{pad_byte, ending}

-- ---- texts joined

-- what is held outside a sequence is left as it is
strip_held : (h s : List ℕ) → strip Outside h s ≡ h ++ strip Outside [] s
unfolding act_of act_in
strip_held h [] = sym (append-nil h)
strip_held h (b ∷ s) = by (eqb b esc)
  where
    by : (x : Bool) → left_by (cond x Esc Text) h b (λ q h'. strip q h' s) ≡ h ++ left_by (cond x Esc Text) [] b (λ q h'. strip q h' s)
    by true = refl
    by false = refl

append_at : (s r : List ℕ) (a : Act) → ((h : List ℕ) → strip (after a) h (s ++ r) ≡ strip (after a) h s ++ strip Outside [] r) → (h : List ℕ) (b : ℕ)
    → left_by a h b (λ q h'. strip q h' (s ++ r)) ≡ left_by a h b (λ q h'. strip q h' s) ++ strip Outside [] r
append_at s r Text rest h b = ap (λ (l : List ℕ). h ++ b ∷ l) (rest []) ∙ sym (append_assoc h (b ∷ strip Outside [] s) (strip Outside [] r))
append_at s r Esc rest h b = ap (λ (l : List ℕ). h ++ l) (rest (b ∷ [])) ∙ sym (append_assoc h (strip Escape (b ∷ []) s) (strip Outside [] r))
append_at s r (More q) rest h b = rest (h ++ b ∷ [])
append_at s r Done rest h b = rest []
append_at s r Reset rest h b = rest []

-- a text after which no sequence is open, and any other text
pub strip_append : (s r : List ℕ) (q : State) → state_after q s ≡ Outside → (h : List ℕ) → strip q h (s ++ r) ≡ strip q h s ++ strip Outside [] r
strip_append [] r q e h = ap (λ (q : State). strip q h r) e ∙ strip_held h r
strip_append (b ∷ s) r q e h = append_at s r (act_of q b) (strip_append s r (after (act_of q b)) e) h b

-- ---- an insertion

-- p is left out, whatever follows
abbrev pub Unseen : List ℕ → Type 0
Unseen p = (r : List ℕ) → strip Outside [] (p ++ r) ≡ strip Outside [] r

ins_at : (p : List ℕ) → Unseen p → (s r : List ℕ) → ((q : State) (h : List ℕ) → strip q h (ins p q s ++ r) ≡ strip q h (s ++ r)) → (h : List ℕ) (b : ℕ) (a : Act)
    → left_by a h b (λ q' h'. strip q' h' ((behind a p ++ ins p (after a) s) ++ r)) ≡ left_by a h b (λ q' h'. strip q' h' (s ++ r))
ins_at p g s r rest h b Text = ap (λ (l : List ℕ). h ++ b ∷ l) (rest Outside [])
ins_at p g s r rest h b Esc = ap (λ (l : List ℕ). h ++ l) (rest Escape (b ∷ []))
ins_at p g s r rest h b (More q) = rest q (h ++ b ∷ [])
ins_at p g s r rest h b Done = rest Outside []
ins_at p g s r rest h b Reset = ap (strip Outside []) (append_assoc p (ins p Outside s) r) ∙ g (ins p Outside s ++ r) ∙ rest Outside []

-- inserting what is left out changes nothing of what is left
pub strip_ins : (p : List ℕ) → Unseen p → (s r : List ℕ) (q : State) (h : List ℕ) → strip q h (ins p q s ++ r) ≡ strip q h (s ++ r)
strip_ins p g [] r q h = refl
strip_ins p g (b ∷ s) r q h = ins_at p g s r (strip_ins p g s r) h b (act_of q b)

behind_nil : (a : Act) (l : List ℕ) → behind a [] ++ l ≡ l
behind_nil Text l = refl
behind_nil Esc l = refl
behind_nil (More q) l = refl
behind_nil Done l = refl
behind_nil Reset l = refl

-- inserting nothing
pub ins_nil : (s : List ℕ) (q : State) → ins [] q s ≡ s
ins_nil [] q = refl
ins_nil (b ∷ s) q = ap (λ (l : List ℕ). b ∷ l) (behind_nil (act_of q b) (ins [] (after (act_of q b)) s) ∙ ins_nil s (after (act_of q b)))

-- ---- the end of a formatted text

-- at the end, after anything, x leaves w and lets go what is held
abbrev pub Trails : List ℕ → List ℕ → Type 0
Trails x w = (q : State) (h : List ℕ) → strip q h x ≡ h ++ w

after_at : (s x w : List ℕ) → ((q : State) (h : List ℕ) → strip q h (s ++ x) ≡ strip q h s ++ w) → (h : List ℕ) (b : ℕ) (a : Act)
    → left_by a h b (λ q' h'. strip q' h' (s ++ x)) ≡ left_by a h b (λ q' h'. strip q' h' s) ++ w
after_at s x w rest h b Text = ap (λ (l : List ℕ). h ++ b ∷ l) (rest Outside []) ∙ sym (append_assoc h (b ∷ strip Outside [] s) w)
after_at s x w rest h b Esc = ap (λ (l : List ℕ). h ++ l) (rest Escape (b ∷ [])) ∙ sym (append_assoc h (strip Escape (b ∷ []) s) w)
after_at s x w rest h b (More q) = rest q (h ++ b ∷ [])
after_at s x w rest h b Done = rest Outside []
after_at s x w rest h b Reset = rest Outside []

pub strip_trails : (s x w : List ℕ) → Trails x w → (q : State) (h : List ℕ) → strip q h (s ++ x) ≡ strip q h s ++ w
strip_trails [] x w t q h = t q h
strip_trails (b ∷ s) x w t q h = after_at s x w (strip_trails s x w t) h b (act_of q b)

pub trails_nil : Trails [] []
trails_nil q h = sym (append-nil h)

pub trails_reset : Trails reset []
unfolding act_of act_in in_sequence digit within
trails_reset q h = refl

pub trails_ending : (p : List ℕ) → Trails (ending p) []
unfolding ending
trails_ending [] = trails_nil
trails_ending (b ∷ p) = trails_reset

-- what neither begins nor ends a sequence
abbrev pub Stays : Act → Type 0
Stays Text = Unit {0}
Stays Esc = ⊥
Stays (More q) = Unit {0}
Stays Done = ⊥
Stays Reset = ⊥

-- padding neither begins nor ends one
pub stays_pad : (z : Padding) (q : State) → Stays (act_of q (pad_byte z))
unfolding act_of act_in in_sequence digit within pad_byte
stays_pad Space Outside = tt
stays_pad Space Escape = tt
stays_pad Space Bracket = tt
stays_pad Space LoneZero = tt
stays_pad Space Digits = tt
stays_pad Zero Outside = tt
stays_pad Zero Escape = tt
stays_pad Zero Bracket = tt
stays_pad Zero LoneZero = tt
stays_pad Zero Digits = tt

pad_at : (x w : List ℕ) (z : ℕ) → Trails x w → (h : List ℕ) (a : Act) → Stays a → left_by a h z (λ q' h'. strip q' h' x) ≡ h ++ z ∷ w
pad_at x w z t h Text s = ap (λ (l : List ℕ). h ++ z ∷ l) (t Outside [])
pad_at x w z t h Esc s = absurd s
pad_at x w z t h (More q) s = t q (h ++ z ∷ []) ∙ append_assoc h (z ∷ []) w
pad_at x w z t h Done s = absurd s
pad_at x w z t h Reset s = absurd s

pub trails_pad : (z : Padding) (n : ℕ) (x w : List ℕ) → Trails x w → Trails (replicate n (pad_byte z) ++ x) (replicate n (pad_byte z) ++ w)
trails_pad z zero x w t q h = t q h
trails_pad z (suc n) x w t q h =
    pad_at (replicate n (pad_byte z) ++ x) (replicate n (pad_byte z) ++ w) (pad_byte z) (trails_pad z n x w t) h (act_of q (pad_byte z)) (stays_pad z q)
