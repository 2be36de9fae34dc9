-- What is visible of joined texts, of texts without byte 27 and of texts with an insertion. Assumes nothing.
use mathlib.Core.Path.{◌≡◌, refl, ap, sym, ◌∙◌}
use mathlib.Core.Bool.{Bool, true, false, cond}
use mathlib.Core.List.{List, [], ◌∷◌, ◌++◌, append_assoc, append-nil}
use Prim.Native.Nat.{ℕ, zero, suc}
use native.Mathlib.Omega.{arith}
use lib.Dec.{eqb}
use lib.ListN.{replicate}
use borrow.Author.Tests.{eqb-false}
use Rattle.utf8.specs.Utf8.{within}
use Rattle.characters.specs.Characters.{has}
use Rattle.words.specs.declared.Padding.{Padding}
use Rattle.words.specs.declared.Padding.TheVariants.{Space, Zero}
use Rattle.runs.specs.Runs.{digit}
use Rattle.colour.specs.declared.State.TheVariants.{Outside}
use Rattle.colour.specs.declared.Act.{Act}
use Rattle.colour.specs.Sequences.{esc, reset, in_sequence, passing, visible, reinserted}
use Rattle.colour.specs.Machine.{act_in, act_of, state_after, left_by, strip, ins}
use Rattle.colour.specs.Formatting.{pad_byte, ending}
use Rattle.colour.specs.Texts.{Free}
use Rattle.colour.proofs.Acts.{act_outside}
use Rattle.colour.proofs.Strip.{strip_append, Unseen, strip_ins, ins_nil, Trails, strip_trails}
use Rattle.colour.proofs.Visible.{visible_strip}
use Rattle.colour.proofs.Reinserted.{reinserted_ins}

-- ---- s shows v

-- of s the part v is visible, whatever follows: no sequence is open after s
abbrev pub Shows : List ℕ → List ℕ → Type 0
Shows s v = (r : List ℕ) → visible (s ++ r) ≡ v ++ visible r

-- the same of the search
pub shows_by_strip : (s v : List ℕ) → ((r : List ℕ) → strip Outside [] (s ++ r) ≡ v ++ strip Outside [] r) → Shows s v
shows_by_strip s v h r = visible_strip (s ++ r) ∙ h r ∙ ap (λ (l : List ℕ). v ++ l) (sym (visible_strip r))

pub shows_visible : (s v : List ℕ) → Shows s v → visible s ≡ v
unfolding visible passing
shows_visible s v h = ap visible (sym (append-nil s)) ∙ h [] ∙ append-nil v

pub shows_nil : Shows [] []
shows_nil r = refl

pub shows_append : (a b u v : List ℕ) → Shows a u → Shows b v → Shows (a ++ b) (u ++ v)
shows_append a b u v g h r =
    ap visible (append_assoc a b r) ∙ g (b ++ r) ∙ ap (λ (l : List ℕ). u ++ l) (h r) ∙ sym (append_assoc u v (visible r))

-- a text after which no sequence is open shows what is visible of it
pub shows_outside : (s : List ℕ) → state_after Outside s ≡ Outside → Shows s (visible s)
shows_outside s e r =
    visible_strip (s ++ r) ∙ strip_append s r Outside e [] ∙ (λ i. sym (visible_strip s) i ++ sym (visible_strip r) i)

-- what is visible of two texts is what is visible of each, where no sequence is open between them
pub visible_append : (a b : List ℕ) → state_after Outside a ≡ Outside → visible (a ++ b) ≡ visible a ++ visible b
visible_append a b e = shows_outside a e b

-- ---- texts without byte 27

-- they show themselves
pub shows_free : (s : List ℕ) → Free s → Shows s s
shows_free s f = shows_by_strip s s (free s f)
  where
    free : (s : List ℕ) → Free s → (r : List ℕ) → strip Outside [] (s ++ r) ≡ s ++ strip Outside [] r
    free [] f r = refl
    free (b ∷ s) f r =
        ap (λ (a : Act). left_by a [] b (λ q h. strip q h (s ++ r))) (act_outside b f.0) ∙ ap (λ (l : List ℕ). b ∷ l) (free s f.1 r)

pub visible_free : (s : List ℕ) → Free s → visible s ≡ s
visible_free s f = shows_visible s s (shows_free s f)

-- a test for texts without byte 27, for texts that are known
abbrev pub lacks_esc : List ℕ → Bool
lacks_esc [] = true
lacks_esc (b ∷ s) = cond (eqb b esc) false (lacks_esc s)

free_cons : (b : ℕ) (s : List ℕ) (x : Bool) → eqb b esc ≡ x → (lacks_esc s ≡ true → Free s) → cond x false (lacks_esc s) ≡ true → Free (b ∷ s)
free_cons b s true e rest h = absurd (let z : ◌≡◌ {A = ℕ} 0 1 = cc in let y : ⊥ = omega arith in y)
free_cons b s false e rest h = (eqb-false b esc e, rest h)

pub free_by_test : (s : List ℕ) → lacks_esc s ≡ true → Free s
free_by_test [] h = tt
free_by_test (b ∷ s) h = free_cons b s (eqb b esc) refl (free_by_test s) h

-- and so is one that is said not to have it
pub free_by_has : (s : List ℕ) → has esc s ≡ false → Free s
free_by_has [] e = tt
free_by_has (b ∷ s) e = let w = neither (eqb b esc) (has esc s) e in (eqb-false b esc w.0, free_by_has s w.1)
  where
    neither : (x y : Bool) → cond x true y ≡ false → (x ≡ false) × (y ≡ false)
    neither true y e = (cc, cc)
    neither false y e = (refl, e)

pub free_append : (a b : List ℕ) → Free a → Free b → Free (a ++ b)
free_append [] b f g = g
free_append (x ∷ a) b f g = (f.0, free_append a b f.1 g)

pad_not_esc : (z : Padding) → pad_byte z ≡ esc → ⊥
unfolding pad_byte
pad_not_esc Space e = omega arith
pad_not_esc Zero e = omega arith

pub free_pad : (z : Padding) (n : ℕ) → Free (replicate n (pad_byte z))
free_pad z zero = tt
free_pad z (suc n) = (pad_not_esc z, free_pad z n)

-- ---- resets

pub shows_reset : Shows reset []
shows_reset = shows_by_strip reset [] (λ r. unfold act_of act_in in_sequence digit within in refl)

pub shows_ending : (p : List ℕ) → Shows (ending p) []
unfolding ending
shows_ending [] = shows_nil
shows_ending (b ∷ p) = shows_reset

-- ---- insertion

unseen : (p : List ℕ) → Shows p [] → Unseen p
unseen p g r = sym (visible_strip (p ++ r)) ∙ g r ∙ visible_strip r

-- inserting what is not seen after resets leaves what is visible alone, whatever follows
pub visible_reinserted_append : (p : List ℕ) → Shows p [] → (s r : List ℕ) → visible (reinserted p s ++ r) ≡ visible (s ++ r)
visible_reinserted_append p g s r =
    ap (λ (l : List ℕ). visible (l ++ r)) (reinserted_ins p s)
    ∙ visible_strip (ins p Outside s ++ r) ∙ strip_ins p (unseen p g) s r Outside [] ∙ sym (visible_strip (s ++ r))

pub visible_reinserted : (p : List ℕ) → Shows p [] → (s : List ℕ) → visible (reinserted p s) ≡ visible s
visible_reinserted p g s =
    ap visible (sym (append-nil (reinserted p s))) ∙ visible_reinserted_append p g s [] ∙ ap visible (append-nil s)

pub shows_reinserted : (p s v : List ℕ) → Shows p [] → Shows s v → Shows (reinserted p s) v
shows_reinserted p s v g h r = visible_reinserted_append p g s r ∙ h r

-- inserting nothing changes nothing
pub reinserted_nil : (s : List ℕ) → reinserted [] s ≡ s
reinserted_nil s = reinserted_ins [] s ∙ ins_nil s Outside

-- ---- the end of a text

-- what is visible of a text with an end that leaves w after anything
pub visible_trails : (s x w : List ℕ) → Trails x w → visible (s ++ x) ≡ visible s ++ w
visible_trails s x w t = visible_strip (s ++ x) ∙ strip_trails s x w t Outside [] ∙ ap (λ (l : List ℕ). l ++ w) (sym (visible_strip s))
