-- What is visible and what is in sequences make the whole text. Assumes nothing.
use mathlib.Core.Path.{◌≡◌, refl, ap}
use mathlib.Core.List.{List, [], ◌∷◌, ◌++◌}
use Prim.Native.Nat.{ℕ, ◌+◌}
use native.Mathlib.Omega.{arith}
use native.Mathlib.Decide.{dec_lt}
use lib.ListN.{length, length-append}
use Rattle.characters.specs.Characters.{begins, chars}
use Rattle.characters.proofs.Counting.{begins_below, chars_append}
use Rattle.colour.specs.declared.State.{State}
use Rattle.colour.specs.declared.State.TheVariants.{Outside, Escape}
use Rattle.colour.specs.declared.Act.{Act}
use Rattle.colour.specs.declared.Act.TheVariants.{Text, Esc, More, Done, Reset}
use Rattle.colour.specs.declared.Scan.{Scan}
use Rattle.colour.specs.Sequences.{visible}
use Rattle.colour.specs.Machine.{act_of, moved, scan, start, left_by, strip}
use Rattle.colour.proofs.Acts.{act_high}
use Rattle.colour.proofs.Visible.{visible_strip}

-- a byte that is not text is one character
one : (q : State) (b : ℕ) → (act_of q b ≡ Text → ⊥) → begins b ≡ 1
one q b n = elim (dec_lt b 0x80) [ yes h ↦ begins_below b h | no g ↦ absurd (n (act_high q b (omega arith))) ]

-- with h held, all of it single characters
abbrev Whole_from : List ℕ → List ℕ → Scan → Type 0
Whole_from s h t = t.held ≡ length h → chars h ≡ length h → chars (strip t.state h s) + (scan t s).sequences ≡ chars h + chars s + t.sequences

whole_at : (s h : List ℕ) (b : ℕ) (t : Scan) → ((h : List ℕ) (t : Scan) → Whole_from s h t) → t.held ≡ length h → chars h ≡ length h
    → (x : Act) → ((x ≡ Text → ⊥) → begins b ≡ 1)
    → chars (left_by x h b (λ q h'. strip q h' s)) + (scan (moved x t) s).sequences ≡ chars h + (begins b + chars s) + t.sequences
whole_at s h b t rest k a Text o = omega (arith, chars_append h (b ∷ strip Outside [] s), rest [] (moved Text t) refl refl)
whole_at s h b t rest k a Esc o =
    let e : begins b ≡ 1 = o (λ z. let y : ◌≡◌ {A = ℕ} 0 1 = cc in omega arith) in
    omega (arith, chars_append h (strip Escape (b ∷ []) s), rest (b ∷ []) (moved Esc t) refl (omega arith))
whole_at s h b t rest k a (More q) o =
    let e : begins b ≡ 1 = o (λ z. let y : ◌≡◌ {A = ℕ} 0 1 = cc in omega arith) in
    let l : length (h ++ b ∷ []) ≡ length h + 1 = length-append h (b ∷ []) in
    let g : chars (h ++ b ∷ []) ≡ chars h + (begins b + 0) = chars_append h (b ∷ []) in
    omega (arith, rest (h ++ b ∷ []) (moved (More q) t) (omega arith) (omega arith))
whole_at s h b t rest k a Done o =
    let e : begins b ≡ 1 = o (λ z. let y : ◌≡◌ {A = ℕ} 0 1 = cc in omega arith) in
    omega (arith, rest [] (moved Done t) refl refl)
whole_at s h b t rest k a Reset o =
    let e : begins b ≡ 1 = o (λ z. let y : ◌≡◌ {A = ℕ} 0 1 = cc in omega arith) in
    omega (arith, rest [] (moved Reset t) refl refl)

whole_from : (s h : List ℕ) (t : Scan) → Whole_from s h t
whole_from [] h t k a = omega arith
whole_from (b ∷ s) h t k a = whole_at s h b t (whole_from s) k a (act_of t.state b) (one t.state b)

-- the characters that are visible and the bytes of whole sequences are the characters of the text
pub visible_chars : (s : List ℕ) → chars (visible s) + (scan start s).sequences ≡ chars s
visible_chars s = omega (arith, ap chars (visible_strip s), whole_from s [] start refl refl)
