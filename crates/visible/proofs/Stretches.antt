-- What is visible, stretch by stretch: the bytes up to a colour sequence stay, and the sequence is passed over. Assumes nothing.
use Rattle.std.specs.Prelude.{Option, Some, None, MatchOption, unwrap_or}
use Rattle.std.proofs.Common.{ℕ, zero, suc, ◌+◌, ◌-◌, ◌<◌, ◌≤◌, ◌≡◌, ◌≢◌, Bool, true, false, List, [], ◌∷◌, ◌++◌, refl, ap, sym, subst, ◌∙◌, length, take, drop, get_or, append_assoc, length-drop, arith}
use lib.Dec.{ltb}
use lib.Seq.{drop-nil}
use borrow.Author.Tests.{ltb-true, ltb-false}
use Rattle.std.proofs.lemmas.List.{take_all, take_more}
use Rattle.buffer.specs.Bytes.{part}
use Rattle.buffer.proofs.Parts.{drop_step}
use Rattle.colour.specs.Sequences.{sequence_length, unless_sequence, passing, visible}

-- ---- one place

-- where no sequence begins the byte stays
stays : (b : ℕ) (s : List ℕ) → sequence_length (b ∷ s) ≡ 0 → passing 0 (b ∷ s) ≡ b ∷ passing 0 s
unfolding passing unless_sequence
stays b s e = ap (λ (n : ℕ). unless_sequence n b (λ k. passing k s)) e

-- passing over n bytes
passing_drop : (n : ℕ) (s : List ℕ) → passing n s ≡ passing 0 (drop n s)
unfolding passing
passing_drop zero s = refl
passing_drop (suc n) [] = refl
passing_drop (suc n) (b ∷ s) = passing_drop n s

-- a sequence that begins here, if one does, is passed over
over : (s : List ℕ) → passing 0 s ≡ passing 0 (drop (sequence_length s) s)
unfolding passing unless_sequence
over [] = ap (passing 0) (sym (drop-nil (sequence_length [])))
over (b ∷ s) = by (sequence_length (b ∷ s)) refl
  where
    by : (n : ℕ) → sequence_length (b ∷ s) ≡ n → passing 0 (b ∷ s) ≡ passing 0 (drop n (b ∷ s))
    by zero e = refl
    by (suc n) e = ap (λ (n : ℕ). unless_sequence n b (λ k. passing k s)) e ∙ passing_drop n s

passing_nil : passing 0 [] ≡ []
unfolding passing
passing_nil = refl

pub visible_none : (s : List ℕ) → length s ≡ 0 → visible s ≡ []
unfolding visible passing
visible_none [] h = refl
visible_none (b ∷ s) h = absurd (omega arith)

-- what is visible of a text is what is visible of it without the sequence that begins it
pub past : (s : List ℕ) → visible s ≡ visible (drop (sequence_length s) s)
unfolding visible
past s = over s

-- the bytes from n on, as the code has them
pub rest_part : (s : List ℕ) (n : ℕ) → part n (length s) s ≡ drop n s
rest_part s n = take_all (length s - n) (drop n s) (omega (arith, length-drop n s))

-- ---- stretches

-- what is visible is the first n bytes, and what is visible behind them
abbrev pub Stays : List ℕ → ℕ → Type 0
Stays s n = visible s ≡ take n s ++ visible (drop n s)

pub stretch_start : (s : List ℕ) → Stays s 0
stretch_start s = refl

pub stretch_next : (s : List ℕ) (n : ℕ) → n < length s → sequence_length (drop n s) ≡ 0 → Stays s n → Stays s (n + 1)
unfolding visible
stretch_next s n h z v =
    let d = drop_step s n h in
    v
    ∙ ap (λ (l : List ℕ). take n s ++ l) (ap (passing 0) d ∙ stays (get_or s n 0) (drop (n + 1) s) (ap sequence_length (sym d) ∙ z))
    ∙ sym (append_assoc (take n s) (get_or s n 0 ∷ []) (passing 0 (drop (n + 1) s)))
    ∙ ap (λ (l : List ℕ). l ++ passing 0 (drop (n + 1) s)) (sym (take_more s n 0 h))

-- where no sequence begins before n
all_stay : (s : List ℕ) (n : ℕ) → n ≤ length s → ((k : ℕ) → k < n → sequence_length (drop k s) ≡ 0) → Stays s n
all_stay s zero h z = stretch_start s
all_stay s (suc n) h z =
    let e : n + 1 ≡ suc n = omega arith in
    subst (Stays s) e (stretch_next s n (omega arith) (z n (omega arith)) (all_stay s n (omega arith) (λ k l. z k (omega arith))))

-- a stretch as a search for the first sequence has it
pub record Stretch (s : List ℕ) (n : ℕ) : Type 0 where
  pub value : Stays s n
  pub within : n ≤ length s
  pub before_sequence : n < length s → 0 < sequence_length (drop n s)

pub stretch_found : (s : List ℕ) (r : Option ℕ)
    → MatchOption r ((k : ℕ) → 0 ≤ k → k < length s → sequence_length (drop k s) ≡ 0) (λ i. (0 ≤ i) × (i < length s) × (0 < sequence_length (drop i s)) × ((k : ℕ) → 0 ≤ k → k < i → sequence_length (drop k s) ≡ 0))
    → Stretch s (unwrap_or r (length s))
stretch_found s None none = record { value = all_stay s (length s) (omega arith) (λ k h. none k (omega arith) h); within = omega arith; before_sequence = λ h. absurd (omega arith) }
stretch_found s (Some i) f = record { value = all_stay s i (omega (arith, f.1)) (λ k h. f.3 k (omega arith) h); within = omega (arith, f.1); before_sequence = λ h. f.2 }

-- a step of the walk: the bytes that stay, and what is visible behind the sequence after them
pub walked : (s x r : List ℕ) (n : ℕ) → Stays s n → x ≡ part n (length s) s → r ≡ drop (sequence_length x) x → visible s ≡ take n s ++ visible r
walked s x r n v e q =
    v ∙ ap (λ (l : List ℕ). take n s ++ l) (ap visible (sym (rest_part s n) ∙ sym e) ∙ past x ∙ ap visible (sym q))

-- each step brings the end nearer: where the bytes that stay do not reach it, a sequence is passed over
pub nearer : (s x r : List ℕ) (n : ℕ) → length s ≢ 0 → n ≤ length s → (n < length s → 0 < sequence_length (drop n s)) → x ≡ part n (length s) s → r ≡ drop (sequence_length x) x
    → length r < length s
nearer s x r n h w f e q =
    let d : x ≡ drop n s = e ∙ rest_part s n in
    let lx : length x ≡ length s - n = ap length d ∙ length-drop n s in
    let lr : length r ≡ length x - sequence_length x = ap length q ∙ length-drop (sequence_length x) x in
    let z : sequence_length x ≡ sequence_length (drop n s) = ap sequence_length d in
    by (ltb n (length s)) refl lx lr z
  where
    by : (b : Bool) → ltb n (length s) ≡ b → length x ≡ length s - n → length r ≡ length x - sequence_length x → sequence_length x ≡ sequence_length (drop n s) → length r < length s
    by true t l lr z = let o = f (ltb-true n (length s) t) in omega arith
    by false t l lr z = let o = ltb-false n (length s) t in omega arith
