-- How long a colour sequence is: by its first two bytes, and by the first byte behind them that does not go on with it. Assumes nothing.
use Rattle.std.proofs.Common.{ℕ, zero, suc, ◌+◌, ◌<◌, ◌≡◌, ◌≢◌, Bool, true, false, List, [], ◌∷◌, ◌++◌, refl, ap, sym, ◌∙◌, length, take, drop, get_or, nat_eq, arith}
use lib.Dec.{eqb}
use lib.ListN.{take-append-drop}
use borrow.Author.Tests.{eq-eqb, ne_eqb, eqb-true, eqb-false}
use Rattle.std.specs.Cmp.Lexicographic.{pointwise, same_text, other_text}
use Rattle.utf8.specs.Utf8.{within}
use Rattle.runs.specs.Runs.{digit}
use Rattle.buffer.specs.Bytes.{byte}
use Rattle.colour.specs.Sequences.{esc, longer, in_sequence, tail_length, bracket_length, sequence_length}

-- a byte more, where something was found
longer_none : (n : ℕ) → n ≡ 0 → 0 ≡ longer n
unfolding longer
longer_none zero e = refl
longer_none (suc n) e = absurd (let z : ⊥ = omega arith in z)

longer_some : (n : ℕ) → (n ≡ 0 → ⊥) → n + 1 ≡ longer n
unfolding longer
longer_some zero h = absurd (h refl)
longer_some (suc n) h = omega arith

-- ---- digits and `;`

tail_m : (b : ℕ) (s : List ℕ) → b ≡ 0x6D → tail_length (b ∷ s) ≡ 1
unfolding tail_length
tail_m b s e = rw (eq-eqb b 0x6D e, tail_length)

tail_on : (b : ℕ) (s : List ℕ) → (b ≡ 0x6D → ⊥) → in_sequence b ≡ true → tail_length (b ∷ s) ≡ longer (tail_length s)
unfolding tail_length
tail_on b s n g = rw (ne_eqb b 0x6D n, g, tail_length)

tail_off : (b : ℕ) (s : List ℕ) → (b ≡ 0x6D → ⊥) → in_sequence b ≡ false → tail_length (b ∷ s) ≡ 0
unfolding tail_length
tail_off b s n g = rw (ne_eqb b 0x6D n, g, tail_length)

-- the end of a sequence does not go on with it
m_ends : in_sequence (byte "m") ≡ false
unfolding in_sequence digit within
m_ends = refl

not_m : (b : ℕ) → in_sequence b ≡ true → b ≢ byte "m"
not_m b g e = let z : false ≡ true = sym m_ends ∙ ap in_sequence (sym e) ∙ g in absurd (let y : ⊥ = cc in y)

-- the first byte that does not go on is its end
pub tail_found : (s : List ℕ) (n : ℕ) → n < length s → get_or s n 0 ≡ byte "m" → ((k : ℕ) → k < n → in_sequence (get_or s k 0) ≡ true) → tail_length s ≡ n + 1
tail_found [] n h e before = absurd (omega arith)
tail_found (b ∷ s) zero h e before = tail_m b s e
tail_found (b ∷ s) (suc n) h e before =
    let g = before 0 (omega arith) in
    tail_on b s (not_m b g) g ∙ ap longer (tail_found s n (omega arith) e (λ k l. before (suc k) (omega arith))) ∙ sym (longer_some (n + 1) (λ z. omega arith)) ∙ omega arith

-- or another
pub tail_broken : (s : List ℕ) (n : ℕ) → n < length s → in_sequence (get_or s n 0) ≡ false → get_or s n 0 ≢ byte "m" → ((k : ℕ) → k < n → in_sequence (get_or s k 0) ≡ true) → tail_length s ≡ 0
tail_broken [] n h g e before = absurd (omega arith)
tail_broken (b ∷ s) zero h g e before = tail_off b s e g
tail_broken (b ∷ s) (suc n) h g e before =
    let f = before 0 (omega arith) in
    tail_on b s (not_m b f) f ∙ ap longer (tail_broken s n (omega arith) g e (λ k l. before (suc k) (omega arith))) ∙ sym (longer_none 0 refl)

-- or the text ends before it
pub tail_unended : (s : List ℕ) → ((k : ℕ) → k < length s → in_sequence (get_or s k 0) ≡ true) → tail_length s ≡ 0
unfolding tail_length
tail_unended [] before = refl
tail_unended (b ∷ s) before =
    let f = before 0 (omega arith) in
    tail_on b s (not_m b f) f ∙ ap longer (tail_unended s (λ k l. before (suc k) (omega arith))) ∙ sym (longer_none 0 refl)

-- ---- `[` and byte 27

bracket_is : (b : ℕ) (s : List ℕ) → b ≡ 0x5B → bracket_length (b ∷ s) ≡ longer (tail_length s)
unfolding bracket_length
bracket_is b s e = rw (eq-eqb b 0x5B e, bracket_length)

bracket_not : (b : ℕ) (s : List ℕ) → (b ≡ 0x5B → ⊥) → bracket_length (b ∷ s) ≡ 0
unfolding bracket_length
bracket_not b s n = rw (ne_eqb b 0x5B n, bracket_length)

escape_is : (b : ℕ) (s : List ℕ) → b ≡ esc → sequence_length (b ∷ s) ≡ longer (bracket_length s)
unfolding sequence_length
escape_is b s e = rw (eq-eqb b esc e, sequence_length)

escape_not : (b : ℕ) (s : List ℕ) → (b ≡ esc → ⊥) → sequence_length (b ∷ s) ≡ 0
unfolding sequence_length
escape_not b s n = rw (ne_eqb b esc n, sequence_length)

no_bracket : (s : List ℕ) → take 1 s ≢ byte "[" ∷ [] → bracket_length s ≡ 0
unfolding bracket_length
no_bracket [] h = refl
no_bracket (b ∷ s) h = bracket_not b s (λ e. h (ap (λ (x : ℕ). x ∷ []) e))

-- a text that begins with neither
pub not_begun : (s : List ℕ) → pointwise nat_eq (take 2 s) (esc ∷ byte "[" ∷ []) ≡ false → sequence_length s ≡ 0
unfolding sequence_length
not_begun [] h = refl
not_begun (b ∷ s) h = by (eqb b esc) refl
  where
    by : (x : Bool) → eqb b esc ≡ x → sequence_length (b ∷ s) ≡ 0
    by true e =
        let q = eqb-true b esc e in
        escape_is b s q ∙ ap longer (no_bracket s (λ z. other_text _ _ (sym h) (λ k. q k ∷ z k))) ∙ sym (longer_none 0 refl)
    by false e = escape_not b s (eqb-false b esc e)

-- a text x behind them
module _ (s x : List ℕ) (h : pointwise nat_eq (take 2 s) (esc ∷ byte "[" ∷ []) ≡ true) (e : x ≡ drop 2 s) where
  begun : sequence_length s ≡ longer (longer (tail_length x))
  begun =
      let t : take 2 s ≡ esc ∷ byte "[" ∷ [] = same_text _ _ (sym h) in
      let w : s ≡ esc ∷ byte "[" ∷ x = sym (take-append-drop 2 s) ∙ (λ k. t k ++ sym e k) in
      ap sequence_length w ∙ escape_is esc (byte "[" ∷ x) refl ∙ ap longer (bracket_is (byte "[") x refl)

  pub begun_only : tail_length x ≡ 0 → sequence_length s ≡ 0
  unfolding longer
  begun_only z = begun ∙ ap (λ (n : ℕ). longer (longer n)) z

  pub begun_and_ended : (n : ℕ) → tail_length x ≡ n + 1 → sequence_length s ≡ n + 3
  begun_and_ended n z = begun ∙ ap (λ (n : ℕ). longer (longer n)) z ∙ ap longer (sym (longer_some (n + 1) (λ z. omega arith))) ∙ sym (longer_some (n + 1 + 1) (λ z. omega arith)) ∙ omega arith
