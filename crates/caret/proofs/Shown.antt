-- Laws of a line that is shown, one for each case of the code. Assumes nothing.
use Prim.Native.Nat.{ℕ, zero, suc, ◌+◌, ◌-◌, ◌≤◌, ◌<◌}
use mathlib.Core.Path.{◌≡◌, refl, ap, sym, ◌∙◌}
use mathlib.Core.Bool.{Bool, true, false}
use mathlib.Core.List.{List, [], ◌∷◌, ◌++◌}
use native.Mathlib.Omega.{arith}
use lib.Dec.{eqb}
use Rattle.std.proofs.Common.{◌≢◌}
use Rattle.std.proofs.lemmas.List.{get_or-drop, get_or-take}
use Rattle.runs.specs.Runs.{run_end}
use lib.ListN.{length, get_or, take, drop, replicate, length-append, length-replicate}
use lib.Seq.{drop-drop, length-take-le}
use borrow.Author.Tests.{tests, eq-eqb, ne_eqb, eqb-true, eqb-false}
use Rattle.buffer.specs.Bytes.{byte, bytes, part}
use Rattle.buffer.specs.Buffer.{put_at, Puts}
use Rattle.buffer.proofs.Parts.{drop_step, first_left, part_length}
use Rattle.buffer.proofs.Writing.{join}
use Rattle.characters.specs.Characters.{chars}
use Rattle.characters.proofs.Counting.{chars_length}
use Rattle.std.specs.Char.{is_ascii_control}
use Rattle.caret.specs.Caret.{line_from, line_to, goes_on, is_control, ends_control, harmless, harmless_behind, shown_line, caret_line}

-- ---- where a line begins and ends

-- behind the last newline before the place
last_at : (t : List ℕ) (p i : ℕ) → i < p → get_or t i 0 ≡ byte "\n" → ((k : ℕ) → i < k → k < p → get_or t k 0 ≢ byte "\n") → i + 1 ≡ line_from t p
unfolding line_from
last_at t zero i h b after = absurd (omega arith)
last_at t (suc p) i h b after = by (eqb i p) refl (λ l. last_at t p i l b (λ k m n. after k m (omega arith)))
  where
    by : (x : Bool) → eqb i p ≡ x → (i < p → i + 1 ≡ line_from t p) → i + 1 ≡ line_from t (suc p)
    by true e rest =
        let q : i ≡ p = eqb-true i p e in
        let g : get_or t p 0 ≡ byte "\n" = ap (λ (k : ℕ). get_or t k 0) (sym q) ∙ b in
        rw (eq-eqb (get_or t p 0) (byte "\n") g, line_from) (omega arith)
    by false e rest =
        let l : i < p = omega (arith, eqb-false i p e) in
        rw (ne_eqb (get_or t p 0) (byte "\n") (after p l (omega arith)), line_from) (rest l)

-- at the start where none is
none_at : (t : List ℕ) (p : ℕ) → ((k : ℕ) → k < p → get_or t k 0 ≢ byte "\n") → 0 ≡ line_from t p
unfolding line_from
none_at t zero h = refl
none_at t (suc p) h = rw (ne_eqb (get_or t p 0) (byte "\n") (h p (omega arith)), line_from) (none_at t p (λ k l. h k (omega arith)))

-- a run ends at the first newline, or at its end
first_at : (t : List ℕ) (n p i : ℕ) → p ≤ i → i ≤ p + n → (i < p + n → get_or t i 0 ≡ byte "\n") → ((k : ℕ) → p ≤ k → k < i → get_or t k 0 ≢ byte "\n") → i ≡ run_end goes_on t n p
unfolding run_end goes_on
first_at t zero p i h g here before = omega arith
first_at t (suc n) p i h g here before =
    by (eqb p i) refl (λ l. first_at t n (p + 1) i (omega arith) (omega arith) (λ m. here (omega arith)) (λ k m o. before k (omega arith) o))
  where
    by : (x : Bool) → eqb p i ≡ x → (p < i → i ≡ run_end goes_on t n (p + 1)) → i ≡ run_end goes_on t (suc n) p
    by true e rest =
        let q : p ≡ i = eqb-true p i e in
        let b : get_or t p 0 ≡ byte "\n" = ap (λ (k : ℕ). get_or t k 0) q ∙ here (omega arith) in
        rw (eq-eqb (get_or t p 0) (byte "\n") b, run_end) (sym q)
    by false e rest =
        let l : p < i = omega (arith, eqb-false p i e) in
        rw (ne_eqb (get_or t p 0) (byte "\n") (before p (omega arith) l), run_end) (rest l)

-- what is found in the part of the text before the place, and behind it
module _ (t : List ℕ) (p : ℕ) (h : p ≤ length t) where
  before_place : (k : ℕ) → k < p → get_or (take p t) k 0 ≡ get_or t k 0
  before_place k l = get_or-take p t k 0 l

  pub line_from_newline : (i : ℕ) → i < length (take p t) → get_or (take p t) i 0 ≡ byte "\n"
      → ((k : ℕ) → i < k → k < length (take p t) → get_or (take p t) k 0 ≢ byte "\n") → (i + 1 ≡ line_from t p) × (i + 1 ≤ p)
  line_from_newline i l b after =
      let n : length (take p t) ≡ p = length-take-le p t h in
      let m : i < p = omega arith in
      (last_at t p i m (sym (before_place i m) ∙ b) (λ k o q e. after k o (omega arith) (before_place k q ∙ e)), omega arith)

  pub line_from_start : ((k : ℕ) → k < length (take p t) → get_or (take p t) k 0 ≢ byte "\n") → (0 ≡ line_from t p) × (0 ≤ p)
  line_from_start none =
      let n : length (take p t) ≡ p = length-take-le p t h in
      (none_at t p (λ k q e. none k (omega arith) (before_place k q ∙ e)), omega arith)

  behind_place : (k : ℕ) → p + k < length t → get_or (part p (length t) t) k 0 ≡ get_or t (p + k) 0
  behind_place k l = get_or-take (length t - p) (drop p t) k 0 (omega arith) ∙ get_or-drop p t k 0

  behind : (i : ℕ) → ((k : ℕ) → k < i → get_or (part p (length t) t) k 0 ≢ byte "\n") → p + i ≤ length t → (k : ℕ) → p ≤ k → k < p + i → get_or t k 0 ≢ byte "\n"
  behind i before l k m o e =
      let q : p + (k - p) ≡ k = omega arith in
      before (k - p) (omega arith) (behind_place (k - p) (omega arith) ∙ ap (λ (j : ℕ). get_or t j 0) q ∙ e)

  pub line_to_newline : (i : ℕ) → i < length (part p (length t) t) → get_or (part p (length t) t) i 0 ≡ byte "\n"
      → ((k : ℕ) → k < i → get_or (part p (length t) t) k 0 ≢ byte "\n") → (p + i ≡ line_to t p) × (p ≤ p + i) × (p + i ≤ length t)
  line_to_newline i l b before =
      let n : length (part p (length t) t) ≡ length t - p = part_length t p (length t) h (omega arith) in
      (first_at t (length t - p) p (p + i) (omega arith) (omega arith) (λ m. sym (behind_place i (omega arith)) ∙ b) (behind i before (omega arith)), omega arith, omega arith)

  pub line_to_end : ((k : ℕ) → k < length (part p (length t) t) → get_or (part p (length t) t) k 0 ≢ byte "\n") → (length t ≡ line_to t p) × (p ≤ length t) × (length t ≤ length t)
  line_to_end none =
      let n : length (part p (length t) t) ≡ length t - p = part_length t p (length t) h (omega arith) in
      let q : p + (length t - p) ≡ length t = omega arith in
      (first_at t (length t - p) p (length t) h (omega arith) (λ m. absurd (omega arith)) (λ k m o. behind (length t - p) (λ j l. none j (omega arith)) (omega arith) k m (omega arith)), h, omega arith)

-- ---- a byte as it is shown

-- a control character is one of std's
pub control_is : (b : ℕ) → is_ascii_control b ≡ is_control b
unfolding is_control
control_is b = grind (arith, tests)

module _ (before b : ℕ) where
  pub harmless_control : is_control b ≡ true → harmless before b ≡ byte "?"
  unfolding harmless
  harmless_control q = rw (q, harmless)

  pub harmless_two : is_control b ≡ false → ends_control before b ≡ true → harmless before b ≡ 0xBF
  unfolding harmless
  harmless_two q r = rw (q, r, harmless)

  pub harmless_as_it_is : is_control b ≡ false → ends_control before b ≡ false → harmless before b ≡ b
  unfolding harmless
  harmless_as_it_is q r = rw (q, r, harmless)

-- ---- a line as it is shown

pub shown_length : (before : ℕ) (s : List ℕ) → length (harmless_behind before s) ≡ length s
unfolding harmless_behind
shown_length before [] = refl
shown_length before (b ∷ s) = ap suc (shown_length b s)

step : (s : List ℕ) (before i : ℕ) → i < length s
    → harmless_behind before (drop i s) ≡ harmless before (get_or s i 0) ∷ harmless_behind (get_or s i 0) (drop (i + 1) s)
unfolding harmless_behind
step s before i h = ap (harmless_behind before) (drop_step s i h)

-- m goes on from i as s is shown from there
module _ (s m : List ℕ) (before i : ℕ) (h : i < length s) (q : drop i m ≡ harmless_behind before (drop i s)) where
  pub byte_shown : harmless before (get_or s i 0) ≡ get_or m i 0
  byte_shown = sym (sym (first_left m i) ∙ ap (λ (x : List ℕ). get_or x 0 0) (q ∙ step s before i h))

  pub rest_shown : drop (i + 1) m ≡ harmless_behind (get_or s i 0) (drop (i + 1) s)
  rest_shown = sym (drop-drop 1 i m) ∙ ap (drop 1) (q ∙ step s before i h)

-- ---- what is put

module _ (t d d' d'' : List ℕ) (p r : ℕ) where
  -- the line and a newline
  pub line_put : (from to : ℕ) → from ≡ line_from t p → to ≡ line_to t p → from ≤ p → p ≤ to → to ≤ length t → length t < length d
      → d' ≡ put_at d 0 (harmless_behind 0 (part from to t)) → Puts d' d'' (to - from) (bytes "\n") r → Puts d d'' 0 (shown_line t p) r
  unfolding shown_line
  line_put from to ef et hf hp ht hd e f =
      let x = harmless_behind 0 (part from to t) in
      let n : length x ≡ to - from = shown_length 0 (part from to t) ∙ part_length t from to (omega arith) ht in
      let w : x ++ bytes "\n" ≡ shown_line t p = cc in
      let m : length (x ++ bytes "\n") ≡ length x + 1 = length-append x (bytes "\n") in (
        f.0 ∙ omega (arith, n, m, ap length w),
        join d d' d'' 0 (to - from) x (bytes "\n") e f.1 (omega (arith, n)) (omega (arith, n)) ∙ ap (put_at d 0) w,
      )

  -- the columns, the caret and a newline
  pub caret_put : (from n i : ℕ) → from ≡ line_from t p → n ≡ chars (part from p t) → n + 2 ≤ length d
      → (i ≡ 0 + n) × (d' ≡ put_at d 0 (replicate n (byte " "))) → Puts d' d'' i (bytes "^\n") r → Puts d d'' 0 (caret_line t p) r
  unfolding caret_line
  caret_put from n i ef en hd e f =
      let x = replicate n (byte " ") in
      let k : length x ≡ n = length-replicate n (byte " ") in
      let w : x ++ bytes "^\n" ≡ caret_line t p = cc in
      let m : length (x ++ bytes "^\n") ≡ length x + 2 = length-append x (bytes "^\n") in (
        f.0 ∙ omega (arith, k, m, e.0, ap length w),
        join d d' d'' 0 i x (bytes "^\n") e.1 f.1 (omega (arith, k, e.0)) (omega (arith, k)) ∙ ap (put_at d 0) w,
      )

-- there are no more columns than bytes before the place
pub few_columns : (t : List ℕ) (p from n : ℕ) → p ≤ length t → from ≤ p → n ≡ chars (part from p t) → n ≤ p
few_columns t p from n h hf e = omega (arith, e, chars_length (part from p t), part_length t from p hf h)
