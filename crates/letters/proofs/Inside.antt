-- In UTF-8 a run of letters never ends inside a character. `marked` counts the bytes that are left of a character as the standard's table awaits them.
-- Assumes nothing.
use Prim.Native.Nat.{ℕ, zero, suc, ◌+◌, ◌-◌, ◌≤◌, ◌<◌}
use mathlib.Core.Path.{◌≡◌, refl, ap, sym, subst, ◌∙◌}
use mathlib.Core.Bool.{Bool, true, false}
use mathlib.Core.List.{List, [], ◌∷◌}
use native.Mathlib.Decide.{dec_lt}
use native.Mathlib.Omega.{arith}
use lib.ListN.{length, get_or}
use Rattle.utf8.specs.Utf8.{Range, ◌to◌, within, trail, Awaited, awaited, broken, begun, forms, step, run, complete, valid}
use Rattle.utf8.specs.Windows.{Lives, Opens, two, e0, three, ed, three_more, f0, four, f4}
use Rattle.utf8.proofs.Ranges.{within_true}
use Rattle.utf8.proofs.Running.{run_broken}
use Rattle.utf8.proofs.Following.{First, alone, opens, none_below, none_above, first_byte, opens_bounds, step_lives, step_in}
use Rattle.runs.specs.Runs.{letter, run_end, letters_end}
use Rattle.points.specs.Decoding.{size_of}
use Rattle.letters.specs.Marked.{left_in, letter_in, seen_as, marked_on, marked}
use Rattle.points.proofs.Decoded.{size_one, size_two, size_three, size_four}
use Rattle.letters.proofs.Ascii.{beyond}

-- ---- what is awaited, and how many bytes are left

-- n bytes that go on with a character are awaited
abbrev Due : ℕ → Awaited → Type 0
Due zero (awaited []) = Unit {0}
Due zero (awaited (r ∷ more)) = ⊥
Due (suc n) (awaited []) = ⊥
Due (suc n) (awaited (r ∷ more)) = (0x80 ≤ r.first) × (r.last ≤ 0xBF) × Due n (awaited more)
Due n broken = ⊥

as_many : (n m : ℕ) (x : Awaited) → n ≡ m → Due (m - 1) x → Due (n - 1) x
as_many n m x e d = subst (λ (k : ℕ). Due (k - 1) x) (sym e) d

-- one, two and three bytes more, the second of any character in l to h
one_due : (l h : ℕ) → 0x80 ≤ l → h ≤ 0xBF → Due 1 (awaited (l to h ∷ []))
one_due l h f g = (f, g, tt)

two_due : (l h : ℕ) → 0x80 ≤ l → h ≤ 0xBF → Due 2 (awaited (l to h ∷ trail ∷ []))
two_due l h f g = (f, g, one_due 0x80 0xBF (omega arith) (omega arith))

three_due : (l h : ℕ) → 0x80 ≤ l → h ≤ 0xBF → Due 3 (awaited (l to h ∷ trail ∷ trail ∷ []))
three_due l h f g = (f, g, two_due 0x80 0xBF (omega arith) (omega arith))

opens_due : (c l h : ℕ) (more : List Range) → Opens c l h more → Due (size_of c - 1) (awaited (l to h ∷ more))
opens_due c l h more (two _ f g) = as_many (size_of c) 2 (awaited (l to h ∷ more)) (size_two c (omega arith) (omega arith)) (one_due l h (omega arith) (omega arith))
opens_due c l h more (e0 _ f) = as_many (size_of c) 3 (awaited (l to h ∷ more)) (size_three c (omega arith) (omega arith)) (two_due l h (omega arith) (omega arith))
opens_due c l h more (three _ f g) = as_many (size_of c) 3 (awaited (l to h ∷ more)) (size_three c (omega arith) (omega arith)) (two_due l h (omega arith) (omega arith))
opens_due c l h more (ed _ f) = as_many (size_of c) 3 (awaited (l to h ∷ more)) (size_three c (omega arith) (omega arith)) (two_due l h (omega arith) (omega arith))
opens_due c l h more (three_more _ f g) = as_many (size_of c) 3 (awaited (l to h ∷ more)) (size_three c (omega arith) (omega arith)) (two_due l h (omega arith) (omega arith))
opens_due c l h more (f0 _ f) = as_many (size_of c) 4 (awaited (l to h ∷ more)) (size_four c (omega arith)) (three_due l h (omega arith) (omega arith))
opens_due c l h more (four _ f g) = as_many (size_of c) 4 (awaited (l to h ∷ more)) (size_four c (omega arith)) (three_due l h (omega arith) (omega arith))
opens_due c l h more (f4 _ f) = as_many (size_of c) 4 (awaited (l to h ∷ more)) (size_four c (omega arith)) (three_due l h (omega arith) (omega arith))

first_due : (b : ℕ) (y : Awaited) → First b y → Lives y → Due (size_of b - 1) y
first_due b y (alone _ h) v = as_many (size_of b) 1 (awaited []) (size_one b (omega arith)) tt
first_due b y (opens _ l h more o) v = opens_due b l h more o
first_due b y (none_below _ h k) v = absurd v
first_due b y (none_above _ h) v = absurd v

-- one byte on
next_due : (n b : ℕ) (t : List ℕ) (x : Awaited) → Due n x → Lives (step x b) → Due (left_in n (b ∷ t) - 1) (step x b)
unfolding left_in step
next_due zero b t (awaited []) d v = first_due b (begun forms b) (first_byte b) v
next_due zero b t (awaited (r ∷ more)) d v = absurd d
next_due zero b t broken d v = absurd d
next_due (suc n) b t (awaited []) d v = absurd d
next_due (suc n) b t (awaited (r ∷ more)) d v =
    let w = step_lives r.first r.last b more v in
    let z : suc n - 1 ≡ n = omega arith in
    subst (Due (suc n - 1)) (sym (step_in r.first r.last b more w.0 w.1)) (subst (λ (k : ℕ). Due k (awaited more)) (sym z) d.2)
next_due (suc n) b t broken d v = absurd d

-- a text that is whole in the end is not broken before
lives : (y : Awaited) (s : List ℕ) → complete (run y s) ≡ true → Lives y
lives (awaited m) s e = tt
lives broken s e = absurd (let z : ◌≡◌ {A = Bool} false true = ap complete (sym (run_broken s)) ∙ e in let f : ◌≡◌ {A = ℕ} 0 1 = cc in let o : ⊥ = omega arith in o)

-- ---- a byte that goes on with a character is of the character before it

first_goes : (b m : ℕ) (y : Awaited) → First b y → Due (suc m) y → (0x80 ≤ b) × (b ≤ 0xF4)
first_goes b m y (alone _ h) d = absurd d
first_goes b m y (opens _ l h more o) d = let w = opens_bounds b l h more o in (omega arith, w.1)
first_goes b m y (none_below _ h k) d = absurd d
first_goes b m y (none_above _ h) d = absurd d

-- more of its character is awaited, so it is beyond ASCII
goes_on_lem : (n b m : ℕ) (x : Awaited) → Due n x → Lives (step x b) → Due (suc m) (step x b) → (0x80 ≤ b) × (b ≤ 0xF4)
unfolding step
goes_on_lem zero b m (awaited []) d v u = first_goes b m (begun forms b) (first_byte b) u
goes_on_lem zero b m (awaited (r ∷ more)) d v u = absurd d
goes_on_lem zero b m broken d v u = absurd d
goes_on_lem (suc n) b m (awaited []) d v u = absurd d
goes_on_lem (suc n) b m (awaited (r ∷ more)) d v u = let w = step_lives r.first r.last b more v in (omega arith, omega arith)
goes_on_lem (suc n) b m broken d v u = absurd d

no_first : (b : ℕ) (y : Awaited) → First b y → 0x80 ≤ b → b ≤ 0xBF → Lives y → ⊥
no_first b y (alone _ h) f g v = omega arith
no_first b y (opens _ l h more o) f g v = let w = opens_bounds b l h more o in omega arith
no_first b y (none_below _ h k) f g v = v
no_first b y (none_above _ h) f g v = v

-- it begins no character
not_ended : (b : ℕ) (x : Awaited) → Due zero x → 0x80 ≤ b → b ≤ 0xBF → Lives (step x b) → ⊥
unfolding step
not_ended b (awaited []) d f g v = no_first b (begun forms b) (first_byte b) f g v
not_ended b (awaited (r ∷ more)) d f g v = d
not_ended b broken d f g v = d

-- the byte b was seen as a letter's, and so is the byte d of the same character
alike : (l : Bool) (b d : ℕ) → 0x80 ≤ b → b ≤ 0xF4 → letter (seen_as l b) ≡ true → letter (seen_as l d) ≡ true
unfolding seen_as letter within
alike true b d f g e = refl
alike false b d f g e = absurd (let z : ◌≡◌ {A = Bool} false true = sym (beyond b f g) ∙ e in let y : ◌≡◌ {A = ℕ} 0 1 = cc in let o : ⊥ = omega arith in o)

same_letter : (m : ℕ) (l : Bool) (b d : ℕ) (t : List ℕ) → ((n : ℕ) → m ≡ suc n → (0x80 ≤ b) × (b ≤ 0xF4)) → (m ≡ 0 → ⊥)
    → letter (seen_as l b) ≡ true → letter (seen_as (letter_in m l (d ∷ t)) d) ≡ true
unfolding letter_in
same_letter zero l b d t f g e = absurd (g refl)
same_letter (suc m) l b d t f g e = let w = f m refl in alike l b d w.0 w.1 e

goes : (s : List ℕ) (n : ℕ) (l : Bool) (x : Awaited) → Due n x → complete (run x s) ≡ true → (k : ℕ) → suc k < length s
    → letter (get_or (marked_on n l s) k 0) ≡ true → within trail (get_or s (suc k) 0) ≡ true → letter (get_or (marked_on n l s) (suc k) 0) ≡ true
unfolding marked_on
goes [] n l x d c k h e f = absurd (let z : ⊥ = omega (arith, h) in z)
goes (b ∷ []) n l x d c k h e f = absurd (let z : ⊥ = omega (arith, h) in z)
goes (b ∷ (a ∷ s)) n l x d c zero h e f =
    let v = lives (step x b) (a ∷ s) c in
    let u = next_due n b (a ∷ s) x d v in
    let w = within_true trail a f in
    same_letter (left_in n (b ∷ (a ∷ s)) - 1) (letter_in n l (b ∷ (a ∷ s))) b a s
    (λ m q. goes_on_lem n b m x d v (subst (λ (i : ℕ). Due i (step x b)) q u))
    (λ q. not_ended a (step x b) (subst (λ (i : ℕ). Due i (step x b)) q u) w.0 w.1 (lives (step (step x b) a) s c))
    e
goes (b ∷ (a ∷ s)) n l x d c (suc k) h e f =
    let v = lives (step x b) (a ∷ s) c in
    goes (a ∷ s) (left_in n (b ∷ (a ∷ s)) - 1) (letter_in n l (b ∷ (a ∷ s))) (step x b) (next_due n b (a ∷ s) x d v) c k (omega (arith, h)) e f

pub next_byte : (t : List ℕ) → valid t ≡ true → (j : ℕ) → 0 < j → j < length t → letter (get_or (marked t) (j - 1) 0) ≡ true
    → within trail (get_or t j 0) ≡ true → letter (get_or (marked t) j 0) ≡ true
unfolding marked
next_byte t v zero h g e f = absurd (let z : ⊥ = omega (arith, h) in z)
next_byte t v (suc k) h g e f =
    let z : suc k - 1 ≡ k = omega arith in
    goes t 0 false (awaited []) tt v k g (ap (λ (i : ℕ). letter (get_or (marked_on 0 false t) i 0)) (sym z) ∙ e) f

-- ---- where a run ends

module _ (passes : ℕ → Bool) (t : List ℕ) where
  passed_by : (b : Bool) (n i : ℕ) → passes (get_or t i 0) ≡ b → (i + 1 < run_end passes t n (i + 1) → passes (get_or t (run_end passes t n (i + 1) - 1) 0) ≡ true)
      → i < (elim b as (λ _. ℕ) [ true ↦ run_end passes t n (i + 1) | false ↦ i ])
      → passes (get_or t ((elim b as (λ _. ℕ) [ true ↦ run_end passes t n (i + 1) | false ↦ i ]) - 1) 0) ≡ true
  passed_by true n i e f h =
      elim (dec_lt (i + 1) (run_end passes t n (i + 1))) [
        | yes g ↦ f g
        | no ng ↦ let z : run_end passes t n (i + 1) - 1 ≡ i = omega arith in ap (λ (k : ℕ). passes (get_or t k 0)) z ∙ e
      ]
  passed_by false n i e f h = absurd (let z : ⊥ = omega (arith, h) in z)

  -- the last byte before it passes
  run_passed : (n i : ℕ) → i < run_end passes t n i → passes (get_or t (run_end passes t n i - 1) 0) ≡ true
  unfolding run_end
  run_passed zero i h = absurd (let z : ⊥ = omega (arith, h) in z)
  run_passed (suc n) i h = passed_by (passes (get_or t i 0)) n i refl (run_passed n (i + 1)) h

  failed_by : (b : Bool) (n i : ℕ) → passes (get_or t i 0) ≡ b → (run_end passes t n (i + 1) < i + 1 + n → passes (get_or t (run_end passes t n (i + 1)) 0) ≡ false)
      → (elim b as (λ _. ℕ) [ true ↦ run_end passes t n (i + 1) | false ↦ i ]) < i + suc n
      → passes (get_or t (elim b as (λ _. ℕ) [ true ↦ run_end passes t n (i + 1) | false ↦ i ]) 0) ≡ false
  failed_by true n i e f h = f (omega (arith, h))
  failed_by false n i e f h = e

  -- and the byte at it, if there is one, doesn't
  run_failed : (n i : ℕ) → run_end passes t n i < i + n → passes (get_or t (run_end passes t n i) 0) ≡ false
  unfolding run_end
  run_failed zero i h = absurd (let z : ⊥ = omega (arith, h) in z)
  run_failed (suc n) i h = failed_by (passes (get_or t i 0)) n i refl (run_failed n (i + 1)) h

not_both : (x : Bool) → x ≡ true → x ≡ false → ◌≡◌ {A = Bool} true false
not_both x e f = sym e ∙ f

-- a run of letters never ends inside a character
pub never_inside : (t : List ℕ) → valid t ≡ true → (i e : ℕ) → i ≤ e → e ≤ length t → i < letters_end (marked t) i e → letters_end (marked t) i e < e
    → within trail (get_or t (letters_end (marked t) i e) 0) ≡ false
never_inside t v i e h g f k = by (within trail (get_or t (letters_end (marked t) i e) 0)) refl
  where
    by : (x : Bool) → within trail (get_or t (letters_end (marked t) i e) 0) ≡ x → x ≡ false
    by true q =
        not_both _ (next_byte t v (letters_end (marked t) i e) (omega (arith, f)) (omega (arith, k, g)) (run_passed letter (marked t) (e - i) i f) q)
        (run_failed letter (marked t) (e - i) i (omega (arith, k, h)))
    by false q = refl
