-- Laws of `characters`. Assumes nothing.
use mathlib.Core.Path.{◌≡◌, refl, ap, sym, ◌∙◌}
use mathlib.Core.Bool.{Bool, true, false}
use mathlib.Core.List.{List, [], ◌∷◌, ◌++◌}
use Prim.Native.Nat.{ℕ, ◌+◌, ◌<◌, ◌≤◌}
use native.Mathlib.Omega.{arith}
use lib.ListN.{length, get_or}
use Rattle.buffer.specs.Bytes.{part}
use Rattle.utf8.specs.Utf8.{within, trail}
use Rattle.buffer.proofs.Parts.{part_step}
use Rattle.comparisons.specs.Comparisons.{before_line, continues, characters, all_of}
use Rattle.comparisons.proofs.Parts.{part_join, part_none}

-- bytes that go on with a character
abbrev pub Trails : List ℕ → Type 0
Trails [] = Unit {0}
Trails (c ∷ t) = (within trail c ≡ true) × Trails t

-- one character
pub characters_one : (b : ℕ) (t : List ℕ) → Trails t → characters (b ∷ t) ≡ (b ∷ t) ∷ []
unfolding characters continues before_line
characters_one b [] f = refl
characters_one b (c ∷ t) f = rw (f.0, characters) (ap (before_line b) (characters_one c t f.1))

joined_before : (b c : ℕ) (t : Bool) (x y : List (List ℕ))
    → before_line b (elim t [ true ↦ before_line c x | false ↦ (c ∷ []) ∷ x ] ++ y) ≡ before_line b (elim t [ true ↦ before_line c x | false ↦ (c ∷ []) ∷ x ]) ++ y
unfolding before_line
joined_before b c true [] y = refl
joined_before b c true (a ∷ x) y = refl
joined_before b c false x y = refl

goes_append : (c : ℕ) (s y : List ℕ) → continues ((c ∷ s) ++ y) ≡ continues (c ∷ s)
unfolding continues
goes_append c s y = refl

alone : (b : ℕ) (y : List (List ℕ)) → (b ∷ []) ∷ y ≡ characters (b ∷ []) ++ y
unfolding characters continues
alone b y = refl

-- where what follows does not go on, the characters are those of both
pub characters_append : (x y : List ℕ) → continues y ≡ false → characters (x ++ y) ≡ characters x ++ characters y
unfolding characters
characters_append [] y n = refl
characters_append (b ∷ []) y n = ap (λ (t : Bool). elim t [ true ↦ before_line b (characters y) | false ↦ (b ∷ []) ∷ characters y ]) n ∙ alone b (characters y)
characters_append (b ∷ (c ∷ s)) y n =
    ap (λ (z : List (List ℕ)). elim (continues (c ∷ s ++ y)) [ true ↦ before_line b z | false ↦ (b ∷ []) ∷ z ]) (characters_append (c ∷ s) y n)
    ∙ ap (λ (t : Bool). elim t [ true ↦ before_line b (characters (c ∷ s) ++ characters y) | false ↦ (b ∷ []) ∷ (characters (c ∷ s) ++ characters y) ]) (goes_append c s y)
    ∙ by (continues (c ∷ s))
  where
    by : (t : Bool) → elim t [ true ↦ before_line b (characters (c ∷ s) ++ characters y) | false ↦ (b ∷ []) ∷ (characters (c ∷ s) ++ characters y) ] ≡ elim t [ true ↦ before_line b (characters (c ∷ s)) | false ↦ (b ∷ []) ∷ characters (c ∷ s) ] ++ characters y
    by true = joined_before b c (continues s) (characters s) (characters y)
    by false = refl

pub characters_nil : characters [] ≡ []
unfolding characters
characters_nil = refl

-- all characters together are the text
all_before : (b : ℕ) (x : List (List ℕ)) → all_of (before_line b x) ≡ b ∷ all_of x
unfolding before_line all_of
all_before b [] = refl
all_before b (a ∷ x) = refl

pub all_characters : (s : List ℕ) → all_of (characters s) ≡ s
unfolding characters all_of
all_characters [] = refl
all_characters (b ∷ s) = by (continues s) ∙ ap (λ (t : List ℕ). b ∷ t) (all_characters s)
  where
    by : (t : Bool) → all_of (elim t [ true ↦ before_line b (characters s) | false ↦ (b ∷ []) ∷ characters s ]) ≡ b ∷ all_of (characters s)
    by true = all_before b (characters s)
    by false = refl

-- ---- at places

pub goes_at : (d : List ℕ) (k e : ℕ) → k < e → e ≤ length d → continues (part k e d) ≡ within trail (get_or d k 0)
unfolding continues
goes_at d k e h g = ap continues (part_step d k e h g)

pub goes_end : (d : List ℕ) (k e : ℕ) → e ≤ k → continues (part k e d) ≡ false
unfolding continues
goes_end d k e h = ap continues (part_none d k e h)

pub one_at : (d : List ℕ) (i k : ℕ) → i < k → k ≤ length d → Trails (part (i + 1) k d) → characters (part i k d) ≡ part i k d ∷ []
one_at d i k h g f =
    let s = part_step d i k h g in
    ap characters s ∙ characters_one (get_or d i 0) (part (i + 1) k d) f ∙ ap (λ (l : List ℕ). l ∷ []) (sym s)

-- the first character
pub first_at : (d : List ℕ) (i k e : ℕ) → i < k → k ≤ e → e ≤ length d → Trails (part (i + 1) k d) → continues (part k e d) ≡ false
    → characters (part i e d) ≡ part i k d ∷ characters (part k e d)
first_at d i k e h g m f n =
    ap characters (sym (part_join d i k e (omega arith) g))
    ∙ characters_append (part i k d) (part k e d) n
    ∙ ap (λ (x : List (List ℕ)). x ++ characters (part k e d)) (one_at d i k h (omega arith) f)

-- the last one
pub last_at : (d : List ℕ) (i k e : ℕ) → i ≤ k → k < e → e ≤ length d → Trails (part (k + 1) e d) → continues (part k e d) ≡ false
    → characters (part i e d) ≡ characters (part i k d) ++ part k e d ∷ []
last_at d i k e h g m f n =
    ap characters (sym (part_join d i k e h (omega arith)))
    ∙ characters_append (part i k d) (part k e d) n
    ∙ ap (λ (x : List (List ℕ)). characters (part i k d) ++ x) (one_at d k e g m f)

pub only_at : (d : List ℕ) (i k e : ℕ) → k ≡ i → k < e → e ≤ length d → Trails (part (k + 1) e d)
    → characters (part i e d) ≡ characters (part i k d) ++ part k e d ∷ []
only_at d i k e q g m f =
    ap (λ (j : ℕ). characters (part j e d)) (sym q)
    ∙ one_at d k e g m f
    ∙ ap (λ (x : List (List ℕ)). x ++ part k e d ∷ []) (sym (ap characters (part_none d i k (omega arith)) ∙ characters_nil))
