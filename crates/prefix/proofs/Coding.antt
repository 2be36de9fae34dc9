-- Laws of a prefix as it is built: what a byte and a code add, the rule of the table of codes, and the end. Assumes nothing.
use mathlib.Core.Path.{◌≡◌, refl, ap, sym, ◌∙◌}
use mathlib.Core.Bool.{Bool, true, false}
use mathlib.Core.List.{List, [], ◌∷◌, ◌++◌, append_assoc, append-nil}
use Prim.Native.Nat.{ℕ, ◌+◌, ◌<◌, ◌≤◌}
use native.Mathlib.Numerals.{add-one}
use native.Mathlib.Omega.{arith}
use lib.ListN.{length, take, drop, get_or, set, length-set}
use lib.Seq.{take-suc-set, drop-cons}
use borrow.Author.Tests.{ne_eqb}
use Rattle.buffer.specs.Bytes.{bytes}
use Rattle.words.specs.declared.Color.{Color}
use Rattle.words.specs.declared.Color.TheVariants.{Black, Red, Green, Yellow, Blue, Magenta, Cyan, White, BrightBlack, BrightWhite}
use Rattle.colour.specs.declared.Look.{Look}
use Rattle.std.specs.Prelude.{None, Some}
use Rattle.colour.specs.Sequences.{esc}
use Rattle.colour.specs.Looks.{foreground, ink_codes, where_it_applies, codes, following, sequence, prefix}
use Rattle.prefix.specs.Opening.{between, codes_from, Coded, sequence_ended, applied, styles_of}

-- a byte more at the front, two, three
pub take_push : (s : List ℕ) (n b : ℕ) → n < length s → take (n + 1) (set s n b) ≡ take n s ++ b ∷ []
take_push s n b h = rw (add-one, take-suc-set s n b h)

take_two : (s : List ℕ) (n b c : ℕ) → n + 2 ≤ length s → take (n + 2) (set (set s n b) (n + 1) c) ≡ take n s ++ b ∷ c ∷ []
take_two s n b c h =
    let k : n + 2 ≡ n + 1 + 1 = omega arith in
    let l : length (set s n b) ≡ length s = length-set s n b in
    ap (λ (m : ℕ). take m (set (set s n b) (n + 1) c)) k
    ∙ take_push (set s n b) (n + 1) c (omega arith)
    ∙ ap (λ (x : List ℕ). x ++ c ∷ []) (take_push s n b (omega arith))
    ∙ append_assoc (take n s) (b ∷ []) (c ∷ [])

take_three : (s : List ℕ) (n b c d : ℕ) → n + 3 ≤ length s → take (n + 3) (set (set (set s n b) (n + 1) c) (n + 2) d) ≡ take n s ++ b ∷ c ∷ d ∷ []
take_three s n b c d h =
    let k : n + 3 ≡ n + 2 + 1 = omega arith in
    let t = set (set s n b) (n + 1) c in
    let l : length t ≡ length s = length-set (set s n b) (n + 1) c ∙ length-set s n b in
    ap (λ (m : ℕ). take m (set t (n + 2) d)) k
    ∙ take_push t (n + 2) d (omega arith)
    ∙ ap (λ (x : List ℕ). x ++ d ∷ []) (take_two s n b c (omega arith))
    ∙ append_assoc (take n s) (b ∷ c ∷ []) (d ∷ [])

-- behind a code `;` comes next
between_later : (n : ℕ) → 1 < n → between n ≡ 0x3B
unfolding between
between_later n h = let g : n ≡ 1 → ⊥ = λ e. omega arith in rw (ne_eqb n 1 g)

joined_later : (cs : List (List ℕ)) → codes_from 0x3B cs ≡ following cs
unfolding following
joined_later [] = refl
joined_later (c ∷ cs) = refl

-- a style that applies
pub one_code : (d : List ℕ) (n b code : ℕ) → 1 ≤ n → n + 2 ≤ length d → b ≡ between n → Coded d (set (set d n b) (n + 1) code) n (n + 2) true code
unfolding where_it_applies
one_code d n b code h g e =
    let d' = set (set d n b) (n + 1) code in record {
      text = λ cs.
          ap (λ (k : ℕ). take (n + 2) d' ++ codes_from k cs) (between_later (n + 2) (omega arith))
          ∙ ap (λ (l : List ℕ). take (n + 2) d' ++ l) (joined_later cs)
          ∙ ap (λ (l : List ℕ). l ++ following cs) (take_two d n b code g)
          ∙ append_assoc (take n d) (b ∷ code ∷ []) (following cs)
          ∙ ap (λ (k : ℕ). take n d ++ k ∷ code ∷ following cs) e;
      least = omega arith;
      most = omega arith;
    }

-- a style that does not
pub no_code : (d : List ℕ) (n code : ℕ) → Coded d d n n false code
unfolding where_it_applies
no_code d n code = record { text = λ cs. refl; least = omega arith; most = omega arith }

-- a colour has two digits
two_digits : (c : Color) → get_or (foreground c) 0 0 ∷ get_or (foreground c) 1 0 ∷ [] ≡ foreground c
unfolding foreground
two_digits Black = refl
two_digits Red = refl
two_digits Green = refl
two_digits Yellow = refl
two_digits Blue = refl
two_digits Magenta = refl
two_digits Cyan = refl
two_digits White = refl
two_digits BrightBlack = refl
two_digits BrightWhite = refl

pub ink_code : (d : List ℕ) (n b : ℕ) (f : List ℕ) (c : Color) → n + 3 ≤ length d → b ≡ between n → f ≡ foreground c
    → take (n + 3) (set (set (set d n b) (n + 1) (get_or f 0 0)) (n + 2) (get_or f 1 0)) ≡ take n d ++ codes_from (between n) (ink_codes (Some c))
unfolding ink_codes following
ink_code d n b f c h e g =
    take_three d n b (get_or f 0 0) (get_or f 1 0) h
    ∙ ap (λ (l : List ℕ). take n d ++ b ∷ get_or l 0 0 ∷ get_or l 1 0 ∷ []) g
    ∙ ap (λ (l : List ℕ). take n d ++ b ∷ l) (two_digits c ∙ sym (append-nil (foreground c)))
    ∙ ap (λ (k : ℕ). take n d ++ codes_from k (ink_codes (Some c))) e

pub no_ink : (a : List ℕ) (b : ℕ) → a ≡ a ++ codes_from b (ink_codes None)
unfolding ink_codes
no_ink a b = sym (append-nil a)

-- byte 27 alone is no prefix
pub closed_one : (s : List ℕ) → length s ≡ 1 → sequence_ended s ≡ []
closed_one [] h = refl
closed_one (b ∷ []) h = refl
closed_one (b ∷ c ∷ s) h = absurd (let y : ⊥ = omega arith in y)

pub closed_more : (s : List ℕ) → 1 < length s → s ++ bytes "m" ≡ sequence_ended s
closed_more [] h = absurd (let y : ⊥ = omega arith in y)
closed_more (b ∷ []) h = absurd (let y : ⊥ = omega arith in y)
closed_more (b ∷ c ∷ s) h = refl

closed_codes : (cs : List (List ℕ)) → sequence_ended (esc ∷ codes_from 0x5B cs) ≡ sequence cs
unfolding sequence
closed_codes [] = refl
closed_codes (c ∷ cs) = ap (λ (l : List ℕ). esc ∷ 0x5B ∷ l) (append_assoc c (following cs) (bytes "m"))

closed_prefix : (k : Look) (s : List ℕ) → s ≡ esc ∷ codes_from 0x5B (codes k) → sequence_ended s ≡ prefix k
unfolding prefix
closed_prefix k s e = ap sequence_ended e ∙ closed_codes (codes k)

-- ---- the styles in their order, then the colour

pub begun : (d : List ℕ) (cs : List (List ℕ)) → 0 < length d → take 1 (set d 0 27) ++ codes_from (between 1) cs ≡ esc ∷ codes_from 0x5B cs
unfolding between
begun d cs h = ap (λ (l : List ℕ). l ++ codes_from 0x5B cs) (take_push d 0 27 h)

-- one style more
pub applied_next : (s : List (Bool × ℕ)) (i : ℕ) (y : Bool × ℕ) (cs : List (List ℕ)) → i < length s
    → where_it_applies (get_or s i y).0 ((get_or s i y).1 ∷ []) (applied (drop (i + 1) s) cs) ≡ applied (drop i s) cs
applied_next s i y cs h = rw (add-one) (ap (λ (l : List (Bool × ℕ)). applied l cs) (sym (drop-cons s i y h)))

pub codes_prefix : (k : Look) (s : List ℕ) → s ≡ esc ∷ codes_from 0x5B (applied (styles_of k.styles) (ink_codes k.ink)) → sequence_ended s ≡ prefix k
unfolding codes
codes_prefix k s e = closed_prefix k s e
