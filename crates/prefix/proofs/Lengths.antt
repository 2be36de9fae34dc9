-- The length of a prefix, as a sum. Assumes nothing.
use mathlib.Core.Path.{◌≡◌, refl}
use mathlib.Core.Bool.{Bool, true, false, cond}
use mathlib.Core.List.{List, [], ◌∷◌, ◌++◌}
use Prim.Native.Nat.{ℕ, ◌+◌, ◌*◌, ◌≤◌}
use native.Mathlib.Omega.{arith}
use lib.ListN.{length, length-append}
use Rattle.buffer.specs.Bytes.{bytes}
use Rattle.words.specs.declared.Color.{Color}
use Rattle.words.specs.declared.Color.TheVariants.{Black, Red, Green, Yellow, Blue, Magenta, Cyan, White, BrightBlack, BrightWhite}
use Rattle.std.specs.Prelude.{Some}
use Rattle.std.specs.List.{count_by}
use Rattle.std.proofs.lemmas.List.Sums.{count_by-le-length}
use Rattle.colour.specs.declared.Look.{Look}
use Rattle.colour.specs.Looks.{foreground, ink_codes, where_it_applies, codes, following, sequence, prefix}

-- every foreground has two bytes
pub length_ink : (c : Color) → length (following (ink_codes (Some c))) ≡ 3
unfolding following ink_codes foreground
length_ink Black = refl
length_ink Red = refl
length_ink Green = refl
length_ink Yellow = refl
length_ink Blue = refl
length_ink Magenta = refl
length_ink Cyan = refl
length_ink White = refl
length_ink BrightBlack = refl
length_ink BrightWhite = refl

length_where : (x : Bool) (b : ℕ) (cs : List (List ℕ)) → length (following (where_it_applies x (b ∷ []) cs)) ≡ cond x 2 0 + length (following cs)
unfolding where_it_applies following
length_where true b cs = omega arith
length_where false b cs = omega arith

twice : (x : Bool) → cond x 2 0 ≡ 2 * cond x 1 0
twice true = refl
twice false = refl

-- each code with the byte after it
pub length_codes : (k : Look)
    → length (following (codes k))
    ≡ 2 * count_by (λ on. on) (k.styles.bold ∷ k.styles.dimmed ∷ k.styles.underline ∷ k.styles.italic ∷ k.styles.strike ∷ []) + length (following (ink_codes k.ink))
unfolding codes
length_codes k =
    let c5 = ink_codes k.ink in
    let c4 = where_it_applies k.styles.strike (bytes "9") c5 in
    let c3 = where_it_applies k.styles.italic (bytes "3") c4 in
    let c2 = where_it_applies k.styles.underline (bytes "4") c3 in
    let c1 = where_it_applies k.styles.dimmed (bytes "2") c2 in
    let y = k.styles in
    omega (
      arith,
      length_where y.strike 0x39 c5,
      length_where y.italic 0x33 c4,
      length_where y.underline 0x34 c3,
      length_where y.dimmed 0x32 c2,
      length_where y.bold 0x31 c1,
      twice y.strike,
      twice y.italic,
      twice y.underline,
      twice y.dimmed,
      twice y.bold,
    )

-- at most five
pub counted_few : (a b c d e : Bool) → count_by (λ on. on) (a ∷ b ∷ c ∷ d ∷ e ∷ []) ≤ 5
counted_few a b c d e = omega (arith, count_by-le-length (λ (on : Bool). on) (a ∷ b ∷ c ∷ d ∷ e ∷ []))

-- no code, no prefix
none : (cs : List (List ℕ)) → length (following cs) ≡ 0 → length (sequence cs) ≡ 0
unfolding following sequence
none [] e = refl
none (c ∷ cs) e = absurd (let z : ⊥ = omega arith in z)

some : (cs : List (List ℕ)) → (length (following cs) ≡ 0 → ⊥) → length (sequence cs) ≡ length (following cs) + 2
unfolding following sequence
some [] n = absurd (n refl)
some (c ∷ cs) n = omega (arith, length-append c (following cs ++ bytes "m"), length-append (following cs) (bytes "m"), length-append c (following cs))

pub length_none : (k : Look) → length (following (codes k)) ≡ 0 → length (prefix k) ≡ 0
unfolding prefix
length_none k e = none (codes k) e

pub length_some : (k : Look) → (length (following (codes k)) ≡ 0 → ⊥) → length (prefix k) ≡ length (following (codes k)) + 2
unfolding prefix
length_some k n = some (codes k) n
