-- Resets in a formatted text, and how long it is at most. Assumes nothing.
use mathlib.Core.Path.{◌≡◌, refl, ap, sym, ◌∙◌, subst}
use mathlib.Core.Bool.{Bool, true, false}
use mathlib.Core.List.{List, [], ◌∷◌, ◌++◌}
use Prim.Native.Nat.{ℕ, ◌+◌, ◌*◌, ◌-◌, ◌≤◌}
use native.Mathlib.Omega.{arith}
use native.Mathlib.Nat.{add-zero, mul-le-mul_left}
use lib.ListN.{length, replicate}
use Rattle.colour.specs.declared.State.{State}
use Rattle.colour.specs.declared.State.TheVariants.{Outside}
use Rattle.colour.specs.declared.Act.{Act}
use Rattle.colour.specs.declared.Act.TheVariants.{Text}
use Rattle.colour.specs.declared.Scan.{Scan}
use Rattle.colour.specs.declared.Look.{Look}
use Rattle.colour.specs.declared.Settings.{Settings}
use Rattle.colour.specs.declared.Format.{Format}
use Rattle.colour.specs.Sequences.{reset, reinserted}
use Rattle.colour.specs.Looks.{prefix}
use Rattle.colour.specs.Formatting.{prefix_in, before, pad_byte, ending, framed, padded, formatted}
use Rattle.colour.specs.Machine.{act_of, moved, scan, start, ins}
use Rattle.colour.specs.Texts.{Free}
use Rattle.colour.proofs.Acts.{act_outside}
use Rattle.colour.proofs.Scanning.{scan_append, resets_small}
use Rattle.colour.proofs.Wholes.{Whole, WholeOrNone, none, one, scan_reset}
use Rattle.colour.proofs.Inserting.{bump, added, ins_scan}
use Rattle.colour.proofs.Reinserted.{reinserted_ins}
use Rattle.colour.proofs.Shows.{reinserted_nil, free_pad}
use Rattle.colour.proofs.Prefixes.{whole_or_none_prefix_in, length_prefix, length_prefix_in}
use Rattle.colour.proofs.Formatted.{padded_small}
use Rattle.colour.proofs.Measures.{length_laid}

-- ---- resets

-- where no sequence is open before it, s holds n resets, and none is open after it
abbrev pub Resets : List ℕ → ℕ → Type 0
Resets s n = (t : Scan) → t.state ≡ Outside → ((scan t s).state ≡ Outside) × ((scan t s).resets ≡ t.resets + n)

pub resets_nil : Resets [] 0
resets_nil t e = (e, sym (add-zero t.resets))

pub resets_append : (a b : List ℕ) (m n : ℕ) → Resets a m → Resets b n → Resets (a ++ b) (m + n)
resets_append a b m n g h t e =
    let x = g t e in
    let y = h (scan t a) x.0 in
    let z = scan_append a b t in
    let w : (scan (scan t a) b).resets ≡ t.resets + (m + n) = omega arith in
    (ap (λ (u : Scan). u.state) z ∙ y.0, ap (λ (u : Scan). u.resets) z ∙ w)

pub resets_free : (s : List ℕ) → Free s → Resets s 0
resets_free [] f t e = (e, sym (add-zero t.resets))
resets_free (b ∷ s) f t e =
    let a : act_of t.state b ≡ Text = ap (λ (q : State). act_of q b) e ∙ act_outside b f.0 in
    let z : scan t (b ∷ s) ≡ scan (moved Text t) s = ap (λ (x : Act). scan (moved x t) s) a in
    let r = resets_free s f.1 (moved Text t) refl in
    (ap (λ (u : Scan). u.state) z ∙ r.0, ap (λ (u : Scan). u.resets) z ∙ r.1)

pub resets_reset : Resets reset 1
resets_reset t e = (ap (λ (u : Scan). u.state) (scan_reset t), ap (λ (u : Scan). u.resets) (scan_reset t))

pub resets_whole : (p : List ℕ) → Whole p → Resets p 0
resets_whole p w t e = (ap (λ (u : Scan). u.state) (w.scanned t), ap (λ (u : Scan). u.resets) (w.scanned t) ∙ sym (add-zero t.resets))

-- a prefix holds no reset, and inserting it makes none
pub record Harmless (p : List ℕ) : Type 0 where
  pub own : Resets p 0
  pub inside : (s : List ℕ) (n : ℕ) → Resets s n → Resets (reinserted p s) n

harmless_nil : Harmless []
harmless_nil = record { own = resets_nil; inside = λ s n h. subst (λ (x : List ℕ). Resets x n) (sym (reinserted_nil s)) h }

harmless_whole : (p : List ℕ) → Whole p → Harmless p
harmless_whole p w = record { own = resets_whole p w; inside = λ s n h. subst (λ (x : List ℕ). Resets x n) (sym (reinserted_ins p s)) (inside s n h) }
  where
    inside : (s : List ℕ) (n : ℕ) → Resets s n → Resets (ins p Outside s) n
    inside s n h t e =
        let z : scan t (ins p Outside s) ≡ bump (scan t s) (added p t.state s) =
        ap (λ (q : State). scan t (ins p q s)) (sym e) ∙ ins_scan p w s t in
        (ap (λ (u : Scan). u.state) z ∙ (h t e).0, ap (λ (u : Scan). u.resets) z ∙ (h t e).1)

pub harmless : (p : List ℕ) → WholeOrNone p → Harmless p
harmless p none = harmless_nil
harmless p (one w) = harmless_whole p w

resets_ending : (p : List ℕ) → (e : ℕ) × (e ≤ 1) × Resets (ending p) e
unfolding ending
resets_ending [] = (0, omega arith, resets_nil)
resets_ending (b ∷ p) = (1, omega arith, resets_reset)

-- a formatted text holds at most one reset more than the text
pub resets_formatted : (s : Settings) (f : Format) (t : List ℕ) (n : ℕ) → Resets t n → (m : ℕ) × (m ≤ n + 1) × Resets (formatted s f t) m
unfolding formatted framed
resets_formatted s f t n h =
    let p = prefix_in s.colour f.look in
    let g = harmless p (whole_or_none_prefix_in s.colour f.look) in
    let k = padded s f t in
    let a = before f.alignment k in
    let l = replicate a (pad_byte f.padding) in
    let r = replicate (k - a) (pad_byte f.padding) in
    let e = resets_ending p in (
      0 + (0 + (n + (0 + e.0))),
      omega (arith, e.1),
      resets_append p (l ++ (reinserted p t ++ (r ++ ending p))) 0 (0 + (n + (0 + e.0))) g.own
          (resets_append l (reinserted p t ++ (r ++ ending p)) 0 (n + (0 + e.0)) (resets_free l (free_pad f.padding a))
          (resets_append (reinserted p t) (r ++ ending p) n (0 + e.0) (g.inside t n h)
          (resets_append r (ending p) 0 e.0 (resets_free r (free_pad f.padding (k - a))) e.2))),
    )

-- ---- lengths

-- the longest prefix, where colour is on
unfoldable pub longest_prefix : Bool → ℕ
longest_prefix true = 15
longest_prefix false = 0

-- the reset at the end, where colour is on
unfoldable pub longest_ending : Bool → ℕ
longest_ending true = 4
longest_ending false = 0

prefix_longest : (on : Bool) (k : Look) → length (prefix_in on k) ≤ longest_prefix on
unfolding prefix_in longest_prefix
prefix_longest true k = length_prefix k
prefix_longest false k = omega arith

pub ending_small : (p : List ℕ) → length (ending p) ≤ 4
unfolding ending
ending_small [] = omega arith
ending_small (b ∷ p) = omega arith

ending_longest : (on : Bool) (k : Look) → length (ending (prefix_in on k)) ≤ longest_ending on
unfolding prefix_in longest_ending ending
ending_longest true k = ending_small (prefix k)
ending_longest false k = omega arith

-- a formatted text is no longer than the text, its width, a prefix for it and for each reset inside, and the reset
pub length_formatted : (s : Settings) (f : Format) (t : List ℕ) (n : ℕ) → Resets t n
    → length (formatted s f t) ≤ length t + f.width + (n * longest_prefix s.colour + (longest_prefix s.colour + longest_ending s.colour))
unfolding formatted
length_formatted s f t n h =
    let p = prefix_in s.colour f.look in
    let r : (scan start t).resets ≡ n = (let w : (scan start t).resets ≡ 0 + n = (h start refl).1 in omega arith) in
    let e : (scan start t).resets * length p ≡ n * length p = ap (λ (k : ℕ). k * length p) r in
    omega (
      arith,
      length_laid p f (padded s f t) t,
      padded_small s f t,
      prefix_longest s.colour f.look,
      ending_longest s.colour f.look,
      mul-le-mul_left n (prefix_longest s.colour f.look),
    )

-- of any text: at most sixteen times as long, its width, and 19 bytes for a prefix and the reset
pub length_formatted_coarse : (s : Settings) (f : Format) (t : List ℕ) → length (formatted s f t) ≤ 16 * length t + (f.width + 19)
unfolding formatted
length_formatted_coarse s f t =
    let p = prefix_in s.colour f.look in
    let r : (scan start t).resets ≤ length t = omega (arith, resets_small t start) in
    omega (
      arith,
      length_laid p f (padded s f t) t,
      padded_small s f t,
      length_prefix_in s.colour f.look,
      ending_small p,
      mul-le-mul_left (scan start t).resets (length_prefix_in s.colour f.look),
    )
