-- The layout by places is the layout of the two values. Assumes nothing.
use Rattle.std.specs.Prelude.{Some, None}
use mathlib.Core.Path.{◌≡◌, refl, ap, sym, ◌∙◌}
use mathlib.Core.List.{List}
use Prim.Native.Nat.{ℕ, ◌+◌, ◌-◌}
use lib.ListN.{length, take, drop}
use Rattle.buffer.specs.Bytes.{bytes, part}
use Rattle.words.specs.declared.Color.{Color}
use Rattle.words.specs.declared.Color.TheVariants.{Red, Green}
use Rattle.colour.specs.Shown.{text, specifier, Members, more}
use Rattle.colour.specs.Shown as shown
use Rattle.comparisons.specs.Comparisons.{characters, all_of, shared, plain_styles, bold_styles, run_format, one_run, runs, layout_of, layout}
use Rattle.comparisons.specs.Places.{Beginning, shared_end, End, three_runs, placed, SpansOf}
use Rattle.comparisons.specs.declared.Pair.{Pair}
use Rattle.comparisons.specs.declared.Value.{Value}
use Rattle.comparisons.specs.declared.Spans.{Spans}
use Rattle.comparisons.proofs.Sharing.{rest_of, rest_of_other}

-- three runs are a value's
three_runs_lem : (c : Color) (d : List ℕ) (v : Value) (x : List (List ℕ)) (n k : ℕ) (m m' : Members)
    → all_of (take n x) ≡ part v.from v.begun d → all_of (take (length x - (n + k)) (drop n x)) ≡ part v.begun v.rest d → all_of (drop (length x - k) x) ≡ part v.rest v.to d
    → m ≡ m' → three_runs c d v m ≡ runs c x n k m'
unfolding three_runs runs
three_runs_lem c d v x n k m m' p q r e =
    ap (λ (s : List ℕ). one_run plain_styles (Some c) s (one_run bold_styles (Some c) (part v.begun v.rest d) (one_run plain_styles (Some c) (part v.rest v.to d) m))) (sym p)
    ∙ ap (λ (s : List ℕ). one_run plain_styles (Some c) (all_of (take n x)) (one_run bold_styles (Some c) s (one_run plain_styles (Some c) (part v.rest v.to d) m))) (sym q)
    ∙ ap (λ (s : List ℕ). one_run plain_styles (Some c) (all_of (take n x)) (one_run bold_styles (Some c) (all_of (take (length x - (n + k)) (drop n x))) (one_run plain_styles (Some c) s m))) (sym r)
    ∙ ap (λ (z : Members). one_run plain_styles (Some c) (all_of (take n x)) (one_run bold_styles (Some c) (all_of (take (length x - (n + k)) (drop n x))) (one_run plain_styles (Some c) (all_of (drop (length x - k) x)) z))) e

-- the frame around the two values
abbrev framed : List ℕ → (Members → Members) → Members → Members
framed head l r =
    more (specifier (run_format bold_styles None) head)
    (more (text (bytes "\n"))
    (more (specifier (run_format bold_styles None) (bytes "diff"))
    (more (text (bytes " "))
    (more (specifier (run_format plain_styles (Some Red)) (bytes "< left"))
    (more (text (bytes " / "))
    (more (specifier (run_format plain_styles (Some Green)) (bytes "right >"))
    (more (text (bytes "\n"))
    (more (specifier (run_format plain_styles (Some Red)) (bytes "<"))
    (l (more (text (bytes "\n"))
    (more (specifier (run_format plain_styles (Some Green)) (bytes ">")) r)))))))))))

pub placed_is : (h d : List ℕ) (s : Spans) (x y : List (List ℕ)) (n k : ℕ)
    → ((m m' : Members) → m ≡ m' → three_runs Red d s.left m ≡ runs Red x n k m')
    → ((m m' : Members) → m ≡ m' → three_runs Green d s.right m ≡ runs Green y n k m')
    → placed h d s ≡ layout_of h x y n k
unfolding placed layout_of
placed_is h d s x y n k f g =
    let u = more (text (bytes "\n")) (more (specifier (run_format plain_styles (Some Green)) (bytes ">")) (three_runs Green d s.right shown.none)) in
    let v = more (text (bytes "\n")) (more (specifier (run_format plain_styles (Some Green)) (bytes ">")) (runs Green y n k shown.none)) in
    let e : u ≡ v = ap (λ (m : Members). more (text (bytes "\n")) (more (specifier (run_format plain_styles (Some Green)) (bytes ">")) m)) (g shown.none shown.none refl) in
    ap (λ (m : Members). framed h (λ z. m) shown.none) (f u v e)

-- the places of two values
pub spans_are : (d : List ℕ) (head i e j f : ℕ) (b r : Pair) → Beginning d i e j f b → End d b.left e b.right f r
    → SpansOf d head i e j f (record { head = head; left = record { from = i; begun = b.left; rest = r.left; to = e }; right = record { from = j; begun = b.right; rest = r.right; to = f } })
unfolding layout
spans_are d head i e j f b r p q =
    let x = characters (part i e d) in
    let y = characters (part j f d) in
    let u = characters (part b.left e d) in
    let v = characters (part b.right f d) in
    let n = shared x y in
    let k = shared_end (drop n x) (drop n y) in
    let k' : shared_end (drop n x) (drop n y) ≡ shared_end u v = ap (λ (z : List (List ℕ)). shared_end z (drop n y)) p.left_remains ∙ ap (λ (z : List (List ℕ)). shared_end u z) p.right_remains in
    let l = rest_of x y u v n refl p.left_remains p.right_remains in
    let m = rest_of_other x y u v n refl p.left_remains p.right_remains in
    record {
      head_is = refl;
      left_is = refl;
      left_to = refl;
      right_is = refl;
      right_to = refl;
      left_ordered = record { begins = p.left_inside.0; goes_on = q.left_inside.0; ends = q.left_inside.1 };
      right_ordered = record { begins = p.right_inside.0; goes_on = q.right_inside.0; ends = q.right_inside.1 };
      laid = λ h. placed_is h d _ x y n k
          (λ o o' e'. three_runs_lem Red d _ x n k o o' p.left_shared
          (ap (λ (z : ℕ). all_of (take (length x - (n + z)) (drop n x))) k' ∙ ap all_of l.0 ∙ q.left_middle)
          (ap (λ (z : ℕ). all_of (drop (length x - z) x)) k' ∙ ap all_of l.1 ∙ q.left_shared) e')
          (λ o o' e'. three_runs_lem Green d _ y n k o o' p.right_shared
          (ap (λ (z : ℕ). all_of (take (length y - (n + z)) (drop n y))) k' ∙ ap all_of m.0 ∙ q.right_middle)
          (ap (λ (z : ℕ). all_of (drop (length y - z) y)) k' ∙ ap all_of m.1 ∙ q.right_shared) e');
    }
