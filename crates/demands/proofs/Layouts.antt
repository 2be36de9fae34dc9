-- A comparison is shown without byte 27 where its message holds none, so that demand 3 speaks of it as of anything that is shown. Assumes nothing.
use Prim.Native.Nat.{ℕ, zero, suc, ◌+◌, ◌-◌}
use mathlib.Core.Path.{◌≡◌, refl, sym, subst}
use mathlib.Core.Bool.{Bool, true, false, ◌&&◌}
use mathlib.Core.List.{List, [], ◌∷◌, ◌++◌}
use native.Mathlib.Omega.{arith}
use lib.Dec.{eqb, leb}
use lib.ListN.{length, take, drop}
use Rattle.buffer.specs.Bytes.{bytes}
use Rattle.buffer.specs.Table.{Maybe, none, some}
use Rattle.words.specs.declared.Color.{Color}
use Rattle.words.specs.declared.Styles.{Styles}
use Rattle.std.specs.Prelude.{Option}
use Rattle.colour.specs.Sequences.{esc, starts_with}
use Rattle.colour.specs.Shown.{Shown, Members}
use Rattle.colour.specs.Shown as shown
use Rattle.colour.specs.Texts.{Free, Quiet, Quiets}
use Rattle.colour.proofs.Shows.{free_by_test, free_append}
use Rattle.record.specs.declared.Source.{Source}
use Rattle.record.specs.declared.Source.TheVariants.{Defmt, Host}
use Rattle.comparisons.specs.Comparisons.{before_line, lines, joined_by_newline, Comparison, ends_with, value_in, comparing, by_lines, comparison, continues, characters, all_of, one_run, runs, layout_of, layout, laid_or_else}
use Rattle.comparisons.proofs.Lining.{by_none, by_one, by_two, by_last, by_turn}
use Rattle.fields.specs.Lines.{compared_from}
use Rattle.demands.proofs.Frees.{FreeMaybe, Frees, frees_append, frees_take, frees_drop}

-- ---- what is compared

abbrev FreeComparison : Maybe Comparison → Type 0
FreeComparison none = Unit {0}
FreeComparison (some c) = Free c.head × (Free c.left × Free c.right)

free_take : (n : ℕ) (s : List ℕ) → Free s → Free (take n s)
free_take zero s f = tt
free_take (suc n) [] f = tt
free_take (suc n) (b ∷ s) f = (f.0, free_take n s f.1)

free_drop : (n : ℕ) (s : List ℕ) → Free s → Free (drop n s)
free_drop zero s f = f
free_drop (suc n) [] f = tt
free_drop (suc n) (b ∷ s) f = free_drop n s f.1

frees_before : (b : ℕ) → (b ≡ esc → ⊥) → (x : List (List ℕ)) → Frees x → Frees (before_line b x)
unfolding before_line
frees_before b n [] f = ((n, tt), tt)
frees_before b n (a ∷ x) f = ((n, f.0), f.1)

frees_line : (b : ℕ) (x y : Bool) (rest : List (List ℕ)) → (b ≡ esc → ⊥) → Frees rest
    → Frees (elim x [ true ↦ [] ∷ rest | false ↦ elim y [ true ↦ rest | false ↦ before_line b rest ] ])
frees_line b true y rest n f = (tt, f)
frees_line b false true rest n f = f
frees_line b false false rest n f = frees_before b n rest f

frees_lines : (s : List ℕ) → Free s → Frees (lines s)
unfolding lines
frees_lines [] f = tt
frees_lines (b ∷ s) f = frees_line b (eqb b 0x0A) (starts_with (bytes "\r\n") (b ∷ s)) (lines s) f.0 (frees_lines s f.1)

free_joined : (x : List (List ℕ)) → Frees x → Free (joined_by_newline x)
unfolding joined_by_newline
free_joined [] f = tt
free_joined (x ∷ []) f = f.0
free_joined (x ∷ (y ∷ rest)) f =
    free_append x (bytes "\n" ++ joined_by_newline (y ∷ rest)) f.0 (free_append (bytes "\n") (joined_by_newline (y ∷ rest)) (free_by_test (bytes "\n") refl) (free_joined (y ∷ rest) f.1))

free_value : (mark x : List ℕ) → Free x → FreeMaybe (value_in mark x)
unfolding value_in
free_value mark x f = by (starts_with mark x && ends_with 0x60 x && leb (length mark + 1) (length x))
  where
    by : (b : Bool) → FreeMaybe (elim b [ true ↦ some (take (length x - (length mark + 1)) (drop (length mark) x)) | false ↦ none ])
    by true = free_take (length x - (length mark + 1)) (drop (length mark) x) (free_drop (length mark) x f)
    by false = tt

free_compared : (head : List (List ℕ)) (l r : Maybe (List ℕ)) → Frees head → FreeMaybe l → FreeMaybe r → FreeComparison (comparing head l r)
unfolding comparing
free_compared head none r h f g = tt
free_compared head (some l) none h f g = tt
free_compared head (some l) (some r) h f g = (free_joined head h, (f, g))

free_by_lines : (h l : List (List ℕ)) → Frees h → Frees l → FreeComparison (by_lines h l)
free_by_lines h [] f g = subst FreeComparison (sym (by_none h)) tt
free_by_lines h (x ∷ []) f g = subst FreeComparison (sym (by_one h x)) tt
free_by_lines [] (x ∷ (y ∷ [])) f g = subst FreeComparison (sym (by_two x y)) tt
free_by_lines (a ∷ h) (x ∷ (y ∷ [])) f g =
    subst FreeComparison (sym (by_last (a ∷ h) x y (omega arith)))
    (free_compared (a ∷ h) (value_in (bytes " left: `") x) (value_in (bytes "right: `") y) f (free_value (bytes " left: `") x g.0) (free_value (bytes "right: `") y g.1.0))
free_by_lines h (x ∷ (y ∷ (z ∷ r))) f g = subst FreeComparison (sym (by_turn h x y z r)) (free_by_lines (h ++ x ∷ []) (y ∷ (z ∷ r)) (frees_append h (x ∷ []) f (g.0, tt)) g.1)

free_from : (q : Source) (m : List ℕ) → Free m → FreeComparison (compared_from q m)
unfolding compared_from comparison
free_from Defmt m f = free_by_lines [] (lines m) tt (frees_lines m f)
free_from Host m f = tt

-- ---- runs

frees_character : (b : ℕ) (x : Bool) (rest : List (List ℕ)) → (b ≡ esc → ⊥) → Frees rest → Frees (elim x [ true ↦ before_line b rest | false ↦ (b ∷ []) ∷ rest ])
frees_character b true rest n f = frees_before b n rest f
frees_character b false rest n f = ((n, tt), f)

frees_characters : (s : List ℕ) → Free s → Frees (characters s)
unfolding characters
frees_characters [] f = tt
frees_characters (b ∷ s) f = frees_character b (continues s) (characters s) f.0 (frees_characters s f.1)

free_all : (x : List (List ℕ)) → Frees x → Free (all_of x)
unfolding all_of
free_all [] f = tt
free_all (a ∷ x) f = free_append a (all_of x) f.0 (free_all x f.1)

quiet_run : (y : Styles) (i : Option Color) (t : List ℕ) (m : Members) → Free t → Quiets m → Quiets (one_run y i t m)
unfolding one_run
quiet_run y i [] m f q = q
quiet_run y i (b ∷ t) m f q = (f, q)

quiet_runs : (c : Color) (x : List (List ℕ)) (n k : ℕ) (m : Members) → Frees x → Quiets m → Quiets (runs c x n k m)
unfolding runs
quiet_runs c x n k m f q =
    quiet_run _ _ (all_of (take n x)) _ (free_all (take n x) (frees_take n x f))
    (quiet_run _ _ (all_of (take (length x - (n + k)) (drop n x))) _ (free_all (take (length x - (n + k)) (drop n x)) (frees_take (length x - (n + k)) (drop n x) (frees_drop n x f)))
    (quiet_run _ _ (all_of (drop (length x - k) x)) m (free_all (drop (length x - k) x) (frees_drop (length x - k) x f)) q))

quiet_layout_of : (head : List ℕ) (x y : List (List ℕ)) (n k : ℕ) → Free head → Frees x → Frees y → Quiets (layout_of head x y n k)
unfolding layout_of
quiet_layout_of head x y n k h f g = (
  h,
  (
    free_by_test (bytes "\n") refl,
    (
      free_by_test (bytes "diff") refl,
      (
        free_by_test (bytes " ") refl,
        (
          free_by_test (bytes "< left") refl,
          (
            free_by_test (bytes " / ") refl,
            (
              free_by_test (bytes "right >") refl,
              (
                free_by_test (bytes "\n") refl,
                (
                  free_by_test (bytes "<") refl,
                  quiet_runs _ x n k _ f (
                    free_by_test (bytes "\n") refl,
                    (
                      free_by_test (bytes ">") refl,
                      quiet_runs _ y n k shown.none g tt,
                    ),
                  ),
                ),
              ),
            ),
          ),
        ),
      ),
    ),
  ),
)

quiet_layout : (c : Comparison) → Free c.head → Free c.left → Free c.right → Quiets (layout c)
unfolding layout
quiet_layout c h f g = quiet_layout_of c.head (characters c.left) (characters c.right) _ _ h (frees_characters c.left f) (frees_characters c.right g)

quiet_or : (x : Shown) → Quiet x → (c : Maybe Comparison) → FreeComparison c → Quiet (laid_or_else x c)
unfolding laid_or_else
quiet_or x q none f = q
quiet_or x q (some c) f = quiet_layout c f.0 f.1.0 f.1.1

-- what is shown of a message, laid out or not
pub quiet_laid : (x : Shown) → Quiet x → (q : Source) (m : List ℕ) → Free m → Quiet (laid_or_else x (compared_from q m))
quiet_laid x k q m f = quiet_or x k (compared_from q m) (free_from q m f)
