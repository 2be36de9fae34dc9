-- One formatted text: what is visible of it, how much that counts, and how much padding is written. Assumes nothing.
use mathlib.Core.Path.{◌≡◌, refl, ap, ◌∙◌, subst}
use mathlib.Core.Bool.{Bool, true, false}
use mathlib.Core.List.{List, [], ◌∷◌, ◌++◌, append-nil}
use Prim.Native.Nat.{ℕ, ◌+◌, ◌-◌, ◌≤◌}
use native.Mathlib.Omega.{arith}
use lib.ListN.{length, replicate}
use Rattle.widths.specs.declared.Rule.{Rule}
use Rattle.widths.specs.Widths.{count}
use Rattle.words.specs.declared.Alignment.{Alignment}
use Rattle.words.specs.declared.Alignment.TheVariants.{Left, Center, Right}
use Rattle.colour.specs.declared.Settings.{Settings}
use Rattle.colour.specs.declared.Format.{Format}
use Rattle.colour.specs.Sequences.{reset, visible, reinserted}
use Rattle.colour.specs.Formatting.{due, prefix_in, inserted, counted, padded, before, pad_byte, ending, framed, formatted}
use Rattle.colour.specs.Texts.{Free}
use Rattle.colour.proofs.Strip.{Trails, trails_ending, trails_pad}
use Rattle.colour.proofs.Shows.{Shows, shows_append, shows_free, free_pad, free_append, shows_ending, visible_reinserted_append, shows_reinserted, reinserted_nil, visible_trails}
use Rattle.colour.proofs.Prefixes.{shows_prefix_in}
use Rattle.colour.proofs.Counts.{count_pad_before, count_pad_after}

-- n bytes of padding around v, as a format puts them
abbrev pub with_padding : Format → ℕ → List ℕ → List ℕ
with_padding f n v =
    replicate (before f.alignment n) (pad_byte f.padding) ++ (v ++ replicate (n - before f.alignment n) (pad_byte f.padding))

-- ---- what is visible

pub visible_laid : (p : List ℕ) → Shows p [] → (f : Format) (n : ℕ) (t : List ℕ) → visible (framed p f n t) ≡ with_padding f n (visible t)
unfolding framed
visible_laid p g f n t =
    let z = f.padding in
    let l = replicate (before f.alignment n) (pad_byte z) in
    let r = replicate (n - before f.alignment n) (pad_byte z) in
    let w : Trails (r ++ ending p) (r ++ []) = trails_pad z (n - before f.alignment n) (ending p) [] (trails_ending p) in
    g (l ++ (reinserted p t ++ (r ++ ending p)))
    ∙ shows_free l (free_pad z (before f.alignment n)) (reinserted p t ++ (r ++ ending p))
    ∙ ap (λ (x : List ℕ). l ++ x)
    (visible_reinserted_append p g t (r ++ ending p) ∙ visible_trails t (r ++ ending p) (r ++ []) w ∙ ap (λ (x : List ℕ). visible t ++ x) (append-nil r))

-- what is visible of a formatted text is its padding around what is visible of the text, byte for byte
pub visible_formatted : (s : Settings) (f : Format) (t : List ℕ) → visible (formatted s f t) ≡ with_padding f (padded s f t) (visible t)
unfolding formatted
visible_formatted s f t = visible_laid (prefix_in s.colour f.look) (shows_prefix_in s.colour f.look) f (padded s f t) t

-- where no sequence is open after the text, none is open after the formatted text
pub shows_laid : (p : List ℕ) → Shows p [] → (f : Format) (n : ℕ) (t v : List ℕ) → Shows t v → Shows (framed p f n t) (with_padding f n v)
unfolding framed
shows_laid p g f n t v h =
    let z = f.padding in
    let a = before f.alignment n in
    let l = replicate a (pad_byte z) in
    let r = replicate (n - a) (pad_byte z) in
    let e : Shows (r ++ ending p) r =
    subst (λ (x : List ℕ). Shows (r ++ ending p) x) (append-nil r) (shows_append r (ending p) r [] (shows_free r (free_pad z (n - a))) (shows_ending p)) in
    shows_append p (l ++ (reinserted p t ++ (r ++ ending p))) [] (l ++ (v ++ r)) g
    (shows_append l (reinserted p t ++ (r ++ ending p)) l (v ++ r) (shows_free l (free_pad z a))
    (shows_append (reinserted p t) (r ++ ending p) v r (shows_reinserted p t v g h) e))

pub shows_formatted : (s : Settings) (f : Format) (t v : List ℕ) → Shows t v → Shows (formatted s f t) (with_padding f (padded s f t) v)
unfolding formatted
shows_formatted s f t v h = shows_laid (prefix_in s.colour f.look) (shows_prefix_in s.colour f.look) f (padded s f t) t v h

-- without a prefix the padding is all that is added
pub laid_plain : (f : Format) (n : ℕ) (t : List ℕ) → framed [] f n t ≡ with_padding f n t
unfolding framed ending
laid_plain f n t =
    let l = replicate (before f.alignment n) (pad_byte f.padding) in
    let r = replicate (n - before f.alignment n) (pad_byte f.padding) in
    ap (λ (x : List ℕ). l ++ (x ++ (r ++ []))) (reinserted_nil t) ∙ ap (λ (x : List ℕ). l ++ (t ++ x)) (append-nil r)

-- with colour off it is all
pub formatted_plain : (s : Settings) (f : Format) (t : List ℕ) → s.colour ≡ false → formatted s f t ≡ with_padding f (padded s f t) t
unfolding formatted prefix_in
formatted_plain s f t e = ap (λ (x : Bool). framed (prefix_in x f.look) f (padded s f t) t) e ∙ laid_plain f (padded s f t) t

-- where there is a prefix the text ends with the reset
pub ending_reset : (p : List ℕ) → (p ≡ [] → ⊥) → ending p ≡ reset
unfolding ending
ending_reset [] n = absurd (n refl)
ending_reset (b ∷ p) n = refl

-- padding holds no byte 27
pub free_with_padding : (f : Format) (n : ℕ) (v : List ℕ) → Free v → Free (with_padding f n v)
free_with_padding f n v g =
    let z = f.padding in
    let a = before f.alignment n in
    free_append (replicate a (pad_byte z)) (v ++ replicate (n - a) (pad_byte z)) (free_pad z a) (free_append v (replicate (n - a) (pad_byte z)) g (free_pad z (n - a)))

-- ---- how much is counted

pub before_small : (a : Alignment) (n : ℕ) → before a n ≤ n
unfolding before
before_small Left n = omega arith
before_small Center n = omega arith
before_small Right n = omega arith

-- padding adds its own count
pub count_with_padding : (r : Rule) (f : Format) (n : ℕ) (v : List ℕ) → count r (with_padding f n v) ≡ count r v + n
count_with_padding r f n v =
    let z = f.padding in
    let a = before f.alignment n in
    omega (arith, count_pad_before r z a (v ++ replicate (n - a) (pad_byte z)), count_pad_after r z (n - a) v, before_small f.alignment n)

-- what is seen of a formatted text is what is seen of the text and the padding written
pub count_formatted : (s : Settings) (f : Format) (t : List ℕ) → count s.rule (visible (formatted s f t)) ≡ count s.rule (visible t) + padded s f t
count_formatted s f t = ap (count s.rule) (visible_formatted s f t) ∙ count_with_padding s.rule f (padded s f t) (visible t)

-- ---- how much padding is written

-- nothing is inserted without a prefix
pub inserted_nil : (t : List ℕ) → inserted [] t ≡ 0
unfolding inserted
inserted_nil t = let e : length (reinserted [] t) ≡ length t = ap length (reinserted_nil t) in omega arith

counted_nothing : (x : Bool) (d : ℕ) → counted x d 0 ≡ d
unfolding counted
counted_nothing true d = omega arith
counted_nothing false d = omega arith

-- with colour off: what is due
pub padded_plain : (s : Settings) (f : Format) (t : List ℕ) → s.colour ≡ false → padded s f t ≡ due s f t
unfolding padded prefix_in
padded_plain s f t e =
    ap (λ (x : Bool). counted s.straight (due s f t) (inserted (prefix_in x f.look) t)) e
    ∙ ap (counted s.straight (due s f t)) (inserted_nil t) ∙ counted_nothing s.straight (due s f t)

-- in straight mode: what is due
pub padded_straight : (s : Settings) (f : Format) (t : List ℕ) → s.straight ≡ true → padded s f t ≡ due s f t
unfolding padded counted
padded_straight s f t e = ap (λ (x : Bool). counted x (due s f t) (inserted (prefix_in s.colour f.look) t)) e

-- in the crate's mode: what is due less the bytes inserted
pub padded_crate : (s : Settings) (f : Format) (t : List ℕ) → s.straight ≡ false → padded s f t ≡ due s f t - inserted (prefix_in s.colour f.look) t
unfolding padded counted
padded_crate s f t e = ap (λ (x : Bool). counted x (due s f t) (inserted (prefix_in s.colour f.look) t)) e

counted_small : (x : Bool) (d n : ℕ) → counted x d n ≤ d
unfolding counted
counted_small true d n = omega arith
counted_small false d n = omega arith

-- never more than the width
pub padded_small : (s : Settings) (f : Format) (t : List ℕ) → padded s f t ≤ f.width
unfolding padded due
padded_small s f t = omega (arith, counted_small s.straight (due s f t) (inserted (prefix_in s.colour f.look) t))
