-- The wide characters that are seen of a text: those of what is visible, in one pass. Assumes nothing.
use mathlib.Core.Path.{◌≡◌, refl, ap, sym, ◌∙◌}
use mathlib.Core.List.{List, [], ◌∷◌, ◌++◌, append_assoc}
use Prim.Native.Nat.{ℕ, zero, suc, ◌+◌, ◌-◌, ◌<◌, ◌≤◌}
use native.Mathlib.Omega.{arith}
use native.Mathlib.Decide.{dec_lt}
use lib.ListN.{length, replicate, drop, get_or, length-append, drop_of_length-le}
use Rattle.buffer.proofs.Parts.{drop_step}
use Rattle.characters.specs.Characters.{begins, chars}
use Rattle.characters.proofs.Counting.{begins_most}
use Rattle.widths.specs.declared.Wides.{Wides}
use Rattle.widths.specs.Widths.{none_begun, advanced, ran}
use Rattle.widths.specs.Fitting.{Fits}
use Rattle.widths.proofs.Running.{advanced_ascii, ran_append, one_a_byte, fits_advanced, raised, raised_advanced}
use Rattle.words.specs.declared.Padding.{Padding}
use Rattle.colour.specs.declared.State.{State}
use Rattle.colour.specs.declared.State.TheVariants.{Outside, Escape}
use Rattle.colour.specs.declared.Act.{Act}
use Rattle.colour.specs.declared.Act.TheVariants.{Text, Esc, More, Done, Reset}
use Rattle.colour.specs.declared.Scan.{Scan}
use Rattle.colour.specs.declared.Format.{Format}
use Rattle.colour.specs.Sequences.{visible, reinserted}
use Rattle.colour.specs.Formatting.{inserted, before, pad_byte, ending, framed}
use Rattle.colour.specs.Machine.{act_of, after, moved, scan, start, left_by, strip, behind as inserted-behind, ins}
use Rattle.colour.specs.Seeing.{let_go, looked_at, seen_after}
use Rattle.colour.specs.Texts.{Free}
use Rattle.colour.proofs.Acts.{act_high, act_outside}
use Rattle.colour.proofs.Scanning.{moved_state}
use Rattle.colour.proofs.Visible.{visible_strip}
use Rattle.colour.proofs.Wholes.{Whole, WholeOrNone, none, one}
use Rattle.colour.proofs.Inserting.{bump}
use Rattle.colour.proofs.Reinserted.{reinserted_ins}
use Rattle.colour.proofs.Shows.{reinserted_nil}
use Rattle.colour.proofs.Measures.{opened, scan_inserted}

-- ---- bytes that are held

-- a byte that is not text is ASCII
below : (q : State) (b : ℕ) → (act_of q b ≡ Text → ⊥) → b < 0x80
below q b n = elim (dec_lt b 0x80) [ yes h ↦ h | no g ↦ absurd (n (act_high q b (omega arith))) ]

abbrev pub Low : List ℕ → Type 0
Low [] = Unit {0}
Low (b ∷ s) = (b < 0x80) × Low s

low_append : (a b : List ℕ) → Low a → Low b → Low (a ++ b)
low_append [] b g h = h
low_append (x ∷ a) b g h = (g.0, low_append a b g.1 h)

-- letting go keeps the count
pub let_go_wide : (k : ℕ) (w : Wides) → (let_go k w).wide ≡ w.wide
let_go_wide zero w = refl
let_go_wide (suc k) w = refl

let_go_behind : (k n : ℕ) → let_go k (none_begun n) ≡ none_begun n
let_go_behind zero n = refl
let_go_behind (suc k) n = refl

pub ran_low : (h : List ℕ) → Low h → (w : Wides) → ran w h ≡ let_go (length h) w
unfolding ran
ran_low [] g w = refl
ran_low (b ∷ h) g w = ap (λ (v : Wides). ran v h) (advanced_ascii w b g.0) ∙ ran_low h g.1 (none_begun w.wide) ∙ let_go_behind (length h) w.wide

-- ---- what is seen is what is visible

abbrev Fuses : List ℕ → Type 0
Fuses s = (t : Scan) (h : List ℕ) (w : Wides) → Low h → t.held ≡ length h → (ran w (strip t.state h s)).wide ≡ (seen_after t w s).wide

ran_held : (h u : List ℕ) → Low h → (k : ℕ) → k ≡ length h → (w : Wides) → ran w (h ++ u) ≡ ran (let_go k w) u
ran_held h u g k e w = ran_append w h u ∙ ap (λ (v : Wides). ran v u) (ran_low h g w ∙ ap (λ (n : ℕ). let_go n w) (sym e))

fuse_at : (s : List ℕ) → Fuses s → (t : Scan) (h : List ℕ) (w : Wides) (b : ℕ) → Low h → t.held ≡ length h → (a : Act) → ((a ≡ Text → ⊥) → b < 0x80)
    → (ran w (left_by a h b (λ q' h'. strip q' h' s))).wide ≡ (seen_after (moved a t) (looked_at a t.held w b) s).wide
unfolding ran
fuse_at s rest t h w b g k Text o =
    ap (λ (v : Wides). v.wide) (ran_held h (b ∷ strip Outside [] s) g t.held k w)
    ∙ rest (moved Text t) [] (advanced (let_go t.held w) b) tt refl
fuse_at s rest t h w b g k Esc o =
    let l : b < 0x80 = o (λ z. (let y : ◌≡◌ {A = ℕ} 0 1 = cc in omega arith)) in
    ap (λ (v : Wides). v.wide) (ran_held h (strip Escape (b ∷ []) s) g t.held k w) ∙ rest (moved Esc t) (b ∷ []) (let_go t.held w) (l, tt) refl
fuse_at s rest t h w b g k (More q) o =
    let l : b < 0x80 = o (λ z. (let y : ◌≡◌ {A = ℕ} 0 1 = cc in omega arith)) in
    let e : t.held + 1 ≡ length (h ++ b ∷ []) = omega (arith, k, length-append h (b ∷ [])) in
    rest (moved (More q) t) (h ++ b ∷ []) w (low_append h (b ∷ []) g (l, tt)) e
fuse_at s rest t h w b g k Done o = rest (moved Done t) [] w tt refl
fuse_at s rest t h w b g k Reset o = rest (moved Reset t) [] w tt refl

fuse : (s : List ℕ) → Fuses s
fuse [] t h w g k = ap (λ (v : Wides). v.wide) (ran_low h g w) ∙ let_go_wide (length h) w
fuse (b ∷ s) t h w g k = fuse_at s (fuse s) t h w b g k (act_of t.state b) (below t.state b)

-- of any bytes: they need not be UTF-8
pub visible_wides : (s : List ℕ) → (ran (none_begun 0) (visible s)).wide ≡ (seen_after start (none_begun 0) s).wide
visible_wides s = ap (λ (v : List ℕ). (ran (none_begun 0) v).wide) (visible_strip s) ∙ fuse s start [] (none_begun 0) tt refl

-- ---- texts joined

pub seen_append : (s u : List ℕ) (t : Scan) (w : Wides) → seen_after t w (s ++ u) ≡ seen_after (scan t s) (seen_after t w s) u
seen_append [] u t w = refl
seen_append (b ∷ s) u t w = seen_append s u (moved (act_of t.state b) t) (looked_at (act_of t.state b) t.held w b)

-- only the state and what is held matter
moved_held : (a : Act) (t u : Scan) → t.held ≡ u.held → (moved a t).held ≡ (moved a u).held
moved_held Text t u e = refl
moved_held Esc t u e = refl
moved_held (More q) t u e = ap (λ (n : ℕ). n + 1) e
moved_held Done t u e = refl
moved_held Reset t u e = refl

pub seen_alike : (s : List ℕ) (t u : Scan) (w : Wides) → t.state ≡ u.state → t.held ≡ u.held → seen_after t w s ≡ seen_after u w s
seen_alike [] t u w e f = refl
seen_alike (b ∷ s) t u w e f =
    let a = act_of t.state b in
    let c = act_of u.state b in
    let g : a ≡ c = ap (λ (q : State). act_of q b) e in
    seen_alike s (moved a t) (moved a u) (looked_at a t.held w b) (moved_state a t ∙ sym (moved_state a u)) (moved_held a t u f)
    ∙ ap (λ (k : ℕ). seen_after (moved a u) (looked_at a k w b) s) f
    ∙ ap (λ (x : Act). seen_after (moved x u) (looked_at x u.held w b) s) g

-- ---- what was counted before is only added to

looked_raised : (k : ℕ) (a : Act) (h : ℕ) (w : Wides) (b : ℕ) → looked_at a h (raised k w) b ≡ raised k (looked_at a h w b)
looked_raised k Text zero w b = raised_advanced k w b
looked_raised k Text (suc h) w b = raised_advanced k (none_begun w.wide) b
looked_raised k Esc zero w b = refl
looked_raised k Esc (suc h) w b = refl
looked_raised k (More q) h w b = refl
looked_raised k Done h w b = refl
looked_raised k Reset h w b = refl

pub seen_raised : (k : ℕ) (s : List ℕ) (t : Scan) (w : Wides) → seen_after t (raised k w) s ≡ raised k (seen_after t w s)
seen_raised k [] t w = refl
seen_raised k (b ∷ s) t w =
    let a = act_of t.state b in
    ap (λ (v : Wides). seen_after (moved a t) v s) (looked_raised k a t.held w b) ∙ seen_raised k s (moved a t) (looked_at a t.held w b)

-- ---- few numbers

pub fits_let_go : (k : ℕ) (w : Wides) → Fits w.pending → Fits (let_go k w).pending
fits_let_go zero w h = h
fits_let_go (suc k) w h = omega arith

pub fits_looked : (a : Act) (k : ℕ) (w : Wides) (b : ℕ) → Fits w.pending → Fits (looked_at a k w b).pending
fits_looked Text k w b h = fits_advanced (let_go k w) b (fits_let_go k w h)
fits_looked Esc k w b h = fits_let_go k w h
fits_looked (More q) k w b h = h
fits_looked Done k w b h = h
fits_looked Reset k w b h = h

pub fits_seen : (s : List ℕ) (t : Scan) (w : Wides) → Fits w.pending → Fits (seen_after t w s).pending
fits_seen [] t w h = h
fits_seen (b ∷ s) t w h = let a = act_of t.state b in fits_seen s (moved a t) (looked_at a t.held w b) (fits_looked a t.held w b h)

pub looked_few : (a : Act) (k : ℕ) (w : Wides) (b : ℕ) → begins b + (looked_at a k w b).wide ≤ w.wide + 1
looked_few Text k w b = omega (arith, one_a_byte (let_go k w) b, let_go_wide k w)
looked_few Esc k w b = omega (arith, begins_most b, let_go_wide k w)
looked_few (More q) k w b = omega (arith, begins_most b)
looked_few Done k w b = omega (arith, begins_most b)
looked_few Reset k w b = omega (arith, begins_most b)

-- one byte on
pub seen_step : (t : Scan) (w : Wides) (s : List ℕ) (i : ℕ) → i < length s
    → seen_after t w (drop i s) ≡ seen_after (moved (act_of t.state (get_or s i 0)) t) (looked_at (act_of t.state (get_or s i 0)) t.held w (get_or s i 0)) (drop (i + 1) s)
seen_step t w s i h = ap (seen_after t w) (drop_step s i h)

pub seen_end : (t : Scan) (w : Wides) (s : List ℕ) (i : ℕ) → length s ≤ i → seen_after t w (drop i s) ≡ w
seen_end t w s i h = ap (seen_after t w) (drop_of_length-le s h)

pub seen_few : (s : List ℕ) (t : Scan) (w : Wides) → chars s + (seen_after t w s).wide ≤ w.wide + length s
seen_few [] t w = omega arith
seen_few (b ∷ s) t w =
    let a = act_of t.state b in
    omega (arith, seen_few s (moved a t) (looked_at a t.held w b), looked_few a t.held w b)

-- ---- texts without byte 27

-- outside a sequence, with nothing held, all of such a text is seen
pub seen_free : (s : List ℕ) → Free s → (t : Scan) (w : Wides) → t.state ≡ Outside → t.held ≡ 0 → seen_after t w s ≡ ran w s
unfolding ran
seen_free [] f t w e g = refl
seen_free (b ∷ s) f t w e g =
    let a : act_of t.state b ≡ Text = ap (λ (q : State). act_of q b) e ∙ act_outside b f.0 in
    ap (λ (x : Act). seen_after (moved x t) (looked_at x t.held w b) s) a
    ∙ ap (λ (k : ℕ). seen_after (moved Text t) (looked_at Text k w b) s) g
    ∙ seen_free s f.1 (moved Text t) (advanced w b) refl refl

-- ---- insertion

behind_seen : (p : List ℕ) → Whole p → (a : Act) (t : Scan) (w : Wides) → seen_after (moved a t) w (inserted-behind a p) ≡ w
behind_seen p g Text t w = refl
behind_seen p g Esc t w = refl
behind_seen p g (More q) t w = refl
behind_seen p g Done t w = refl
behind_seen p g Reset t w = g.silent (moved Reset t) w

behind_state : (p : List ℕ) → Whole p → (a : Act) (t : Scan) → (scan (moved a t) (inserted-behind a p)).state ≡ (moved a t).state
behind_state p h Text t = refl
behind_state p h Esc t = refl
behind_state p h (More q) t = refl
behind_state p h Done t = refl
behind_state p h Reset t = ap (λ (u : Scan). u.state) (h.scanned (moved Reset t))

behind_held : (p : List ℕ) → Whole p → (a : Act) (t : Scan) → (scan (moved a t) (inserted-behind a p)).held ≡ (moved a t).held
behind_held p h Text t = refl
behind_held p h Esc t = refl
behind_held p h (More q) t = refl
behind_held p h Done t = refl
behind_held p h Reset t = ap (λ (u : Scan). u.held) (h.scanned (moved Reset t))

-- prefixes inserted after resets are not seen
ins_seen : (p : List ℕ) → Whole p → (s : List ℕ) (t : Scan) (w : Wides) → seen_after t w (ins p t.state s) ≡ seen_after t w s
ins_seen p h [] t w = refl
ins_seen p h (b ∷ s) t w =
    let a = act_of t.state b in
    let u = moved a t in
    let v = looked_at a t.held w b in
    seen_append (inserted-behind a p) (ins p (after a) s) u v
    ∙ ap (λ (x : Wides). seen_after (scan u (inserted-behind a p)) x (ins p (after a) s)) (behind_seen p h a t v)
    ∙ seen_alike (ins p (after a) s) (scan u (inserted-behind a p)) u v (behind_state p h a t) (behind_held p h a t)
    ∙ ap (λ (q : State). seen_after u v (ins p q s)) (sym (moved_state a t))
    ∙ ins_seen p h s u v

-- after a prefix and padding
seen_inserted : (p : List ℕ) → WholeOrNone p → (z : Padding) (n : ℕ) (s : List ℕ) (t : Scan) (w : Wides)
    → seen_after (scan t (p ++ replicate n (pad_byte z))) w (reinserted p s) ≡ seen_after (scan t (p ++ replicate n (pad_byte z))) w s
seen_inserted p none z n s t w = ap (seen_after (scan t (replicate n (pad_byte z))) w) (reinserted_nil s)
seen_inserted p (one h) z n s t w =
    let u = scan t (p ++ replicate n (pad_byte z)) in
    let o : u.state ≡ Outside = ap (λ (k : Scan). k.state) (opened p h z n t) in
    ap (seen_after u w) (reinserted_ins p s) ∙ ap (λ (q : State). seen_after u w (ins p q s)) (sym o) ∙ ins_seen p h s u w

-- the prefix and the padding before, the text itself, the bytes inserted by their number, the padding after and the end
pub seen_in_one_pass : (p : List ℕ) → WholeOrNone p → (f : Format) (n : ℕ) (s : List ℕ) (t : Scan) (w : Wides)
    → seen_after (bump (scan (scan t (p ++ replicate (before f.alignment n) (pad_byte f.padding))) s) (inserted p s))
    (seen_after (scan t (p ++ replicate (before f.alignment n) (pad_byte f.padding))) (seen_after t w (p ++ replicate (before f.alignment n) (pad_byte f.padding))) s)
    (replicate (n - before f.alignment n) (pad_byte f.padding) ++ ending p)
    ≡ seen_after t w (framed p f n s)
unfolding framed
seen_in_one_pass p h f n s t w =
    let z = f.padding in
    let a = before f.alignment n in
    let l = replicate a (pad_byte z) in
    let r = replicate (n - a) (pad_byte z) in
    let u = scan t (p ++ l) in
    let v = seen_after t w (p ++ l) in
    ap (λ (k : Scan). seen_after k (seen_after u v s) (r ++ ending p)) (sym (scan_inserted p h z a s t))
    ∙ ap (λ (k : Wides). seen_after (scan u (reinserted p s)) k (r ++ ending p)) (sym (seen_inserted p h z a s t v))
    ∙ sym (seen_append (reinserted p s) (r ++ ending p) u v)
    ∙ sym (seen_append (p ++ l) (reinserted p s ++ (r ++ ending p)) t w)
    ∙ ap (seen_after t w) (append_assoc p l (reinserted p s ++ (r ++ ending p)))
