-- Every prefix is one whole colour sequence and no reset; it is not seen, and it has at most 15 bytes. Assumes nothing.
use mathlib.Core.Path.{◌≡◌, refl, ap, sym, ◌∙◌, subst}
use mathlib.Core.Bool.{Bool, true, false}
use mathlib.Core.List.{List, [], ◌∷◌, ◌++◌, append_assoc}
use Prim.Native.Nat.{ℕ, ◌+◌, ◌≤◌}
use native.Mathlib.Omega.{arith}
use lib.ListN.{length, length-append}
use borrow.Author.Tests.{ne_eqb}
use Rattle.std.specs.Prelude.{Option, Some, None}
use Rattle.buffer.specs.Bytes.{bytes}
use Rattle.utf8.specs.Utf8.{within}
use Rattle.characters.specs.Characters.{chars}
use Rattle.widths.specs.declared.Wides.{Wides}
use Rattle.words.specs.declared.Color.{Color}
use Rattle.words.specs.declared.Color.TheVariants.{Black, Red, Green, Yellow, Blue, Magenta, Cyan, White, BrightBlack, BrightWhite}
use Rattle.runs.specs.Runs.{digit}
use Rattle.colour.specs.declared.Look.{Look}
use Rattle.colour.specs.declared.State.TheVariants.{Outside, Bracket, Digits}
use Rattle.colour.specs.declared.Act.{Act}
use Rattle.colour.specs.declared.Act.TheVariants.{More}
use Rattle.colour.specs.declared.Scan.{Scan}
use Rattle.colour.specs.Sequences.{esc, in_sequence}
use Rattle.colour.specs.Looks.{foreground, ink_codes, where_it_applies, codes, following, sequence, prefix}
use Rattle.colour.specs.Formatting.{prefix_in}
use Rattle.colour.specs.Seeing.{let_go, looked_at, seen_after}
use Rattle.colour.specs.Machine.{act_in, act_of, moved, scan, resting, start, left_by, strip}
use Rattle.colour.proofs.Acts.{Parameters, parameters_append, act_onward}
use Rattle.colour.proofs.Wholes.{Whole, WholeOrNone, none, one}
use Rattle.colour.proofs.Shows.{Shows, shows_by_strip, shows_visible, shows_nil}
use Rattle.colour.proofs.Characters.{visible_chars}

-- ---- the codes

-- digits and `;`, the first of them not `0`
abbrev pub Code : List ℕ → Type 0
Code [] = ⊥
Code (b ∷ s) = ((in_sequence b ≡ true) × (b ≡ 0x30 → ⊥)) × Parameters s

-- a list of codes
abbrev pub Codes : List (List ℕ) → Type 0
Codes [] = Unit {0}
Codes (c ∷ cs) = Code c × Codes cs

code_parameters : (c : List ℕ) → Code c → Parameters c
code_parameters [] h = absurd h
code_parameters (b ∷ s) h = (h.0.0, h.1)

parameters_following : (cs : List (List ℕ)) → Codes cs → Parameters (following cs)
unfolding following in_sequence digit within
parameters_following [] h = tt
parameters_following (c ∷ cs) h = (refl, parameters_append c (following cs) (code_parameters c h.0) (parameters_following cs h.1))

-- the tables hold codes
code_foreground : (c : Color) → Code (foreground c)
unfolding foreground in_sequence digit within
code_foreground Black = ((refl, λ e. omega arith), (refl, tt))
code_foreground Red = ((refl, λ e. omega arith), (refl, tt))
code_foreground Green = ((refl, λ e. omega arith), (refl, tt))
code_foreground Yellow = ((refl, λ e. omega arith), (refl, tt))
code_foreground Blue = ((refl, λ e. omega arith), (refl, tt))
code_foreground Magenta = ((refl, λ e. omega arith), (refl, tt))
code_foreground Cyan = ((refl, λ e. omega arith), (refl, tt))
code_foreground White = ((refl, λ e. omega arith), (refl, tt))
code_foreground BrightBlack = ((refl, λ e. omega arith), (refl, tt))
code_foreground BrightWhite = ((refl, λ e. omega arith), (refl, tt))

codes_ink : (i : Option Color) → Codes (ink_codes i)
unfolding ink_codes
codes_ink None = tt
codes_ink (Some c) = (code_foreground c, tt)

codes_where : (x : Bool) (c : List ℕ) (cs : List (List ℕ)) → Code c → Codes cs → Codes (where_it_applies x c cs)
unfolding where_it_applies
codes_where true c cs g h = (g, h)
codes_where false c cs g h = h

pub codes_look : (k : Look) → Codes (codes k)
unfolding codes in_sequence digit within
codes_look k =
    codes_where k.styles.bold (bytes "1") _ ((refl, λ e. omega arith), tt)
    (codes_where k.styles.dimmed (bytes "2") _ ((refl, λ e. omega arith), tt)
    (codes_where k.styles.underline (bytes "4") _ ((refl, λ e. omega arith), tt)
    (codes_where k.styles.italic (bytes "3") _ ((refl, λ e. omega arith), tt)
    (codes_where k.styles.strike (bytes "9") _ ((refl, λ e. omega arith), tt)
    (codes_ink k.ink)))))

-- ---- a sequence of codes

sequence_form : (b : ℕ) (c : List ℕ) (cs : List (List ℕ)) → sequence ((b ∷ c) ∷ cs) ≡ esc ∷ 0x5B ∷ b ∷ ((c ++ following cs) ++ 0x6D ∷ [])
unfolding sequence
sequence_form b c cs = ap (λ (l : List ℕ). esc ∷ 0x5B ∷ b ∷ l) (sym (append_assoc c (following cs) (0x6D ∷ [])))

-- the first code does not begin with `0`: no reset can come
act_first : (b : ℕ) → in_sequence b ≡ true → (b ≡ 0x30 → ⊥) → act_of Bracket b ≡ More Digits
act_first b h n = act_onward Bracket b tt h ∙ rw (ne_eqb b 0x30 n)

-- from there on to the `m` all is one sequence, and none of it is seen
parameters_strip : (s r h : List ℕ) → Parameters s → strip Digits h ((s ++ 0x6D ∷ []) ++ r) ≡ strip Outside [] r
unfolding act_of act_in
parameters_strip [] r h g = refl
parameters_strip (b ∷ s) r h g =
    ap (λ (a : Act). left_by a h b (λ q h'. strip q h' ((s ++ 0x6D ∷ []) ++ r))) (act_onward Digits b tt g.0) ∙ parameters_strip s r (h ++ b ∷ []) g.1

code_strip : (b : ℕ) (s r : List ℕ) → Code (b ∷ s) → strip Outside [] ((esc ∷ 0x5B ∷ b ∷ (s ++ 0x6D ∷ [])) ++ r) ≡ strip Outside [] r
unfolding act_of act_in
code_strip b s r g =
    ap (λ (a : Act). left_by a (esc ∷ 0x5B ∷ []) b (λ q h'. strip q h' ((s ++ 0x6D ∷ []) ++ r))) (act_first b g.0.0 g.0.1)
    ∙ parameters_strip s r (esc ∷ 0x5B ∷ b ∷ []) g.1

sequence_strip : (cs : List (List ℕ)) → Codes cs → (r : List ℕ) → strip Outside [] (sequence cs ++ r) ≡ strip Outside [] r
unfolding sequence
sequence_strip [] h r = refl
sequence_strip ([] ∷ cs) h r = absurd h.0
sequence_strip ((b ∷ c) ∷ cs) h r =
    ap (λ (l : List ℕ). strip Outside [] (l ++ r)) (sequence_form b c cs)
    ∙ code_strip b (c ++ following cs) r (h.0.0, parameters_append c (following cs) h.0.1 (parameters_following cs h.1))

pub shows_sequence : (cs : List (List ℕ)) → Codes cs → Shows (sequence cs) []
shows_sequence cs h = shows_by_strip (sequence cs) [] (sequence_strip cs h)

parameters_scan : (s : List ℕ) (k n r : ℕ) → Parameters s
    → scan (record { state = Digits; held = k; sequences = n; resets = r }) (s ++ 0x6D ∷ []) ≡ resting (n + (k + (length s + 1))) r
unfolding act_of act_in
parameters_scan [] k n r g = refl
parameters_scan (b ∷ s) k n r g =
    let t : Scan = record { state = Digits; held = k; sequences = n; resets = r } in
    let e : n + (k + 1 + (length s + 1)) ≡ n + (k + (length (b ∷ s) + 1)) = omega arith in
    ap (λ (a : Act). scan (moved a t) (s ++ 0x6D ∷ [])) (act_onward Digits b tt g.0) ∙ parameters_scan s (k + 1) n r g.1 ∙ ap (λ (m : ℕ). resting m r) e

parameters_seen : (s : List ℕ) (k n r : ℕ) (w : Wides) → Parameters s → seen_after (record { state = Digits; held = k; sequences = n; resets = r }) w (s ++ 0x6D ∷ []) ≡ w
unfolding act_of act_in
parameters_seen [] k n r w g = refl
parameters_seen (b ∷ s) k n r w g =
    let t : Scan = record { state = Digits; held = k; sequences = n; resets = r } in
    ap (λ (a : Act). seen_after (moved a t) (looked_at a k w b) (s ++ 0x6D ∷ [])) (act_onward Digits b tt g.0) ∙ parameters_seen s (k + 1) n r w g.1

code_seen : (b : ℕ) (s : List ℕ) → Code (b ∷ s) → (t : Scan) (w : Wides) → seen_after t w (esc ∷ 0x5B ∷ b ∷ (s ++ 0x6D ∷ [])) ≡ let_go t.held w
unfolding act_of act_in
code_seen b s g t w =
    let u : Scan = record { state = Bracket; held = 2; sequences = t.sequences; resets = t.resets } in
    let v = let_go t.held w in
    ap (λ (a : Act). seen_after (moved a u) (looked_at a 2 v b) (s ++ 0x6D ∷ [])) (act_first b g.0.0 g.0.1) ∙ parameters_seen s 3 t.sequences t.resets v g.1

code_scan : (b : ℕ) (s : List ℕ) → Code (b ∷ s) → (t : Scan)
    → scan t (esc ∷ 0x5B ∷ b ∷ (s ++ 0x6D ∷ [])) ≡ resting (t.sequences + length (esc ∷ 0x5B ∷ b ∷ (s ++ 0x6D ∷ []))) t.resets
unfolding act_of act_in
code_scan b s g t =
    let u : Scan = record { state = Bracket; held = 2; sequences = t.sequences; resets = t.resets } in
    let e : t.sequences + (3 + (length s + 1)) ≡ t.sequences + length (esc ∷ 0x5B ∷ b ∷ (s ++ 0x6D ∷ [])) = omega (arith, length-append s (0x6D ∷ [])) in
    ap (λ (a : Act). scan (moved a u) (s ++ 0x6D ∷ [])) (act_first b g.0.0 g.0.1) ∙ parameters_scan s 3 t.sequences t.resets g.1
    ∙ ap (λ (m : ℕ). resting m t.resets) e

code_whole : (b : ℕ) (s : List ℕ) → Code (b ∷ s) → Whole (esc ∷ 0x5B ∷ b ∷ (s ++ 0x6D ∷ []))
code_whole b s g = record { scanned = code_scan b s g; silent = code_seen b s g }

pub whole_sequence : (cs : List (List ℕ)) → Codes cs → (sequence cs ≡ [] → ⊥) → Whole (sequence cs)
unfolding sequence
whole_sequence [] h n = absurd (n refl)
whole_sequence ([] ∷ cs) h n = absurd h.0
whole_sequence ((b ∷ c) ∷ cs) h n =
    subst Whole (sym (sequence_form b c cs))
    (code_whole b (c ++ following cs) (h.0.0, parameters_append c (following cs) h.0.1 (parameters_following cs h.1)))

-- each byte of a whole sequence that is not seen is a character
pub chars_whole : (p : List ℕ) → Whole p → Shows p [] → chars p ≡ length p
chars_whole p w g =
    omega (arith, visible_chars p, ap chars (shows_visible p [] g), ap (λ (t : Scan). t.sequences) (w.scanned start))

whole_or_none_sequence : (cs : List (List ℕ)) → Codes cs → WholeOrNone (sequence cs)
unfolding sequence
whole_or_none_sequence [] h = none
whole_or_none_sequence (c ∷ cs) h = one (whole_sequence (c ∷ cs) h (λ e. let z : ◌≡◌ {A = ℕ} 0 1 = cc in omega arith))

chars_whole_or_none : (p : List ℕ) → WholeOrNone p → Shows p [] → chars p ≡ length p
chars_whole_or_none p none g = refl
chars_whole_or_none p (one w) g = chars_whole p w g

-- ---- every prefix

-- no prefix is seen
pub shows_prefix : (k : Look) → Shows (prefix k) []
unfolding prefix
shows_prefix k = shows_sequence (codes k) (codes_look k)

-- a prefix, where there is one, is a whole sequence and no reset, whatever came before it
pub whole_prefix : (k : Look) → (prefix k ≡ [] → ⊥) → Whole (prefix k)
unfolding prefix
whole_prefix k n = whole_sequence (codes k) (codes_look k) n

-- each of its bytes is a character
pub chars_prefix : (k : Look) → chars (prefix k) ≡ length (prefix k)
unfolding prefix
chars_prefix k = chars_whole_or_none (prefix k) (whole_or_none_sequence (codes k) (codes_look k)) (shows_prefix k)

-- with colour off there is none, and it is not seen either
pub shows_prefix_in : (on : Bool) (k : Look) → Shows (prefix_in on k) []
unfolding prefix_in
shows_prefix_in true k = shows_prefix k
shows_prefix_in false k = shows_nil

pub whole_prefix_in : (on : Bool) (k : Look) → (prefix_in on k ≡ [] → ⊥) → Whole (prefix_in on k)
unfolding prefix_in
whole_prefix_in true k n = whole_prefix k n
whole_prefix_in false k n = absurd (n refl)

pub chars_prefix_in : (on : Bool) (k : Look) → chars (prefix_in on k) ≡ length (prefix_in on k)
unfolding prefix_in
chars_prefix_in true k = chars_prefix k
chars_prefix_in false k = refl

-- it is nothing, or one whole sequence
pub whole_or_none_prefix_in : (on : Bool) (k : Look) → WholeOrNone (prefix_in on k)
unfolding prefix_in prefix
whole_or_none_prefix_in true k = whole_or_none_sequence (codes k) (codes_look k)
whole_or_none_prefix_in false k = none

-- ---- the length of a prefix

-- the bytes of codes, each with one byte more
spent : List (List ℕ) → ℕ
spent [] = 0
spent (c ∷ cs) = length c + 1 + spent cs

spent_where : (x : Bool) (c : List ℕ) (cs : List (List ℕ)) → spent (where_it_applies x c cs) ≤ length c + 1 + spent cs
unfolding spent where_it_applies
spent_where true c cs = omega arith
spent_where false c cs = omega arith

spent_ink : (i : Option Color) → spent (ink_codes i) ≤ 3
unfolding spent ink_codes foreground
spent_ink None = omega arith
spent_ink (Some Black) = omega arith
spent_ink (Some Red) = omega arith
spent_ink (Some Green) = omega arith
spent_ink (Some Yellow) = omega arith
spent_ink (Some Blue) = omega arith
spent_ink (Some Magenta) = omega arith
spent_ink (Some Cyan) = omega arith
spent_ink (Some White) = omega arith
spent_ink (Some BrightBlack) = omega arith
spent_ink (Some BrightWhite) = omega arith

spent_codes : (k : Look) → spent (codes k) ≤ 13
unfolding codes
spent_codes k =
    let c5 = ink_codes k.ink in
    let c4 = where_it_applies k.styles.strike (bytes "9") c5 in
    let c3 = where_it_applies k.styles.italic (bytes "3") c4 in
    let c2 = where_it_applies k.styles.underline (bytes "4") c3 in
    let c1 = where_it_applies k.styles.dimmed (bytes "2") c2 in
    omega (
      arith,
      spent_ink k.ink,
      spent_where k.styles.strike (bytes "9") c5,
      spent_where k.styles.italic (bytes "3") c4,
      spent_where k.styles.underline (bytes "4") c3,
      spent_where k.styles.dimmed (bytes "2") c2,
      spent_where k.styles.bold (bytes "1") c1,
    )

length_following : (cs : List (List ℕ)) → length (following cs) ≡ spent cs
unfolding following spent
length_following [] = refl
length_following (c ∷ cs) = omega (arith, length-append c (following cs), length_following cs)

length_sequence : (cs : List (List ℕ)) → length (sequence cs) ≤ 2 + spent cs
unfolding sequence spent
length_sequence [] = omega arith
length_sequence (c ∷ cs) = omega (arith, length-append c (following cs ++ bytes "m"), length-append (following cs) (bytes "m"), length_following cs)

-- the longest prefix, ESC `[1;2;4;3;9;97m`, has 15 bytes
pub length_prefix : (k : Look) → length (prefix k) ≤ 15
unfolding prefix
length_prefix k = omega (arith, length_sequence (codes k), spent_codes k)

pub length_prefix_in : (on : Bool) (k : Look) → length (prefix_in on k) ≤ 15
unfolding prefix_in
length_prefix_in true k = length_prefix k
length_prefix_in false k = omega arith
