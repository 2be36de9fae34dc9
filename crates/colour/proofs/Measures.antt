-- What code measures of a formatted text, from the measure of the text alone. Assumes nothing.
use mathlib.Core.Path.{◌≡◌, refl, ap, sym, ◌∙◌}
use mathlib.Core.List.{List, [], ◌∷◌, ◌++◌, append_assoc}
use Prim.Native.Nat.{ℕ, zero, suc, ◌+◌, ◌*◌, ◌-◌}
use native.Mathlib.Omega.{arith}
use lib.ListN.{length, replicate, length-append, length-replicate}
use Rattle.utf8.specs.Utf8.{within}
use Rattle.characters.specs.Characters.{begins, chars}
use Rattle.characters.proofs.Counting.{chars_append}
use Rattle.words.specs.declared.Padding.{Padding}
use Rattle.colour.specs.declared.State.{State}
use Rattle.colour.specs.declared.State.TheVariants.{Outside}
use Rattle.colour.specs.declared.Act.{Act}
use Rattle.colour.specs.declared.Act.TheVariants.{Text, Esc, More, Done, Reset}
use Rattle.colour.specs.declared.Scan.{Scan}
use Rattle.colour.specs.declared.Format.{Format}
use Rattle.colour.specs.Sequences.{reset, reinserted}
use Rattle.colour.specs.Formatting.{inserted, before, pad_byte, ending, framed}
use Rattle.colour.specs.Machine.{act_of, after, moved, scan, resting, start, behind, ins}
use Rattle.colour.proofs.Strip.{Stays, stays_pad}
use Rattle.colour.proofs.Scanning.{scan_append, scan_free}
use Rattle.colour.proofs.Wholes.{Whole, WholeOrNone, none, one, scan_reset}
use Rattle.colour.proofs.Inserting.{bump, bump_zero, added, length_ins, ins_scan, added_many}
use Rattle.colour.proofs.Reinserted.{reinserted_ins}
use Rattle.colour.proofs.Shows.{free_pad, reinserted_nil}
use Rattle.colour.proofs.Counts.{chars_pad}
use Rattle.colour.proofs.Formatted.{before_small, inserted_nil}

-- ---- insertion and characters

added_resets : (p s : List ℕ) → added p Outside s ≡ (scan start s).resets * length p
added_resets p s = let e : added p Outside s + 0 * length p ≡ (scan start s).resets * length p = added_many p s start in omega arith

-- each reset adds the bytes of the prefix
pub length_reinserted : (p s : List ℕ) → length (reinserted p s) ≡ length s + (scan start s).resets * length p
length_reinserted p s = omega (arith, ap length (reinserted_ins p s), length_ins p s Outside, added_resets p s)

-- the bytes inserted: the prefix for each reset
pub inserted_resets : (p s : List ℕ) → inserted p s ≡ (scan start s).resets * length p
unfolding inserted
inserted_resets p s = omega (arith, length_reinserted p s)

behind_chars : (p : List ℕ) → chars p ≡ length p → (a : Act) → chars (behind a p) ≡ length (behind a p)
behind_chars p e Text = refl
behind_chars p e Esc = refl
behind_chars p e (More q) = refl
behind_chars p e Done = refl
behind_chars p e Reset = e

ins_chars : (p s : List ℕ) (q : State) → chars p ≡ length p → chars (ins p q s) ≡ chars s + added p q s
ins_chars p [] q e = refl
ins_chars p (b ∷ s) q e =
    let a = act_of q b in
    omega (arith, chars_append (behind a p) (ins p (after a) s), behind_chars p e a, ins_chars p s (after a) e)

-- each reset adds the characters of the prefix
pub chars_reinserted : (p s : List ℕ) → chars p ≡ length p → chars (reinserted p s) ≡ chars s + (scan start s).resets * length p
chars_reinserted p s e = omega (arith, ap chars (reinserted_ins p s), ins_chars p s Outside e, added_resets p s)

-- ---- padding

stay_sequences : (a : Act) (t : Scan) → Stays a → (moved a t).sequences ≡ t.sequences
stay_sequences Text t h = refl
stay_sequences Esc t h = absurd h
stay_sequences (More q) t h = refl
stay_sequences Done t h = absurd h
stay_sequences Reset t h = absurd h

stay_resets : (a : Act) (t : Scan) → Stays a → (moved a t).resets ≡ t.resets
stay_resets Text t h = refl
stay_resets Esc t h = absurd h
stay_resets (More q) t h = refl
stay_resets Done t h = absurd h
stay_resets Reset t h = absurd h

-- padding adds no sequence and no reset
pub pad_sequences : (z : Padding) (n : ℕ) (t : Scan) → (scan t (replicate n (pad_byte z))).sequences ≡ t.sequences
pad_sequences z zero t = refl
pad_sequences z (suc n) t =
    pad_sequences z n (moved (act_of t.state (pad_byte z)) t) ∙ stay_sequences (act_of t.state (pad_byte z)) t (stays_pad z t.state)

pub pad_resets : (z : Padding) (n : ℕ) (t : Scan) → (scan t (replicate n (pad_byte z))).resets ≡ t.resets
pad_resets z zero t = refl
pad_resets z (suc n) t =
    pad_resets z n (moved (act_of t.state (pad_byte z)) t) ∙ stay_resets (act_of t.state (pad_byte z)) t (stays_pad z t.state)

-- ---- on top of what came before

-- m more bytes in whole sequences and n more resets before
abbrev pub shifted : Scan → ℕ → ℕ → Scan
shifted t m n = record { state = t.state; held = t.held; sequences = t.sequences + m; resets = t.resets + n }

resting_eq : (m n r r' : ℕ) → m ≡ n → r ≡ r' → resting m r ≡ resting n r'
resting_eq m n r r' e f = λ i. resting (e i) (f i)

moved_shifted : (a : Act) (t : Scan) (m n : ℕ) → moved a (shifted t m n) ≡ shifted (moved a t) m n
moved_shifted Text t m n = refl
moved_shifted Esc t m n = refl
moved_shifted (More q) t m n = refl
moved_shifted Done t m n = resting_eq (t.sequences + m + (t.held + 1)) (t.sequences + (t.held + 1) + m) (t.resets + n) (t.resets + n) (omega arith) refl
moved_shifted Reset t m n =
    resting_eq (t.sequences + m + (t.held + 1)) (t.sequences + (t.held + 1) + m) (t.resets + n + 1) (t.resets + 1 + n) (omega arith) (omega arith)

-- what came before is only added to
pub scan_shifted : (s : List ℕ) (t : Scan) (m n : ℕ) → scan (shifted t m n) s ≡ shifted (scan t s) m n
scan_shifted [] t m n = refl
scan_shifted (b ∷ s) t m n =
    ap (λ (u : Scan). scan u s) (moved_shifted (act_of t.state b) t m n) ∙ scan_shifted s (moved (act_of t.state b) t) m n

-- where no sequence is open a text scans as by itself
pub scan_resting : (s : List ℕ) (n r : ℕ) → scan (resting n r) s ≡ shifted (scan start s) n r
scan_resting s n r = ap (λ (u : Scan). scan u s) (resting_eq n (0 + n) r (0 + r) (omega arith) (omega arith)) ∙ scan_shifted s start n r

-- ---- a formatted text

-- a text with a prefix, on top of anything: only the measure of the text by itself is needed
pub scan_laid : (p : List ℕ) → Whole p → ending p ≡ reset → (f : Format) (n : ℕ) (s : List ℕ) (t : Scan)
    → scan t (framed p f n s)
    ≡ resting (t.sequences + (length p + ((scan start s).sequences + ((scan start s).resets * length p + 4)))) (t.resets + ((scan start s).resets + 1))
unfolding framed
scan_laid p w e f n s t =
    let z = f.padding in
    let a = before f.alignment n in
    let l = replicate a (pad_byte z) in
    let r = replicate (n - a) (pad_byte z) in
    let u = resting (t.sequences + length p) t.resets in
    let v = scan start s in
    let x = scan u (ins p Outside s) in
    let y = scan x r in
    let i : x ≡ bump (scan u s) (added p Outside s) = ins_scan p w s u in
    let j : scan u s ≡ shifted v (t.sequences + length p) t.resets = scan_resting s (t.sequences + length p) t.resets in
    let xs : x.sequences ≡ v.sequences + (t.sequences + length p) + added p Outside s =
    ap (λ (k : Scan). k.sequences) i ∙ ap (λ (k : Scan). k.sequences + added p Outside s) j in
    let xr : x.resets ≡ v.resets + t.resets = ap (λ (k : Scan). k.resets) i ∙ ap (λ (k : Scan). k.resets) j in
    let m : added p Outside s ≡ v.resets * length p = added_resets p s in
    ap (λ (k : List ℕ). scan t (p ++ (l ++ (k ++ (r ++ ending p))))) (reinserted_ins p s)
    ∙ scan_append p (l ++ (ins p Outside s ++ (r ++ ending p))) t
    ∙ ap (λ (k : Scan). scan k (l ++ (ins p Outside s ++ (r ++ ending p)))) (w.scanned t)
    ∙ scan_append l (ins p Outside s ++ (r ++ ending p)) u
    ∙ ap (λ (k : Scan). scan k (ins p Outside s ++ (r ++ ending p))) (scan_free l (free_pad z a) u refl refl)
    ∙ scan_append (ins p Outside s) (r ++ ending p) u
    ∙ scan_append r (ending p) x
    ∙ ap (scan y) e
    ∙ scan_reset y
    ∙ resting_eq (y.sequences + 4) (t.sequences + (length p + (v.sequences + (v.resets * length p + 4)))) (y.resets + 1) (t.resets + (v.resets + 1))
    (omega (arith, pad_sequences z (n - a) x)) (omega (arith, pad_resets z (n - a) x))

-- its bytes
pub length_laid : (p : List ℕ) (f : Format) (n : ℕ) (s : List ℕ)
    → length (framed p f n s) ≡ length p + (length s + ((scan start s).resets * length p + (n + length (ending p))))
unfolding framed
length_laid p f n s =
    let a = before f.alignment n in
    let z = pad_byte f.padding in
    let l = replicate a z in
    let r = replicate (n - a) z in
    let i = reinserted p s in
    omega (
      arith,
      length-append p (l ++ (i ++ (r ++ ending p))),
      length-append l (i ++ (r ++ ending p)),
      length-append i (r ++ ending p),
      length-append r (ending p),
      length-replicate {A = ℕ} a z,
      length-replicate {A = ℕ} (n - a) z,
      length_reinserted p s,
      before_small f.alignment n,
    )

chars_ending : (p : List ℕ) → chars (ending p) ≡ length (ending p)
unfolding ending begins within
chars_ending [] = refl
chars_ending (b ∷ p) = refl

-- its characters
pub chars_laid : (p : List ℕ) → chars p ≡ length p → (f : Format) (n : ℕ) (s : List ℕ)
    → chars (framed p f n s) ≡ length p + (chars s + ((scan start s).resets * length p + (n + length (ending p))))
unfolding framed
chars_laid p e f n s =
    let a = before f.alignment n in
    let z = f.padding in
    let l = replicate a (pad_byte z) in
    let r = replicate (n - a) (pad_byte z) in
    let i = reinserted p s in
    omega (
      arith,
      chars_append p (l ++ (i ++ (r ++ ending p))),
      chars_append l (i ++ (r ++ ending p)),
      chars_append i (r ++ ending p),
      chars_append r (ending p),
      chars_pad z a,
      chars_pad z (n - a),
      chars_reinserted p s e,
      chars_ending p,
      before_small f.alignment n,
    )

-- ---- a formatted text in one pass

inserted_added : (p s : List ℕ) → added p Outside s ≡ inserted p s
inserted_added p s = added_resets p s ∙ sym (inserted_resets p s)

-- after a prefix and padding no sequence is open
pub opened : (p : List ℕ) → Whole p → (z : Padding) (n : ℕ) (t : Scan) → scan t (p ++ replicate n (pad_byte z)) ≡ resting (t.sequences + length p) t.resets
opened p w z n t =
    scan_append p (replicate n (pad_byte z)) t ∙ ap (λ (u : Scan). scan u (replicate n (pad_byte z))) (w.scanned t)
    ∙ scan_free (replicate n (pad_byte z)) (free_pad z n) (resting (t.sequences + length p) t.resets) refl refl

pub scan_inserted : (p : List ℕ) → WholeOrNone p → (z : Padding) (n : ℕ) (s : List ℕ) (t : Scan)
    → scan (scan t (p ++ replicate n (pad_byte z))) (reinserted p s) ≡ bump (scan (scan t (p ++ replicate n (pad_byte z))) s) (inserted p s)
scan_inserted p none z n s t =
    let u = scan t (replicate n (pad_byte z)) in
    ap (scan u) (reinserted_nil s) ∙ sym (bump_zero (scan u s)) ∙ ap (bump (scan u s)) (sym (inserted_nil s))
scan_inserted p (one w) z n s t =
    let u = scan t (p ++ replicate n (pad_byte z)) in
    let o : u.state ≡ Outside = ap (λ (k : Scan). k.state) (opened p w z n t) in
    ap (scan u) (reinserted_ins p s) ∙ ap (λ (q : State). scan u (ins p q s)) (sym o) ∙ ins_scan p w s u
    ∙ ap (λ (q : State). bump (scan u s) (added p q s)) o ∙ ap (bump (scan u s)) (inserted_added p s)

-- the prefix and the padding before, the text itself, the bytes inserted by their number, the padding after and the end
pub scan_in_one_pass : (p : List ℕ) → WholeOrNone p → (f : Format) (n : ℕ) (s : List ℕ) (t : Scan)
    → scan (bump (scan (scan t (p ++ replicate (before f.alignment n) (pad_byte f.padding))) s) (inserted p s))
    (replicate (n - before f.alignment n) (pad_byte f.padding) ++ ending p)
    ≡ scan t (framed p f n s)
unfolding framed
scan_in_one_pass p w f n s t =
    let z = f.padding in
    let a = before f.alignment n in
    let l = replicate a (pad_byte z) in
    let r = replicate (n - a) (pad_byte z) in
    let u = scan t (p ++ l) in
    ap (λ (k : Scan). scan k (r ++ ending p)) (sym (scan_inserted p w z a s t))
    ∙ sym (scan_append (reinserted p s) (r ++ ending p) u)
    ∙ sym (scan_append (p ++ l) (reinserted p s ++ (r ++ ending p)) t)
    ∙ ap (scan t) (append_assoc p l (reinserted p s ++ (r ++ ending p)))
