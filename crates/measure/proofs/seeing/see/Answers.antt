-- `measure::seeing::see` meets its contract. Assumes nothing.
use native.Mathlib.Omega.{arith}
use mathlib.Core.Path.{◌≡◌, refl, ap, sym, ◌∙◌}
use mathlib.Core.List.{List, [], ◌∷◌}
use Prim.Native.Nat.{ℕ, ◌-◌, ◌≤◌}
use lib.ListN.{length, get_or}
use Rattle.characters.specs.Characters.{chars}
use Rattle.characters.proofs.Counting.{chars_length}
use Rattle.widths.specs.declared.Pending.{Pending}
use Rattle.widths.specs.declared.Wides.{Wides}
use Rattle.widths.specs.Widths.{begun_by, ran}
use Rattle.widths.proofs.Running.{ran_begins}
use Rattle.colour.specs.declared.Scan.{Scan}
use Rattle.colour.specs.Seeing.{seen_after}
use Rattle.colour.specs.Texts.{Free}
use Rattle.colour.proofs.Seeing.{seen_alike, seen_free}
use Rattle.colour.proofs.Shows.{free_by_has}
use Rattle.scanning.proofs.Rests.{rests_outside}
use Rattle.scanning.proofs.Searched.{never}
use Rattle.measure.specs.Measures.{begun_with}
use Rattle.measure.proofs.seeing.see.Goals as goal

-- what is seen of it does not depend on what was counted before
same_seen : (t : Scan) (w : Wides) (s : List ℕ) (r : Wides) → r ≡ seen_after (record { state = t.state; held = t.held; sequences = 0; resets = 0 }) w s → r ≡ seen_after t w s
same_seen t w s r e =
    e ∙ seen_alike s (record { state = t.state; held = t.held; sequences = 0; resets = 0 }) t w refl refl

-- nothing is seen of nothing
none : (t : Scan) (w : Wides) (s : List ℕ) → length s ≡ 0 → w ≡ seen_after t w s
none t w [] e = refl
none t w (b ∷ s) e = absurd (let z : ⊥ = omega (arith, e) in z)

-- every byte begins a character
begins_all : (w : Wides) (s : List ℕ) → (length s ≡ 0 → ⊥) → length s ≤ chars s → ran w s ≡ record { pending = begun_by (get_or s (length s - 1) 0); wide = w.wide }
begins_all w [] n h = absurd (n refl)
begins_all w (b ∷ s) n h =
    let z : length s ≡ length (b ∷ s) - 1 = omega arith in
    ran_begins w b s (omega (arith, h, chars_length (b ∷ s))) ∙ ap (λ (k : ℕ). record { pending = begun_by (get_or (b ∷ s) k 0); wide = w.wide }) z

pub returns-then-n-eq0 : goal.returns-then-n-eq0
returns-then-n-eq0 c = none c.args.t (begun_with c.args.awaited c.args.bits) c.args.s.now c.if-n-eq0.true

pub walk-requires : goal.walk-requires
walk-requires c =
    record {
      q_value = (λ e. absurd (never e), omega (arith, c.requires.fits.1));
      fits = c.requires.fits.0;
    }

pub returns-then-c : goal.returns-then-c
returns-then-c c = same_seen c.args.t (begun_with c.args.awaited c.args.bits) c.args.s.now c.walk.result c.walk.ensures

pub walk-requires-then-c-n : goal.walk-requires-then-c-n
walk-requires-then-c-n c =
    let s = c.args.s.now in
    let h = rests_outside c.args.t.state c.args.t.held (sym c.rests.ensures ∙ c.if-not-rests.false) in
    let f : Free s = free_by_has s (sym c.requires.chars_value.1 ∙ c.if-c.false) in
    record {
      q_value = (λ e. (h.0, (h.1, f)), omega (arith, c.requires.fits.1));
      fits = c.requires.fits.0;
    }

pub returns-then-c-n : goal.returns-then-c-n
returns-then-c-n c = same_seen c.args.t (begun_with c.args.awaited c.args.bits) c.args.s.now c.walk-then-c-n.result c.walk-then-c-n.ensures

pub returns : goal.returns
returns c =
    let s = c.args.s.now in
    let w = begun_with c.args.awaited c.args.bits in
    let h = rests_outside c.args.t.state c.args.t.held (sym c.rests.ensures ∙ c.if-not-rests.false) in
    let f : Free s = free_by_has s (sym c.requires.chars_value.1 ∙ c.if-c.false) in
    ap (λ (x : Pending). record { pending = x; wide = 0 }) c.begun_by.ensures
    ∙ sym (begins_all w s c.if-n-eq0.false (omega (arith, c.if-c-n.false, c.requires.chars_value.0)))
    ∙ sym (seen_free s f c.args.t w h.0 h.1)
