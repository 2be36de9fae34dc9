-- The top level, one law for each case. Assumes nothing.
use Prim.Native.Nat.{ℕ, ◌+◌, ◌-◌, ◌≤◌}
use mathlib.Core.Path.{◌≡◌, refl, sym, ap, subst, ◌∙◌}
use mathlib.Core.Bool.{false}
use mathlib.Core.List.{List}
use native.Mathlib.Omega.{arith}
use lib.ListN.{length, take}
use lib.Seq.{take_at}
use Rattle.buffer.specs.Buffer.{put_at}
use Rattle.letters.specs.Marked.{marked}
use Rattle.letters.proofs.Marks.{marked_length}
use Rattle.refusals.specs.declared.Refusal.{Refusal}
use Rattle.words.specs.Trying.{Tried, fit, misfit, refused, ◌or_else◌, ◌then◌, repeated}
use Rattle.words.proofs.Attempts.{then_fit, then_misfit, then_refused}
use Rattle.segments.specs.declared.Cell.{Cell}
use Rattle.segments.specs.Segments.{LogSegments, none, ◌and_then◌}
use Rattle.segments.specs.Sizes.{sizes, Lows}
use Rattle.segments.specs.Pool.{segment_at, chain_at}
use Rattle.segments.proofs.Fronts.{chain_front}
use Rattle.segments.proofs.Chains.{chain_none, chain_step}
use Rattle.segments.proofs.Growing.{sound_none, sound_front, tidy_none, tidy_front}
use Rattle.segments.proofs.Joining.{sizes_and_then, lows_and_then}
use Rattle.building.specs.Reading.{Made, Top, text_at, brace_at, inside_at, with_top, top_at}
use Rattle.template.specs.Template.{Template, refusal, with_message, ended, top_level}
use Rattle.building.specs.Told.{last_made, Fitted}
use Rattle.template.specs.Parsing.{ReadKeeps}
use Rattle.lists.proofs.Grouped.{brace_past, text_past}

-- ---- segments as long as they fit

-- the top level so far
abbrev pub top_of : List Cell → ℕ → Top
top_of cells n = record { segments = chain_at cells n; made = n }

both : (x y : Tried Made) (s : Top) → ((x then λ x j. fit (with_top s x) j) or_else λ _. (y then λ x j. fit (with_top s x) j)) ≡ ((x or_else λ _. y) then λ x j. fit (with_top s x) j)
unfolding ◌or_else◌ ◌then◌
both (fit a j) y s = refl
both misfit y s = refl
both (refused r) y s = refl

module _ (t : List ℕ) (i e n : ℕ) (b : List Cell) where
  -- a brace, else text
  abbrev segment : Tried Made
  segment = brace_at t (inside_at 8 false t) i e n or_else λ _. text_at t i e n

  top_is : top_at t e i (top_of b n) ≡ (segment then λ x j. fit (with_top (top_of b n) x) j)
  unfolding top_at
  top_is = both (brace_at t (inside_at 8 false t) i e n) (text_at t i e n) (top_of b n)

  pub top_more : (a : List Cell) (j k : ℕ) → fit (last_made a k) j ≡ segment → chain_at a k ≡ chain_at b n and_then segment_at a (k - 1) → top_at t e i (top_of b n) ≡ fit (top_of a k) j
  unfolding with_top last_made
  top_more a j k q r =
      top_is ∙ then_fit segment (λ (x : Made) (j : ℕ). fit (with_top (top_of b n) x) j) (last_made a k) j (sym q)
      ∙ ap (λ (s : LogSegments). fit (record { segments = s; made = k }) j) (sym r)

  pub top_ends : misfit ≡ segment → top_at t e i (top_of b n) ≡ misfit
  top_ends q = top_is ∙ then_misfit segment (λ (x : Made) (j : ℕ). fit (with_top (top_of b n) x) j) (sym q)

  pub top_refuses : (r : Refusal) → refused r ≡ segment → top_at t e i (top_of b n) ≡ refused r
  top_refuses r q = top_is ∙ then_refused segment (λ (x : Made) (j : ℕ). fit (with_top (top_of b n) x) j) r (sym q)

pub top_past : (t : List ℕ) (i e : ℕ) (s : Top) → e ≤ i → top_at t e i s ≡ misfit
unfolding top_at ◌or_else◌ ◌then◌
top_past t i e s h =
    ap (λ (x : Tried Made). (x then λ x j. fit (with_top s x) j) or_else λ _. (text_at t i e s.made then λ x j. fit (with_top s x) j)) (brace_past t (inside_at 8 false t) i e s.made h)
    ∙ ap (λ (x : Tried Made). x then λ x j. fit (with_top s x) j) (text_past t i e s.made h)

-- one segment more
module _ (lo to : ℕ) (b a : List Cell) (n j k : ℕ) (f : take n a ≡ take n b) (h : Fitted lo to n n 8 a j k) where
  pub top_grown : chain_at a k ≡ chain_at b n and_then segment_at a (k - 1)
  top_grown =
      let m = h.more in
      let p : k ≡ k - 1 + 1 = omega arith in
      ap (chain_at a) p ∙ chain_step a (k - 1)
      ∙ ap (λ (l : ℕ). chain_at a l and_then segment_at a (k - 1)) h.linked
      ∙ ap (λ (s : LogSegments). s and_then segment_at a (k - 1)) (chain_front a b n f n (let l : n ≤ n = omega arith in l))

  pub top_kept : ReadKeeps b n → ReadKeeps a k
  top_kept v =
      let z = ap sizes top_grown ∙ sizes_and_then (chain_at b n) (segment_at a (k - 1)) in
      let c = h.counted in
      let y = v.counted in
      record {
        few = h.few;
        sound = h.sound;
        counted = (let s : sizes (chain_at a k) ≡ k = omega arith in s);
        low = subst (Lows 8) (sym top_grown) (lows_and_then 8 (chain_at b n) (segment_at a (k - 1)) v.low h.low);
        tidy = h.tidy (tidy_front b a n v.tidy f) (λ z. refl);
      }

pub none_kept : (cells : List Cell) → ReadKeeps cells 0
unfolding sizes
none_kept cells =
    let s : none ≡ chain_at cells 0 = sym (chain_none cells) in
    record {
      few = (let l : 0 ≤ 64 = omega arith in l);
      sound = sound_none cells;
      counted = subst (λ (x : LogSegments). sizes x ≡ 0) s refl;
      low = subst (Lows 8) s tt;
      tidy = tidy_none cells;
    }

pub top_begins : (try : ℕ → Top → Tried Top) (m : ℕ) (cells : List Cell) → repeated try m 0 (top_of cells 0) ≡ repeated try m 0 (record { segments = none; made = 0 })
top_begins try m cells = ap (λ (s : LogSegments). repeated try m 0 (record { segments = s; made = 0 })) (chain_none cells)

-- the top level ends at i with n segments
pub record Ended (t : List ℕ) (cells : List Cell) (n i : ℕ) : Type 0 where
  pub kept : ReadKeeps cells n
  pub reads : fit (top_of cells n) i ≡ repeated (top_at t (length t)) (length t) 0 (record { segments = none; made = 0 })

module _ (t : List ℕ) where
  pub top_closes : (cells : List Cell) (n i : ℕ) → Ended t cells n i → (x : Template) → x ≡ with_message (chain_at cells n) → x ≡ top_level t
  unfolding top_level ended
  top_closes cells n i q x r = r ∙ ap ended q.reads

  pub top_fails : (r : Refusal) → refused r ≡ repeated (top_at t (length t)) (length t) 0 (record { segments = none; made = 0 }) → refusal r ≡ top_level t
  unfolding top_level ended
  top_fails r q = ap ended q

-- ---- a template whose letters are marked

-- what stands at the front of the copy is the template, marked
pub marked_front : (d t : List ℕ) → take (length t) (put_at d 0 (marked t)) ≡ marked t
unfolding put_at
marked_front d t = take_at (marked t) _ (length t) (marked_length t)

-- ---- pools that agree on the segments made

pub top_after : (b a : List Cell) (n : ℕ) → take n a ≡ take n b → top_of a n ≡ top_of b n
top_after b a n f = ap (λ (s : LogSegments). record { segments = s; made = n }) (chain_front a b n f n (let l : n ≤ n = omega arith in l))

pub read_after : (b a : List Cell) (n : ℕ) → ReadKeeps b n → take n a ≡ take n b → ReadKeeps a n
read_after b a n h f =
    let s : chain_at b n ≡ chain_at a n = sym (chain_front a b n f n (let l : n ≤ n = omega arith in l)) in
    record {
      few = h.few;
      sound = sound_front b a n h.sound f;
      counted = subst (λ (x : LogSegments). sizes x ≡ n) s h.counted;
      low = subst (Lows 8) s h.low;
      tidy = tidy_front b a n h.tidy f;
    }
