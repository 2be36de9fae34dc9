-- Items of a content, one law for each case. Assumes nothing.
use Prim.Native.Nat.{ℕ, ◌+◌, ◌-◌, ◌≤◌, ◌<◌}
use mathlib.Core.Path.{◌≡◌, refl, sym, ap, subst, ◌∙◌}
use mathlib.Core.Bool.{Bool, true, false}
use mathlib.Core.List.{List}
use native.Mathlib.Omega.{arith}
use native.Mathlib.Nat.{le_trans}
use lib.ListN.{length, take}
use Rattle.words.specs.declared.Parameter.{Parameter}
use Rattle.words.specs.Trying.{Tried, fit, misfit, refused, ◌or_else◌, ◌then◌}
use Rattle.words.specs.Words.{parameter_at}
use Rattle.segments.specs.declared.Cell.{Cell}
use Rattle.segments.specs.Segments.{LogSegment}
use Rattle.segments.specs.Sizes.{size, Low, Narrow}
use Rattle.segments.specs.Pool.{segment_at}
use Rattle.segments.proofs.Fronts.{segment_front, back_front}
use Rattle.segments.proofs.Growing.{sound_front, tidy_kept}
use Rattle.parts.specs.declared.Parts.{Parts}
use Rattle.parts.specs.Parts.{with_parameter}
use Rattle.building.specs.declared.Inner.{Inner}
use Rattle.building.specs.declared.Items.{Items}
use Rattle.building.specs.Reading.{Made, Reader, Taken, one, Content, inner_at, with_words, taking, with_segment, odd_item, even_item, item_at}
use Rattle.building.specs.Told.{last_made, tell_inner, tell_items, plain_item, next_inner, with_last, StaysTidy, Fitted, InnerKeeps, Room, InnerMade, ItemsReady, ItemsKeep}

-- ---- pools that agree on the segments made

module _ (b a : List Cell) (made : ℕ) (f : take made a ≡ take made b) where
  pub inner_same : (i : Inner) → InnerMade made i → tell_inner i made a ≡ tell_inner i made b
  unfolding tell_inner InnerMade
  inner_same Inner.Nothing h = refl
  inner_same Inner.One h = ap one (segment_front a b made f (made - 1) (omega arith))
  inner_same Inner.Several h = refl

  inner_keeps : (n link d : ℕ) (i : Inner) → InnerKeeps n link d b made i → InnerKeeps n link d a made i
  unfolding InnerKeeps
  inner_keeps n link d Inner.Nothing h = h
  inner_keeps n link d Inner.One h =
      let l : made - 1 < made = omega arith in
      let s : segment_at b (made - 1) ≡ segment_at a (made - 1) = sym (segment_front a b made f (made - 1) l) in
      (h.0, (back_front a b made f (made - 1) l ∙ h.1.0, (subst (λ (x : LogSegment). size x + n ≡ made) s h.1.1.0, (subst (Low d) s h.1.1.1.0, λ o t. tidy_kept b a n made f (omega arith) (λ q. h.1.1.1.1 q t) o))))
  inner_keeps n link d Inner.Several h = tt

pub items_same : (b a : List Cell) (c : Items) → take c.made a ≡ take c.made b → ItemsReady c → tell_items c a ≡ tell_items c b
unfolding tell_items
items_same b a c f h = ap (λ (s : Taken). record { parts = c.parts; taken = s; made = c.made }) (inner_same b a c.made f c.inner h.taken)

pub items_after : (n link d : ℕ) (b a : List Cell) (c : Items) → ItemsKeep n link d b c → take c.made a ≡ take c.made b → ItemsKeep n link d a c
items_after n link d b a c h f = record {
  ready = h.ready;
  least = h.least;
  few = h.few;
  sound = sound_front b a c.made h.sound f;
  inner = inner_keeps b a c.made f n link d c.inner h.inner;
}

-- ---- one segment more

next_taken : (b a : List Cell) (i : Inner) (m k : ℕ) → tell_inner (next_inner i) k a ≡ taking (tell_inner i m b) (segment_at a (k - 1))
unfolding tell_inner next_inner taking
next_taken b a Inner.Nothing m k = refl
next_taken b a Inner.One m k = refl
next_taken b a Inner.Several m k = refl

pub next_told : (b a : List Cell) (c : Items) (k : ℕ) → tell_items (with_last c k) a ≡ with_segment (tell_items c b) (last_made a k)
unfolding tell_items with_last with_segment last_made
next_told b a c k = ap (λ (s : Taken). record { parts = c.parts; taken = s; made = k }) (next_taken b a c.inner c.made k)

next_made : (i : Inner) (k : ℕ) → 1 ≤ k → InnerMade k (next_inner i)
unfolding InnerMade next_inner
next_made Inner.Nothing k h = h
next_made Inner.One k h = tt
next_made Inner.Several k h = tt

next_keeps : (i : Inner) (lo to n m link d : ℕ) (b a : List Cell) (j k : ℕ) → InnerKeeps n link d b m i → Fitted lo to m link d a j k → InnerKeeps n link d a k (next_inner i)
unfolding InnerKeeps next_inner
next_keeps Inner.Nothing lo to n m link d b a j k h g =
    let p : n + 1 ≤ k = omega (arith, g.more, h) in
    let q : size (segment_at a (k - 1)) + n ≡ k = omega (arith, g.counted, h) in
    (p, (g.linked, (q, (g.low, subst (λ (x : ℕ). StaysTidy x k link a) h g.tidy))))
next_keeps Inner.One lo to n m link d b a j k h g = tt
next_keeps Inner.Several lo to n m link d b a j k h g = tt

pub next_kept : (lo to n link d : ℕ) (b a : List Cell) (c : Items) (j k : ℕ) → ItemsKeep n link d b c → Fitted lo to c.made link d a j k → (w : Items) → w ≡ with_last c k
    → ItemsKeep n link d a w
unfolding with_last
next_kept lo to n link d b a c j k h g w q = subst (ItemsKeep n link d a) (sym q) (record {
  ready = record { narrow = h.ready.narrow; taken = next_made c.inner k (let z : 1 ≤ k = omega (arith, g.more) in z) };
  least = (let z : n ≤ k = omega (arith, h.least, g.more) in z);
  few = g.few;
  sound = g.sound;
  inner = next_keeps c.inner lo to n c.made link d b a j k h.inner g;
})

-- ---- words

pub words_kept : (n link d : ℕ) (cells : List Cell) (c : Items) (p : Parts) → ItemsKeep n link d cells c → Narrow p.format.width
    → ItemsKeep n link d cells (record { made = c.made; parts = p; inner = c.inner })
words_kept n link d cells c p h w = record {
  ready = record { narrow = w; taken = h.ready.taken };
  least = h.least;
  few = h.few;
  sound = h.sound;
  inner = h.inner;
}

-- a parameter, and then what an item makes of it
asked : (x : Tried Parameter) (p : Parts) (s : Content)
    → ((x then λ a j. fit (with_parameter p a) j) then λ q j. fit (with_words s q) j) ≡ (x then λ a j. fit (with_words s (with_parameter p a)) j)
unfolding ◌then◌
asked (fit a j) p s = refl
asked misfit p s = refl
asked (refused r) p s = refl

-- where no inner list fits, the parameter o decides
pub even_asked : (t : List ℕ) (i e : ℕ) (c : Items) (b a : List Cell) → take c.made a ≡ take c.made b → ItemsReady c → misfit ≡ inner_at t i e c.made
    → (o : Tried Parts) → o ≡ (parameter_at t i e then λ a j. fit (with_parameter c.parts a) j)
    → (o then λ p j. fit (with_words (tell_items c a) p) j) ≡ plain_item true t e i (tell_items c b)
unfolding plain_item tell_items ◌or_else◌ ◌then◌
even_asked t i e c b a f h w o v =
    ap (λ (s : Content). o then λ p j. fit (with_words s p) j) (items_same b a c f h)
    ∙ ap (λ (x : Tried Parts). x then λ p j. fit (with_words (tell_items c b) p) j) v
    ∙ asked (parameter_at t i e) c.parts (tell_items c b)
    ∙ ap (λ (x : Tried Made). (x then λ x j. fit (with_segment (tell_items c b) x) j) or_else λ _. parameter_at t i e then λ a j. fit (with_words (tell_items c b) (with_parameter c.parts a)) j) w

-- ---- an item: words, else a group

either_way : (x y : Tried Content) (z : Unit {0} → Tried Content) → (x or_else λ _. y or_else z) ≡ ((x or_else λ _. y) or_else z)
unfolding ◌or_else◌
either_way (fit a j) y z = refl
either_way misfit y z = refl
either_way (refused r) y z = refl

abbrev pub grouped : Reader → ℕ → ℕ → Content → Unit {0} → Tried Content
grouped group e i c = λ _. group i e c.made then λ x j. fit (with_segment c x) j

pub item_is : (even : Bool) (t : List ℕ) (group : Reader) (e i : ℕ) (c : Content) → item_at even t group e i c ≡ (plain_item even t e i c or_else grouped group e i c)
unfolding item_at even_item odd_item plain_item
item_is true t group e i c =
    either_way (inner_at t i e c.made then λ x j. fit (with_segment c x) j) (parameter_at t i e then λ a j. fit (with_words c (with_parameter c.parts a)) j) (grouped group e i c)
item_is false t group e i c = refl

pub items_room : (n link d : ℕ) (b a : List Cell) (c : Items) → ItemsKeep n link d b c → link ≤ n → 64 ≤ length a → take c.made a ≡ take c.made b → Room a c.made link
items_room n link d b a c h l m f = record { room = m; few = h.few; linked = le_trans l h.least; sound = sound_front b a c.made h.sound f }
