-- Segments as they are made, one law for each way. Assumes nothing.
use Prim.Native.Nat.{ℕ, suc, ◌+◌, ◌-◌, ◌≤◌, ◌<◌}
use mathlib.Core.Path.{◌≡◌, sym, ap, subst, ◌∙◌}
use mathlib.Core.Bool.{Bool, true, false}
use mathlib.Core.List.{List}
use native.Mathlib.Omega.{arith}
use native.Mathlib.Decide.{dec_lt}
use lib.Dec.{ltb}
use borrow.Author.Tests.{lt-ltb}
use Rattle.buffer.specs.Table.{some}
use Rattle.std.specs.Prelude.{Some, Ok}
use Rattle.refusals.specs.declared.Refusal.{Refusal}
use Rattle.words.specs.Within.{told}
use Rattle.words.specs.declared.LogMetadata.{LogMetadata}
use Rattle.words.specs.declared.LogFormat.{LogFormat}
use Rattle.runs.specs.Runs.{run_end}
use Rattle.words.specs.Trying.{Tried, fit, misfit, refused}
use Rattle.segments.specs.declared.Cell.{Cell}
use Rattle.segments.specs.Segments.{LogSegment, LogSegments, text, specifier, group, is_specifier}
use Rattle.segments.specs.Sizes.{size, sizes, Low, Lows, Narrow}
use Rattle.segments.specs.Pool.{last_member, chain_at, Adds}
use Rattle.parts.specs.declared.Parts.{Parts}
use Rattle.parts.specs.Parts.{specified, segment_of}
use Rattle.building.specs.declared.Inner.{Inner}
use Rattle.building.specs.declared.Items.{Items}
use Rattle.building.specs.declared.Pieces.{Pieces}
use Rattle.building.specs.Reading.{Made, make, make_or, plain_byte, text_to, text_at}
use Rattle.building.specs.Told.{last_made, tell, Room, Fitted, Keeps, InnerKeeps, ItemsKeep, PiecesKeep}
use Rattle.segments.proofs.Chains.{chain_none}
use Rattle.segments.proofs.Growing.{tidy_kept}
use Rattle.segments.proofs.Joining.{low_more}
use Rattle.building.proofs.Bounds.{last_added, adds_keeps}

-- ---- one segment

module _ (b a : List Cell) (n link : ℕ) (x : LogSegment) (j : ℕ) where
  pub made_told : Adds b a n link x → n < 64 → tell (Ok (Some (j, n + 1))) a ≡ make x n j
  unfolding told last_made make
  made_told h g =
      ap (λ (s : LogSegment). fit (record { segment = s; made = n + 1 }) j) (last_added b a n link x h) ∙ sym (rw (lt-ltb n 64 g, make))

-- ---- a text: j is where its run ends

module _ (t : List ℕ) (i e n j : ℕ) (q : j ≡ run_end plain_byte t (e - i) i) where
  text_made : i < j → make (text i j) n j ≡ text_at t i e n
  unfolding text_at text_to
  text_made h = sym (rw (lt-ltb i j h, text_to)) ∙ ap (text_to i n) q

  pub text_told : (b a : List Cell) (link : ℕ) → i < j → n < 64 → Adds b a n link (text i j) → tell (Ok (Some (j, n + 1))) a ≡ text_at t i e n
  text_told b a link h g w = made_told b a n link (text i j) j w g ∙ text_made h

pub size_text : (i j n : ℕ) → size (text i j) + n ≡ n + 1
unfolding size
size_text i j n = omega arith

pub size_specifier : (m : LogMetadata) (p : Parts) (n : ℕ) → size (specifier m p.format) + n ≡ n + 1
unfolding size
size_specifier m p n = omega arith

-- a text is no specifier
plain_made : (b c : Bool) (i j n k : ℕ) (x : Made) → (elim b as (λ _. Tried Made) [ true ↦ elim c as (λ _. Tried Made) [ true ↦ fit (record { segment = text i j; made = n }) j | false ↦ refused Refusal.TooManySegments ] | false ↦ misfit ]) ≡ fit x k
    → is_specifier x.segment ≡ false
plain_made true true i j n k x q = let s : record { segment = text i j; made = n } ≡ x = cc in ap (λ (m : Made). is_specifier m.segment) (sym s)
plain_made true false i j n k x q = absurd (let z : ◌≡◌ {A = ℕ} 0 1 = cc in omega arith)
plain_made false c i j n k x q = absurd (let z : ◌≡◌ {A = ℕ} 0 1 = cc in omega arith)

pub text_plain : (t : List ℕ) (i e n k : ℕ) (x : Made) → text_at t i e n ≡ fit x k → is_specifier x.segment ≡ false
unfolding text_at text_to make
text_plain t i e n k x q = plain_made (ltb i (run_end plain_byte t (e - i) i)) (ltb n 64) i (run_end plain_byte t (e - i) i) (n + 1) k x q

-- ---- the segment of a list of words

pub words_told : (p : Parts) (x : Tried Made) (n j : ℕ) (b a : List Cell) (link : ℕ) (m : LogMetadata) → p.twice ≡ false → p.metadata ≡ Some m → n < 64
    → Adds b a n link (specifier m p.format) → tell (Ok (Some (j, n + 1))) a ≡ make_or x n j (segment_of p)
unfolding segment_of specified make_or
words_told p x n j b a link m q r h w =
    let s : some (specifier m p.format) ≡ segment_of p = sym (rw (q, segment_of) (ap (specified p.format) r)) in
    made_told b a n link (specifier m p.format) j w h ∙ ap (make_or x n j) s

-- ---- contents

-- what a content keeps that takes a segment
pub taken_fitted : (n link d : ℕ) (cells : List Cell) (c : Items) → ItemsKeep n link d cells c → c.inner ≡ Inner.One → (lo to j : ℕ) → lo ≤ j → j ≤ to
    → Fitted lo to n link d cells j c.made
unfolding InnerKeeps
taken_fitted n link d cells c h q lo to j p u =
    let i = subst (λ (s : Inner). InnerKeeps n link d cells c.made s) q h.inner in
    record { from = p; end = u; more = i.0; few = h.few; linked = i.1.0; counted = i.1.1.0; low = i.1.1.1.0; sound = h.sound; tidy = i.1.1.1.1 }

pub nothing_made : (n link d : ℕ) (cells : List Cell) (c : Items) → ItemsKeep n link d cells c → c.inner ≡ Inner.Nothing → c.made ≡ n
unfolding InnerKeeps
nothing_made n link d cells c h q = subst (λ (s : Inner). InnerKeeps n link d cells c.made s) q h.inner

-- ---- groups

pub low_group : (d : ℕ) (s : LogSegments) (p : Parts) → Narrow p.format.width → Lows d s → Low (d + 1) (group s p.format)
low_group d s p h g = let q : suc d ≡ d + 1 = omega arith in subst (λ (e : ℕ). Low e (group s p.format)) q (h, g)

pub size_group : (s : LogSegments) (p : Parts) (n m : ℕ) → sizes s + n ≡ m → size (group s p.format) + n ≡ m + 1
unfolding size
size_group s p n m h = omega arith

-- ---- what is kept as a segment is made

module _ (b a : List Cell) (n link : ℕ) (r : Room b n link) (u : n < 64) (lo to j : ℕ) (h : lo ≤ j) (g : j ≤ to) where
  pub text_keeps : (i k : ℕ) → Adds b a n link (text i k) → (d : ℕ) → Keeps lo to n link d b a (Ok (Some (j, n + 1)))
  text_keeps i k w d = adds_keeps b a n link (text i k) w r.sound u lo to j h g n (omega arith) (size_text i k n) d tt tt (λ o. o) (λ z. omega (arith, size_text i k n))

  pub specifier_keeps : (m : LogMetadata) (p : Parts) → Adds b a n link (specifier m p.format) → Narrow p.format.width → (d : ℕ)
      → Keeps lo to n link d b a (Ok (Some (j, n + 1)))
  specifier_keeps m p w v d = adds_keeps b a n link (specifier m p.format) w r.sound u lo to j h g n (omega arith) (size_specifier m p n) d v v (λ o. o) (λ z. omega (arith, size_specifier m p n))

-- a group that holds others has a last member
held : (b : List Cell) (l : ℕ) (f : LogFormat) → 1 < size (group (chain_at b l) f) → 0 < l
unfolding size sizes
held b l f h = elim (dec_lt 0 l) [
  | yes g ↦ g
  | no g ↦ let e = ap sizes (ap (chain_at b) (let z : l ≡ 0 = omega arith in z) ∙ chain_none b) in omega arith
]

pub group_keeps : (b a : List Cell) (s : Pieces) (link : ℕ) → Room b s.made link → s.made < 64 → (lo to j : ℕ) → lo ≤ j → j ≤ to
    → Adds b a s.made link (group (chain_at b s.last) s.parts.format) → last_member a s.made ≡ s.last → (n d : ℕ) → PiecesKeep n d b s → d + 1 ≤ 8
    → Keeps lo to n link (d + 1) b a (Ok (Some (j, s.made + 1)))
group_keeps b a s link r u lo to j h g w y n d k v =
    let z = k.counted in
    let l = low_group d (chain_at b s.last) s.parts k.ready.narrow k.low in
    adds_keeps b a s.made link (group (chain_at b s.last) s.parts.format) w r.sound u lo to j h g n (omega arith)
    (size_group (chain_at b s.last) s.parts n s.made z) (d + 1) l (low_more (d + 1) 8 (group (chain_at b s.last) s.parts.format) v l)
    (tidy_kept b a n s.made w.front (omega arith) k.tidy) (λ q. y ∙ k.linked (held b s.last s.parts.format q))
