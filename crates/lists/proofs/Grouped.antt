-- Pieces of a group, one law for each case. Assumes nothing.
use Prim.Native.Nat.{ℕ, ◌+◌, ◌-◌, ◌≤◌}
use mathlib.Core.Path.{◌≡◌, refl, sym, ap, subst, ◌∙◌}
use mathlib.Core.Bool.{Bool, true, false, ◌||◌}
use mathlib.Core.List.{List}
use native.Mathlib.Omega.{arith}
use lib.ListN.{length, take}
use borrow.Author.Tests.{le-ltb}
use Rattle.refusals.specs.declared.Refusal.{Refusal}
use Rattle.words.specs.declared.Parameter.{Parameter}
use Rattle.runs.specs.Runs.{stands, run_end}
use Rattle.words.specs.Trying.{Tried, fit, misfit, refused, ◌or_else◌, ◌then◌, repeated}
use Rattle.words.specs.Words.{parameter_at}
use Rattle.segments.specs.declared.Cell.{Cell}
use Rattle.segments.specs.Segments.{LogSegments, ◌and_then◌, is_specifier, any_specifier}
use Rattle.segments.specs.Segments as segments
use Rattle.segments.specs.Sizes.{sizes, Lows, Narrow}
use Rattle.segments.specs.Pool.{segment_at, chain_at}
use Rattle.segments.proofs.Fronts.{chain_front}
use Rattle.segments.proofs.Chains.{chain_none, chain_step}
use Rattle.segments.proofs.Growing.{sound_front, tidy_kept}
use Rattle.segments.proofs.Joining.{sizes_and_then, any_and_then, lows_and_then}
use Rattle.parts.specs.declared.Parts.{Parts}
use Rattle.parts.specs.Parts.{no_parts, with_parameter}
use Rattle.building.specs.declared.Pieces.{Pieces}
use Rattle.building.specs.Reading.{Made, Reader, Group, plain_byte, text_to, text_at, with_member, with_asked, percent_at, piece_at, no_group, brace_at, closed, group_at}
use Rattle.building.specs.Told.{last_made, tell_pieces, plain_piece, joined_by, Room, Fitted, PiecesReady, PiecesKeep}
use Rattle.building.proofs.Making.{text_plain}

-- ---- pools that agree on the segments made

pub pieces_same : (b a : List Cell) (g : Pieces) → g.last ≤ g.made → take g.made a ≡ take g.made b → tell_pieces g a ≡ tell_pieces g b
unfolding tell_pieces
pieces_same b a g h f = ap (λ (s : LogSegments). record { members = s; parts = g.parts; made = g.made }) (chain_front a b g.made f g.last h)

pub pieces_after : (n d : ℕ) (b a : List Cell) (g : Pieces) → PiecesKeep n d b g → take g.made a ≡ take g.made b → PiecesKeep n d a g
pieces_after n d b a g h f =
    let s : chain_at b g.last ≡ chain_at a g.last = sym (chain_front a b g.made f g.last h.ready.last) in
    record {
      ready = record { narrow = h.ready.narrow; last = h.ready.last; direct = subst (λ (x : LogSegments). g.direct ≡ any_specifier x) s h.ready.direct };
      few = h.few;
      sound = sound_front b a g.made h.sound f;
      counted = subst (λ (x : LogSegments). sizes x + n ≡ g.made) s h.counted;
      low = subst (Lows d) s h.low;
      linked = h.linked;
      tidy = tidy_kept b a n g.made f (let z = h.counted in omega arith) h.tidy;
    }

pub ready_after : (b a : List Cell) (g : Pieces) → PiecesReady b g → take g.made a ≡ take g.made b → PiecesReady a g
ready_after b a g h f =
    let s : chain_at b g.last ≡ chain_at a g.last = sym (chain_front a b g.made f g.last h.last) in
    record { narrow = h.narrow; last = h.last; direct = subst (λ (x : LogSegments). g.direct ≡ any_specifier x) s h.direct }

-- ---- one member more

module _ (lo to d : ℕ) (b a : List Cell) (g : Pieces) (j k : ℕ) (u : g.last ≤ g.made) (f : take g.made a ≡ take g.made b)
    (h : Fitted lo to g.made g.last d a j k) where
  chain_grown : chain_at a k ≡ chain_at b g.last and_then segment_at a (k - 1)
  chain_grown =
      let m = h.more in
      let p : k ≡ k - 1 + 1 = omega arith in
      ap (chain_at a) p ∙ chain_step a (k - 1)
      ∙ ap (λ (l : ℕ). chain_at a l and_then segment_at a (k - 1)) h.linked
      ∙ ap (λ (s : LogSegments). s and_then segment_at a (k - 1)) (chain_front a b g.made f g.last u)

  pub member_told : (direct : Bool) (w : Pieces) → w ≡ joined_by g direct k → tell_pieces w a ≡ with_member (tell_pieces g b) (last_made a k)
  unfolding tell_pieces joined_by with_member last_made
  member_told direct w q =
      ap (λ (s : Pieces). tell_pieces s a) q ∙ ap (λ (s : LogSegments). record { members = s; parts = g.parts; made = k }) chain_grown

  pub member_kept : (n : ℕ) → PiecesKeep n d b g → (direct : Bool) → direct ≡ is_specifier (segment_at a (k - 1)) → (w : Pieces) → w ≡ joined_by g direct k → PiecesKeep n d a w
  unfolding joined_by
  member_kept n v direct e w q = subst (PiecesKeep n d a) (sym q) (
      let z = ap sizes chain_grown ∙ sizes_and_then (chain_at b g.last) (segment_at a (k - 1)) in
      let c = h.counted in
      let y = v.counted in
      record {
        ready = record {
          narrow = v.ready.narrow;
          last = (let l : k ≤ k = omega arith in l);
          direct = ap (λ (x : Bool). x || direct) v.ready.direct ∙ ap (λ (x : Bool). any_specifier (chain_at b g.last) || x) e
              ∙ sym (ap any_specifier chain_grown ∙ any_and_then (chain_at b g.last) (segment_at a (k - 1)));
        };
        few = h.few;
        sound = h.sound;
        counted = (let s : sizes (chain_at a k) + n ≡ k = omega arith in s);
        low = subst (Lows d) (sym chain_grown) (lows_and_then d (chain_at b g.last) (segment_at a (k - 1)) v.low h.low);
        linked = λ z. refl;
        tidy = λ o. h.tidy (tidy_kept b a n g.made f (omega arith) v.tidy o) v.linked;
      })

-- ---- `%` and its parameter

asked : (x : Tried Parameter) (s : Group) (p : Parts) → s.parts ≡ p
    → ((x or_else λ _. refused Refusal.Failure) then λ a j. fit (with_asked s a) j)
    ≡ (((x then λ a j. fit (with_parameter p a) j) then λ q j. fit (record { members = s.members; parts = q; made = s.made }) j) or_else λ _. refused Refusal.Failure)
unfolding ◌or_else◌ ◌then◌ with_asked
asked (fit a j) s p q = ap (λ (z : Parts). fit (record { members = s.members; parts = with_parameter z a; made = s.made }) j) q
asked misfit s p q = refl
asked (refused r) s p q = refl

-- where a `%` stands, the parameter o decides
pub percent_is : (t : List ℕ) (i e : ℕ) (g : Pieces) (cells : List Cell) → stands 0x25 t i e ≡ true
    → (o : Tried Parts) → o ≡ (parameter_at t (i + 1) e then λ a j. fit (with_parameter g.parts a) j)
    → (percent_at t i e then λ a j. fit (with_asked (tell_pieces g cells) a) j)
    ≡ ((o then λ q j. fit (record { members = chain_at cells g.last; parts = q; made = g.made }) j) or_else λ _. refused Refusal.Failure)
unfolding percent_at tell_pieces
percent_is t i e g cells b o w =
    ap (λ (x : Tried Parameter). x then λ a j. fit (with_asked (tell_pieces g cells) a) j) (let z : percent_at t i e ≡ (parameter_at t (i + 1) e or_else λ _. refused Refusal.Failure) = rw (b, percent_at) in z)
    ∙ asked (parameter_at t (i + 1) e) (tell_pieces g cells) g.parts refl
    ∙ ap (λ (x : Tried Parts). (x then λ q j. fit (record { members = chain_at cells g.last; parts = q; made = g.made }) j) or_else λ _. refused Refusal.Failure) (sym w)

pub asked_kept : (n d : ℕ) (cells : List Cell) (g : Pieces) (q : Parts) → PiecesKeep n d cells g → Narrow q.format.width
    → PiecesKeep n d cells (record { parts = q; last = g.last; direct = g.direct; made = g.made })
asked_kept n d cells g q h w = record {
  ready = record { narrow = w; last = h.ready.last; direct = h.ready.direct };
  few = h.few;
  sound = h.sound;
  counted = h.counted;
  low = h.low;
  linked = h.linked;
  tidy = h.tidy;
}

-- ---- a piece: a brace, else text or a parameter

pub text_direct : (t : List ℕ) (i e n j k : ℕ) (a : List Cell) → fit (last_made a k) j ≡ text_at t i e n → false ≡ is_specifier (segment_at a (k - 1))
unfolding last_made
text_direct t i e n j k a w = sym (text_plain t i e n j (last_made a k) (sym w))

pub piece_is : (t : List ℕ) (brace : Reader) (i e : ℕ) (g : Group)
    → piece_at t brace e i g ≡ ((brace i e g.made then λ x j. fit (with_member g x) j) or_else λ _. plain_piece t e i g)
unfolding piece_at plain_piece
piece_is t brace i e g = refl

-- nothing fits at the end
stands_past : (x : ℕ) (t : List ℕ) (i e : ℕ) → e ≤ i → stands x t i e ≡ false
unfolding stands
stands_past x t i e h = rw (le-ltb i e h, stands)

pub text_past : (t : List ℕ) (i e n : ℕ) → e ≤ i → text_at t i e n ≡ misfit
unfolding text_at text_to run_end
text_past t i e n h =
    let z : e - i ≡ 0 = omega arith in
    ap (λ (m : ℕ). text_to i n (run_end plain_byte t m i)) z ∙ rw (le-ltb i i (let l : i ≤ i = omega arith in l), text_to)

percent_past : (t : List ℕ) (i e : ℕ) → e ≤ i → percent_at t i e ≡ misfit
unfolding percent_at
percent_past t i e h = rw (stands_past 0x25 t i e h, percent_at)

pub brace_past : (t : List ℕ) (inside : Reader) (i e n : ℕ) → e ≤ i → brace_at t inside i e n ≡ misfit
unfolding brace_at
brace_past t inside i e n h = rw (stands_past 0x7B t i e h, brace_at)

pub piece_past : (t : List ℕ) (inside : Reader) (i e : ℕ) (g : Group) → e ≤ i → piece_at t (brace_at t inside) e i g ≡ misfit
unfolding piece_at ◌or_else◌ ◌then◌
piece_past t inside i e g h =
    ap (λ (x : Tried Made). (x then λ x j. fit (with_member g x) j) or_else λ _. (text_at t i e g.made then λ x j. fit (with_member g x) j) or_else λ _. percent_at t i e then λ a j. fit (with_asked g a) j) (brace_past t inside i e g.made h)
    ∙ ap (λ (x : Tried Made). (x then λ x j. fit (with_member g x) j) or_else λ _. percent_at t i e then λ a j. fit (with_asked g a) j) (text_past t i e g.made h)
    ∙ ap (λ (x : Tried Parameter). x then λ a j. fit (with_asked g a) j) (percent_past t i e h)

-- ---- a group

pub group_begins : (cells : List Cell) (n : ℕ) (p : Parts) → p ≡ no_parts → tell_pieces (record { parts = p; last = 0; direct = false; made = n }) cells ≡ no_group n
unfolding tell_pieces no_group
group_begins cells n p q =
    ap (λ (s : LogSegments). record { members = s; parts = p; made = n }) (chain_none cells) ∙ ap (λ (z : Parts). record { members = segments.none; parts = z; made = n }) q

pub begins_kept : (cells : List Cell) (n d link : ℕ) (p : Parts) → p ≡ no_parts → Room cells n link → PiecesKeep n d cells (record { parts = p; last = 0; direct = false; made = n })
unfolding sizes any_specifier
begins_kept cells n d link p q h =
    let s : segments.none ≡ chain_at cells 0 = sym (chain_none cells) in
    record {
      ready = record {
        narrow = subst (λ (z : Parts). Narrow z.format.width) (sym q) tt;
        last = (let l : 0 ≤ n = omega arith in l);
        direct = ap any_specifier s;
      };
      few = h.few;
      sound = h.sound;
      counted = subst (λ (x : LogSegments). sizes x + n ≡ n) s (let l : 0 + n ≡ n = omega arith in l);
      low = subst (Lows d) s tt;
      linked = λ z. omega arith;
      tidy = λ o. o;
    }

module _ (t : List ℕ) (brace : Reader) (i e n : ℕ) (x : Tried Group) (w : repeated (piece_at t brace e) (e - i) i (no_group n) ≡ x) where
  pub group_closes : (s : Group) (j : ℕ) → fit s j ≡ x → (y : Tried Made) → y ≡ closed s j → y ≡ group_at t brace i e n
  unfolding group_at ◌then◌
  group_closes s j q y r = r ∙ ap (λ (z : Tried Group). z then closed) (q ∙ sym w)

  pub group_refuses : (r : Refusal) → refused r ≡ x → refused r ≡ group_at t brace i e n
  unfolding group_at ◌then◌
  group_refuses r q = ap (λ (z : Tried Group). z then closed) (q ∙ sym w)

pub group_start : (try : ℕ → Group → Tried Group) (m i : ℕ) (cells : List Cell) (n : ℕ) (p : Parts) → p ≡ no_parts
    → repeated try m i (tell_pieces (record { parts = p; last = 0; direct = false; made = n }) cells) ≡ repeated try m i (no_group n)
group_start try m i cells n p q = ap (repeated try m i) (group_begins cells n p q)

pub pieces_more : (n d : ℕ) (cells : List Cell) (g : Pieces) → PiecesKeep n d cells g → n ≤ g.made
pieces_more n d cells g h = let z = h.counted in omega arith

pub pieces_room : (n d link : ℕ) (b a : List Cell) (g : Pieces) → PiecesKeep n d b g → link ≤ n → 64 ≤ length a → take g.made a ≡ take g.made b → Room a g.made link
pieces_room n d link b a g h l m f =
    let z = h.counted in
    record { room = m; few = h.few; linked = omega arith; sound = sound_front b a g.made h.sound f }

pub pieces_linked : (n d : ℕ) (b a : List Cell) (g : Pieces) → PiecesKeep n d b g → 64 ≤ length a → take g.made a ≡ take g.made b → Room a g.made g.last
pieces_linked n d b a g h m f = record { room = m; few = h.few; linked = h.ready.last; sound = sound_front b a g.made h.sound f }
