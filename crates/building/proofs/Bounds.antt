-- What readers keep, by their answers. Assumes nothing.
use Prim.Native.Nat.{ℕ, ◌+◌, ◌-◌, ◌≤◌, ◌<◌}
use mathlib.Core.Path.{◌≡◌, sym, ap, subst, ◌∙◌}
use mathlib.Core.List.{List}
use native.Mathlib.Omega.{arith}
use lib.ListN.{length, take}
use Rattle.std.specs.Prelude.{Ok, Some}
use Rattle.words.specs.Within.{Fitting}
use Rattle.segments.specs.declared.Cell.{Cell}
use Rattle.segments.specs.Segments.{LogSegment}
use Rattle.segments.specs.Sizes.{size, Low}
use Rattle.segments.specs.Pool.{segment_at, back, last_member, Adds, Sound, Tidy}
use Rattle.segments.proofs.Fronts.{front_less}
use Rattle.segments.proofs.Growing.{sound_more, sound_front, tidy_more}
use Rattle.building.specs.Told.{Read, Room, Fitted, Keeps}

-- ---- segments

-- the same segment, ending elsewhere
pub fitted_moved : (lo to n link d : ℕ) (a : List Cell) (j k : ℕ) → Fitted lo to n link d a j k → (lo' to' j' : ℕ) → lo' ≤ j' → j' ≤ to'
    → Fitted lo' to' n link d a j' k
fitted_moved lo to n link d a j k h lo' to' j' g u = record {
  from = g;
  end = u;
  more = h.more;
  few = h.few;
  linked = h.linked;
  counted = h.counted;
  low = h.low;
  sound = h.sound;
  tidy = h.tidy;
}

-- reading goes on from pools that agree
pub keeps_after : (lo to n link d : ℕ) (z b a : List Cell) (o : Read ℕ) → take n b ≡ take n z → Keeps lo to n link d b a o → Keeps lo to n link d z a o
keeps_after lo to n link d z b a o f h = record { front = h.front ∙ f; within = h.within }

pub keeps_count : (lo to m n link d : ℕ) (b a : List Cell) (o : Read ℕ) → Keeps lo to m link d b a o → m ≡ n → Keeps lo to n link d b a o
keeps_count lo to m n link d b a o h q = subst (λ (x : ℕ). Keeps lo to x link d b a o) q h

pub room_after : (b a : List Cell) (n link : ℕ) → Room b n link → take n a ≡ take n b → 64 ≤ length a → Room a n link
room_after b a n link h f m = record { room = m; few = h.few; linked = h.linked; sound = sound_front b a n h.sound f }

-- a segment that was added is the last, and those before it stand
module _ (b a : List Cell) (n link : ℕ) (x : LogSegment) (h : Adds b a n link x) where
  last_place : n + 1 - 1 ≡ n
  last_place = omega arith

  pub last_added : segment_at a (n + 1 - 1) ≡ x
  last_added = ap (segment_at a) last_place ∙ h.made

  pub adds_tidy : (m : ℕ) → size x + m ≡ n + 1 → (Tidy a m → Tidy a n) → (1 < size x → last_member a n ≡ n) → Tidy a m → (0 < link → link ≡ m) → Tidy a (n + 1)
  adds_tidy m e t y o l =
      let s = ap size h.made in
      tidy_more a n (t o)
      (λ z. omega (arith, h.linked, l (let g : 0 < link = omega (arith, h.linked) in g)))
      (λ z. y (let g : 1 < size x = omega arith in g))

  pub adds_keeps : Sound b n → n < 64 → (lo to j : ℕ) → lo ≤ j → j ≤ to → (m : ℕ) → m ≤ n → size x + m ≡ n + 1 → (d : ℕ) → Low d x → Low 8 x
      → (Tidy a m → Tidy a n) → (1 < size x → last_member a n ≡ n) → Keeps lo to m link d b a (Ok (Some (j, n + 1)))
  unfolding Fitting
  adds_keeps s u lo to j p q m g e d w v t y =
      record {
        front = front_less a b n h.front m g;
        within = record {
          from = p;
          end = q;
          more = omega arith;
          few = omega arith;
          linked = ap (back a) last_place ∙ h.linked;
          counted = rw last_added e;
          low = subst (Low d) (sym last_added) w;
          sound = sound_more b a n link x s h (let z : size x ≤ 64 = omega arith in z) v;
          tidy = adds_tidy m e t y;
        };
      }
