-- What a line's material says of its segments: the laws of their texts, of their frames and of the table, for the material as a whole. Assumes nothing.
use Prim.Native.Nat.{ℕ, ◌+◌, ◌-◌, ◌≤◌, ◌<◌}
use mathlib.Core.Path.{◌≡◌}
use mathlib.Core.Bool.{Bool, true, false}
use mathlib.Core.List.{List}
use native.Mathlib.Omega.{arith}
use lib.ListN.{length}
use Rattle.buffer.specs.Bytes.{part}
use Rattle.words.specs.declared.LogMetadata.{LogMetadata}
use Rattle.segments.specs.declared.Cell.{Cell}
use Rattle.segments.specs.declared.Kind.{Kind}
use Rattle.segments.specs.Pool.{kind_at, back, last_member, segment_at}
use Rattle.members.specs.Links.{OnChain}
use Rattle.members.proofs.Forwards.{forward_less}
use Rattle.dress.specs.declared.Frame.{Frame}
use Rattle.dress.proofs.Framing.{Framed}
use Rattle.leaves.specs.Places.{level_by, Lent, Readable}
use Rattle.leaves.specs.declared.Shown.{Shown}
use Rattle.leaves.specs.Fields.{field_text}
use Rattle.rows.specs.declared.Row.{Row}
use Rattle.rows.specs.declared.Material.{Material}
use Rattle.rows.specs.Texts.{bare_by, is_bare, format_of}
use Rattle.rows.specs.Rows.{row_at, frame_by, is_empty, lengths_back, Tabled}
use Rattle.rows.specs.Materials.{record_in, segment_in, members_in, raw_in, Known}
use Rattle.rows.proofs.Framing.{bare_text, raw_shorter, framed_by, framed_none}
use Rattle.rows.proofs.Lengths.{lengths_told}
use Rattle.rows.proofs.Linking.{member_room}
use Rattle.rows.proofs.Segments.{raw_of_text, raw_of_members, raw_of_specifier}
use Rattle.rows.proofs.Tables.{tabled_less}

pub readable_less : (cells : List Cell) (d : List ℕ) (x : Shown) (n k : ℕ) → k ≤ n → Readable cells d x n → Readable cells d x k
readable_less cells d x n k h r = record { pool = r.pool; few = omega (arith, r.few); lent = r.lent }

module _ (m : Material) where
  -- fewer segments are known too
  pub known_less : (table : List Row) (n k : ℕ) → k ≤ n → Known m table n → Known m table k
  known_less table n k h o = record {
    readable = readable_less m.cells.now m.bytes.now m.shown.now n k h o.readable;
    tabled = tabled_less m.settings m.template.now (record_in m) m.cells.now table n k h o.tabled;
    forward = forward_less m.cells.now m.links.now n k h o.forward;
  }

  -- ---- a text by the kind of its segment

  pub raw_text_is : (i : ℕ) {from to : ℕ} → kind_at m.cells.now i ≡ Kind.Text from to → raw_in m i ≡ part from to m.template.now
  raw_text_is i k = raw_of_text m.settings m.template.now (record_in m) m.cells.now i k

  pub raw_members_are : (i l : ℕ) {last : ℕ} → kind_at m.cells.now i ≡ Kind.Group last → l ≡ last_member m.cells.now i → raw_in m i ≡ members_in m l
  raw_members_are i l k e = raw_of_members m.settings m.template.now (record_in m) m.cells.now i l k e

  pub raw_field_is : (i : ℕ) (x : LogMetadata) → kind_at m.cells.now i ≡ Kind.Specifier x → raw_in m i ≡ field_text m.settings (record_in m) x
  raw_field_is i x k = raw_of_specifier m.settings m.template.now (record_in m) m.cells.now i x k

  -- ---- bare or in a frame

  abbrev pub Bare : ℕ → Bool → Type 0
  Bare i b = is_bare (bare_by m.shown.now) (segment_at m.cells.now i) ≡ b

  pub bare_is : Lent m.bytes.now m.shown.now → (i : ℕ) → Bare i true → segment_in m i ≡ raw_in m i
  bare_is h i e = bare_text m.settings m.template.now m.bytes.now m.shown.now h (segment_at m.cells.now i) e

  pub raw_fits : Lent m.bytes.now m.shown.now → (i : ℕ) (b : Bool) → Bare i b → length (raw_in m i) ≤ length (segment_in m i)
  raw_fits h i b e = raw_shorter m.settings m.template.now m.bytes.now m.shown.now h (segment_at m.cells.now i) b e

  -- the frame around the segment at i, by its row of the table
  pub framed_at : (table : List Row) (i : ℕ) (w : Frame) → Known m table (i + 1) → Bare i false
      → w ≡ frame_by (format_of (level_by m.shown.now) (segment_at m.cells.now i)) (row_at table i) → Framed m.settings w (raw_in m i) (segment_in m i)
  framed_at table i w o q e =
      framed_by m.settings m.template.now m.bytes.now m.shown.now o.readable.lent (segment_at m.cells.now i) w (row_at table i) q (o.tabled.row i (omega arith)) e

  pub empty_is : (i : ℕ) (w : Frame) → Framed m.settings w (raw_in m i) (segment_in m i) → is_empty m.settings w ≡ true → segment_in m i ≡ raw_in m i
  empty_is i w h e = framed_none m.settings w (raw_in m i) (segment_in m i) h e

  -- ---- the members back from a link

  pub room_is : (l j k : ℕ) → j < k → OnChain m.cells.now l k → back m.cells.now (k - 1) ≡ j → length (members_in m j) + length (segment_in m (k - 1)) ≤ length (members_in m l)
  room_is l j k h o e = member_room m.cells.now m.settings m.template.now (record_in m) l j k h o e

  -- the lengths in the table of the members back from a link
  pub lengths_are : (table : List Row) (l : ℕ) → Tabled m.settings m.template.now (record_in m) m.cells.now table l → lengths_back m.cells.now table l ≡ length (members_in m l)
  lengths_are table l o = lengths_told m.cells.now table m.settings m.template.now (record_in m) l o
