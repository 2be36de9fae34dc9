-- Exceptions of docs/CONTRACTS.md: what these functions return is settled, though what they leave in lent memory isn't to its last number.
-- Assumes nothing.
use Prim.Native.Nat.{ℕ}
use mathlib.Core.Path.{◌≡◌, refl, ap, sym, ◌∙◌}
use mathlib.Core.List.{List}
use Rattle.std.specs.Prelude.{Option, Some, None, Result, Ok, Err}
use Rattle.buffer.specs.Table.{Maybe, none, some}
use Rattle.refusals.specs.declared.Refusal.{Refusal}
use Rattle.words.specs.Within.{told}
use Rattle.segments.specs.declared.Cell.{Cell}
use Rattle.segments.specs.Segments.{LogSegment}
use Rattle.segments.specs.Sizes.{sizes}
use Rattle.segments.specs.Pool.{chain_at}
use Rattle.parts.specs.Parts.{segment_of}
use Rattle.building.specs.declared.Inner.{Inner}
use Rattle.building.specs.declared.Items.{Items}
use Rattle.building.specs.Reading.{Made, make_or, Content}
use Rattle.building.specs.Told.{Read, last_made, tell, tell_inner, tell_items, tell_item}
use Rattle.template.specs.Template.{read}
use Rattle.template.specs.Parsing.{Parsed, tell_parsed, ParsedKeeps}
use Rattle.session.specs.Walking.{tell_opened, OpenedKeeps}
use Rattle.settled.specs.Settled.{AnswerSettled}
use Rattle.settled.proofs.Equal.{same}
use Rattle.building.proofs as building
use Rattle.lists.proofs as lists
use Rattle.reader.proofs as reader
use Rattle.template.proofs as template
use Rattle.session.proofs as session
use Rattle.prefix.proofs as prefix

-- ---- a segment: where it ends, and which one it is

told_by : {A B : Type 0} (f g : A → B) → ((a b : A) → f a ≡ g b → a ≡ b) → (x y : Read A) → told f x ≡ told g y → x ≡ y
unfolding told
told_by f g back (Ok (Some p)) (Ok (Some q)) e =
    let z : p.0 ≡ q.0 = cc in
    let a : p.1 ≡ q.1 = back p.1 q.1 (let w : f p.1 ≡ g q.1 = cc in w) in
    λ n. Ok (Some (z n, a n))
told_by f g back (Ok (Some p)) (Ok None) e = cc
told_by f g back (Ok (Some p)) (Err s) e = cc
told_by f g back (Ok None) (Ok (Some q)) e = cc
told_by f g back (Ok None) (Ok None) e = refl
told_by f g back (Ok None) (Err s) e = cc
told_by f g back (Err r) (Ok (Some q)) e = cc
told_by f g back (Err r) (Ok None) e = cc
told_by f g back (Err r) (Err s) e = cc

told_reading : (x y : Read ℕ) (c d : List Cell) → tell x c ≡ tell y d → x ≡ y
unfolding last_made
told_reading x y c d = told_by (last_made c) (last_made d) (λ k l e. ap (λ (m : Made). m.made) e) x y

told_made : (m : Maybe LogSegment) (o x y : Read ℕ) (c d : List Cell) (n j : ℕ) → tell x c ≡ make_or (tell o c) n j m → tell y d ≡ make_or (tell o d) n j m → x ≡ y
unfolding make_or
told_made none o x y c d n j p q = told_reading x o c c p ∙ sym (told_reading y o d d q)
told_made (some s) o x y c d n j p q = told_reading x y c d (same p q)

make_specified_answered : AnswerSettled 1 building.make_specified.Kinds.ps building.make_specified.Kinds.r building.make_specified.Reads.Post
make_specified_answered _ a x y _ _ p q = told_made (segment_of a.0) a.1.1.1.1.1.0 x y _ _ _ _ p.0 q.0

build_log_segment_answered : AnswerSettled 1 building.build_log_segment.Kinds.ps building.build_log_segment.Kinds.r building.build_log_segment.Reads.Post
build_log_segment_answered _ _ _ _ _ _ p q = told_reading _ _ _ _ (same p.0 q.0)

build_group_answered : AnswerSettled 1 building.build_group.Kinds.ps building.build_group.Kinds.r building.build_group.Reads.Post
build_group_answered _ _ _ _ _ _ p q = told_reading _ _ _ _ (same p.0 q.0)

parse_string_segment_answered : AnswerSettled 2 lists.parse_string_segment.Kinds.ps lists.parse_string_segment.Kinds.r lists.parse_string_segment.Reads.Post
parse_string_segment_answered _ _ _ _ _ _ p q = told_reading _ _ _ _ (same p.0 q.0)

parse_argument_answered : AnswerSettled 2 reader.parse_argument.Kinds.ps reader.parse_argument.Kinds.r reader.parse_argument.Reads.Post
parse_argument_answered _ _ _ _ _ _ p q = told_reading _ _ _ _ (same p.0 q.0)

-- ---- an item of a content

told_inner : (x y : Inner) (m n : ℕ) (c d : List Cell) → tell_inner x m c ≡ tell_inner y n d → x ≡ y
unfolding tell_inner
told_inner Inner.Nothing Inner.Nothing m n c d e = refl
told_inner Inner.Nothing Inner.One m n c d e = cc
told_inner Inner.Nothing Inner.Several m n c d e = cc
told_inner Inner.One Inner.Nothing m n c d e = cc
told_inner Inner.One Inner.One m n c d e = refl
told_inner Inner.One Inner.Several m n c d e = cc
told_inner Inner.Several Inner.Nothing m n c d e = cc
told_inner Inner.Several Inner.One m n c d e = cc
told_inner Inner.Several Inner.Several m n c d e = refl

told_items : (x y : Items) (c d : List Cell) → tell_items x c ≡ tell_items y d → x ≡ y
unfolding tell_items
told_items x y c d e =
    let i = told_inner x.inner y.inner x.made y.made c d (ap (λ (k : Content). k.taken) e) in
    λ n. record { parts = (e n).parts; inner = i n; made = (e n).made }

told_item : (x y : Read Items) (c d : List Cell) → tell_item x c ≡ tell_item y d → x ≡ y
told_item x y c d = told_by (λ a. tell_items a c) (λ b. tell_items b d) (λ a b e. told_items a b c d e) x y

parse_plain_item_answered : AnswerSettled 2 lists.parse_plain_item.Kinds.ps lists.parse_plain_item.Kinds.r lists.parse_plain_item.Reads.Post
parse_plain_item_answered _ _ _ _ _ _ p q = told_item _ _ _ _ (same p.0 q.0)

-- ---- a whole template: how many segments there are

read_as : (m n : ℕ) (c d : List Cell) → sizes (chain_at c m) ≡ m → sizes (chain_at d n) ≡ n → read (chain_at c m) ≡ read (chain_at d n) → m ≡ n
read_as m n c d p q e =
    let s : chain_at c m ≡ chain_at d n = cc in
    sym p ∙ ap sizes s ∙ q

told_parsed : (x y : Parsed) (c d : List Cell) → ParsedKeeps c x → ParsedKeeps d y → tell_parsed x c ≡ tell_parsed y d → x ≡ y
told_parsed (Ok m) (Ok n) c d p q e = ap Ok (read_as m n c d p.counted q.counted e)
told_parsed (Ok m) (Err s) c d p q e = cc
told_parsed (Err r) (Ok n) c d p q e = cc
told_parsed (Err r) (Err s) c d p q e = cc

parse_answered : AnswerSettled 2 template.parse.Kinds.ps template.parse.Kinds.r template.parse.Reads.Post
parse_answered _ _ _ _ _ _ p q = told_parsed _ _ _ _ p.1 q.1 (same p.0 q.0)

told_opened : (x y : Parsed) (s : List ℕ) (c d : List Cell) → OpenedKeeps s c x → OpenedKeeps s d y → tell_opened x c ≡ tell_opened y d → x ≡ y
unfolding tell_opened
told_opened (Ok m) (Ok n) s c d p q e = ap Ok (read_as m n c d p.read.read.counted q.read.read.counted e)
told_opened (Ok m) (Err u) s c d p q e = cc
told_opened (Err r) (Ok n) s c d p q e = cc
told_opened (Err r) (Err u) s c d p q e = cc

open_answered : AnswerSettled 3 session.Sheet.open.Kinds.ps session.Sheet.open.Kinds.r session.Sheet.open.Reads.Post
open_answered _ _ _ _ _ _ p q = told_opened _ _ _ _ _ p.1 q.1 (same p.0 q.0)

-- ---- a prefix: its length

put_prefix_answered : AnswerSettled 1 prefix.put_prefix.Kinds.ps prefix.put_prefix.Kinds.r prefix.put_prefix.Reads.Post
put_prefix_answered _ _ _ _ _ _ p q = same p.0 q.0
