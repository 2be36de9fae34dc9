-- `letters::table::mark_letters` meets its contract. The loop's invariant: i bytes are copied as they are seen, and the rest of the marked template is
-- the rest of the template as it is seen behind the character at hand. Assumes nothing.
use mathlib.Core.Path.{refl, ap, sym, ◌∙◌}
use native.Mathlib.Omega.{arith}
use lib.ListN.{length}
use Rattle.buffer.proofs.Writing.{put_nil, copy_length, copy_more, copy_done}
use Rattle.letters.specs.Marked.{marked}
use Rattle.letters.proofs.Marks.{marked_length, byte_marked, rest_marked}
use Rattle.letters.proofs.table.mark_letters.Goals as goal

pub loop-i-init : goal.loop-i-init
unfolding marked
loop-i-init c = (sym (put_nil _ 0), refl)

pub bounds-out-i : goal.bounds-out-i
bounds-out-i c =
    let q = ap length c.loop-i.invariant.0 in
    omega (arith, q, copy_length c.args.out.now (marked c.args.t.now) c.loop-i.i (omega (arith, marked_length c.args.t.now)) (omega (arith, marked_length c.args.t.now)), marked_length c.args.t.now)

pub loop-i-preserved : goal.loop-i-preserved
loop-i-preserved c =
    let t = c.args.t.now in
    let i = c.loop-i.i in
    let m = marked_length t in
    let letter = c.letter_in-letter.ensures in (
      copy_more _ (marked t) i (omega (arith, m)) _ _ c.loop-i.invariant.0 (omega (arith, m))
          (byte_marked t (marked t) c.loop-i.left c.loop-i.letter i (omega arith) c.loop-i.invariant.1 _ letter _ c.seen_as.ensures),
      rest_marked t (marked t) c.loop-i.left c.loop-i.letter i (omega arith) c.loop-i.invariant.1 _ letter _ c.left_in-left.ensures.0,
    )

pub shape_of-out : goal.shape_of-out
shape_of-out c =
    ap length c.loop-i.invariant.0
    ∙ copy_length c.args.out.now (marked c.args.t.now) c.loop-i.i (omega (arith, marked_length c.args.t.now)) (omega (arith, marked_length c.args.t.now))

pub returns : goal.returns
returns c = copy_done _ (marked c.args.t.now) c.loop-i.i (omega (arith, marked_length c.args.t.now)) _ c.loop-i.invariant.0 (omega (arith, marked_length c.args.t.now))
