-- `line::write_line` meets its contract. Assumes nothing.
use Prim.Native.Nat.{ℕ}
use mathlib.Core.Path.{◌≡◌, sym, subst, ◌∙◌}
use mathlib.Core.List.{List}
use native.Mathlib.Omega.{arith}
use lib.ListN.{length, replicate, length-replicate}
use Rattle.segments.specs.declared.Cell.{Cell}
use Rattle.segments.specs.Pool.{chain_at}
use Rattle.leaves.specs.declared.Shown.{Shown}
use Rattle.leaves.specs.Places.{record_by}
use Rattle.members.specs.declared.Link.{Link}
use Rattle.members.specs.Links.{links_forward, Forward}
use Rattle.rows.specs.Texts.{segments_text}
use Rattle.rows.specs.Rows.{Writable}
use Rattle.members.proofs.Forwards.{forward_filled}
use Rattle.line.proofs.Bound.{countable, line_counted}
use Rattle.rows.proofs.Lengths.{lengths_told}
use Rattle.line.proofs.Written.{written_short, written_whole}
use Rattle.line.proofs.write_line.Goals as goal

-- the links that were 0 are those of the segments
filled : {cells : List Cell} {links : List Link} {n : ℕ} (t d : List ℕ) (x : Shown) → Writable cells t d x n
    → links ≡ links_forward cells (replicate 64 (record { next = 0; first = 0 })) n → Forward cells links n
filled {cells} {links} {n} t d x w e =
    subst (λ (a : List Link). Forward cells a n) (sym e)
    (forward_filled cells n w.tidy (replicate 64 (record { next = 0; first = 0 })) (omega (arith, w.readable.few, length-replicate {A = Link} 64 (record { next = 0; first = 0 }))))

pub rows-requires : goal.rows-requires
rows-requires c =
    let s = c.args.s in let t₀ = c.args.t.now in let d = c.args.d.now in let x = c.args.shown.now in let cells = c.args.cells.now in
    record {
      readable = c.requires.readable;
      n_in_bounds = (omega (arith, c.requires.readable.few), countable s cells t₀ d x c.args.n c.requires);
      sound = (c.requires.sound, filled t₀ d x c.requires c.forward.ensures);
    }

pub members_len-x-requires : goal.members_len-x-requires
members_len-x-requires c =
    let s = c.args.s in let t₀ = c.args.t.now in let d = c.args.d.now in let x = c.args.shown.now in let cells = c.args.cells.now in
    record {
      in_bounds = (c.requires.readable.pool, (c.requires.readable.few, c.rows.ensures.room));
      l_bound = omega (arith, line_counted s cells t₀ d x c.args.n c.requires, lengths_told cells _ s t₀ (record_by x d) c.args.n c.rows.ensures);
    }

pub returns-then-out-x : goal.returns-then-out-x
returns-then-out-x c =
    let s = c.args.s in let t₀ = c.args.t.now in let r = record_by c.args.shown.now c.args.d.now in let cells = c.args.cells.now in let y = segments_text s t₀ r (chain_at cells c.args.n) in
    let yl : c.members_len-x.result ≡ length y = c.members_len-x.ensures ∙ lengths_told cells _ s t₀ r c.args.n c.rows.ensures in
    (yl, sym (written_short c.args.out.now y (omega (arith, c.if-out-x.true))))

pub put_join-requires : goal.put_join-requires
put_join-requires c =
    let s = c.args.s in let t₀ = c.args.t.now in let d = c.args.d.now in let x = c.args.shown.now in let r = record_by x d in let cells = c.args.cells.now in
    let y = segments_text s t₀ r (chain_at cells c.args.n) in
    let yl : c.members_len-x.result ≡ length y = c.members_len-x.ensures ∙ lengths_told cells _ s t₀ r c.args.n c.rows.ensures in
    record {
      known = record { readable = c.requires.readable; tabled = c.rows.ensures; forward = filled t₀ d x c.requires c.forward.ensures };
      l_in_bounds = omega (arith, c.if-out-x.false);
      lows = c.requires.low;
    }

pub returns : goal.returns
returns c =
    let s = c.args.s in let t₀ = c.args.t.now in let r = record_by c.args.shown.now c.args.d.now in let cells = c.args.cells.now in let y = segments_text s t₀ r (chain_at cells c.args.n) in
    let yl : c.members_len-x.result ≡ length y = c.members_len-x.ensures ∙ lengths_told cells _ s t₀ r c.args.n c.rows.ensures in
    (omega (arith, c.put_join.ensures.0), c.put_join.ensures.1 ∙ sym (written_whole c.args.out.now y (omega (arith, c.if-out-x.false))))
