-- `measure::seeing::walk` meets its contract. Assumes nothing.
use native.Mathlib.Omega.{arith}
use mathlib.Core.Path.{sym, ◌∙◌}
use Rattle.colour.proofs.Seeing.{seen_free}
use Rattle.measure.specs.Measures.{begun_with}
use Rattle.measure.proofs.seeing.walk.Goals as goal

pub run_text-requires : goal.run_text-requires
run_text-requires c = (c.requires.fits, omega (arith, c.requires.q_value.1))

pub returns-then-free : goal.returns-then-free
returns-then-free c =
    let h = c.requires.q_value.0 c.if-free.true in
    c.run_text.ensures ∙ sym (seen_free c.args.s.now h.1.1 _ (begun_with c.args.awaited c.args.bits) h.0 h.1.0)

pub see_bytes-requires : goal.see_bytes-requires
see_bytes-requires c =
    record {
      fits = (c.requires.fits, omega (arith, c.requires.q_value.1));
      s_bound = (omega (arith, c.requires.q_value.1), omega (arith, c.requires.q_value.1));
    }
