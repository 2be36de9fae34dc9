-- `names` and `named_at` meet their contracts. Assumes nothing.
use Rattle.std.proofs.Common.{◌∙◌, arith}
use Rattle.naming.proofs.Searching.{named_text, named_specifier, named_group, named_none, named_here, named_on}
use Rattle.naming.proofs.+named.Goals as goal

pub named_at-returns-in-Text : goal.named_at-returns-in-Text
named_at-returns-in-Text t c = named_text _ _ _ _ c.kind_at.ensures c.in-Text.is

pub named_at-returns-in-Group : goal.named_at-returns-in-Group
named_at-returns-in-Group t c = named_group _ _ _ _ c.kind_at.ensures c.in-Group.is _ c.last_at.ensures.0 _ c.names.ensures

pub named_at-returns-in-Specifier : goal.named_at-returns-in-Specifier
named_at-returns-in-Specifier t c = named_specifier _ _ _ _ c.kind_at.ensures _ c.in-Specifier.is _ c.eq.ensures

pub names-returns-then-named_at : goal.names-returns-then-named_at
names-returns-then-named_at t c = named_here _ _ _ (omega arith) _ c.named_at.ensures c.if-named_at.true ∙ c.loop-j.invariant.1

pub names-loop-j-preserved : goal.names-loop-j-preserved
names-loop-j-preserved t c =
    (omega arith, named_on _ _ _ (omega arith) _ c.named_at.ensures c.if-named_at.false _ c.back_at-j.ensures.0 ∙ c.loop-j.invariant.1)

pub names-returns : goal.names-returns
names-returns t c = named_none _ _ _ (omega arith) ∙ c.loop-j.invariant.1
