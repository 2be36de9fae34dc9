-- `scanning::act_of` meets its contract: an arm for each state. Assumes nothing.
use mathlib.Core.Path.{ap, sym, ◌∙◌}
use borrow.Author.Tests.{eq-eqb}
use Rattle.colour.specs.declared.State.{State}
use Rattle.colour.specs.declared.Act.TheVariants.{Done}
use Rattle.colour.specs.Machine.{act_among, act_of, act_in}
use Rattle.colour.proofs.Acts.{act_in_lem}
use Rattle.scanning.proofs.act_of.Goals as goal

pub returns-then-b-eq27 : goal.returns-then-b-eq27
unfolding act_of
returns-then-b-eq27 c = simp (eq-eqb _ _ c.if-b-eq27.true)

pub returns-in-Outside : goal.returns-in-Outside
unfolding act_in
returns-in-Outside c =
    sym (let b = c.args.b in
    act_in_lem c.args.q b c.if-b-eq27.false ∙ ap (λ (q : State). act_in q b) c.in-Outside.is)

pub returns-in-Escape : goal.returns-in-Escape
unfolding act_in
returns-in-Escape c =
    c.after_escape.ensures ∙ sym (let b = c.args.b in
    act_in_lem c.args.q b c.if-b-eq27.false ∙ ap (λ (q : State). act_in q b) c.in-Escape.is)

pub returns-in-Bracket : goal.returns-in-Bracket
unfolding act_in
returns-in-Bracket c =
    c.among.ensures ∙ ap (λ (q : State). act_among Done q c.args.b) c.after_bracket.ensures ∙ sym (let b = c.args.b in
    act_in_lem c.args.q b c.if-b-eq27.false ∙ ap (λ (q : State). act_in q b) c.in-Bracket.is)

pub returns-in-LoneZero : goal.returns-in-LoneZero
unfolding act_in
returns-in-LoneZero c =
    c.among-in-LoneZero.ensures ∙ sym (let b = c.args.b in
    act_in_lem c.args.q b c.if-b-eq27.false ∙ ap (λ (q : State). act_in q b) c.in-LoneZero.is)

pub returns-in-Digits : goal.returns-in-Digits
unfolding act_in
returns-in-Digits c =
    c.among-in-Digits.ensures ∙ sym (let b = c.args.b in
    act_in_lem c.args.q b c.if-b-eq27.false ∙ ap (λ (q : State). act_in q b) c.in-Digits.is)
