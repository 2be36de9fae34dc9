-- `file_name::write_file_name` meets its contract. Assumes nothing.
use Rattle.std.proofs.Common.{sym, ap, subst, ◌∙◌, ℕ, List}
use Rattle.buffer.specs.Bytes.{part}
use Rattle.measure.proofs.Taking.{owes_all, first_fits, owes_rest}
use Rattle.file_name.proofs.Slashing.{name_shown, name_missing}
use Rattle.file_name.proofs.write_file_name.Goals as goal

pub take-requires : goal.take-requires
take-requires g c =
    let e = name_missing c.args.n (part c.args.i c.args.e c.args.d.now) (sym c.last_components-shown.ensures ∙ c.in_default.ensures.steps.0) in
    subst (λ (s : List ℕ). g.S.Sink.fits c.args.sink c.args.out.now s) e c.requires.fits

pub returns-in_default : goal.returns-in_default
returns-in_default g c =
    let e = sym (name_missing c.args.n (part c.args.i c.args.e c.args.d.now) (sym c.last_components-shown.ensures ∙ c.in_default.ensures.steps.0)) in
    record { value = c.take.ensures.value ∙ ap (g.S.Sink.after c.args.sink) e; buffer = c.take.ensures.buffer ∙ ap (g.S.Sink.left c.args.sink c.args.out.now) e }

pub take-rest-requires : goal.take-rest-requires
take-rest-requires g c =
    let e = name_shown c.args.n (part c.args.i c.args.e c.args.d.now) _ _ (sym c.last_components-shown.ensures ∙ c.in-Some.ensures.steps) in
    first_fits g.S.Sink.laws (owes_all g.S.Sink.laws _ _ _ c.requires.fits) c.in-Some.first.now _ e

pub write_slashed-requires : goal.write_slashed-requires
write_slashed-requires g c =
    let e = name_shown c.args.n (part c.args.i c.args.e c.args.d.now) _ _ (sym c.last_components-shown.ensures ∙ c.in-Some.ensures.steps) in
    let o = owes_rest g.S.Sink.laws (owes_all g.S.Sink.laws _ _ _ c.requires.fits) c.in-Some.first.now _ e _ _ c.take-rest.ensures.value c.take-rest.ensures.buffer in
    record { fits = o.fit }

pub returns : goal.returns
returns g c =
    let e = name_shown c.args.n (part c.args.i c.args.e c.args.d.now) _ _ (sym c.last_components-shown.ensures ∙ c.in-Some.ensures.steps) in
    let o = owes_rest g.S.Sink.laws (owes_all g.S.Sink.laws _ _ _ c.requires.fits) c.in-Some.first.now _ e _ _ c.take-rest.ensures.value c.take-rest.ensures.buffer in
    record { value = c.write_slashed.ensures.value ∙ o.value; buffer = c.write_slashed.ensures.buffer ∙ o.buffer }
