-- `file_name::last_components` meets its contract. Assumes nothing.
use Rattle.std.proofs.Common.{◌≡◌, ◌∙◌, ap, ℕ, suc, ◌+◌, ◌-◌, List, length, drop, arith, inl}
use Rattle.std.proofs.lemmas.Iterator.Consumers.{count_from_yields_List, YieldsList-from_first}
use Rattle.paths.specs.Paths.{last_of}
use Rattle.paths.proofs.Short.{components_few}
use Rattle.file_name.proofs.Slashing.{skip_one}
use Rattle.file_name.proofs.last_components.Goals as goal

pub count-end-requires-clause-fits : goal.count-end-requires-clause-fits
count-end-requires-clause-fits c = inl (omega (arith, ap length c.components_of.ensures, components_few c.args.path.now))

pub loop-init : goal.loop-init
unfolding last_of
loop-init c =
    let k = count_from_yields_List _ _ c.count-end.ensures.ran (YieldsList-from_first (λ x. x.now) (λ (left : List (List ℕ)). left) _ c.components_of.ensures) in
    λ j. drop (k j - c.args.n) (c.components_of-left.ensures j)

pub loop-preserved : goal.loop-preserved
loop-preserved c =
    let k : suc (c.count-end.result - (c.loop.counter + 1)) ≡ c.count-end.result - c.loop.counter = omega arith in
    skip_one _ _ _ c.next.result c.next.ensures.steps ∙ ap (λ (m : ℕ). drop m c.loop.left) k ∙ c.loop.invariant

pub returns : goal.returns
returns c =
    let k : 0 ≡ c.count-end.result - c.loop.counter = omega arith in
    ap (λ (m : ℕ). drop m c.loop.left) k ∙ c.loop.invariant
