-- `file_name::last_components` meets its contract. The loop's invariant: without those that are still to be passed over, what is left is the last n. Assumes nothing.
use Rattle.std.proofs.Common.{◌≡◌, ◌-◌, drop}
use Rattle.paths.specs.Paths.{components, last_of}
use Rattle.file_name.proofs.last_components.Given as goal

abbrev pub invariant-loop : goal.invariant-loop
invariant-loop l = drop (l.end - l.counter) l.left ≡ last_of l.n (components l.path)
