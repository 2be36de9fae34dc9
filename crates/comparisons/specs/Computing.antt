-- Scaffolding, for proofs alone: what the definitions of this layer compute by, in one name: `unfolding computes` opens them all. Assumes nothing.
use Rattle.comparisons.specs.Comparisons.{before_line, lines, joined_by_newline, ends_with, value_in, comparing, by_lines, comparison, continues, characters, all_of, shared, backwards, one_run, runs, layout_of, layout, laid_or_else}

unfoldable pub computes : Unit {0}
unfolding before_line lines joined_by_newline ends_with value_in comparing by_lines comparison
    continues characters all_of shared backwards
    one_run runs layout_of layout laid_or_else
computes = tt
