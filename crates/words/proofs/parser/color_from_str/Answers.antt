-- `color_from_str` meets its contract: by the laws of looking up. Assumes nothing.
use Rattle.std.proofs.Common.{◌∙◌, sym, ap, refl, [], ◌∷◌}
use Rattle.spelling.specs.Tables.{compared}
use Rattle.spelling.proofs.Indexing.{listed_below}
use Rattle.words.specs.declared.Color.TheVariants.{Black, Red, Green, Yellow, Blue, Magenta, Cyan, White}
use Rattle.words.specs.Within.{found}
use Rattle.words.specs.Words.{colours, colour}
use Rattle.words.proofs.Listing.{not_found, value_found}
use Rattle.words.proofs.parser.color_from_str.Goals as goal

pub returns-in_err-i : goal.returns-in_err-i
unfolding compared
returns-in_err-i c = ap (found colour) c.from_residual.ensures ∙ not_found colour colours _ (sym c.in_err-i.was ∙ c.word_index.ensures)

pub bounds-i-i : goal.bounds-i-i
unfolding compared
bounds-i-i c = listed_below colours _ c.in_ok-i.i (sym c.in_ok-i.was ∙ c.word_index.ensures)

pub returns : goal.returns
unfolding compared
returns c =
    let values = Black ∷ Red ∷ Green ∷ Yellow ∷ Blue ∷ Magenta ∷ Magenta ∷ Cyan ∷ White ∷ [] in
    value_found colour colours _ values refl _ (sym c.in_ok-i.was ∙ c.word_index.ensures) Black
