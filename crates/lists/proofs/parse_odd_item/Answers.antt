-- `parse_odd_item` meets its contract. Assumes nothing.
use Rattle.words.specs.Within.{told}
use Rattle.words.specs.Trying.{◌then◌}
use Rattle.building.specs.Told.{plain_item, tell_items}
use Rattle.building.specs.Reading.{with_words}
use Rattle.building.proofs.Answers.{handed_on}
use Rattle.lists.proofs.parse_odd_item.Goals as goal

pub returns-in_err-j-clause-by_index : goal.returns-in_err-j-clause-by_index
unfolding told ◌then◌ plain_item tell_items
returns-in_err-j-clause-by_index c = λ cells. rw (handed_on _ _ c.from_residual.ensures.1, ← c.in_err-j.ensures.result_value)

pub returns-in_default-clause-by_index : goal.returns-in_default-clause-by_index
unfolding told ◌then◌ plain_item tell_items
returns-in_default-clause-by_index c = λ cells. rw (← c.in_ok-j.ensures.result_value, c.in_default.is)

pub returns-clause-by_index : goal.returns-clause-by_index
unfolding told ◌then◌ plain_item tell_items with_words
returns-clause-by_index c = λ cells. rw (← c.in_ok-j.ensures.result_value, c.in-Some.is)
