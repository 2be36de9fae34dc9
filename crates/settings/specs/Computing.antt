-- Scaffolding, for proofs alone: what the definitions of this layer compute by, in one name: `unfolding computes` opens them all. Assumes nothing.
use Rattle.settings.specs.Bits.{is_known, rule_of, settings_of, edition_of, form_of}

unfoldable pub computes : Unit {0}
unfolding is_known rule_of settings_of edition_of form_of
computes = tt
