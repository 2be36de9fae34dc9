-- Scaffolding, for proofs alone: whether a specifier is the one that is looked for. Assumes nothing.
use Rattle.std.specs.Prelude.{Bool}
use Rattle.words.specs.declared.LogMetadata.{LogMetadata}
use Rattle.words.specs.contracts.LogMetadataPartialEq.TheImpl.{ghosts}

-- as the derived `==` tells it; of the message and the time that is `is_log` and `is_timestamp` (proofs/Wanting.antt)
abbrev pub is_wanted : LogMetadata → LogMetadata → Bool
is_wanted wanted m = ghosts.eq m wanted
