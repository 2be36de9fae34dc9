-- Scaffolding, for proofs alone: a text with what is put around it. Assumes nothing.
use Rattle.std.specs.Prelude.{ℕ, List, ◌++◌, replicate}
use Rattle.colour.specs.declared.Format.{Format}
use Rattle.colour.specs.Sequences.{reset, reinserted}
use Rattle.colour.specs.Looks.{prefix}
use Rattle.colour.specs.Formatting.{pad_byte}

-- a text x with p before it, l bytes z of padding before and r after, and the reset
abbrev pub around : List ℕ → ℕ → List ℕ → ℕ → ℕ → List ℕ
around p l x r z = p ++ (replicate l z ++ (x ++ (replicate r z ++ reset)))

-- a text x in the format f, with l bytes of padding before it and r after
abbrev pub dressed : Format → ℕ → ℕ → List ℕ → List ℕ
dressed f l r x = around (prefix f.look) l (reinserted (prefix f.look) x) r (pad_byte f.padding)
