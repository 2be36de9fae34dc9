-- The version of the archive. Assumes nothing.
use Rattle.std.specs.Prelude.{ℕ, ◌+◌, ◌*◌}

-- 65536 × major + 256 × minor + patch, of 0.6.1
abbrev pub version : ℕ
version = 65536 * 0 + 256 * 6 + 1
