-- Scaffolding, for proofs alone: the bits of a character that has begun are few, as more of its bytes are still to come. Assumes nothing.
use Rattle.std.specs.Prelude.{ℕ, zero, suc, ◌<◌}
use Rattle.widths.specs.declared.Pending.{Pending}

-- x are the bits before so many bytes
abbrev pub FewBits : ℕ → ℕ → Type 0
FewBits zero x = x < 0x8000
FewBits (suc zero) x = x < 0x8000
FewBits (suc (suc zero)) x = x < 0x200
FewBits (suc (suc (suc zero))) x = x < 8
FewBits (suc (suc (suc (suc n)))) x = ⊥

abbrev pub Fits : Pending → Type 0
Fits p = FewBits p.awaited p.bits
