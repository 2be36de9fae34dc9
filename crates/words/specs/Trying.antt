-- Trying to read something at a place, and the ways in which attempts are put together (in the crate: nom's combinators). Assumes nothing.
use Rattle.std.specs.Prelude.{ℕ, zero, suc, ◌+◌, ◌-◌, true, false, List}
use Rattle.refusals.specs.declared.Refusal.{Refusal}
use Rattle.runs.specs.Runs.{stands}

-- what is tried fits (what it gives, and the place after it), doesn't fit, or has the template refused
pub data Tried (A : Type 0) : Type 0 where
  fit : A → ℕ → Tried A
  misfit : Tried A
  refused : Refusal → Tried A

infixr 20 ◌or_else◌
infixl 30 ◌then◌
-- "each tried as": the other where the first doesn't fit
unfoldable pub ◌or_else◌ : {A : Type 0} → Tried A → (Unit {0} → Tried A) → Tried A
fit a j or_else other = fit a j
misfit or_else other = other tt
refused r or_else other = refused r

-- what is made of something that fits
unfoldable pub ◌then◌ : {A B : Type 0} → Tried A → (A → ℕ → Tried B) → Tried B
fit a j then next = next a j
misfit then next = misfit
refused r then next = refused r

-- after an attempt at place i with s in hand: go on behind what fits, or end at i
unfoldable pub while_it_fits : {S : Type 0} → Tried S → (ℕ → S → Tried S) → ℕ → S → Tried S
while_it_fits (fit s j) again i before = again j s
while_it_fits misfit again i before = fit before i
while_it_fits (refused r) again i before = refused r

-- "in any order, as long as they fit": one after the other from i on; each is a byte long at least, n bytes are left
unfoldable pub repeated : {S : Type 0} → (ℕ → S → Tried S) → ℕ → ℕ → S → Tried S
repeated try zero i s = fit s i
repeated try (suc n) i s = while_it_fits (try i s) (repeated try n) i s

-- "A list ends before a separator whose next item doesn't fit": what follows the item that ends at i
unfoldable pub further : {S : Type 0} → ℕ → List ℕ → ℕ → (ℕ → S → Tried S) → ℕ → ℕ → S → Tried S
further separator t e item zero i s = fit s i
further separator t e item (suc n) i s =
    elim (stands separator t i e) [
      | true ↦ while_it_fits (item (i + 1) s) (further separator t e item n) i s
      | false ↦ fit s i
    ]

-- "items split by" a byte: one, and what follows it
unfoldable pub listed : {S : Type 0} → ℕ → List ℕ → ℕ → (ℕ → S → Tried S) → ℕ → S → Tried S
listed separator t e item i s = item i s then λ s' j. further separator t e item (e - i) j s'
