-- Scaffolding, for proofs alone: links, each leading back to the member before, and forward again. Assumes nothing.
use Rattle.std.specs.Prelude.{ℕ, zero, suc, ◌+◌, ◌-◌, ◌≤◌, ◌<◌, ◌≡◌, cond, List, eqb, length, get_or, set}
use Rattle.segments.specs.declared.Cell.{Cell}
use Rattle.segments.specs.Pool.{back}
use Rattle.members.specs.declared.Link.{Link}

-- the link n members back from the link l; before the first member the links stay 0
unfoldable pub back_by : List Cell → ℕ → ℕ → ℕ
back_by cells zero l = l
back_by cells (suc n) l = back_by cells n (back cells (l - 1))

-- j is the link l, or a link back from there
pub record OnChain (cells : List Cell) (l j : ℕ) : Type 0 where
  pub count : ℕ
  pub leads : back_by cells count l ≡ j

-- r is the link to the first of the members back from the link l
pub record FirstMember (cells : List Cell) (l r : ℕ) : Type 0 where
  pub some : 0 < r
  pub on : OnChain cells l r
  pub before : back cells (r - 1) ≡ 0

-- ---- links that lead forward: of each segment the link to the member after it, and the link to the first of those back from it

-- the links of the segment at i
abbrev pub link_at : List Link → ℕ → Link
link_at links i = get_or links i (record { next = 0; first = 0 })

-- the row with another link there
abbrev pub with_first : List Link → ℕ → ℕ → List Link
with_first links i k = set links i (record { next = (link_at links i).next; first = k })

abbrev pub with_next : List Link → ℕ → ℕ → List Link
with_next links i k = set links i (record { next = k; first = (link_at links i).first })

-- the row with the segment at i, whose link leads back to b
unfoldable pub linked_by : List Link → ℕ → ℕ → List Link
linked_by links i b = cond (eqb b 0) (with_first links i (i + 1)) (with_next (with_first links i (link_at links (b - 1)).first) (b - 1) (i + 1))

-- the row with the segments below n, one after the other
unfoldable pub links_forward : List Cell → List Link → ℕ → List Link
links_forward cells links zero = links
links_forward cells links (suc i) = linked_by (links_forward cells links i) i (back cells i)

-- the link after j (0: before the first) among the members back from the link l
unfoldable pub member_after : List Link → ℕ → ℕ → ℕ
member_after links l j = cond (eqb j 0) (link_at links (l - 1)).first (link_at links (j - 1)).next

-- the row holds the links of the segments below n
pub record Forward (cells : List Cell) (links : List Link) (n : ℕ) : Type 0 where
  pub room : n ≤ length links
  pub next : (i : ℕ) → i < n → 0 < back cells i → (link_at links (back cells i - 1)).next ≡ i + 1
  pub first : (i : ℕ) → i < n → FirstMember cells (i + 1) (link_at links i).first
