-- Paths by components, and the crate of a module path (document 01, "Building a line"; document 02, E2). Assumes nothing.
use Rattle.std.specs.Prelude.{ℕ, ◌-◌, ◌≡◌, refl, Bool, true, false, ◌||◌, ◌&&◌, List, [], ◌∷◌, ◌++◌, eqb, length, drop}
use Rattle.buffer.specs.Bytes.{byte, bytes, same}
use Rattle.buffer.specs.Table.{Maybe, none, some}

-- ---- components

-- one byte more before the first piece
unfoldable pub before_first : ℕ → List (List ℕ) → List (List ℕ)
before_first b [] = (b ∷ []) ∷ []
before_first b (x ∷ rest) = (b ∷ x) ∷ rest

-- what stands between the slashes
unfoldable pub pieces : List ℕ → List (List ℕ)
pieces [] = [] ∷ []
pieces (b ∷ s) = elim (eqb b (byte "/")) [ true ↦ [] ∷ pieces s | false ↦ before_first b (pieces s) ]

-- "Empty components and components that are `.` are dropped"; of the latter, document 02: "only later ones are dropped"
unfoldable pub is_dropped : List ℕ → Bool
is_dropped x = same [] x || same (bytes ".") x

-- the pieces that are not dropped
unfoldable pub kept : List (List ℕ) → List (List ℕ)
kept [] = []
kept (x ∷ rest) = elim (is_dropped x) [ true ↦ kept rest | false ↦ x ∷ kept rest ]

-- "A leading `/` is a component"
unfoldable pub root : List ℕ → List (List ℕ)
root [] = []
root (b ∷ s) = elim (eqb b (byte "/")) [ true ↦ bytes "/" ∷ [] | false ↦ [] ]

-- document 02: "a `.` at the very start is a component": the path is `.`, or begins with `./`
unfoldable pub starts_with_dot : List ℕ → Bool
starts_with_dot [] = false
starts_with_dot (a ∷ []) = eqb a (byte ".")
starts_with_dot (a ∷ (b ∷ s)) = eqb a (byte ".") && eqb b (byte "/")

-- that component, where there is one
unfoldable pub leading_dot : List ℕ → List (List ℕ)
leading_dot file = elim (starts_with_dot file) [ true ↦ bytes "." ∷ [] | false ↦ [] ]

-- the components of a path. What is kept of the pieces has no `.`, so that a leading one is there once.
unfoldable pub components : List ℕ → List (List ℕ)
components file = root file ++ (leading_dot file ++ kept (pieces file))

-- the last n
unfoldable pub last_of : ℕ → List (List ℕ) → List (List ℕ)
last_of n xs = drop (length xs - n) xs

-- "joined by `/`, so joining it doubles the slash"; none where there is nothing to join
unfoldable pub slashed : List (List ℕ) → List ℕ
slashed [] = []
slashed (x ∷ rest) = bytes "/" ++ (x ++ slashed rest)

-- components joined, where there is one
unfoldable pub joined_by_slash : List (List ℕ) → Maybe (List ℕ)
joined_by_slash [] = none
joined_by_slash (x ∷ rest) = some (x ++ slashed rest)

-- "`{f}` repeated n times: the last n path components joined by `/`"
unfoldable pub file_name : ℕ → List ℕ → Maybe (List ℕ)
file_name n file = joined_by_slash (last_of n (components file))

-- document 02: "`.` alone prints `.`, and a root, a dot and a name still make two components"; and others
dots :
    components (bytes "./src/a.rs")
    ∷ components (bytes ".")
    ∷ components (bytes "././a")
    ∷ components (bytes "/./a")
    ∷ components (bytes "a/./.b")
    ∷ components []
    ∷ []
    ≡ (bytes "." ∷ bytes "src" ∷ bytes "a.rs" ∷ [])
    ∷ (bytes "." ∷ [])
    ∷ (bytes "." ∷ bytes "a" ∷ [])
    ∷ (bytes "/" ∷ bytes "a" ∷ [])
    ∷ (bytes "a" ∷ bytes ".b" ∷ [])
    ∷ []
    ∷ []
unfolding before_first pieces is_dropped kept root starts_with_dot leading_dot components same
dots = refl

-- ---- the crate of a module path

-- one byte more before what was found
unfoldable pub after_byte : ℕ → Maybe (List ℕ) → Maybe (List ℕ)
after_byte b none = none
after_byte b (some s) = some (b ∷ s)

-- "the module before the first `::`", if there is one
unfoldable pub before_colons : List ℕ → Maybe (List ℕ)
before_colons [] = none
before_colons (a ∷ []) = none
before_colons (a ∷ (b ∷ s)) = elim (same (bytes "::") (a ∷ b ∷ [])) [ true ↦ some [] | false ↦ after_byte a (before_colons (b ∷ s)) ]
