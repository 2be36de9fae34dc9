-- Two things that are equal to a third one are equal, and so are two tuples that differ in equal things alone. Assumes nothing.
use mathlib.Core.Path.{◌≡◌, sym, ap, ◌∙◌}

pub same : {A : Type 0} {x y z : A} → x ≡ z → y ≡ z → x ≡ y
same p q = p ∙ sym q

pub here : {A B : Type 0} {x y : A} {z : B} → x ≡ y → ◌≡◌ {A = A × B} (x, z) (y, z)
here {A} {B} {z} e = ap {B = A × B} (λ x. (x, z)) e

pub past : {A B : Type 0} {x : A} {y z : B} → y ≡ z → ◌≡◌ {A = A × B} (x, y) (x, z)
past {A} {B} {x} e = ap {B = A × B} (λ y. (x, y)) e
