-- Places that are all different.
use Rattle.std.specs.Prelude.{◌≡◌, ◌<◌, List, [], ◌∷◌}
use Rattle.mc_span.specs.declared.span.Span.{Span}

-- so for each of these
abbrev pub Each : {A : Type 0} → (A → Type 0) → List A → Type 0
Each P [] = Unit {0}
Each P (x ∷ rest) = P x × Each P rest

-- The first of these is none of the others, and so on.
abbrev pub IsDistinct : {A : Type 0} → List A → Type 0
IsDistinct [] = Unit {0}
IsDistinct (x ∷ rest) = Each (λ y. x ≡ y → ⊥) rest × IsDistinct rest

-- a place of one byte at least
abbrev pub HasBytes : Span → Type 0
HasBytes span = span.start < span.end
