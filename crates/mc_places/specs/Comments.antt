-- Comments over several lines (C17 6.4.9).
use Rattle.std.specs.Prelude.{ℕ, Bool, true, false, not, ◌&&◌, ◌==◌, if◌then◌else◌, List, [], ◌∷◌}

-- `//` outside a comment: nothing after it on its line begins another
abbrev pub is_line_comment : Bool → ℕ → ℕ → Bool
is_line_comment inside a b = not inside && (a == 47 && b == 47)

-- `/*` outside a comment begins one, and `*/` ends it
abbrev pub toggles : Bool → ℕ → ℕ → Bool
toggles true a b = a == 42 && b == 47
toggles false a b = a == 47 && b == 42

-- whether a comment that `/*` began is open after these bytes of a line, by whether one was before
abbrev pub stays_open : Bool → List ℕ → Bool
stays_open inside [] = inside
stays_open inside (a ∷ []) = inside
stays_open inside (a ∷ b ∷ bs) =
    if is_line_comment inside a b then false
    else (if toggles inside a b then stays_open (not inside) bs else stays_open inside (b ∷ bs))
