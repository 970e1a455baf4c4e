-- The pen that puts the probes of a text into its program, in the order of the text.
use Rattle.std.specs.Prelude.{ℕ, nat_eq, nat_le, nat_lt, Bool, true, ◌&&◌, List, [], ◌∷◌, min, max}
use Rattle.std.specs.Prelude.{Option, Some, None, option_and_then, if◌then◌else◌}
use Rattle.mc_limits.specs.Limits.{most_bits}
use Rattle.mc_span.specs.declared.span.Span.{Span}
use Rattle.reread_pieces.specs.declared.piece.What.{What}
use Rattle.reread_pieces.specs.declared.placed.Placed.{Placed}
use Rattle.reread_put_back.specs.Rows.{end_of, register_of}

-- the probes that are left, from the front; where the word of the first one in the text starts that
-- was put and has a fault; and one more than the greatest bit of those that were put
pub record Pen : Type 0 where
  pub left : List Placed
  pub fault : Option ℕ
  pub bits : ℕ

abbrev pub begun : List Placed → Pen
begun placed = record { left = placed; fault = None; bits = 0 }

-- ---- walks

-- over a part of the program: the part with its probes, and the pen after it
abbrev pub Walk : Type 0 → Type 0
Walk A = Pen → A × Pen

abbrev pub gives : {A : Type 0} → A → Walk A
gives a p = (a, p)

abbrev pub go_on : {A B : Type 0} → A × Pen → (A → Walk B) → B × Pen
go_on done next = next done.0 done.1

-- First one part, then another: `do` has such lines one under the other, `x ← e` where x is the
-- part that e gave.
infixl 10 ◌>>=◌
abbrev pub ◌>>=◌ : {A B : Type 0} → Walk A → (A → Walk B) → Walk B
(first >>= next) p = go_on (first p) next

-- the parts of a list, one after the other
abbrev pub each : {A B : Type 0} → (A → Walk B) → List A → Walk (List B)
each walk [] p = gives [] p
each walk (x ∷ xs) p =
    go_on (walk x p) (λ y p. go_on (each walk xs p) (λ ys p. gives (y ∷ ys) p))

-- ---- faults

-- no register, or one below this count
abbrev pub is_below : ℕ → Option ℕ → Bool
is_below registers None = true
is_below registers (Some register) = nat_lt register registers

-- the first in the text of this probe and those before
abbrev pub first_of : ℕ → Option ℕ → Option ℕ
first_of word None = Some word
first_of word (Some other) = Some (min word other)

-- A probe is put that stands in a function with so many registers, and names or reaches only bits
-- below `end`.
abbrev pub noted : ℕ → Placed → ℕ → Pen → Pen
noted registers q end p =
    if is_below registers (register_of q.what) && nat_le end most_bits
    then record p { bits = max p.bits end }
    else record p { fault = first_of q.word p.fault }

-- ---- probes of statements and functions

abbrev pub is_same : Span → Span → Bool
is_same a b = nat_eq a.start b.start && nat_eq a.end b.end

-- what the next probe is, where it stands at this place
abbrev pub next_at : Span → List Placed → Option What
next_at span [] = None
next_at span (q ∷ rest) = if is_same q.span span then Some q.what else None

-- the next probe is put
abbrev pub put_next : ℕ → List Placed → Pen → Pen
put_next registers [] p = p
put_next registers (q ∷ rest) p = noted registers q (end_of q.what) (record p { left = rest })

abbrev pub put_found : {A : Type 0} → ℕ → Option A → Walk (Option A)
put_found registers None p = (None, p)
put_found registers (Some a) p = (Some a, put_next registers p.left p)

-- Puts the next probe where it stands at this place and `wanted` accepts it, and gives what
-- `wanted` gives.
abbrev pub put : {A : Type 0} → ℕ → (What → Option A) → Span → Walk (Option A)
put registers wanted span p =
    put_found registers (option_and_then wanted (next_at span p.left)) p
