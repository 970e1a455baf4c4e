-- Texts that are put one after the other.
use Rattle.std.proofs.Common.{◌≡◌, ◌∙◌, ℕ, zero, suc, List, [], ◌∷◌, ◌++◌, length, take, Option, refl, sym, ap, subst, arith, ◌≤◌, ◌-◌, get_or, drop, Vec, Global}
use Rattle.std.specs.Prelude.{Result, Ok, Err}
use Rattle.std.specs.List.{concat}
use Rattle.std.proofs.lemmas.List.{take_all, append-nil}
use Rattle.std.proofs.KnownBytes.{Appends-trans}
use Rattle.std.specs.Io.KnownBytes.{Appends}
use Rattle.mc_port.specs.Causes.{Rose}
use Rattle.mc_port.specs.Lines.{bytes_of}
use Rattle.mc_port.specs.Sink.{AppendsPart, Puts}
use Rattle.mc_port.specs.declared.sink.PutFault.{PutFault}

-- a first part of the front is one of the whole
front : (line rest : List ℕ) (n : ℕ) → (m : ℕ) × (take m (line ++ rest) ≡ take n line)
front [] rest zero = (0, refl)
front [] rest (suc n) = (0, refl)
front (x ∷ line) rest zero = (0, refl)
front (x ∷ line) rest (suc n) = let m = front line rest n in (suc m.0, ap (λ (l : List ℕ). x ∷ l) m.1)

after : (done line rest : List ℕ) (n : ℕ) → (m : ℕ) × (take m (done ++ (line ++ rest)) ≡ done ++ take n line)
after [] line rest n = front line rest n
after (x ∷ done) line rest n = let m = after done line rest n in (suc m.0, ap (λ (l : List ℕ). x ∷ l) m.1)

pub part_after : (a b c : Option (List ℕ)) (done line rest whole : List ℕ) → done ++ (line ++ rest) ≡ whole → Appends a b done → AppendsPart b c line → AppendsPart a c whole
part_after a b c done line rest whole is put part =
    let m = after done line rest part.0 in
    let same : done ++ take part.0 line ≡ take m.0 whole = sym m.1 ∙ ap (take m.0) is in
    (m.0, subst (Appends a c) same (Appends-trans a b c done (take part.0 line) put part.1))

-- the first line of those that are left, and the others
pub first_line : (left : List (Vec ℕ Global)) (line : Vec ℕ Global) → 1 ≤ length left → line ≡ get_or left 0 line → concat (bytes_of left) ≡ line.items ++ concat (bytes_of (take (length left - 1) (drop 1 left)))
first_line [] line some is = absurd (omega arith)
first_line (v ∷ left) line some is =
    let rest : take (length (v ∷ left) - 1) left ≡ left = take_all (length (v ∷ left) - 1) left (omega arith) in
    rw rest (ap (λ (w : Vec ℕ Global). w.items ++ concat (bytes_of left)) (sym is))

-- ---- several pieces, one after the other

rose_later : (f g h : ℕ) → f ≤ g → Rose g h → Rose f h
rose_later f g h le rose = grind arith

-- a first part of the one text is one of both
pub part_first : (a b : Option (List ℕ)) (xs ys : List ℕ) → AppendsPart a b xs → AppendsPart a b (xs ++ ys)
part_first a b xs ys part =
    let m = front xs ys part.0 in
    (m.0, subst (Appends a b) (sym m.1) part.1)

-- where the first text was put whole, what the second put came to is what both did
pub puts_then : (a b c : Option (List ℕ)) (f g h : ℕ) (xs ys : List ℕ) (u : Unit {0}) (r : Result (Unit {0}) PutFault) → Puts a b f g xs (Ok u) → Puts b c g h ys r → f ≤ g → g ≤ h → Puts a c f h (xs ++ ys) r
puts_then a b c f g h xs ys u (Ok v) first second le le2 = Appends-trans a b c xs ys first second
puts_then a b c f g h xs ys u (Err e) first second le le2 =
    let whole : xs ++ (ys ++ []) ≡ xs ++ ys = ap (λ (l : List ℕ). xs ++ l) (append-nil ys) in
    (rose_later f g h le second.0, part_after a b c xs ys [] (xs ++ ys) whole first second.1)

-- where the first text was not put whole, nothing of the second was
pub puts_stops : (a b : Option (List ℕ)) (f g : ℕ) (xs ys : List ℕ) (e : PutFault) → Puts a b f g xs (Err e) → Puts a b f g (xs ++ ys) (Err e)
puts_stops a b f g xs ys e first = (first.0, part_first a b xs ys first.1)
