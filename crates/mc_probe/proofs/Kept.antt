-- Facts of maps, from what each of their parts keeps.
use Rattle.std.proofs.Common.{◌≡◌, List, [], ◌∷◌, map, refl, ap, subst}
use Rattle.mc_cond.specs.Tree.{Tree, Leaf, Not, And, Or, FullAnd, FullOr, FullXor}
use Rattle.mc_probe.specs.declared.mapped.MappedDecision.{MappedDecision}
use Rattle.mc_probe.specs.Mapped.{mapped_of}
use Rattle.mc_probe.specs.Maps.{ArePlaced}
use Rattle.mc_probe.specs.Same.{IsSame}
use Rattle.mc_probe.specs.Laws.{MapsAreKept, SameTreesAreEqual}

placed : (ds : List MappedDecision) → ArePlaced (map mapped_of ds)
placed [] = tt
placed (d ∷ ds) = (d.placed, placed ds)

pub kept : MapsAreKept
kept m = record { placed = placed m.decisions.items; based = m.based; few = m.few }

equal : (a b : Tree) → IsSame a b → a ≡ b
equal (Leaf k) (Leaf l) e = ap Leaf e
equal (Leaf k) (Not b) e = absurd e
equal (Leaf k) (And b c) e = absurd e
equal (Leaf k) (Or b c) e = absurd e
equal (Leaf k) (FullAnd b c) e = absurd e
equal (Leaf k) (FullOr b c) e = absurd e
equal (Leaf k) (FullXor b c) e = absurd e
equal (Not a) (Leaf l) e = absurd e
equal (Not a) (Not b) e = ap Not (equal a b e)
equal (Not a) (And b c) e = absurd e
equal (Not a) (Or b c) e = absurd e
equal (Not a) (FullAnd b c) e = absurd e
equal (Not a) (FullOr b c) e = absurd e
equal (Not a) (FullXor b c) e = absurd e
equal (And a b) (Leaf l) e = absurd e
equal (And a b) (Not c) e = absurd e
equal (And a b) (And c d) e = λ i. And (equal a c e.0 i) (equal b d e.1 i)
equal (And a b) (Or c d) e = absurd e
equal (And a b) (FullAnd c d) e = absurd e
equal (And a b) (FullOr c d) e = absurd e
equal (And a b) (FullXor c d) e = absurd e
equal (Or a b) (Leaf l) e = absurd e
equal (Or a b) (Not c) e = absurd e
equal (Or a b) (And c d) e = absurd e
equal (Or a b) (Or c d) e = λ i. Or (equal a c e.0 i) (equal b d e.1 i)
equal (Or a b) (FullAnd c d) e = absurd e
equal (Or a b) (FullOr c d) e = absurd e
equal (Or a b) (FullXor c d) e = absurd e
equal (FullAnd a b) (Leaf l) e = absurd e
equal (FullAnd a b) (Not c) e = absurd e
equal (FullAnd a b) (And c d) e = absurd e
equal (FullAnd a b) (Or c d) e = absurd e
equal (FullAnd a b) (FullAnd c d) e = λ i. FullAnd (equal a c e.0 i) (equal b d e.1 i)
equal (FullAnd a b) (FullOr c d) e = absurd e
equal (FullAnd a b) (FullXor c d) e = absurd e
equal (FullOr a b) (Leaf l) e = absurd e
equal (FullOr a b) (Not c) e = absurd e
equal (FullOr a b) (And c d) e = absurd e
equal (FullOr a b) (Or c d) e = absurd e
equal (FullOr a b) (FullAnd c d) e = absurd e
equal (FullOr a b) (FullOr c d) e = λ i. FullOr (equal a c e.0 i) (equal b d e.1 i)
equal (FullOr a b) (FullXor c d) e = absurd e
equal (FullXor a b) (Leaf l) e = absurd e
equal (FullXor a b) (Not c) e = absurd e
equal (FullXor a b) (And c d) e = absurd e
equal (FullXor a b) (Or c d) e = absurd e
equal (FullXor a b) (FullAnd c d) e = absurd e
equal (FullXor a b) (FullOr c d) e = absurd e
equal (FullXor a b) (FullXor c d) e = λ i. FullXor (equal a c e.0 i) (equal b d e.1 i)

same : (a : Tree) → IsSame a a
same (Leaf k) = refl
same (Not a) = same a
same (And a b) = (same a, same b)
same (Or a b) = (same a, same b)
same (FullAnd a b) = (same a, same b)
same (FullOr a b) = (same a, same b)
same (FullXor a b) = (same a, same b)

pub equal_trees : SameTreesAreEqual
equal_trees a b = (equal a b, λ e. subst (λ t. IsSame a t) e (same a))
