-- What is beyond the end of a list.
use Rattle.std.proofs.Common.{◌≡◌, ◌∙◌, refl, sym, ap, ℕ, zero, suc, ◌<◌, ◌≤◌, List, [], ◌∷◌, map, option_map, length, get_or, slice_get, Option, Some, arith}
use Rattle.std.specs.Prelude.{unwrap_or}
use Rattle.std.proofs.lemmas.Option.{slice_get-map, slice_get_past}
use Rattle.mc_cond.specs.Tree.{Tree, size, tree_of}
use Rattle.mc_paths.specs.Paths.{increments}
use Rattle.mc_paths.proofs.Counting.{length_edges}
use Rattle.mc_probe.specs.declared.mapped.MappedDecision.{MappedDecision}
use Rattle.mc_probe.specs.Mapped.{mapped_of}
use Rattle.mc_probe.specs.Maps.{Mapped}
use Rattle.mc_probe.specs.Table.{increment_of}
use Rattle.mc_probe.proofs.Kept.{equal_trees}

beyond : (xs : List ℕ) (i : ℕ) → length xs ≤ i → unwrap_or (slice_get xs i) 0 ≡ 0
beyond [] i h = refl
beyond (x ∷ xs) zero h = absurd (omega (arith, h))
beyond (x ∷ xs) (suc i) h = beyond xs i (omega (arith, h))

-- no condition with this number adds anything
pub no_edge : (t : Tree) (c : ℕ) → size t ≤ c → 0 ≡ unwrap_or (slice_get (increments t) c) 0
no_edge t c h =
    let same = length_edges t 1 1 in sym (beyond (increments t) c (omega (arith, same, h)))

-- ---- of a decision of a map

item_at : (xs : List MappedDecision) (i : ℕ) (d : MappedDecision) → i < length xs → slice_get xs i ≡ Some (get_or xs i d)
item_at [] i d lt = absurd (omega (arith, lt))
item_at (x ∷ xs) zero d lt = refl
item_at (x ∷ xs) (suc i) d lt = item_at xs i d (omega (arith, lt))

pub increment_some : (ds xs : List MappedDecision) (i c : ℕ) (d : MappedDecision) (x : ℕ) → xs ≡ ds → i < length xs → d ≡ get_or xs i d → x ≡ unwrap_or (slice_get (increments (tree_of d.numbering)) c) 0 → x ≡ increment_of (slice_get (map mapped_of ds) i) c
increment_some ds xs i c d x same lt is told =
    let one : tree_of d.numbering ≡ tree_of d.decision.tree = (equal_trees (tree_of d.numbering) (tree_of d.decision.tree)).0 d.same in
    let at : slice_get xs i ≡ Some d = item_at xs i d lt ∙ ap (λ (e : MappedDecision). Some e) (sym is) in
    told
    ∙ (ap (λ (t : Tree). unwrap_or (slice_get (increments t) c) 0) one
    ∙ (ap (λ (o : Option MappedDecision). increment_of (option_map mapped_of o) c) (sym at)
    ∙ (ap (λ (zs : List MappedDecision). increment_of (option_map mapped_of (slice_get zs i)) c) same
    ∙ ap (λ (o : Option Mapped). increment_of o c) (sym (slice_get-map mapped_of ds i)))))

pub increment_none : (ds xs : List MappedDecision) (i c : ℕ) → xs ≡ ds → length xs ≤ i → 0 ≡ increment_of (slice_get (map mapped_of ds) i) c
increment_none ds xs i c same end =
    sym (ap (λ (o : Option Mapped). increment_of o c) (slice_get-map mapped_of ds i)
    ∙ (ap (λ (zs : List MappedDecision). increment_of (option_map mapped_of (slice_get zs i)) c) (sym same)
    ∙ ap (λ (o : Option MappedDecision). increment_of (option_map mapped_of o) c) (slice_get_past xs i end)))
