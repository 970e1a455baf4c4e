-- The vector of a path, and decisions that are there.
use Rattle.std.proofs.Common.{◌≡◌, ◌∙◌, ◌<◌, ℕ, zero, suc, List, [], ◌∷◌, length, map, get_or, Option, Some, sym, ap, arith, subst}
use Rattle.std.proofs.lemmas.List.{append-nil}
use Rattle.std.specs.Prelude.{slice_get}
use Rattle.mc_cond.specs.Tree.{Tree, IsNumbered, tree_of}
use Rattle.mc_cond.specs.Vectors.{Evaluation}
use Rattle.mc_paths.specs.Paths.{IsPath, IsInUse}
use Rattle.mc_paths.proofs.Numbers.{vector_once}
use Rattle.mc_probe.specs.declared.mapped.MappedDecision.{MappedDecision}
use Rattle.mc_probe.specs.Mapped.{mapped_of}
use Rattle.mc_probe.specs.Maps.{Mapped}
use Rattle.mc_probe.proofs.Kept.{equal_trees}
use Rattle.evidence_texts.proofs.Table.{vector_has_path}
use Rattle.evidence_texts.specs.Vectors.{vector_at}
use Rattle.evidence_texts.specs.Paths.{HasPath}
use Rattle.evidence_texts.specs.Paths.{path_text, path_vector}
use Rattle.evidence_texts.specs.Words.{vector_text}

-- a path has one vector
pub vector_is : (t : Tree) (path : ℕ) (v : Evaluation) → IsNumbered t → IsPath t path v → v ≡ vector_at t path
vector_is t path v numbered is =
    let own = vector_has_path t path numbered (v, is) in
    vector_once t v (vector_at t path) is.vector own.vector (is.number ∙ sym own.number)

-- a decision that has a path is there
pub is_there : (ds : List MappedDecision) (d path : ℕ) → HasPath (slice_get (map mapped_of ds) d) path → d < length ds
is_there [] d path h = absurd h
is_there (m ∷ ds) zero path h = omega arith
is_there (m ∷ ds) (suc d) path h = omega (arith, is_there ds d path h)

pub decision_there : (ds : List MappedDecision) (d : ℕ) (m : MappedDecision) → d < length ds → m ≡ get_or ds d m → slice_get (map mapped_of ds) d ≡ Some (mapped_of m)
decision_there [] d m less is = absurd (omega (arith, less))
decision_there (x ∷ ds) zero m less is = ap (λ (y : MappedDecision). Some (mapped_of y)) (sym is)
decision_there (x ∷ ds) (suc d) m less is = decision_there ds d m (omega (arith, less)) is

-- the decision at a place, by its numbering
pub path_in : (ds : List MappedDecision) (d path : ℕ) (m : MappedDecision) → m ≡ get_or ds d m → HasPath (slice_get (map mapped_of ds) d) path → IsInUse (tree_of m.decision.tree) path
path_in ds d path m is h =
    let at = decision_there ds d m (is_there ds d path h) is in
    let P : Option Mapped → Type 0 = λ o. HasPath o path in
    subst P at h

pub same_tree : (m : MappedDecision) → tree_of m.numbering ≡ tree_of m.decision.tree
same_tree m = (equal_trees (tree_of m.numbering) (tree_of m.decision.tree)).0 m.same

pub path_numbered : (ds : List MappedDecision) (d path : ℕ) (m : MappedDecision) → m ≡ get_or ds d m → HasPath (slice_get (map mapped_of ds) d) path → IsInUse (tree_of (get_or ds d m).numbering) path
path_numbered ds d path m is h =
    let P : MappedDecision → Type 0 = λ x. IsInUse (tree_of x.numbering) path in
    let Q : Tree → Type 0 = λ t. IsInUse t path in
    subst P is (subst Q (sym (same_tree m)) (path_in ds d path m is h))

pub used_numbered : (m : MappedDecision) (path : ℕ) → IsInUse (tree_of m.decision.tree) path → IsInUse (tree_of m.numbering) path
used_numbered m path used =
    let Q : Tree → Type 0 = λ t. IsInUse t path in
    subst Q (sym (same_tree m)) used

-- the vector that its numbering gives
pub vector_here : (m : MappedDecision) (path : ℕ) (v : Evaluation) → IsPath (tree_of m.numbering) path v → v ≡ vector_at (tree_of m.decision.tree) path
vector_here m path v gives =
    let Q : Tree → Type 0 = λ t. IsPath t path v in
    vector_is (tree_of m.decision.tree) path v m.placed.numbered (subst Q (same_tree m) gives)

-- the vector that a decision's numbering gives for a path is the one with its number
pub path_is : (ds : List MappedDecision) (d path : ℕ) (m : MappedDecision) (v : Evaluation) → m ≡ get_or ds d m → HasPath (slice_get (map mapped_of ds) d) path → IsPath (tree_of (get_or ds d m).numbering) path v → v ≡ vector_at (tree_of m.decision.tree) path
path_is ds d path m v is h gives =
    let P : MappedDecision → Type 0 = λ x. IsPath (tree_of x.numbering) path v in
    let Q : Tree → Type 0 = λ t. IsPath t path v in
    let own = subst Q (same_tree m) (subst P (sym is) gives) in
    vector_is (tree_of m.decision.tree) path v m.placed.numbered own

pub vector_written : (ds : List MappedDecision) (d path : ℕ) (m : MappedDecision) (v : Evaluation) → m ≡ get_or ds d m → HasPath (slice_get (map mapped_of ds) d) path → IsPath (tree_of (get_or ds d m).numbering) path v → path_vector (slice_get (map mapped_of ds) d) path ≡ vector_text v
vector_written ds d path m v is h gives =
    ap (λ (o : Option Mapped). path_vector o path) (decision_there ds d m (is_there ds d path h) is)
    ∙ ap vector_text (sym (path_is ds d path m v is h gives))

-- what is written for a path is the vector that its decision's numbering gives
pub path_written : (ds : List MappedDecision) (d path : ℕ) (m : MappedDecision) (v : Evaluation) → m ≡ get_or ds d m → HasPath (slice_get (map mapped_of ds) d) path → IsPath (tree_of (get_or ds d m).numbering) path v → path_text (slice_get (map mapped_of ds) d) path ≡ 32 ∷ vector_text v
path_written ds d path m v is h gives =
    let same = path_is ds d path m v is h gives in
    ap (λ (o : Option Mapped). path_text o path) (decision_there ds d m (is_there ds d path h) is)
    ∙ ap (λ (l : List ℕ). 32 ∷ l) (append-nil (vector_text (vector_at (tree_of m.decision.tree) path)) ∙ ap vector_text (sym same))
