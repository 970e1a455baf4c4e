use Rattle.std.proofs.Common.{◌≡◌, true, false, List, ◌∷◌, ◌++◌, sym, ap, subst, ◌∙◌}
use Rattle.mc_cond.specs.Tree.{Tree, tree_of}
use Rattle.mc_paths.specs.Paths.{count_of}
use Rattle.mc_probe.proofs.Kept.{equal_trees}
use Rattle.mc_oblige.specs.declared.verdict.Evidence.{Evidence}
use Rattle.mc_oblige.specs.steps.Table.{AreInUse}
use Rattle.mc_oblige.specs.steps.Found.{IsFoundOutcome, AreFound}
use Rattle.mc_oblige.proofs.decisions.decision_evidence.Goals as goal

pub outcome_evidence-on_true-requires-clause-count : goal.outcome_evidence-on_true-requires-clause-count
outcome_evidence-on_true-requires-clause-count c =
    let same = (equal_trees (tree_of c.args.mapped.now.numbering) (tree_of c.args.mapped.now.decision.tree)).0 c.args.mapped.now.same in
    c.requires.count ∙ ap count_of (sym same)

pub outcome_evidence-on_true-requires-clause-used : goal.outcome_evidence-on_true-requires-clause-used
outcome_evidence-on_true-requires-clause-used c =
    let same = (equal_trees (tree_of c.args.mapped.now.numbering) (tree_of c.args.mapped.now.decision.tree)).0 c.args.mapped.now.same in
    let P : Tree → Type 0 = λ t. AreInUse t c.args.tests.now in
    subst P (sym same) c.requires.used

pub outcome_evidence-on_false-requires-clause-count : goal.outcome_evidence-on_false-requires-clause-count
outcome_evidence-on_false-requires-clause-count c =
    let same = (equal_trees (tree_of c.args.mapped.now.numbering) (tree_of c.args.mapped.now.decision.tree)).0 c.args.mapped.now.same in
    c.requires.count ∙ ap count_of (sym same)

pub outcome_evidence-on_false-requires-clause-used : goal.outcome_evidence-on_false-requires-clause-used
outcome_evidence-on_false-requires-clause-used c =
    let same = (equal_trees (tree_of c.args.mapped.now.numbering) (tree_of c.args.mapped.now.decision.tree)).0 c.args.mapped.now.same in
    let P : Tree → Type 0 = λ t. AreInUse t c.args.tests.now in
    subst P (sym same) c.requires.used

pub returns : goal.returns
returns c =
    let tree = tree_of c.args.mapped.now.decision.tree in
    let same = (equal_trees (tree_of c.args.mapped.now.numbering) tree).0 c.args.mapped.now.same in
    let on_true : Evidence = c.outcome_evidence-on_true.result in
    let on_false : Evidence = c.outcome_evidence-on_false.result in
    let items : c.extend_from_slice.new.self.items ≡ on_true ∷ on_false ∷ c.in_ok-conditions.conditions.items =
    c.in_ok-extend_from_slice.ensures.items
    ∙ ap (λ es. es ++ c.deref.result.now) c.in_ok-found.ensures.items
    ∙ ap (λ es. on_true ∷ on_false ∷ es) c.deref.ensures.value in
    let P : List Evidence → Type 0 = λ es. AreFound c.args.mode tree c.args.tests.now es in
    let Q : Tree → Type 0 = λ t. IsFoundOutcome t c.args.tests.now true on_true in
    let R : Tree → Type 0 = λ t. IsFoundOutcome t c.args.tests.now false on_false in
    subst P (sym items) (subst Q same c.outcome_evidence-on_true.ensures, subst R same c.outcome_evidence-on_false.ensures, c.in_ok-conditions.ensures)
