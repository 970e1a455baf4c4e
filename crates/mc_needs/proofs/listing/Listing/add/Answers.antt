use Rattle.std.proofs.Common.{◌≡◌, Bool, false, Option, [], ◌∷◌, ◌++◌, set, sym, ap, subst, ◌∙◌, refl, arith}
use Rattle.std.proofs.lemmas.List.{get_or_default}
use Rattle.mc_cond.specs.Tree.{Tree, tree_of}
use Rattle.mc_cond.specs.Vectors.{Evaluation}
use Rattle.mc_paths.specs.Paths.{IsPath, IsInUse}
use Rattle.mc_paths.proofs.Numbers.{in_use_below}
use Rattle.mc_needs.specs.declared.due.Due.{Due}
use Rattle.mc_needs.specs.steps.Due.{none_due, due_at, first_of, with_due}
use Rattle.mc_needs.specs.steps.Listing.{entry_with}
use Rattle.mc_needs.proofs.Trees.{same_tree}
use Rattle.mc_needs.proofs.listing.Listing.add.Goals as goal

pub outcome_of-outcome-requires : goal.outcome_of-outcome-requires
outcome_of-outcome-requires c = subst (λ (t : Tree). IsInUse t c.args.path) (sym (same_tree c.args.mapped.now)) c.requires.path

pub index_mut-requires-2 : goal.index_mut-requires-2
index_mut-requires-2 c =
    let t = tree_of c.args.mapped.now.decision.tree in
    omega (arith, in_use_below t c.args.path c.requires.path, c.requires.inside)

pub returns : goal.returns
returns c =
    let d = c.args.mapped.now in
    let l = c.args.self.now in
    let path = c.args.path in
    let k = c.args.decision in
    let outcome = c.outcome_of-outcome.result in
    let told : (v : Evaluation) → IsPath (tree_of d.decision.tree) path v → outcome ≡ v.outcome =
    subst (λ (t : Tree). (v : Evaluation) → IsPath t path v → outcome ≡ v.outcome) (same_tree d) c.outcome_of-outcome.ensures in
    let v = c.requires.path in
    let own : c.index-due.result.now ≡ due_at l.due.items k =
    c.index-due.ensures ∙ get_or_default l.due.items k c.index-due.result.now none_due c.requires.decision in (
      outcome,
      record {
        gives = record { v = v.0; is_path = v.1; same = sym (told v.0 v.1) };
        wanted = c.in_ok-push.ensures.items
            ∙ ap (λ (o : Option Bool). l.wanted.items ++ entry_with k c.args.condition path o ∷ []) (c.first.ensures ∙ ap (λ (y : Due). first_of y outcome) own);
        marks = refl;
        due = ap (λ (y : Due). set l.due.items k y) (c.with.ensures ∙ ap (λ (y : Due). with_due y outcome false) own);
      },
    )
