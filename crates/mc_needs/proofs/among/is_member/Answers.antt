use Rattle.std.proofs.Common.{true, false, ◌≡◌, refl, sym, subst, ◌∙◌, inl, inr}
use Rattle.std.specs.Prelude.{◌↔◌, IsTrue}
use Rattle.mc_cond.specs.Tree.{Tree}
use Rattle.mc_pairs.specs.Pairs.{HasInfluenceAs}
use Rattle.mc_needs.proofs.Trees.{same_tree, own_numbered, own_condition}
use Rattle.mc_needs.proofs.among.is_member.Goals as goal

pub has_influence_as-requires-clause-numbered : goal.has_influence_as-requires-clause-numbered
has_influence_as-requires-clause-numbered c = own_numbered c.args.mapped.now

pub has_influence_as-requires-clause-condition : goal.has_influence_as-requires-clause-condition
has_influence_as-requires-clause-condition c = own_condition c.args.mapped.now c.args.k c.requires.condition

pub returns-then-is_marked : goal.returns-then-is_marked
returns-then-is_marked c = (λ e. inl (c.is_marked.ensures.0 c.if-is_marked.true), λ h. refl)

pub returns : goal.returns
returns c =
    let d = c.args.mapped.now in
    let own = subst (λ (t : Tree). IsTrue c.has_influence_as.result ↔ HasInfluenceAs t c.args.k c.args.value c.args.path) (same_tree d) c.has_influence_as.ensures in (
      λ e. inr (own.0 e),
      λ h. elim h [
        | inl mark ↦ (let f : true ≡ false = sym (c.is_marked.ensures.1 mark) ∙ c.if-is_marked.false in cc)
        | inr has ↦ own.1 has
      ],
    )
