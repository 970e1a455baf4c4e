use Rattle.std.proofs.Common.{◌≡◌, ℕ, true, false, sym, subst, ◌∙◌}
use Rattle.mc_cond.specs.Tree.{tree_of}
use Rattle.mc_pairs.proofs.Influential.{used}
use Rattle.mc_unique.specs.steps.Prefixes.{AreAlike, passed, same, new}
use Rattle.mc_unique.proofs.Searching.{same_some}
use Rattle.mc_unique.proofs.candidates.first_alike.Goals as goal

pub are_alike-requires-clause-other : goal.are_alike-requires-clause-other
are_alike-requires-clause-other c = used (tree_of c.args.numbering.now) c.args.k c.args.path true (c.has_influence_as.ensures.0 c.if-not-has_influence_as.false)

pub returns-else-are_alike-clause-used : goal.returns-else-are_alike-clause-used
returns-else-are_alike-clause-used c = used (tree_of c.args.numbering.now) c.args.k c.args.path true (c.has_influence_as.ensures.0 c.if-not-has_influence_as.false)

pub returns-in_default-clause-used : goal.returns-in_default-clause-used
returns-in_default-clause-used c = used (tree_of c.args.numbering.now) c.args.k c.args.path true (c.has_influence_as.ensures.0 c.if-not-has_influence_as.false)

pub returns-then-not-has_influence_as-clause-next : goal.returns-then-not-has_influence_as-clause-next
returns-then-not-has_influence_as-clause-next c =
    passed (λ on. let f : true ≡ false = sym (c.has_influence_as.ensures.1 on) ∙ c.if-not-has_influence_as.true in cc)

pub returns-then-are_alike-clause-next : goal.returns-then-are_alike-clause-next
returns-then-are_alike-clause-next c =
    rw c.in-Some.is (same (c.has_influence_as.ensures.0 c.if-not-has_influence_as.false) (c.are_alike.ensures.0 c.if-are_alike.true))

pub returns-else-are_alike-clause-next : goal.returns-else-are_alike-clause-next
returns-else-are_alike-clause-next c =
    new (c.has_influence_as.ensures.0 c.if-not-has_influence_as.false)
    (λ p e with.
    let P : ℕ → Type 0 = λ q. AreAlike (tree_of c.args.numbering.now) c.args.k q c.args.path in
    let alike = subst P (same_some c.args.first p c.in-Some.least e c.in-Some.is) with in
    let f : true ≡ false = sym (c.are_alike.ensures.1 alike) ∙ c.if-are_alike.false in cc)

pub returns-in_default-clause-next : goal.returns-in_default-clause-next
returns-in_default-clause-next c =
    new (c.has_influence_as.ensures.0 c.if-not-has_influence_as.false) (λ p e with. c.in_default.not-Some p e)
