use Rattle.std.proofs.Common.{◌≡◌, true, false, sym, ◌∙◌}
use Rattle.mc_cond.specs.Tree.{tree_of}
use Rattle.mc_pairs.proofs.Influential.{used}
use Rattle.mc_masking.proofs.Pairs.{to_value, no_value_to}
use Rattle.mc_masking.proofs.least.has_influence_to.Goals as goal

pub outcome_of-requires : goal.outcome_of-requires
outcome_of-requires c = used (tree_of c.args.numbering.now) c.args.k c.args.path c.args.value (c.has_influence_as.ensures.0 c.if-not-has_influence_as.false)

pub returns : goal.returns
returns c =
    to_value (tree_of c.args.numbering.now) c.args.k c.requires.numbered c.args.value c.args.outcome c.outcome_of.result c.args.path c.outcome_of.ensures
    (c.has_influence_as.ensures.0 c.if-not-has_influence_as.false)

pub returns-then-not-has_influence_as : goal.returns-then-not-has_influence_as
returns-then-not-has_influence_as c =
    no_value_to (tree_of c.args.numbering.now) c.args.k c.requires.numbered c.args.value c.args.outcome c.args.path
    (λ shows. let f : true ≡ false = sym (c.has_influence_as.ensures.1 shows) ∙ c.if-not-has_influence_as.true in cc)
