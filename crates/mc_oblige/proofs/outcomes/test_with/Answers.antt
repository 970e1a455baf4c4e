use Rattle.std.proofs.Common.{sym, ◌∙◌}
use Rattle.mc_oblige.proofs.Least.{beq_is}
use Rattle.mc_oblige.proofs.outcomes.test_with.Goals as goal

pub outcome_of-requires : goal.outcome_of-requires
outcome_of-requires c = c.requires c.in_ok-own.own c.in_ok-own.was

pub returns-then-outcome_of-outcome : goal.returns-then-outcome_of-outcome
returns-then-outcome_of-outcome c =
    let v = c.requires c.in_ok-own.own c.in_ok-own.was in
    λ t. (
      λ e. (
        c.in_ok-own.was ∙ e,
        record { vector = v.0; is_path = v.1; same = sym (c.outcome_of.ensures v.0 v.1) ∙ beq_is c.outcome_of.result c.args.outcome c.if-outcome_of-outcome.true },
      ),
      λ h. sym c.in_ok-own.was ∙ h.0,
    )
