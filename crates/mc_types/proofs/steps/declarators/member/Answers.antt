use Rattle.std.proofs.Common.{false}
use Rattle.types_rules.specs.Judgement.{judge_declarators, judge_specifiers, typed_by}
use Rattle.types_scopes.specs.Types.{type_of}
use Rattle.types_scopes.specs.Found.{judged_of}
use Rattle.types_declarations.specs.Declarations.{listed_members}
use Rattle.mc_types.proofs.Exits.{at_ok}
use Rattle.mc_types.proofs.Parts.{listed_after}
use Rattle.mc_types.proofs.steps.declarators.member.Goals as goal

pub returns-in-Ok : goal.returns-in-Ok
returns-in-Ok c =
    λ all list span before ms p q u h k.
    listed_after (typed_by span.start all (judge_specifiers false all p)) (judged_of type_of c.args.of q) (λ v w. judge_declarators v list before w) (listed_members c.in-Ok.fault ms u) _ h (at_ok c.args.fault c.in-Ok.fault _ c.in-Ok.is k) c.first_fault.ensures
