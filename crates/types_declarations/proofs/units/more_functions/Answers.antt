use Rattle.mc_typed.specs.Views.{function_of}
use Rattle.types_scopes.proofs.Items.{both_ok, lists_joined}
use Rattle.types_declarations.proofs.units.more_functions.Goals as goal

pub returns : goal.returns
returns c =
    both_ok (λ r fault value s. lists_joined function_of r c.args.list c.args.more s fault value)
    c.joined_lists.result c.joined_lists.ensures.fault c.joined_lists.ensures.value
