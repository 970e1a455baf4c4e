use Rattle.types_scopes.proofs.Items.{both_ok}
use Rattle.types_statements.proofs.Lists.{statements_joined}
use Rattle.types_statements.proofs.statements.lists.followed.Goals as goal

pub returns : goal.returns
returns c =
    both_ok (λ r fault value s. statements_joined r c.args.list c.args.more s fault value)
    c.joined_lists.result c.joined_lists.ensures.fault c.joined_lists.ensures.value
