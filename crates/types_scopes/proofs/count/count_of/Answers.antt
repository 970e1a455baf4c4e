use Rattle.std.proofs.Common.{sym}
use Rattle.types_scopes.proofs.Counts.{count_listed}
use Rattle.types_scopes.proofs.count.count_of.Goals as goal

pub returns : goal.returns
returns c = sym (count_listed c.args.items.now)
