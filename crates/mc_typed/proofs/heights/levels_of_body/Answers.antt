use Rattle.std.proofs.Common.{map, rules}
use Rattle.mc_typed.specs.Views.{statement_of, statements_from}
use Rattle.mc_typed.proofs.Limits.{limited-body}
use Rattle.mc_typed.proofs.heights.levels_of_body.Goals as goal

pub returns : goal.returns
returns c = let e = limited-body (statements_from (map statement_of c.args.body.now)) in search rules
