use Rattle.std.proofs.Common.{refl}
use Rattle.types_scopes.proofs.Mapped.{names_taken, tags_taken}
use Rattle.types_scopes.proofs.scope.Scope.leave.Goals as goal

pub returns : goal.returns
returns c =
    rw (
      names_taken c.args.block.names c.args.self.now.names c.truncate.new.self c.truncate.ensures,
      tags_taken c.args.block.tags c.args.self.now.tags c.truncate-2.new.self c.truncate-2.ensures,
    ) refl
