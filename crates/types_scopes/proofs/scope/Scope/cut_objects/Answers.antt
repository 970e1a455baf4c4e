use Rattle.std.proofs.Common.{refl}
use Rattle.types_scopes.proofs.Mapped.{objects_taken}
use Rattle.types_scopes.proofs.scope.Scope.cut_objects.Goals as goal

pub returns : goal.returns
returns c =
    rw (objects_taken c.args.before.count c.args.self.now.objects.items c.truncate.new.self.items c.truncate.ensures.items) refl
