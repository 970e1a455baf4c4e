use Rattle.std.proofs.Common.{ap, map, take}
use Rattle.mc_typed.specs.Views.{object_of}
use Rattle.types_rules.specs.Scopes as s
use Rattle.types_scopes.proofs.Mapped.{structures_taken}
use Rattle.types_scopes.proofs.scope.Scope.leave_declarator.Goals as goal

pub returns : goal.returns
returns c =
    let p = c.args.prototype in
    rw (structures_taken p.structures c.leave.new.self.structures.items c.truncate.new.self.items c.truncate.ensures.items)
    (ap (λ (t : s.Scope). record t {
      structures = take p.structures t.structures;
      objects = map object_of p.objects.items;
      frame = p.frame;
      arrays = p.arrays;
    }) c.leave.ensures)
