use Rattle.std.proofs.Common.{◌≡◌, ◌+◌, refl}
use Rattle.types_scopes.proofs.Mapped.{names_put}
use Rattle.types_scopes.proofs.scope.Scope.enter_body.Goals as goal

pub returns-in-Ok-clause-body : goal.returns-in-Ok-clause-body
returns-in-Ok-clause-body c =
    let count : c.in-Ok.count ≡ c.args.block.names + 1 = c.in-Ok.ensures.later in
    rw (
      names_put c.args.block.names c.args.self.now.names c.insert.new.self
          (record { name = c.args.name.now.text.now; meaning = c.args.meaning }) c.in-Ok.ensures.inserted,
      count,
    ) refl
