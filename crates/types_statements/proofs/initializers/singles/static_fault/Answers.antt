use Rattle.types_statements.proofs.initializers.singles.static_fault.Goals as goal

pub returns-then-is_static : goal.returns-then-is_static
returns-then-is_static c = rw c.if-is_static.true c.fault_of_constant.ensures
