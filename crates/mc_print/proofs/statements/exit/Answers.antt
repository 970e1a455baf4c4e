use Rattle.std.proofs.Common.{ap}
use Rattle.mc_typed.specs.declared.statements.ReturnValue.{ReturnValue}
use Rattle.mc_probe.specs.Views.{return_value_of}
use Rattle.mc_print.specs.Texts.{write_exit}
use Rattle.mc_print.proofs.Held.{by}
use Rattle.mc_print.proofs.statements.exit.Goals as goal

pub returns-in-Number : goal.returns-in-Number
returns-in-Number g c = λ start first p h.
    by _ _ (ap (λ (v : ReturnValue). write_exit c.args.bit c.args.span (return_value_of v)) c.in-Number.is) start first p _ _ _
    (c.close_value.ensures start first _ (c.expression.ensures start first _ (c.open_value.ensures start first p h)))

pub returns-in-Structure : goal.returns-in-Structure
returns-in-Structure g c = λ start first p h.
    by _ _ (ap (λ (v : ReturnValue). write_exit c.args.bit c.args.span (return_value_of v)) c.in-Structure.is) start first p _ _ _
    (c.close_value-in-Structure.ensures start first _ (c.structure.ensures start first _ (c.open_value-in-Structure.ensures start first p h)))
