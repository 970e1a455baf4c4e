use Rattle.std.proofs.Common.{◌∙◌, ap, List, map}
use Rattle.mc_typed.specs.declared.functions.Function.{Function}
use Rattle.mc_typed.specs.Views.{Parts}
use Rattle.mc_probe.specs.Views.{function_of}
use Rattle.mc_print.specs.Texts.{write_functions}
use Rattle.mc_print.proofs.Held.{at_pen}
use Rattle.mc_print.proofs.printing.write_all.Goals as goal

pub returns : goal.returns
returns g c = λ start first p h.
    let e = c.functions.ensures.functions ∙ ap (λ (q : Parts). q.functions) c.program.ensures.program in
    c.rest.ensures start first _ (at_pen start first _ _ _ _ _ (ap (λ (fs : List Function). write_functions (map function_of fs) p) e) (c.all_functions.ensures start first p h))
