use Rattle.std.proofs.Common.{◌≡◌, get_or, subst, sym}
use Rattle.mc_typed.specs.declared.functions.Function.{Function}
use Rattle.mc_typed.specs.Views.{program_of, function_of}
use Rattle.mc_typed.specs.Sound.{IsFunction}
use Rattle.mc_typed.proofs.Numbered.{function-sound}
use Rattle.mc_typed.proofs.programs.Program.function.Goals as goal

pub returns-clause-sound : goal.returns-clause-sound
returns-clause-sound c =
    let p = c.args.self.now in
    let f = c.index-functions-function.result in
    let e : f ≡ get_or p.functions c.args.function f = cc in
    subst (λ (x : Function). IsFunction (program_of p) (function_of x)) (sym e) (function-sound (program_of p) p.functions c.args.function f c.requires c.functions.ensures.sound.functions)
