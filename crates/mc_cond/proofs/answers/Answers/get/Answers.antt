use Rattle.std.proofs.Common.{take, arith, ap, None, Some}
use Rattle.std.proofs.lemmas.List.{length-take-le, get_or-take}
use Rattle.std.proofs.lemmas.Option.{slice_get-get_or}
use Rattle.mc_cond.proofs.answers.Answers.get.Goals as goal

pub returns : goal.returns
returns c =
    let within = rw (← c.self.view_is, length-take-le c.self.inside.len c.self.inside.given (omega arith)) at c.requires in
    rw (← c.self.view_is, slice_get-get_or (take c.self.inside.len c.self.inside.given) c.args.k None (rw (← c.self.view_is) at c.requires))
    (ap Some (get_or-take c.self.inside.len c.self.inside.given c.args.k None within))
