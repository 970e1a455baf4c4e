use Rattle.mc_oblige.specs.Shown.{HasEvent}
use Rattle.mc_reduce.proofs.Judging.{evidence_shown}
use Rattle.mc_reduce.proofs.laws.shown_is_evidence.Goals as goal

pub returns : goal.returns
returns c = λ m x mode id e is. evidence_shown (HasEvent m x) m mode id e is
