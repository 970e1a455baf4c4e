-- All before this one are found, and with what is found in the rest it is all.
use Rattle.mc_instrument.proofs.Leading.{Leads}
use Rattle.mc_instrument.proofs.copies.functions.leading_decisions.Given as goal

abbrev pub invariant-loop-found : goal.invariant-loop-found
invariant-loop-found l = Leads l.function l.list l.found
