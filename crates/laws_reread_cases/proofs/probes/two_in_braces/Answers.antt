use Rattle.laws_reread_cases.proofs.probes.two_in_braces.Goals as goal

pub returns : goal.returns
returns c = c.one_statement_in_braces.ensures.1
