use Rattle.laws_reread_cases.proofs.probes.for_counts_no_declaration.Goals as goal

pub returns : goal.returns
returns c = c.declaration_of_a_block.ensures.1
