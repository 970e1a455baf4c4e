use Rattle.mc_lex.proofs.Calls.{is_found, is_fault, is_inside, is_only, are_slices, are_few}
use Rattle.mc_lex.proofs.lexer.lex.Goals as goal

pub returns-clause-found : goal.returns-clause-found
returns-clause-found c = is_found c.args.dialect c.args.source.now c.scan.result c.scan.ensures

pub returns-clause-fault : goal.returns-clause-fault
returns-clause-fault c = is_fault c.args.dialect c.args.source.now c.scan.result c.scan.ensures

pub returns-clause-inside : goal.returns-clause-inside
returns-clause-inside c = is_inside c.args.dialect c.args.source.now c.scan.result c.scan.ensures

pub returns-clause-only : goal.returns-clause-only
returns-clause-only c = is_only c.args.dialect c.args.source.now c.scan.result c.scan.ensures

pub returns-clause-slices : goal.returns-clause-slices
returns-clause-slices c = are_slices c.args.dialect c.args.source.now c.scan.result c.scan.ensures

pub returns-clause-count : goal.returns-clause-count
returns-clause-count c = are_few c.args.dialect c.args.source.now c.scan.result c.scan.ensures
