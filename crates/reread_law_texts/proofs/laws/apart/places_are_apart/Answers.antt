use Rattle.reread_law_texts.specs.apart.Places.{spans_in_unit, statement_spans_in_unit}
use Rattle.reread_law_texts.proofs.Apart.Ascending.{distinct}
use Rattle.reread_law_texts.proofs.Apart.ApartStatements.{apart_text}
use Rattle.reread_law_texts.proofs.Apart.StatementsApart.{part_text}
use Rattle.reread_law_texts.proofs.laws.apart.places_are_apart.Goals as goal

pub returns-clause-expressions : goal.returns-clause-expressions
returns-clause-expressions c d tokens unit h p = distinct 0 (spans_in_unit unit) (apart_text tokens p h)

pub returns-clause-statements : goal.returns-clause-statements
returns-clause-statements c d tokens unit h p = distinct 0 (statement_spans_in_unit unit) (part_text tokens p h)
