use Rattle.reread_law_texts.specs.apart.Places.{spans_in_unit, statement_spans_in_unit}
use Rattle.reread_law_texts.proofs.Apart.Ascending.{bytes}
use Rattle.reread_law_texts.proofs.Apart.ApartStatements.{apart_text}
use Rattle.reread_law_texts.proofs.Apart.StatementsApart.{part_text}
use Rattle.reread_law_texts.proofs.laws.apart.places_have_bytes.Goals as goal

pub returns : goal.returns
returns c d tokens unit h p =
    (bytes 0 (spans_in_unit unit) (apart_text tokens p h), bytes 0 (statement_spans_in_unit unit) (part_text tokens p h))
