-- Entries that are taken away from a table.
use Rattle.name_table.specs.Tables.{Named}
use Rattle.name_table.specs.declared.table.Taken.{Taken}

abbrev pub taken_of : {M : Type 0} → Taken M → Named M
taken_of t = record { name = t.name.now; meaning = t.meaning }
