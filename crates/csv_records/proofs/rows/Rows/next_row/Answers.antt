use Rattle.std.proofs.Common.{◌∙◌, false, refl, sym, ap}
use Rattle.csv.specs.Records.{fields_of}
use Rattle.csv_records.specs.Left.{IsReading}
use Rattle.csv_records.proofs.Reading.{is_ready, reads_row, reads_end}
use Rattle.csv_records.proofs.rows.Rows.next_row.Goals as goal

pub returns-in-Ok-true : goal.returns-in-Ok-true
returns-in-Ok-true c =
    let live = c.if-self.false in
    let reading = rw live at c.self.invariant in
    let read = rw c.in-Ok-true.field-0-test at (c.in-Ok-true.ensures.reads (reading refl).0 (is_ready c.self.inside.reader reading)) in
    rw (← c.self.view_is, live, c.of.ensures) (reads_row c.self.inside.reader c.read_byte_record.new.self (fields_of c.read_byte_record.new.row) reading read)

pub returns-in-Ok-false : goal.returns-in-Ok-false
returns-in-Ok-false c =
    let live = c.if-self.false in
    let reading = rw live at c.self.invariant in
    let read = rw c.in-Ok-false.field-0-test at (c.in-Ok-false.ensures.reads (reading refl).0 (is_ready c.self.inside.reader reading)) in
    (rw (← c.self.view_is, live) (reads_end c.self.inside.reader c.read_byte_record.new.self (fields_of c.read_byte_record.new.row) reading read), refl)
