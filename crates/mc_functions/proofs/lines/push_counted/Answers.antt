use Rattle.std.proofs.Common.{◌∙◌, ℕ, ◌++◌, ap}
use Rattle.mc_functions.specs.Seen.{bytes_of}
use Rattle.mc_functions.specs.Text.{head_line, places_for, row_lines}
use Rattle.mc_functions.proofs.Writing.{head_then}
use Rattle.mc_functions.proofs.lines.push_counted.Goals as goal

pub returns : goal.returns
returns c =
    head_then (bytes_of c.args.lines.now.items) (bytes_of c.push_head.new.lines.items) (bytes_of c.push_row.new.lines.items) (head_line c.args.places.now.text.now c.args.entry.now)
    (row_lines (places_for c.args.row) c.args.row) c.in_ok-push_head.ensures
    (c.in_ok-push_row.ensures ∙ ap (λ (n : ℕ). bytes_of c.push_head.new.lines.items ++ row_lines n c.args.row) c.in_ok-count.ensures)
