use Rattle.parse_expressions.proofs.knot.+knot.Given as goal

abbrev pub decreases-expression : goal.decreases-expression
decreases-expression l = l.room

abbrev pub decreases-read_specifiers : goal.decreases-read_specifiers
decreases-read_specifiers l = l.room
