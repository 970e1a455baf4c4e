use Rattle.std.proofs.Common.{◌≡◌}
use Rattle.parse_cursor.proofs.cursor.Cursor.go_back.Given as goal

abbrev pub invariant-loop-turn : goal.invariant-loop-turn
invariant-loop-turn l = l.self.names ≡ l.fn.self.names
