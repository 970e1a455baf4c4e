use Rattle.std.proofs.Common.{◌-◌, length, drop, rules, arith}
use Rattle.std.proofs.lemmas.Grind.{common_steps}
use Rattle.std.proofs.lemmas.List.Elements.{All-drop, All-take}
use Rattle.parse_cursor.specs.Short.{IsShort}
use Rattle.parse_cursor.proofs.cursor.Cursor.take.Goals as goal

pub invariant_of-self : goal.invariant_of-self
invariant_of-self c =
    let tokens = c.args.self.now.rest.now in
    record {
      short = All-take IsShort (length tokens - 1) (drop 1 tokens) (All-drop IsShort 1 tokens c.args.self.now.short);
      few = first_of (search rules, grind (arith, common_steps));
    }
