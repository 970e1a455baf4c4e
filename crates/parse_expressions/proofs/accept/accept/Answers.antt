use Rattle.std.proofs.Common.{◌-◌, length, drop, rules, arith}
use Rattle.std.proofs.lemmas.Grind.{common_steps}
use Rattle.std.proofs.lemmas.List.Elements.{All-drop, All-take}
use Rattle.parse_cursor.specs.Short.{IsShort}
use Rattle.parse_expressions.proofs.accept.accept.Goals as goal

pub invariant_of-tokens : goal.invariant_of-tokens
invariant_of-tokens c =
    let tokens = c.args.tokens.now.rest.now in
    record {
      short = All-take IsShort (length tokens - 1) (drop 1 tokens) (All-drop IsShort 1 tokens c.args.tokens.now.short);
      few = first_of (search rules, grind (arith, common_steps));
    }
