use Rattle.std.proofs.Common.{rules, arith, refl, sym, ◌<◌, ◌+◌, ◌∙◌, length, []}
use Rattle.std.proofs.lemmas.Grind.{common_steps}
use Rattle.std.proofs.lemmas.List.{map_push}
use Rattle.mc_lex.specs.Tokens.{toks_of}
use Rattle.mc_lex.specs.steps.Scanner.{scan}
use Rattle.mc_lex.proofs.NextPiece.{gap_within, token_within}
use Rattle.mc_lex.proofs.Lexing.{Turned, gives_stuck, stuck_here, gap_turned, token_turned}
use Rattle.mc_lex.proofs.lexer.scan.Goals as goal
use Rattle.mc_lex.proofs.lexer.scan.Goals.{in-Gap, in-Token+in_ok-push-in-Token}

pub split_at-requires : goal.split_at-requires
split_at-requires c =
    let some : 0 < length c.loop-turn.rest.now = first_of (search rules, grind (arith, common_steps)) in
    gap_within c.args.dialect c.loop-turn.is_first c.loop-turn.rest.now c.in-Gap.n some (sym c.next_at.ensures ∙ c.in-Gap.is)

pub split_at-requires-in-Token : goal.split_at-requires-in-Token
split_at-requires-in-Token c =
    let some : 0 < length c.loop-turn.rest.now = first_of (search rules, grind (arith, common_steps)) in
    token_within c.args.dialect c.loop-turn.is_first c.loop-turn.rest.now c.in-Token.kind c.in-Token.n some (sym c.next_at.ensures ∙ c.in-Token.is)

pub returns-in-Refused : goal.returns-in-Refused
returns-in-Refused c =
    let some : 0 < length c.loop-turn.rest.now = first_of (search rules, grind (arith, common_steps)) in
    let source = c.args.source.now in
    let whole = scan c.args.dialect (length source + 1) [] source in
    let so_far : Turned c.args.dialect whole (toks_of c.loop-turn.tokens.items) source c.loop-turn.rest.now (length source + 1) c.loop-turn._turn c.loop-turn.at c.loop-turn.is_first =
    record { same = c.loop-turn.invariant.same; within = c.loop-turn.invariant.within; rest = c.loop-turn.invariant.rest; is_first = c.loop-turn.invariant.first } in
    gives_stuck whole c.in-Refused.why c.loop-turn.at c.fault_at.result c.fault_at.ensures
    (stuck_here c.args.dialect whole (toks_of c.loop-turn.tokens.items) source c.loop-turn.rest.now (length source + 1) c.loop-turn._turn c.loop-turn.at c.loop-turn.is_first so_far (omega arith) some c.in-Refused.why c.loop-turn.at refl (sym c.next_at.ensures ∙ c.in-Refused.is))

pub loop-turn-preserved : goal.loop-turn-preserved
loop-turn-preserved c =
    let some : 0 < length c.loop-turn.rest.now = first_of (search rules, grind (arith, common_steps)) in
    let source = c.args.source.now in
    let whole = scan c.args.dialect (length source + 1) [] source in
    let after = c.match-next_at in
    let so_far : Turned c.args.dialect whole (toks_of c.loop-turn.tokens.items) source c.loop-turn.rest.now (length source + 1) c.loop-turn._turn c.loop-turn.at c.loop-turn.is_first =
    record { same = c.loop-turn.invariant.same; within = c.loop-turn.invariant.within; rest = c.loop-turn.invariant.rest; is_first = c.loop-turn.invariant.first } in
    let now : Turned c.args.dialect whole (toks_of after.tokens.items) source after.rest.now (length source + 1) (c.loop-turn._turn + 1) after.at after.is_first =
    elim c.match-next_at.branch [
      | in-Gap w ↦
          let e = sym c.next_at.ensures ∙ w.in-Gap.is in
          gap_turned c.args.dialect whole _ source c.loop-turn.rest.now (length source + 1) c.loop-turn._turn c.loop-turn.at c.loop-turn.is_first so_far (omega arith) some w.in-Gap.n
          (gap_within c.args.dialect c.loop-turn.is_first c.loop-turn.rest.now w.in-Gap.n some e) e _ _ _ _
          (first_of (search rules, grind (arith, common_steps))) (first_of (search rules, grind (arith, common_steps))) (first_of (search rules, grind (arith, common_steps))) (first_of (search rules, grind (arith, common_steps)))
      | in-Token+in_ok-push-in-Token w ↦
          let e = sym c.next_at.ensures ∙ w.in-Token.is in
          token_turned c.args.dialect whole _ source c.loop-turn.rest.now (length source + 1) c.loop-turn._turn c.loop-turn.at c.loop-turn.is_first so_far (omega arith) some w.in-Token.kind w.in-Token.n
          (token_within c.args.dialect c.loop-turn.is_first c.loop-turn.rest.now w.in-Token.kind w.in-Token.n some e) e _ _ _ _
          (first_of (search (rules, map_push), grind (arith, common_steps, map_push))) (first_of (search rules, grind (arith, common_steps))) (first_of (search rules, grind (arith, common_steps))) (first_of (search rules, grind (arith, common_steps)))
    ] in
    record { same = now.same; within = now.within; rest = now.rest; first = now.is_first }
