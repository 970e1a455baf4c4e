-- What is found of each statement of a function's body: one equation for each node.
use Rattle.std.specs.Prelude.{ℕ, List, [], ◌∷◌, ◌++◌, Option, Some, None, option_map}
use Rattle.mc_span.specs.declared.span.Span.{Span}
use Rattle.mc_tree.specs.Tree.{Expression, Expressions, Declaration, Statement, BlockItems, ForStart, span_of}
use Rattle.mc_tree.specs.Tree as tree
use Rattle.mc_typed.specs.Tree.{Effect, Statements}
use Rattle.mc_typed.specs.Tree as typed
use Rattle.types_faults.specs.declared.fault.FaultKind.TheVariants.{Mismatch}
use Rattle.types_faults.specs.Faults.{fault}
use Rattle.types_rules.specs.Scopes.{Scope, block}
use Rattle.types_rules.specs.Values.{Judged, judged}
use Rattle.types_rules.specs.Judgement.{judge}
use Rattle.types_rules.specs.Declarations.{both_lists, judge_declaration}
use Rattle.types_rules.specs.Statements.{Around, inside, in_loop, in_switch, closed, compound_scope, followed_judged, leaf, compound_judged, declaration_judged, effect_judged, effect_statement_judged, if_judged, if_else_judged, switch_scope, switch_judged, case_judged, default_judged, test_judged, do_judged, loop_judged, effects_start, declaration_start, return_nothing_judged, return_judged, break_judged, continue_judged}

-- ---- the parts of a `for`

abbrev pub listed : Judged Effect → Judged (List Effect)
listed x = judged x.faults (option_map (λ effect. effect ∷ []) x.value) x.scope

abbrev pub judge_effect : Expression → Scope → Judged Effect
judge_effect e s = effect_judged e (judge e s)

abbrev pub judge_clauses : Expressions → Scope → Judged (List Effect)
judge_clauses tree.no_expressions s = judged [] (Some []) s
judge_clauses (tree.expressions e rest) s =
    let x = listed (judge_effect e s) in both_lists x (judge_clauses rest x.scope)

-- the clauses of the first or third part
abbrev pub judge_part : Expression → Scope → Judged (List Effect)
judge_part (tree.Comma operands span) s = judge_clauses operands s
judge_part e s = listed (judge_effect e s)

abbrev pub judge_optional_part : Option Expression → Scope → Judged (List Effect)
judge_optional_part None s = judged [] (Some []) s
judge_optional_part (Some e) s = judge_part e s

abbrev pub judge_start : ForStart → Scope → Judged typed.ForStart
judge_start (tree.StartsLocal d) s = declaration_start (judge_declaration d s)
judge_start (tree.StartsExpression e) s = effects_start (judge_optional_part e s)

-- the controlling expression of a statement that starts at `at`
abbrev pub judge_test : ℕ → Option Expression → Scope → Judged (Option typed.Expression)
judge_test at None s = judged [] (Some None) s
judge_test at (Some e) s = test_judged at (judge e s)

-- a `while` starts with nothing and has no step
abbrev pub no_start : Scope → Judged typed.ForStart
no_start s = judged [] (Some (typed.StartEffects [])) s

abbrev pub no_step : Scope → Judged (List Effect)
no_step s = judged [] (Some []) s

abbrev pub span_of_declaration : Declaration → Span
span_of_declaration (tree.declaration all ds span) = span

-- A statement, as a list of one, or of more where labels stand before it. A statement inside a
-- selection or iteration statement is a block of its own, and so is a `for` (C17 6.8.4p3, 6.8.5p5).
abbrev mutual
  pub judge_statement : Around → Statement → Scope → Judged Statements
  judge_statement w (tree.Compound items span) s =
      compound_judged span (closed s (judge_block (inside w) items (compound_scope w s)))
  judge_statement w (tree.Null span) s = leaf [] (typed.Null span) s
  judge_statement w (tree.ExpressionStatement e span) s =
      effect_statement_judged span (judge_effect e s)
  judge_statement w (tree.If e one span) s =
      let x = judge e s in
      if_judged span x (closed x.scope (judge_statement (inside w) one (block x.scope)))
  judge_statement w (tree.IfElse e one other span) s =
      let x = judge e s in
      let y = closed x.scope (judge_statement (inside w) one (block x.scope)) in
      if_else_judged span x y (closed y.scope (judge_statement (inside w) other (block y.scope)))
  judge_statement w (tree.Switch e body span) s =
      let x = judge e s in
      switch_judged span body x
      (closed x.scope (judge_statement (in_switch w) body (switch_scope x)))
  judge_statement w (tree.While e one span) s =
      let x = no_start s in
      let y = judge_test span.start (Some e) x.scope in
      let z = no_step y.scope in
      loop_judged 5 span x y z
      (closed z.scope (judge_statement (in_loop w) one (block z.scope)))
  judge_statement w (tree.DoWhile one e span) s =
      let x = closed s (judge_statement (in_loop w) one (block s)) in
      do_judged span x (judge e x.scope)
  judge_statement w (tree.For start test step one span) s =
      let x = judge_start start (block s) in
      let y = judge_test span.start test x.scope in
      let z = judge_optional_part step y.scope in
      closed s (loop_judged 3 span x y z
      (closed z.scope (judge_statement (in_loop w) one (block z.scope))))
  judge_statement w (tree.Case e label one span) s =
      let x = case_judged label (span_of e).start (judge e s) in
      followed_judged x (judge_statement (inside w) one x.scope)
  judge_statement w (tree.Default label one span) s =
      let x = default_judged label s in
      followed_judged x (judge_statement (inside w) one x.scope)
  -- ordinary labels and `goto` are outside forms
  judge_statement w (tree.Label name one span) s =
      let x = judge_statement (inside w) one s in
      judged (fault Mismatch span.start ++ x.faults) None x.scope
  judge_statement w (tree.Goto name span) s = judged (fault Mismatch span.start) None s
  judge_statement w (tree.Break span) s = break_judged w span s
  judge_statement w (tree.Continue span) s = continue_judged w span s
  judge_statement w (tree.Return None span) s = return_nothing_judged w.result span s
  judge_statement w (tree.Return (Some e) span) s = return_judged w.result span (judge e s)

  -- the items of a compound statement
  pub judge_block : Around → BlockItems → Scope → Judged Statements
  judge_block w tree.no_block_items s = judged [] (Some typed.no_statements) s
  judge_block w (tree.local d rest) s =
      let x = declaration_judged (span_of_declaration d) (judge_declaration d s) in
      followed_judged x (judge_block w rest x.scope)
  judge_block w (tree.statement one rest) s =
      let x = judge_statement w one s in followed_judged x (judge_block w rest x.scope)
