-- The places of the integer expressions of a program with probes that are evaluated, in the order
-- of the text. A conversion that is implied has the place of its operand, which is listed once. The
-- 1 that `++` adds stands at the `++`. Not in the list are what is assigned to, arrays and
-- structures before `[` and `.`, and what stands in a list `{E}` that sets each cell to zero.
use Rattle.std.specs.Prelude.{true, false, List, [], ◌∷◌, Option, Some, None}
use Rattle.mc_span.specs.declared.span.Span.{Span}
use Rattle.mc_probe.specs.Tree as p
use Rattle.reread_law_rows.specs.inserted.Rows.{extent}

-- the places in a part of a tree, before those of what follows
abbrev pub Places : Type 0
Places = List Span → List Span

-- ---- the parts of an expression: `places` has the expression itself too

abbrev mutual
  pub in_place : p.Place → Places
  in_place (p.Local slot span) later = later
  in_place (p.Static slot span) later = later
  in_place (p.Parameter array stride index span) later = extent index ∷ parts index later
  in_place (p.Item array n stride index span) later =
      in_place array (extent index ∷ parts index later)
  in_place (p.Member structure i offset span) later = in_place structure later

  pub parts : p.Expression → Places
  parts (p.Constant v a span) later = later
  parts (p.Read place a) later = in_place place later
  parts (p.Unary operator a e span) later = extent e ∷ parts e later
  parts (p.Convert a true e span) later = extent e ∷ parts e later
  parts (p.Convert a false e span) later = parts e later
  parts (p.Not e span) later = extent e ∷ parts e later
  parts (p.Binary operator a e f span) later =
      extent e ∷ parts e (extent f ∷ parts f later)
  parts (p.Logic operator e f span) later = extent e ∷ parts e (extent f ∷ parts f later)
  parts (p.Choice e f g a span) later =
      extent e ∷ parts e (extent f ∷ parts f (extent g ∷ parts g later))
  parts (p.Call k a) later = in_call k later
  parts (p.Input span) later = later
  parts (p.Probe q e) later = parts e later

  pub in_structure : p.StructureValue → Places
  in_structure (p.Stored place) later = in_place place later
  in_structure (p.Returned k) later = in_call k later

  pub in_call : p.FunctionCall → Places
  in_call (p.call f given result span) later = in_arguments given later

  pub in_argument : p.Argument → Places
  in_argument (p.NumberArgument e) later = extent e ∷ parts e later
  in_argument (p.StructureArgument value copy) later = in_structure value later
  in_argument (p.ArrayArgument place n) later = in_place place later
  in_argument (p.AgainArgument array span) later = later

  pub in_arguments : p.Arguments → Places
  in_arguments p.no_arguments later = later
  in_arguments (p.arguments a rest) later = in_argument a (in_arguments rest later)

abbrev pub places : p.Expression → Places
places e later = extent e ∷ parts e later

-- ---- effects and initializers

abbrev pub in_effect : p.Effect → Places
in_effect (p.Assign target a e span) later = in_place target (places e later)
in_effect (p.Update target a operator common e span) later =
    in_place target (places e later)
in_effect (p.Copy target value n span) later = in_place target (in_structure value later)
in_effect (p.NumberEffect e whole) later = places e later
in_effect (p.StructureEffect value whole) later = in_structure value later
in_effect (p.CallEffect k) later = in_call k later
in_effect (p.Output e span) later = places e later
in_effect (p.ChoiceEffect e a b span) later = places e (in_effect a (in_effect b later))
in_effect (p.Discard a span) later = in_effect a later

abbrev pub in_effects : List p.Effect → Places
in_effects [] later = later
in_effects (a ∷ rest) later = in_effect a (in_effects rest later)

abbrev mutual
  pub in_initializer : p.Initializer → Places
  in_initializer (p.NumberInitializer e) later = places e later
  in_initializer (p.StructureInitializer value n) later = in_structure value later
  in_initializer (p.ListInitializer items n) later = in_initializers items later
  -- which evaluates nothing
  in_initializer (p.ZeroInitializer e n) later = later

  pub in_initializers : p.Initializers → Places
  in_initializers p.no_initializers later = later
  in_initializers (p.initializers i rest) later = in_initializer i (in_initializers rest later)

abbrev pub in_initial : Option p.Initializer → Places
in_initial None later = later
in_initial (Some i) later = in_initializer i later

abbrev pub in_declarators : List p.Declarator → Places
in_declarators [] later = later
in_declarators (d ∷ rest) later = in_initial d.value (in_declarators rest later)

-- ---- statements

abbrev pub in_start : p.ForStart → Places
in_start (p.StartEffects effects) later = in_effects effects later
in_start (p.StartDeclaration declarators) later = in_declarators declarators later

abbrev pub in_optional : Option p.Expression → Places
in_optional None later = later
in_optional (Some e) later = places e later

abbrev pub in_value : p.ReturnValue → Places
in_value p.ReturnNothing later = later
in_value (p.ReturnNumber e) later = places e later
in_value (p.ReturnStructure value n) later = in_structure value later

abbrev mutual
  pub in_statement : p.Statement → Places
  in_statement (p.Compound items span) later = in_statements items later
  in_statement (p.Label v span mark) later = later
  in_statement (p.Declaration declarators span bit) later = in_declarators declarators later
  in_statement (p.Null span bit) later = later
  in_statement (p.EffectStatement a span bit) later = in_effect a later
  in_statement (p.If e s keyword span bit) later = places e (in_statement s later)
  in_statement (p.IfElse e s u keyword span bit) later =
      places e (in_statement s (in_statement u later))
  in_statement (p.Switch e items keyword span bit absent) later =
      places e (in_statements items later)
  in_statement (p.For start test step s keyword span bit) later =
      in_start start (in_optional test (in_effects step (in_statement s later)))
  in_statement (p.DoWhile s e keyword span bit) later = in_statement s (places e later)
  in_statement (p.Break span bit) later = later
  in_statement (p.Continue span bit) later = later
  in_statement (p.Return value span bit exit) later = in_value value later

  pub in_statements : p.Statements → Places
  in_statements p.no_statements later = later
  in_statements (p.statements s rest) later = in_statement s (in_statements rest later)

abbrev pub in_functions : List p.Function → Places
in_functions [] later = later
in_functions (f ∷ rest) later = in_statements f.body (in_functions rest later)

abbrev pub places_of : p.Tree → List Span
places_of tree = in_functions tree.program.functions []
