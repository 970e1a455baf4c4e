-- The tree that the instrumented text of a program has: the program with exactly the probes that
-- the table of insertions puts. The registers of a function are numbered from 0 on: its decisions
-- in order, and then its switches in order.
use Rattle.std.specs.Prelude.{◌≡◌, ℕ, ◌+◌, Bool, true, false, if◌then◌else◌, List, [], ◌∷◌, slice_get, unwrap_or, Option, Some, None}
use Rattle.mc_typed.specs.declared.probes.Probe.TheVariants as probe
use Rattle.mc_typed.specs.declared.probes.Mark.{Mark}
use Rattle.mc_typed.specs.Tree as typed
use Rattle.mc_paths.specs.Paths.{increments}
use Rattle.decide_rules.specs.declared.role.Role.{Role}
use Rattle.decide_rules.specs.declared.role.Role.TheVariants.{Controlling, Inner, Plain}
use Rattle.decide_rules.specs.declared.operators.FullOperator.{FullOperator}
use Rattle.decide_rules.specs.Nodes.{Node, full_operator}
use Rattle.decide_rules.specs.Nodes as nodes
use Rattle.decide_rules.specs.Roots.{is_root}
use Rattle.decide_rules.specs.Conditions.{width, is_operator}
use Rattle.decide_rules.specs.Counts.{one_where, roots, roots_in}
use Rattle.mc_probe.specs.Tree as probed
use Rattle.mc_steps.specs.Points.{Points, no_points, ◌⊕◌, points_of, points_of_all, points_of_function, all_complete, has_default, initializes}
use Rattle.mc_probe.specs.Bare.{bare_expression}
use Rattle.mc_probe.specs.Maps.{Mapped, Map, IsMapOf, entry_bit, exit_bit, statement_bit, label_bit}
use Rattle.mc_probe.specs.Switches.{switches, switches_all}

-- ---- how an expression stands

-- loose, or in the tree of a decision of the function, beginning with a condition
pub data Stand : Type 0 where
  Loose : Role → Stand
  InTree : ℕ → ℕ → Stand

abbrev pub role_of : Stand → Role
role_of (Loose role) = role
role_of (InTree k c) = Inner

-- how an operand of `!`, `&&`, `||` or a full operator stands, where the next decision has the
-- number d
abbrev pub operand : Stand → ℕ → Node → Stand
operand (Loose role) d a = if is_root role a then InTree d 0 else Loose Plain
operand (InTree k c) d a = InTree k c

-- and how one of an operator that evaluates both of its operands, by the full operator that it is
abbrev pub under : Option FullOperator → Stand → Stand
under (Some operator) o = o
under None o = Loose Plain

-- after so many conditions
abbrev pub beside : Stand → ℕ → Stand
beside (Loose role) w = Loose role
beside (InTree k c) w = InTree k (c + w)

-- the number of the next decision inside an expression
abbrev pub inner : Stand → ℕ → Node → ℕ
inner (Loose role) d a = d + one_where (is_root role a)
inner (InTree k c) d a = d

-- ---- the probes of expressions

-- the first bit of a decision, and what its condition c adds where it is false
abbrev pub base_of : Option Mapped → ℕ
base_of None = 0
base_of (Some d) = d.base

abbrev pub increment_of : Option Mapped → ℕ → ℕ
increment_of None c = 0
increment_of (Some d) c = unwrap_or (slice_get (increments d.decision.tree) c) 0

-- the decisions of the map from `first` on are those of a function
module _ (m : Map) (first : ℕ) where
  abbrev pub mapped : ℕ → Option Mapped
  mapped k = slice_get m.decisions (first + k)

  -- round a condition; a true edge adds nothing
  abbrev pub round_condition : ℕ → ℕ → Node → probed.Expression → probed.Expression
  round_condition k c a x =
      if is_operator a then x else probed.Probe (probe.Condition k 0 (increment_of (mapped k) c)) x

  -- and round a root
  abbrev pub round : Stand → ℕ → Node → probed.Expression → probed.Expression
  round (Loose role) d a x =
      if is_root role a
      then probed.Probe (probe.Decision d (base_of (mapped d))) (round_condition d 0 a x)
      else x
  round (InTree k c) d a x = round_condition k c a x

  -- `inside` puts the probes of the parts, from how the operands of `!`, `&&`, `||` and the full
  -- operators stand and the number of the next decision.
  abbrev pub wrap : Stand → ℕ → Node → (Stand → ℕ → probed.Expression) → probed.Expression
  wrap st d a inside = round st d a (inside (operand st d a) (inner st d a))

  abbrev pub plain_roots : typed.Expression → ℕ
  plain_roots e = roots Plain (nodes.expression e)

  abbrev pub test_roots : typed.Expression → ℕ
  test_roots e = roots Controlling (nodes.expression e)

  -- `d` is the number of the next decision.
  abbrev mutual
    pub put_place : ℕ → typed.Place → probed.Place
    put_place d (typed.Local slot span) = probed.Local slot span
    put_place d (typed.Static slot span) = probed.Static slot span
    put_place d (typed.Parameter array stride index span) =
        probed.Parameter array stride (put (Loose Plain) d index) span
    put_place d (typed.Item array k stride index span) =
        probed.Item (put_place d array) k stride
        (put (Loose Plain) (d + roots Plain (nodes.place array)) index) span
    put_place d (typed.Member structure i offset span) = probed.Member (put_place d structure) i
        offset span

    pub put : Stand → ℕ → typed.Expression → probed.Expression
    put st d (typed.Constant v a span) =
        wrap st d (nodes.expression (typed.Constant v a span)) (λ o d. probed.Constant v a span)
    put st d (typed.Read place a) =
        wrap st d (nodes.expression (typed.Read place a)) (λ o d. probed.Read (put_place d place) a)
    put st d (typed.Unary operator a e span) =
        wrap st d (nodes.expression (typed.Unary operator a e span))
        (λ o d. probed.Unary operator a (put (Loose Plain) d e) span)
    put st d (typed.Convert a written e span) =
        wrap st d (nodes.expression (typed.Convert a written e span))
        (λ o d. probed.Convert a written (put (Loose Plain) d e) span)
    put st d (typed.Not e span) =
        wrap st d (nodes.expression (typed.Not e span)) (λ o d. probed.Not (put o d e) span)
    put st d (typed.Binary operator a e f span) =
        wrap st d (nodes.expression (typed.Binary operator a e f span))
        (λ o d. probed.Binary operator a (put (under (full_operator operator e f) o) d e)
        (put (beside (under (full_operator operator e f) o) (width (nodes.expression e)))
        (d + roots (role_of (under (full_operator operator e f) o)) (nodes.expression e)) f) span)
    put st d (typed.Logic operator e f span) =
        wrap st d (nodes.expression (typed.Logic operator e f span))
        (λ o d. probed.Logic operator (put o d e)
        (put (beside o (width (nodes.expression e))) (d + roots (role_of o) (nodes.expression e)) f)
        span)
    put st d (typed.Choice e f g a span) =
        wrap st d (nodes.expression (typed.Choice e f g a span))
        (λ o d. probed.Choice (put (Loose Controlling) d e) (put (Loose Plain) (d + test_roots e) f)
        (put (Loose Plain) (d + test_roots e + plain_roots f) g) a span)
    put st d (typed.Call k a) = wrap st d (nodes.expression (typed.Call k a))
        (λ o d. probed.Call (put_call d k) a)
    put st d (typed.Input span) = wrap st d (nodes.expression (typed.Input span))
        (λ o d. probed.Input span)

    pub put_structure : ℕ → typed.StructureValue → probed.StructureValue
    put_structure d (typed.Stored place) = probed.Stored (put_place d place)
    put_structure d (typed.Returned k) = probed.Returned (put_call d k)

    pub put_call : ℕ → typed.FunctionCall → probed.FunctionCall
    put_call d (typed.call f given result span) = probed.call f (put_arguments d given) result span

    pub put_argument : ℕ → typed.Argument → probed.Argument
    put_argument d (typed.NumberArgument e) = probed.NumberArgument (put (Loose Plain) d e)
    put_argument d (typed.StructureArgument value copy) =
        probed.StructureArgument (put_structure d value) copy
    put_argument d (typed.ArrayArgument place k) = probed.ArrayArgument (put_place d place) k
    put_argument d (typed.AgainArgument array span) = probed.AgainArgument array span

    pub put_arguments : ℕ → typed.Arguments → probed.Arguments
    put_arguments d typed.no_arguments = probed.no_arguments
    put_arguments d (typed.arguments a rest) =
        probed.arguments (put_argument d a)
        (put_arguments (d + roots Plain (nodes.argument a)) rest)

  abbrev pub put_plain : ℕ → typed.Expression → probed.Expression
  put_plain d e = put (Loose Plain) d e

  abbrev pub put_test : ℕ → typed.Expression → probed.Expression
  put_test d e = put (Loose Controlling) d e

  abbrev pub place_roots : typed.Place → ℕ
  place_roots place = roots Plain (nodes.place place)

  abbrev pub put_effect : ℕ → typed.Effect → probed.Effect
  put_effect d (typed.Assign target a e span) =
      probed.Assign (put_place d target) a (put_plain (d + place_roots target) e) span
  put_effect d (typed.Update target a operator common e span) =
      probed.Update (put_place d target) a operator common (put_plain (d + place_roots target) e)
      span
  put_effect d (typed.Copy target value k span) =
      probed.Copy (put_place d target) (put_structure (d + place_roots target) value) k span
  put_effect d (typed.NumberEffect e whole) = probed.NumberEffect (put_plain d e) whole
  put_effect d (typed.StructureEffect value whole) = probed.StructureEffect
      (put_structure d value) whole
  put_effect d (typed.CallEffect k) = probed.CallEffect (put_call d k)
  put_effect d (typed.Output e span) = probed.Output (put_plain d e) span
  put_effect d (typed.ChoiceEffect e a b span) =
      probed.ChoiceEffect (put_test d e) (put_effect (d + test_roots e) a)
      (put_effect (d + test_roots e + roots Plain (nodes.effect a)) b) span
  put_effect d (typed.Discard a span) = probed.Discard (put_effect d a) span

  abbrev pub put_effects : ℕ → List typed.Effect → List probed.Effect
  put_effects d [] = []
  put_effects d (a ∷ rest) = put_effect d a ∷ put_effects (d + roots Plain (nodes.effect a)) rest

  abbrev mutual
    pub put_initializer : ℕ → typed.Initializer → probed.Initializer
    put_initializer d (typed.NumberInitializer e) = probed.NumberInitializer (put_plain d e)
    put_initializer d (typed.StructureInitializer value k) =
        probed.StructureInitializer (put_structure d value) k
    put_initializer d (typed.ListInitializer items k) = probed.ListInitializer
        (put_initializers d items) k
    -- which evaluates nothing
    put_initializer d (typed.ZeroInitializer e k) = probed.ZeroInitializer (bare_expression e) k

    pub put_initializers : ℕ → typed.Initializers → probed.Initializers
    put_initializers d typed.no_initializers = probed.no_initializers
    put_initializers d (typed.initializers i rest) =
        probed.initializers (put_initializer d i)
        (put_initializers (d + roots Plain (nodes.initializer i)) rest)

  abbrev pub put_initial : ℕ → Option typed.Initializer → Option probed.Initializer
  put_initial d None = None
  put_initial d (Some i) = Some (put_initializer d i)

  abbrev pub put_declarators : ℕ → List typed.Declarator → List probed.Declarator
  put_declarators d [] = []
  put_declarators d (x ∷ rest) =
      record { slot = x.slot; cells = x.cells; value = put_initial d x.value }
      ∷ put_declarators (d + roots Plain (nodes.initial x.value)) rest

  abbrev pub put_start : ℕ → typed.ForStart → probed.ForStart
  put_start d (typed.StartEffects effects) = probed.StartEffects (put_effects d effects)
  put_start d (typed.StartDeclaration declarators) = probed.StartDeclaration
      (put_declarators d declarators)

  abbrev pub put_optional : ℕ → Option typed.Expression → Option probed.Expression
  put_optional d None = None
  put_optional d (Some e) = Some (put_test d e)

  abbrev pub put_return : ℕ → typed.ReturnValue → probed.ReturnValue
  put_return d typed.ReturnNothing = probed.ReturnNothing
  put_return d (typed.ReturnNumber e) = probed.ReturnNumber (put_plain d e)
  put_return d (typed.ReturnStructure value k) = probed.ReturnStructure (put_structure d value) k

  -- ---- statements

  -- the bits of the next exit, counted statement and label, the number of the next decision, and
  -- the register of the next switch
  pub record At : Type 0 where
    pub exit : ℕ
    pub statement : ℕ
    pub label : ℕ
    pub decision : ℕ
    pub switch : ℕ

  -- after so many decisions
  abbrev pub decided : ℕ → At → At
  decided k at = record at { decision = at.decision + k }

  -- after a statement
  abbrev pub past : typed.Statement → At → At
  past s at = record {
    exit = at.exit + (points_of s).exits;
    statement = at.statement + (points_of s).statements;
    label = at.label + (points_of s).labels;
    decision = at.decision + roots Plain (nodes.statement s);
    switch = at.switch + switches s;
  }

  -- inside a counted statement, after its own probe
  abbrev pub within : At → At
  within at = record at { statement = at.statement + 1 }

  -- the items of a `switch`
  abbrev pub in_switch : Bool → At → At
  in_switch has at =
      record at {
        statement = at.statement + 1;
        label = if has then at.label else at.label + 1;
        switch = at.switch + 1;
      }

  abbrev pub mark_unless_default : Bool → At → Option Mark
  mark_unless_default true at = None
  mark_unless_default false at = Some (record { register = at.switch; bit = at.label })

  -- `r` is the register of the switch in whose body the statement stands.
  abbrev mutual
    pub put_statement : ℕ → At → typed.Statement → probed.Statement
    put_statement r at (typed.Compound items span) = probed.Compound (put_statements r at items)
        span
    put_statement r at (typed.Label v span) =
        probed.Label v span (Some (record { register = r; bit = at.label }))
    put_statement r at (typed.Declaration declarators span) =
        probed.Declaration (put_declarators at.decision declarators) span
        (if initializes declarators then Some at.statement else None)
    put_statement r at (typed.Null span) = probed.Null span (Some at.statement)
    put_statement r at (typed.EffectStatement effect span) =
        probed.EffectStatement (put_effect at.decision effect) span (Some at.statement)
    put_statement r at (typed.If e s keyword span) =
        probed.If (put_test at.decision e) (put_statement r (decided (test_roots e) (within at)) s)
        keyword span (Some at.statement)
    put_statement r at (typed.IfElse e s u keyword span) =
        probed.IfElse (put_test at.decision e)
        (put_statement r (decided (test_roots e) (within at)) s)
        (put_statement r (past s (decided (test_roots e) (within at))) u)
        keyword span (Some at.statement)
    put_statement r at (typed.Switch e items keyword span) =
        probed.Switch (probed.Probe (probe.Switch at.switch) (put_plain at.decision e))
        (put_statements at.switch (decided (plain_roots e) (in_switch (has_default items) at))
        items)
        keyword span (Some at.statement) (mark_unless_default (has_default items) at)
    put_statement r at (typed.For start test step s keyword span) =
        probed.For (put_start at.decision start)
        (put_optional (at.decision + roots Plain (nodes.start start)) test)
        (put_effects (at.decision + roots Plain (nodes.start start)
        + roots Plain (nodes.optional_test test)) step)
        (put_statement r (decided (roots Plain (nodes.start start)
        + roots Plain (nodes.optional_test test) + roots_in (nodes.effects step)) (within at)) s)
        keyword span (Some at.statement)
    put_statement r at (typed.DoWhile s e keyword span) =
        probed.DoWhile (put_statement r (within at) s)
        (put_test (at.decision + roots Plain (nodes.statement s)) e)
        keyword span (Some at.statement)
    put_statement r at (typed.Break span) = probed.Break span (Some at.statement)
    put_statement r at (typed.Continue span) = probed.Continue span (Some at.statement)
    put_statement r at (typed.Return value span) =
        probed.Return (put_return at.decision value) span (Some at.statement) (Some at.exit)

    pub put_statements : ℕ → At → typed.Statements → probed.Statements
    put_statements r at typed.no_statements = probed.no_statements
    put_statements r at (typed.statements s rest) =
        probed.statements (put_statement r at s) (put_statements r (past s at) rest)

-- ---- functions and programs

abbrev pub decisions_in : typed.Function → ℕ
decisions_in f = roots Plain (nodes.function f)

-- the function with this number, before which so many decisions and other points stand
abbrev pub put_function : Map → ℕ → ℕ → Points → typed.Function → probed.Function
put_function m number decisions points f = record {
  name = f.name;
  name_span = f.name_span;
  parameters = f.parameters;
  result = f.result;
  objects = f.objects;
  body = put_statements m decisions 0 (record {
    exit = exit_bit m points.exits;
    statement = statement_bit m points.statements;
    label = label_bit m points.labels;
    decision = 0;
    switch = decisions_in f;
  }) f.body;
  closing = f.closing;
  registers = decisions_in f + switches_all f.body;
  entry = Some (entry_bit m number);
  exit =
      if all_complete f.body
      then Some (exit_bit m (points.exits + (points_of_all f.body).exits))
      else None;
}

abbrev pub put_functions : Map → ℕ → ℕ → Points → List typed.Function → List probed.Function
put_functions m number decisions points [] = []
put_functions m number decisions points (f ∷ rest) =
    put_function m number decisions points f
    ∷ put_functions m (number + 1) (decisions + decisions_in f) (points ⊕ points_of_function f) rest

-- the program with its probes
abbrev pub instrumented : Map → typed.Program → probed.Tree
instrumented m program = record {
  program = record {
    functions = put_functions m 0 0 no_points program.functions;
    statics = program.statics;
    structures = program.structures;
  };
  bits = m.bits;
}

-- the tree has exactly the probes that the table puts on this program, and this is its map
pub record IsInstrumented (program : typed.Program) (m : Map) (tree : probed.Tree) : Type 0 where
  pub is_map : IsMapOf program m
  pub is_tree : tree ≡ instrumented m program
