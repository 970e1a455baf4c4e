-- The probes of a text in the program that the text has without them: a walk over the program in
-- the order of the text, in which each part takes from the front the probes that stand at its
-- place. What no part takes stays at the front, and nothing after it is taken: it has a fault, and
-- the others are judged by a walk without it.
use Rattle.std.specs.Prelude.{ℕ, zero, suc, ◌-◌, ◌&&◌, Bool, true, false, List, [], ◌∷◌, length}
use Rattle.std.specs.Prelude.{take, drop, remove, Option}
use Rattle.std.specs.Prelude.{Some, None, unwrap_or, Result, Ok, Err, if◌then◌else◌}
use Rattle.mc_span.specs.declared.span.Span.{Span}
use Rattle.mc_value.specs.declared.int_type.IntType.{IntType}
use Rattle.mc_typed.specs.declared.probes.Probe.TheVariants as probe
use Rattle.mc_typed.specs.declared.probes.Mark.{Mark}
use Rattle.mc_typed.specs.Sound.{type_of}
use Rattle.mc_typed.specs.Tree.{span_of}
use Rattle.mc_typed.specs.Tree as typed
use Rattle.decide_rules.specs.Nodes.{is_flag}
use Rattle.mc_steps.specs.Points.{has_default, initializes}
use Rattle.mc_probe.specs.Bare.{bare_expression}
use Rattle.mc_probe.specs.Tree as probed
use Rattle.reread_pieces.specs.declared.piece.What.{What}
use Rattle.reread_pieces.specs.declared.piece.What.TheVariants as what
use Rattle.reread_pieces.specs.declared.placed.Placed.{Placed}
use Rattle.reread_put_back.specs.Rows.{declaration_bit, default_mark, entry_bit, exit_bit, label_mark}
use Rattle.reread_put_back.specs.Rows.{register_count, return_bit, statement_bit}
use Rattle.reread_put_back.specs.Pens.{Pen, Walk, begun, each, first_of, gives, go_on, is_same, noted, put}
use Rattle.reread_put_back.specs.Pens.{◌>>=◌}
use Rattle.reread_put_back.specs.Sums.{end_of_paths, paths}

-- ---- probes round expressions

abbrev pub is_round : What → Bool
is_round (what.Decision register base) = true
is_round (what.Condition register on_true on_false) = true
is_round (what.Switch register) = true
is_round _ = false

-- round an implied conversion of this type
abbrev pub is_outer : IntType → What → Bool
is_outer a (what.Condition register on_true on_false) = is_flag a
is_outer a (what.Switch register) = true
is_outer a _ = false

-- An implied conversion has the place of its operand. `MCDC_W` stands round it, since the value of
-- a `switch` is promoted (C17 6.8.4.2p5); `MCDC_D` inside it, since a decision gives its value
-- before that is converted; `MCDC_C` inside it too, unless the operand is a `_Bool`, which `&`, `|`
-- and `^` promote (C17 6.5.10p3, 6.5.11p3, 6.5.12p3). A `_Bool` that is converted elsewhere has its
-- probe at the same side.
abbrev pub has_round : typed.Expression → What → Bool
has_round (typed.Convert a false e span) = is_outer (type_of e)
has_round _ = is_round

abbrev pub is_there : typed.Expression → Placed → Bool
is_there e q = is_same q.span (span_of e) && has_round e q.what

-- how many probes at the front stand round an expression
abbrev pub leading : typed.Expression → List Placed → ℕ
leading e [] = 0
leading e (q ∷ rest) = if is_there e q then suc (leading e rest) else 0

abbrev pub round : What → probed.Expression → probed.Expression
round (what.Decision register base) x = probed.Probe (probe.Decision register base) x
round (what.Condition register on_true on_false) x = probed.Probe
    (probe.Condition register on_true on_false) x
round (what.Switch register) x = probed.Probe (probe.Switch register) x
round _ x = x

-- one more than the greatest bit that the probe reaches round this operand
abbrev pub end_round : What → probed.Expression → ℕ
end_round (what.Decision register base) x = end_of_paths base (paths register x)
end_round _ x = 0

-- the first probe is the outermost
abbrev pub surrounded : ℕ → List Placed → probed.Expression × Pen → probed.Expression × Pen
surrounded registers [] done = done
surrounded registers (q ∷ rest) done =
    go_on (surrounded registers rest done)
    (λ x p. (round q.what x, noted registers q (end_round q.what x) p))

-- the probes round an expression, whose parts `inside` gives
abbrev pub around : ℕ → typed.Expression → Walk probed.Expression → Walk probed.Expression
around registers e inside p =
    surrounded registers (take (leading e p.left) p.left)
    (inside (record p { left = drop (leading e p.left) p.left }))

-- ---- the parts of a function with so many registers

-- what a `for` has beside its body
pub record Head : Type 0 where
  pub start : probed.ForStart
  pub test : Option probed.Expression
  pub step : List probed.Effect

module _ (registers : ℕ) where
  abbrev mutual
    pub back_place : typed.Place → Walk probed.Place
    back_place (typed.Local slot span) = gives (probed.Local slot span)
    back_place (typed.Static slot span) = gives (probed.Static slot span)
    back_place (typed.Parameter array stride index span) = do
      i ← back index
      gives (probed.Parameter array stride i span)
    back_place (typed.Item array n stride index span) = do
      a ← back_place array
      i ← back index
      gives (probed.Item a n stride i span)
    back_place (typed.Member structure i offset span) = do
      s ← back_place structure
      gives (probed.Member s i offset span)

    pub back : typed.Expression → Walk probed.Expression
    back (typed.Constant v a span) =
        around registers (typed.Constant v a span) (gives (probed.Constant v a span))
    back (typed.Read place a) = around registers (typed.Read place a) (do
      x ← back_place place
      gives (probed.Read x a))
    back (typed.Unary operator a e span) =
        around registers (typed.Unary operator a e span) (do
          x ← back e
          gives (probed.Unary operator a x span))
    back (typed.Convert a written e span) =
        around registers (typed.Convert a written e span) (do
          x ← back e
          gives (probed.Convert a written x span))
    back (typed.Not e span) = around registers (typed.Not e span) (do
      x ← back e
      gives (probed.Not x span))
    back (typed.Binary operator a e f span) =
        around registers (typed.Binary operator a e f span) (do
          x ← back e
          y ← back f
          gives (probed.Binary operator a x y span))
    back (typed.Logic operator e f span) =
        around registers (typed.Logic operator e f span) (do
          x ← back e
          y ← back f
          gives (probed.Logic operator x y span))
    back (typed.Choice e f g a span) =
        around registers (typed.Choice e f g a span) (do
          x ← back e
          y ← back f
          z ← back g
          gives (probed.Choice x y z a span))
    back (typed.Call k a) = around registers (typed.Call k a) (do
      c ← back_call k
      gives (probed.Call c a))
    back (typed.Input span) =
        around registers (typed.Input span) (gives (probed.Input span))

    pub back_structure : typed.StructureValue → Walk probed.StructureValue
    back_structure (typed.Stored place) = do
      x ← back_place place
      gives (probed.Stored x)
    back_structure (typed.Returned k) = do
      c ← back_call k
      gives (probed.Returned c)

    pub back_call : typed.FunctionCall → Walk probed.FunctionCall
    back_call (typed.call f given result span) = do
      xs ← back_arguments given
      gives (probed.call f xs result span)

    pub back_argument : typed.Argument → Walk probed.Argument
    back_argument (typed.NumberArgument e) = do
      x ← back e
      gives (probed.NumberArgument x)
    back_argument (typed.StructureArgument value copy) = do
      x ← back_structure value
      gives (probed.StructureArgument x copy)
    back_argument (typed.ArrayArgument place n) = do
      x ← back_place place
      gives (probed.ArrayArgument x n)
    back_argument (typed.AgainArgument array span) = gives (probed.AgainArgument array span)

    pub back_arguments : typed.Arguments → Walk probed.Arguments
    back_arguments typed.no_arguments = gives probed.no_arguments
    back_arguments (typed.arguments a rest) = do
      x ← back_argument a
      xs ← back_arguments rest
      gives (probed.arguments x xs)

  abbrev pub back_effect : typed.Effect → Walk probed.Effect
  back_effect (typed.Assign target a e span) = do
    t ← back_place target
    x ← back e
    gives (probed.Assign t a x span)
  back_effect (typed.Update target a operator common e span) = do
    t ← back_place target
    x ← back e
    gives (probed.Update t a operator common x span)
  back_effect (typed.Copy target value n span) = do
    t ← back_place target
    x ← back_structure value
    gives (probed.Copy t x n span)
  back_effect (typed.NumberEffect e whole) = do
    x ← back e
    gives (probed.NumberEffect x whole)
  back_effect (typed.StructureEffect value whole) = do
    x ← back_structure value
    gives (probed.StructureEffect x whole)
  back_effect (typed.CallEffect k) = do
    c ← back_call k
    gives (probed.CallEffect c)
  back_effect (typed.Output e span) = do
    x ← back e
    gives (probed.Output x span)
  back_effect (typed.ChoiceEffect e a b span) = do
    x ← back e
    y ← back_effect a
    z ← back_effect b
    gives (probed.ChoiceEffect x y z span)
  back_effect (typed.Discard a span) = do
    x ← back_effect a
    gives (probed.Discard x span)

  abbrev mutual
    pub back_initializer : typed.Initializer → Walk probed.Initializer
    back_initializer (typed.NumberInitializer e) = do
      x ← back e
      gives (probed.NumberInitializer x)
    back_initializer (typed.StructureInitializer value n) = do
      x ← back_structure value
      gives (probed.StructureInitializer x n)
    back_initializer (typed.ListInitializer items n) = do
      xs ← back_initializers items
      gives (probed.ListInitializer xs n)
    -- which evaluates nothing
    back_initializer (typed.ZeroInitializer e n) = gives
        (probed.ZeroInitializer (bare_expression e) n)

    pub back_initializers : typed.Initializers → Walk probed.Initializers
    back_initializers typed.no_initializers = gives probed.no_initializers
    back_initializers (typed.initializers i rest) = do
      x ← back_initializer i
      xs ← back_initializers rest
      gives (probed.initializers x xs)

  abbrev pub back_initial : Option typed.Initializer → Walk (Option probed.Initializer)
  back_initial None = gives None
  back_initial (Some i) = do
    x ← back_initializer i
    gives (Some x)

  abbrev pub back_declarator : typed.Declarator → Walk probed.Declarator
  back_declarator d = do
    x ← back_initial d.value
    gives (record { slot = d.slot; cells = d.cells; value = x })

  abbrev pub back_start : typed.ForStart → Walk probed.ForStart
  back_start (typed.StartEffects effects) = do
    xs ← each back_effect effects
    gives (probed.StartEffects xs)
  back_start (typed.StartDeclaration declarators) = do
    xs ← each back_declarator declarators
    gives (probed.StartDeclaration xs)

  abbrev pub back_test : Option typed.Expression → Walk (Option probed.Expression)
  back_test None = gives None
  back_test (Some e) = do
    x ← back e
    gives (Some x)

  abbrev pub back_head : typed.ForStart → Option typed.Expression → List typed.Effect → Walk Head
  back_head start test step = do
    first ← back_start start
    x ← back_test test
    ys ← each back_effect step
    gives (record { start = first; test = x; step = ys })

  abbrev pub back_return : typed.ReturnValue → Walk probed.ReturnValue
  back_return typed.ReturnNothing = gives probed.ReturnNothing
  back_return (typed.ReturnNumber e) = do
    x ← back e
    gives (probed.ReturnNumber x)
  back_return (typed.ReturnStructure value n) = do
    x ← back_structure value
    gives (probed.ReturnStructure x n)

  -- of a declaration that initializes something
  abbrev pub back_declared : Bool → Span → Walk (Option ℕ)
  back_declared true span = put registers declaration_bit span
  back_declared false span = gives None

  -- of a `switch` without `default`
  abbrev pub back_absent : Bool → Span → Walk (Option Mark)
  back_absent true span = gives None
  back_absent false span = put registers default_mark span

  abbrev mutual
    pub back_statement : typed.Statement → Walk probed.Statement
    back_statement (typed.Compound items span) = do
      xs ← back_statements items
      gives (probed.Compound xs span)
    back_statement (typed.Label v span) = do
      mark ← put registers label_mark span
      gives (probed.Label v span mark)
    back_statement (typed.Declaration declarators span) = do
      bit ← back_declared (initializes declarators) span
      xs ← each back_declarator declarators
      gives (probed.Declaration xs span bit)
    back_statement (typed.Null span) = do
      bit ← put registers statement_bit span
      gives (probed.Null span bit)
    back_statement (typed.EffectStatement effect span) = do
      bit ← put registers statement_bit span
      x ← back_effect effect
      gives (probed.EffectStatement x span bit)
    back_statement (typed.If e s keyword span) = do
      bit ← put registers statement_bit span
      x ← back e
      y ← back_statement s
      gives (probed.If x y keyword span bit)
    back_statement (typed.IfElse e s u keyword span) = do
      bit ← put registers statement_bit span
      x ← back e
      y ← back_statement s
      z ← back_statement u
      gives (probed.IfElse x y z keyword span bit)
    back_statement (typed.Switch e items keyword span) = do
      bit ← put registers statement_bit span
      x ← back e
      ys ← back_statements items
      absent ← back_absent (has_default items) span
      gives (probed.Switch x ys keyword span bit absent)
    back_statement (typed.For start test step s keyword span) = do
      bit ← put registers statement_bit span
      head ← back_head start test step
      x ← back_statement s
      gives (probed.For head.start head.test head.step x keyword span bit)
    back_statement (typed.DoWhile s e keyword span) = do
      bit ← put registers statement_bit span
      x ← back_statement s
      y ← back e
      gives (probed.DoWhile x y keyword span bit)
    back_statement (typed.Break span) = do
      bit ← put registers statement_bit span
      gives (probed.Break span bit)
    back_statement (typed.Continue span) = do
      bit ← put registers statement_bit span
      gives (probed.Continue span bit)
    back_statement (typed.Return value span) = do
      bit ← put registers statement_bit span
      x ← back_return value
      exit ← put registers return_bit span
      gives (probed.Return x span bit exit)

    pub back_statements : typed.Statements → Walk probed.Statements
    back_statements typed.no_statements = gives probed.no_statements
    back_statements (typed.statements s rest) = do
      x ← back_statement s
      xs ← back_statements rest
      gives (probed.statements x xs)

-- ---- functions and programs

abbrev pub back_function : typed.Function → Walk probed.Function
back_function f = do
  count ← put 0 register_count f.name_span
  entry ← put 0 entry_bit f.name_span
  body ← back_statements (unwrap_or count 0) f.body
  exit ← put 0 exit_bit f.name_span
  gives (record {
    name = f.name;
    name_span = f.name_span;
    parameters = f.parameters;
    result = f.result;
    objects = f.objects;
    body = body;
    closing = f.closing;
    registers = unwrap_or count 0;
    entry = entry;
    exit = exit;
  })

-- the functions with these probes, and the pen after them
abbrev pub put_all : typed.Program → List Placed → List probed.Function × Pen
put_all program placed = each back_function program.functions (begun placed)

-- Where the word of the first probe with a fault starts: of those that were put, where none is
-- left. Else the first that is left stands at no part of the program, which is its fault, and `others`
-- judges the probes without it.
abbrev pub first_fault : (others : List Placed → Option ℕ) → List Placed → List Placed → Option ℕ
    → Option ℕ
first_fault others placed [] fault = fault
first_fault others placed (q ∷ rest) fault =
    first_of q.word (others (remove placed (length placed - length (q ∷ rest))))

-- of these probes, of which fewer than so many stand at no part of the program
abbrev pub faults : ℕ → typed.Program → List Placed → Option ℕ
faults zero program placed = None
faults (suc more) program placed =
    let pen = (put_all program placed).1 in
    first_fault (faults more program) placed pen.left pen.fault

abbrev pub unless : Option ℕ → probed.Tree → Result probed.Tree ℕ
unless None tree = Ok tree
unless (Some at) tree = Err at

abbrev pub answer : typed.Program → List Placed → List probed.Function × Pen
    → Result probed.Tree ℕ
answer program placed done =
    unless (first_fault (faults (length placed) program) placed done.1.left done.1.fault) (record {
      program = record {
        functions = done.0;
        statics = program.statics;
        structures = program.structures;
      };
      bits = done.1.bits;
    })

-- the program with these probes, or where the word of the first one with a fault starts
abbrev pub put_back : typed.Program → List Placed → Result probed.Tree ℕ
put_back program placed = answer program placed (put_all program placed)
