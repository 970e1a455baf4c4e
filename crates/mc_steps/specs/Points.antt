-- The points of a program at which something is listed, but for its decisions: which statements are
-- counted, which bodies complete, and how many points of each kind a part has. Points of one kind
-- are numbered from 0 over the whole program, in the order of the text.
use Rattle.std.specs.Prelude.{ℕ, zero, suc, ◌+◌, ℤ, Bool, true, false, not, ◌&&◌, ◌||◌, List, [], ◌∷◌, Option, Some, None, is_some}
use Rattle.mc_typed.specs.Operators.{is_true}
use Rattle.mc_typed.specs.Constants.{constant_value}
use Rattle.mc_typed.specs.Sound.{labels_of}
use Rattle.mc_typed.specs.Tree.{Expression, Declarator, Statement, Statements, Function}
use Rattle.mc_typed.specs.Tree as typed
use Rattle.mc_steps.specs.Statements.{has_label}

-- ---- integer constant expressions (C17 6.6p6)

-- its operands are constants, and it has no call
abbrev pub is_constant : Expression → Bool
is_constant (typed.Constant v a span) = true
is_constant (typed.Read place a) = false
is_constant (typed.Unary operator a e span) = is_constant e
is_constant (typed.Convert a written e span) = is_constant e
is_constant (typed.Not e span) = is_constant e
is_constant (typed.Binary operator a e f span) = is_constant e && is_constant f
is_constant (typed.Logic operator e f span) = is_constant e && is_constant f
is_constant (typed.Choice e f g a span) = is_constant e && is_constant f && is_constant g
is_constant (typed.Call k a) = false
is_constant (typed.Input span) = false

abbrev pub is_nonzero : Option ℤ → Bool
is_nonzero None = false
is_nonzero (Some v) = is_true v

-- a constant expression other than 0 without a trap
abbrev pub is_always_true : Expression → Bool
is_always_true e = is_constant e && is_nonzero (constant_value e)

-- a controlling expression that is absent, or always true
abbrev pub is_always : Option Expression → Bool
is_always None = true
is_always (Some e) = is_always_true e

-- ---- statements that complete

-- whether a `break` belongs to the statement around
abbrev mutual
  pub breaks : Statement → Bool
  breaks (typed.Compound items span) = some_breaks items
  breaks (typed.Label v span) = false
  breaks (typed.Declaration declarators span) = false
  breaks (typed.Null span) = false
  breaks (typed.EffectStatement effect span) = false
  breaks (typed.If e s keyword span) = breaks s
  breaks (typed.IfElse e s u keyword span) = breaks s || breaks u
  breaks (typed.Switch e items keyword span) = false
  breaks (typed.For start test step s keyword span) = false
  breaks (typed.DoWhile s e keyword span) = false
  breaks (typed.Break span) = true
  breaks (typed.Continue span) = false
  breaks (typed.Return value span) = false

  pub some_breaks : Statements → Bool
  some_breaks typed.no_statements = false
  some_breaks (typed.statements s rest) = breaks s || some_breaks rest

abbrev pub has_default : Statements → Bool
has_default items = has_label None (labels_of items)

-- Whether the end of a statement can be reached, by its form alone. The last item of a `switch`
-- decides where it has a `default` and no `break`; one without items completes.
abbrev mutual
  pub completes : Statement → Bool
  completes (typed.Compound items span) = all_complete items
  completes (typed.Label v span) = true
  completes (typed.Declaration declarators span) = true
  completes (typed.Null span) = true
  completes (typed.EffectStatement effect span) = true
  completes (typed.If e s keyword span) = true
  completes (typed.IfElse e s u keyword span) = completes s || completes u
  completes (typed.Switch e items keyword span) =
      not (has_default items) || some_breaks items || last_completes items
  completes (typed.For start test step s keyword span) = not (is_always test) || breaks s
  completes (typed.DoWhile s e keyword span) = not (is_always_true e) || breaks s
  completes (typed.Break span) = false
  completes (typed.Continue span) = false
  completes (typed.Return value span) = false

  -- each item completes
  pub all_complete : Statements → Bool
  all_complete typed.no_statements = true
  all_complete (typed.statements s rest) = completes s && all_complete rest

  pub last_completes : Statements → Bool
  last_completes typed.no_statements = true
  last_completes (typed.statements s typed.no_statements) = completes s
  last_completes (typed.statements s rest) = last_completes rest

-- ---- points

pub record Points : Type 0 where
  pub statements : ℕ
  pub exits : ℕ
  pub labels : ℕ

abbrev pub no_points : Points
no_points = record { statements = 0; exits = 0; labels = 0 }

abbrev pub a_statement : Points
a_statement = record { statements = 1; exits = 0; labels = 0 }

abbrev pub an_exit : Points
an_exit = record { statements = 0; exits = 1; labels = 0 }

abbrev pub a_label : Points
a_label = record { statements = 0; exits = 0; labels = 1 }

infixr 60 ◌⊕◌
abbrev pub ◌⊕◌ : Points → Points → Points
a ⊕ b = record {
  statements = a.statements + b.statements;
  exits = a.exits + b.exits;
  labels = a.labels + b.labels;
}

-- a declaration is counted where it has an initializer
abbrev pub initializes : List Declarator → Bool
initializes [] = false
initializes (d ∷ ds) = is_some d.value || initializes ds

abbrev pub where_counted : Bool → Points
where_counted true = a_statement
where_counted false = no_points

-- a `default` that is absent has a point at the `switch`, before the labels in it
abbrev pub unless_default : Bool → Points
unless_default true = no_points
unless_default false = a_label

-- A statement's own point is before those of its parts.
abbrev mutual
  pub points_of : Statement → Points
  points_of (typed.Compound items span) = points_of_all items
  points_of (typed.Label v span) = a_label
  points_of (typed.Declaration declarators span) = where_counted (initializes declarators)
  points_of (typed.Null span) = a_statement
  points_of (typed.EffectStatement effect span) = a_statement
  points_of (typed.If e s keyword span) = a_statement ⊕ points_of s
  points_of (typed.IfElse e s u keyword span) = a_statement ⊕ points_of s ⊕ points_of u
  points_of (typed.Switch e items keyword span) =
      a_statement ⊕ unless_default (has_default items) ⊕ points_of_all items
  points_of (typed.For start test step s keyword span) = a_statement ⊕ points_of s
  points_of (typed.DoWhile s e keyword span) = a_statement ⊕ points_of s
  points_of (typed.Break span) = a_statement
  points_of (typed.Continue span) = a_statement
  points_of (typed.Return value span) = a_statement ⊕ an_exit

  pub points_of_all : Statements → Points
  points_of_all typed.no_statements = no_points
  points_of_all (typed.statements s rest) = points_of s ⊕ points_of_all rest

abbrev pub where_completes : Bool → Points
where_completes true = an_exit
where_completes false = no_points

-- the closing brace of a body that completes is an exit
abbrev pub points_of_function : Function → Points
points_of_function f = points_of_all f.body ⊕ where_completes (all_complete f.body)

-- of the functions up to one
abbrev pub points_before : List Function → ℕ → Points
points_before [] f = no_points
points_before (g ∷ functions) zero = no_points
points_before (g ∷ functions) (suc f) = points_of_function g ⊕ points_before functions f
