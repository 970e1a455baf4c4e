-- Counting with a limit gives the number of levels, limited.
use Rattle.std.proofs.Common.{◌≡◌, ℕ, ◌+◌, max, arith, List, [], ◌∷◌, Option, Some, None, true, false}
use Rattle.mc_typed.specs.Tree.{Place, Expression, StructureValue, FunctionCall, Argument, Arguments, Effect, Initializer, Initializers, Declarator, ForStart, ReturnValue, Statement, Statements}
use Rattle.mc_typed.specs.Tree as t
use Rattle.mc_typed.specs.Levels.{limited, limited_more, one_more, height_place, height, height_structure, height_call, height_argument, height_arguments, height_effect, height_effects, height_initializer, height_initializers, height_value, height_declarators, height_optional, height_start, height_return, height_statement, height_statements}

zero : 0 ≡ limited 0
unfolding limited
zero = omega arith

one : 1 ≡ limited 1
unfolding limited
one = omega arith

higher : (a b : ℕ) → max (limited a) (limited b) ≡ limited (max a b)
unfolding limited
higher a b = omega arith

more : (a : ℕ) → limited (limited a + 1) ≡ limited (a + 1)
unfolding limited
more a = omega arith

second : (a : ℕ) → limited (max 1 (limited a) + 1) ≡ limited (max 1 a + 1)
unfolding limited
second a = omega arith

two : (a b : ℕ) → limited (max (limited a) (limited b) + 1) ≡ limited (max a b + 1)
unfolding limited
two a b = omega arith

three : (a b c : ℕ) → limited (max (limited a) (max (limited b) (limited c)) + 1) ≡ limited (max a (max b c) + 1)
unfolding limited
three a b c = omega arith

body_second : (a b : ℕ) → limited (max (limited a) (limited (limited b + 1)) + 1) ≡ limited (max a (b + 1) + 1)
unfolding limited
body_second a b = omega arith

four : (a b c d : ℕ) → limited (max (max (limited a) (max (limited b) (limited c))) (limited d) + 1) ≡ limited (max (max a (max b c)) d + 1)
four a b c d = rw (higher b c, higher a (max b c)) (two (max a (max b c)) d)

mutual
  pub limited-place : (p : Place) → height_place limited_more p ≡ limited (height_place one_more p)
  limited-place (t.Local slot span) = one
  limited-place (t.Static slot span) = one
  limited-place (t.Parameter array stride e span) = rw (limited-expression e) (second _)
  limited-place (t.Item p n stride e span) = rw (limited-place p, limited-expression e) (two _ _)
  limited-place (t.Member p i offset span) = rw (limited-place p) (more _)

  pub limited-expression : (e : Expression) → height limited_more e ≡ limited (height one_more e)
  limited-expression (t.Constant v a span) = one
  limited-expression (t.Read p a) = limited-place p
  limited-expression (t.Unary operator a e span) = rw (limited-expression e) (more _)
  limited-expression (t.Convert a true e span) = rw (limited-expression e) (more _)
  limited-expression (t.Convert a false e span) = limited-expression e
  limited-expression (t.Not e span) = rw (limited-expression e) (more _)
  limited-expression (t.Binary operator a e f span) = rw (limited-expression e, limited-expression f) (two _ _)
  limited-expression (t.Logic operator e f span) = rw (limited-expression e, limited-expression f) (two _ _)
  limited-expression (t.Choice e f g a span) =
      rw (limited-expression e, limited-expression f, limited-expression g) (three _ _ _)
  limited-expression (t.Call k a) = limited-call k
  limited-expression (t.Input span) = one

  pub limited-structure : (s : StructureValue) → height_structure limited_more s ≡ limited (height_structure one_more s)
  limited-structure (t.Stored p) = limited-place p
  limited-structure (t.Returned k) = limited-call k

  pub limited-call : (k : FunctionCall) → height_call limited_more k ≡ limited (height_call one_more k)
  limited-call (t.call f given result span) = rw (limited-arguments given) (more _)

  pub limited-argument : (a : Argument) → height_argument limited_more a ≡ limited (height_argument one_more a)
  limited-argument (t.NumberArgument e) = limited-expression e
  limited-argument (t.StructureArgument s copy) = limited-structure s
  limited-argument (t.ArrayArgument p n) = limited-place p
  limited-argument (t.AgainArgument array span) = one

  pub limited-arguments : (as' : Arguments) → height_arguments limited_more as' ≡ limited (height_arguments one_more as')
  limited-arguments t.no_arguments = zero
  limited-arguments (t.arguments a rest) = rw (limited-argument a, limited-arguments rest) (higher _ _)

pub limited-effect : (e : Effect) → height_effect limited_more e ≡ limited (height_effect one_more e)
limited-effect (t.Assign p a e span) = rw (limited-place p, limited-expression e) (two _ _)
limited-effect (t.Update p a operator common e span) = rw (limited-place p, limited-expression e) (two _ _)
limited-effect (t.Copy p s n span) = rw (limited-place p, limited-structure s) (two _ _)
limited-effect (t.NumberEffect e whole) = limited-expression e
limited-effect (t.StructureEffect s whole) = limited-structure s
limited-effect (t.CallEffect k) = limited-call k
limited-effect (t.Output e span) = rw (limited-expression e) (more _)
limited-effect (t.ChoiceEffect e a b span) =
    rw (limited-expression e, limited-effect a, limited-effect b) (three _ _ _)
limited-effect (t.Discard a span) = rw (limited-effect a) (more _)

pub limited-effects : (es : List Effect) → height_effects limited_more es ≡ limited (height_effects one_more es)
limited-effects [] = zero
limited-effects (e ∷ es) = rw (limited-effect e, limited-effects es) (higher _ _)

mutual
  pub limited-initializer : (i : Initializer) → height_initializer limited_more i ≡ limited (height_initializer one_more i)
  limited-initializer (t.NumberInitializer e) = limited-expression e
  limited-initializer (t.StructureInitializer s n) = limited-structure s
  limited-initializer (t.ListInitializer items n) = limited-initializers items
  limited-initializer (t.ZeroInitializer e n) = limited-expression e

  pub limited-initializers : (is : Initializers) → height_initializers limited_more is ≡ limited (height_initializers one_more is)
  limited-initializers t.no_initializers = zero
  limited-initializers (t.initializers i rest) = rw (limited-initializer i, limited-initializers rest) (higher _ _)

pub limited-value : (v : Option Initializer) → height_value limited_more v ≡ limited (height_value one_more v)
limited-value None = zero
limited-value (Some i) = limited-initializer i

pub limited-declarators : (ds : List Declarator) → height_declarators limited_more ds ≡ limited (height_declarators one_more ds)
limited-declarators [] = zero
limited-declarators (d ∷ ds) = rw (limited-value d.value, limited-declarators ds) (higher _ _)

pub limited-optional : (e : Option Expression) → height_optional limited_more e ≡ limited (height_optional one_more e)
limited-optional None = zero
limited-optional (Some e) = limited-expression e

pub limited-start : (s : ForStart) → height_start limited_more s ≡ limited (height_start one_more s)
limited-start (t.StartEffects es) = limited-effects es
limited-start (t.StartDeclaration ds) = rw (limited-declarators ds) (more _)

pub limited-return : (r : ReturnValue) → height_return limited_more r ≡ limited (height_return one_more r)
limited-return t.ReturnNothing = zero
limited-return (t.ReturnNumber e) = limited-expression e
limited-return (t.ReturnStructure s n) = limited-structure s

mutual
  pub limited-statement : (s : Statement) → height_statement limited_more s ≡ limited (height_statement one_more s)
  limited-statement (t.Compound items span) = rw (limited-statements items) (more _)
  limited-statement (t.Label v span) = zero
  limited-statement (t.Declaration ds span) = rw (limited-declarators ds) (more _)
  limited-statement (t.Null span) = one
  limited-statement (t.EffectStatement e span) = rw (limited-effect e) (more _)
  limited-statement (t.If e s keyword span) = rw (limited-expression e, limited-statement s) (two _ _)
  limited-statement (t.IfElse e s u keyword span) =
      rw (limited-expression e, limited-statement s, limited-statement u) (three _ _ _)
  limited-statement (t.Switch e items keyword span) =
      rw (limited-expression e, limited-statements items) (body_second _ _)
  limited-statement (t.For start test step s keyword span) =
      rw (limited-start start, limited-optional test, limited-effects step, limited-statement s) (four _ _ _ _)
  limited-statement (t.DoWhile s e keyword span) = rw (limited-statement s, limited-expression e) (two _ _)
  limited-statement (t.Break span) = one
  limited-statement (t.Continue span) = one
  limited-statement (t.Return r span) = rw (limited-return r) (more _)

  pub limited-statements : (ss : Statements) → height_statements limited_more ss ≡ limited (height_statements one_more ss)
  limited-statements t.no_statements = zero
  limited-statements (t.statements s rest) = rw (limited-statement s, limited-statements rest) (higher _ _)

pub limited-body : (ss : Statements) → limited (height_statements limited_more ss + 1) ≡ limited (height_statements one_more ss + 1)
limited-body ss = rw (limited-statements ss) (more _)
