-- A turn of a loop over parts: what is found with the parts that are left is what was found with
-- this part and those.
use Rattle.std.specs.Prelude.{◌≡◌, ℕ, List, Option, Vec}
use Rattle.std.specs.declared.alloc.Global.{Global}
use Rattle.mc_tree.specs.Tree as tree
use Rattle.mc_typed.specs.declared.expressions.Argument.{Argument}
use Rattle.mc_typed.specs.declared.statements.Statement.{Statement}
use Rattle.types_rules.specs.Types as types
use Rattle.types_rules.specs.Types.{ParameterKind}
use Rattle.types_rules.specs.Scopes.{Scope}
use Rattle.types_rules.specs.Values as values
use Rattle.types_rules.specs.Calls.{first_of, rest_of}
use Rattle.types_rules.specs.Declarators.{Listed, joined}
use Rattle.types_rules.specs.Declarations.{both_lists}
use Rattle.types_rules.specs.Statements as statements
use Rattle.types_rules.specs.Statements.{followed_judged}
use Rattle.types_rules.specs.Bodies.{judge_block}
use Rattle.types_rules.specs.Judgement.{judge_arguments, judge_lengths, specifiers_judged}
use Rattle.types_scopes.specs.declared.found.Given.{Given}
use Rattle.types_scopes.specs.declared.found.Judged.{Judged}
use Rattle.types_scopes.specs.Found.{judged_of}
use Rattle.types_scopes.specs.Given.{given_of, items_of}
use Rattle.types_scopes.specs.declared.types.CType.{CType}
use Rattle.types_scopes.specs.Types.{type_of}
use Rattle.types_declarations.specs.declared.parameters.Parameters.{Parameters}
use Rattle.types_declarations.specs.Declarations.{lengths_in, listed_parameters, squeezed_listed}
use Rattle.types_scopes.specs.Statements.{statements_of}
use Rattle.types_scopes.specs.steps.Squeezed.{squeezed_part}
use Rattle.types_expressions.specs.steps.Gathered.{gathered, squeezed_given}

-- an argument for this parameter, after those that are given: x in s becomes y in u
abbrev pub TakesArgument : Option ParameterKind → tree.Expression → Given (Vec Argument Global)
    → Scope
    → Given (Vec Argument Global) → Scope → Type 0
TakesArgument p e x s y u =
    (ps : List ParameterKind) (rest : tree.Expressions) → first_of ps ≡ p
    → squeezed_given (gathered (given_of items_of y u) (judge_arguments rest (rest_of ps) u))
    ≡ squeezed_given (gathered (given_of items_of x s)
    (judge_arguments (tree.expressions e rest) ps s))

-- brackets, after those before them
abbrev pub TakesLength : (tree.ArrayLengths → tree.ArrayLengths) → Judged (Vec ℕ Global) → Scope
    → Judged (Vec ℕ Global) → Scope → Type 0
TakesLength f x s y u =
    (rest : tree.ArrayLengths)
    → squeezed_part (both_lists (judged_of lengths_in y u) (judge_lengths rest u))
    ≡ squeezed_part (both_lists (judged_of lengths_in x s) (judge_lengths (f rest) s))

-- an item of a block: what is found of it is what is found of the block that it begins
abbrev pub TakesItem : statements.Around → (tree.BlockItems → tree.BlockItems) → Scope
    → Judged (Vec Statement Global) → Scope → Type 0
TakesItem a f s y u =
    (rest : tree.BlockItems)
    → squeezed_part (followed_judged (judged_of statements_of y u) (judge_block a rest u))
    ≡ squeezed_part (judge_block a (f rest) s)

-- the same, with those before it: x in s becomes y in u
abbrev pub FollowsItem : statements.Around → (tree.BlockItems → tree.BlockItems)
    → Judged (Vec Statement Global)
    → Scope → Judged (Vec Statement Global) → Scope → Type 0
FollowsItem a f x s y u =
    (rest : tree.BlockItems)
    → squeezed_part (followed_judged (judged_of statements_of y u) (judge_block a rest u))
    ≡ squeezed_part (followed_judged (judged_of statements_of x s) (judge_block a (f rest) s))

-- a specifier of which p is found, after those before it
abbrev pub TakesSpecifier : values.Judged types.CType → Judged CType → Scope → Judged CType → Scope
    → Type 0
TakesSpecifier p x s y u =
    (rest : Scope → values.Judged types.CType)
    → squeezed_part (specifiers_judged (judged_of type_of y u) (rest u))
    ≡ squeezed_part (specifiers_judged (judged_of type_of x s)
    (specifiers_judged p (rest p.scope)))

-- a parameter of which p is found, after those before it
abbrev pub TakesParameter : Listed (Option ParameterKind) → Parameters → Scope → Parameters → Scope
    → Type 0
TakesParameter p x s y u =
    (rest : Scope → Listed (Option ParameterKind))
    → squeezed_listed (joined (listed_parameters y u) (rest u))
    ≡ squeezed_listed (joined (listed_parameters x s) (joined p (rest p.scope)))
