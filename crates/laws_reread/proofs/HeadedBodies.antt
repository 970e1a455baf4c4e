-- What is spelled of declarations is a stretch in which no `{` is after a `)`, and what is spelled of
-- statements is one.
use Rattle.std.proofs.Common.{◌≡◌, Bool, true, false, List, [], ◌∷◌, Option, Some, None, refl}
use Rattle.mc_tree.specs.Tree.{Expression, Declarator, Initializer, Initializers, InitDeclarator, Declaration, ForStart, Statement, BlockItems}
use Rattle.mc_tree.specs.Tree as tree
use Rattle.subset_forms.specs.declared.context.Role.TheVariants as role
use Rattle.mc_grammar.specs.WordSets.{is_typedef_word, some_word}
use Rattle.mc_grammar.specs.Spelling.{Spelled, spell, spell_initializer, spell_initializers, spell_force, spell_init_declarator, spell_init_declarators, spell_declaration, spell_optional, spell_start, spell_statement, spell_block}
use Rattle.laws_reread.proofs.Stretch.{begins_brace, Stretch, empty, free, round, curly, join, whole}
use Rattle.laws_reread.proofs.Trees.{Before, BeforeOther, anywhere, expression_stretch, specifiers_stretch, declarator_stretch}

-- ---- declarations

value : (a : Expression) → BeforeOther true (spell a)
value a after k = expression_stretch true role.Part a (anywhere _) after k

mutual
  initializer_stretch : (one : Initializer) → BeforeOther true (spell_initializer one)
  initializer_stretch (tree.Single a) after k = value a after k
  initializer_stretch (tree.Braced all span) after k = curly refl (initializers_stretch all _ refl) empty

  initializers_stretch : (all : Initializers) → BeforeOther true (spell_initializers all)
  initializers_stretch tree.no_initializers after k = empty
  initializers_stretch (tree.initializers one tree.no_initializers) after k = initializer_stretch one after k
  initializers_stretch (tree.initializers one (tree.initializers two rest)) after k =
      join (initializer_stretch one _ refl) (free refl (initializers_stretch (tree.initializers two rest) after k))

force_begins : (typedef : Bool) (d : Declarator) (after : List Spelled) → begins_brace after ≡ false → begins_brace (spell_force typedef d after) ≡ false
force_begins true d after k = k
force_begins false d after k = k

force_stretch : (typedef : Bool) (d : Declarator) → Before true (spell_force typedef d)
force_stretch true d after = free tt empty
force_stretch false d after = empty

init_stretch : (typedef : Bool) (one : InitDeclarator) → BeforeOther true (spell_init_declarator typedef one)
init_stretch typedef (tree.bare d) after k = join (declarator_stretch d _ (force_begins typedef d after k)) (force_stretch typedef d after)
init_stretch typedef (tree.initialized d i) after k =
    join (declarator_stretch d _ (force_begins typedef d _ refl)) (join (force_stretch typedef d _) (free refl (initializer_stretch i after k)))

pub inits_stretch : (typedef : Bool) (all : List InitDeclarator) → BeforeOther true (spell_init_declarators typedef all)
inits_stretch typedef [] after k = empty
inits_stretch typedef (one ∷ []) after k = init_stretch typedef one after k
inits_stretch typedef (one ∷ two ∷ rest) after k = join (init_stretch typedef one _ refl) (free refl (inits_stretch typedef (two ∷ rest) after k))

declaration_stretch : (d : Declaration) → Before true (spell_declaration d)
declaration_stretch (tree.declaration s all span) after =
    join (specifiers_stretch true s (anywhere _) _) (join (inits_stretch (some_word is_typedef_word s) all _ refl) (free refl empty))

-- ---- statements

-- what is spelled before any tokens, with bodies
abbrev pub All : (List Spelled → List Spelled) → Type 0
All spelled = (after : List Spelled) → Stretch true true (spelled after) after

operand : (a : Expression) (after : List Spelled) → begins_brace after ≡ false → Stretch true true (spell a after) after
operand a after k = whole (value a after k)

optional : (a : Option Expression) (after : List Spelled) → begins_brace after ≡ false → Stretch true true (spell_optional a after) after
optional None after k = empty
optional (Some a) after k = operand a after k

local_stretch : (d : Declaration) → All (spell_declaration d)
local_stretch d after = whole (declaration_stretch d after)

start_stretch : (start : ForStart) → All (spell_start start)
start_stretch (tree.StartsLocal d) after = local_stretch d after
start_stretch (tree.StartsExpression a) after = join (optional a _ refl) (free refl empty)

mutual
  statement_stretch : (s : Statement) → All (spell_statement s)
  statement_stretch (tree.Compound all span) after = curly refl (block_stretch all _) empty
  statement_stretch (tree.Null span) after = free refl empty
  statement_stretch (tree.ExpressionStatement a span) after = join (operand a _ refl) (free refl empty)
  statement_stretch (tree.If a s span) after = free tt (round (operand a _ refl) tt (statement_stretch s after))
  statement_stretch (tree.IfElse a s u span) after = free tt (round (operand a _ refl) tt (join (statement_stretch s _) (free tt (statement_stretch u after))))
  statement_stretch (tree.Switch a s span) after = free tt (round (operand a _ refl) tt (statement_stretch s after))
  statement_stretch (tree.While a s span) after = free tt (round (operand a _ refl) tt (statement_stretch s after))
  statement_stretch (tree.DoWhile s a span) after = free tt (join (statement_stretch s _) (free tt (round (operand a _ refl) tt (free refl empty))))
  statement_stretch (tree.For start a b s span) after =
      free tt (round (join (start_stretch start _) (join (optional a _ refl) (free refl (optional b _ refl)))) tt (statement_stretch s after))
  statement_stretch (tree.Case a label s span) after = free tt (join (operand a _ refl) (free refl (statement_stretch s after)))
  statement_stretch (tree.Default label s span) after = free tt (free refl (statement_stretch s after))
  statement_stretch (tree.Label name s span) after = free tt (free refl (statement_stretch s after))
  statement_stretch (tree.Goto name span) after = free tt (free tt (free refl empty))
  statement_stretch (tree.Break span) after = free tt (free refl empty)
  statement_stretch (tree.Continue span) after = free tt (free refl empty)
  statement_stretch (tree.Return a span) after = free tt (join (optional a _ refl) (free refl empty))

  pub block_stretch : (b : BlockItems) → All (spell_block b)
  block_stretch tree.no_block_items after = empty
  block_stretch (tree.local d rest) after = join (local_stretch d _) (block_stretch rest after)
  block_stretch (tree.statement s rest) after = join (statement_stretch s _) (block_stretch rest after)
