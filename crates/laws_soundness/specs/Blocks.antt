-- Bodies in which no function is declared, as every accepted one (a local function is an outside
-- form).
use Rattle.std.specs.Prelude.{List, [], ◌∷◌}
use Rattle.mc_tree.specs.Tree.{Declarator, InitDeclarator, Declaration, ForStart, Statement, BlockItems}
use Rattle.mc_tree.specs.Tree as tree

abbrev pub IsNoFunction : Declarator → Type 0
IsNoFunction (tree.object stars name all_lengths span) = Unit {0}
IsNoFunction (tree.function stars name all span) = ⊥

abbrev pub declarator_of : InitDeclarator → Declarator
declarator_of (tree.bare d) = d
declarator_of (tree.initialized d value) = d

abbrev pub HaveNoFunction : List InitDeclarator → Type 0
HaveNoFunction [] = Unit {0}
HaveNoFunction (d ∷ ds) = IsNoFunction (declarator_of d) × HaveNoFunction ds

abbrev pub DeclaresNoFunction : Declaration → Type 0
DeclaresNoFunction (tree.declaration all ds span) = HaveNoFunction ds

abbrev pub StartsWithNoFunction : ForStart → Type 0
StartsWithNoFunction (tree.StartsLocal d) = DeclaresNoFunction d
StartsWithNoFunction (tree.StartsExpression e) = Unit {0}

abbrev mutual
  pub HasNoFunction : Statement → Type 0
  HasNoFunction (tree.Compound items span) = BlockHasNoFunction items
  HasNoFunction (tree.Null span) = Unit {0}
  HasNoFunction (tree.ExpressionStatement e span) = Unit {0}
  HasNoFunction (tree.If e one span) = HasNoFunction one
  HasNoFunction (tree.IfElse e one other span) = HasNoFunction one × HasNoFunction other
  HasNoFunction (tree.Switch e body span) = HasNoFunction body
  HasNoFunction (tree.While e one span) = HasNoFunction one
  HasNoFunction (tree.DoWhile one e span) = HasNoFunction one
  HasNoFunction (tree.For start test step one span) = StartsWithNoFunction start × HasNoFunction one
  HasNoFunction (tree.Case e label one span) = HasNoFunction one
  HasNoFunction (tree.Default label one span) = HasNoFunction one
  HasNoFunction (tree.Label name one span) = HasNoFunction one
  HasNoFunction (tree.Goto name span) = Unit {0}
  HasNoFunction (tree.Break span) = Unit {0}
  HasNoFunction (tree.Continue span) = Unit {0}
  HasNoFunction (tree.Return e span) = Unit {0}

  pub BlockHasNoFunction : BlockItems → Type 0
  BlockHasNoFunction tree.no_block_items = Unit {0}
  BlockHasNoFunction (tree.local d rest) = DeclaresNoFunction d × BlockHasNoFunction rest
  BlockHasNoFunction (tree.statement one rest) = HasNoFunction one × BlockHasNoFunction rest
