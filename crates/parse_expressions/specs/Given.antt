-- What the functions of the descent return is what the readers of laws_grammar give.
use Rattle.std.specs.Prelude.{◌≡◌, ◌≤◌, ◌+◌, max, ℕ, IfOk, List, map, Option, Some, Result, Ok, Err}
use Rattle.std.specs.declared.alloc.Global.{Global}
use denote.Ref.{MutBor}
use Rattle.mc_tree.specs.Tree as source_tree
use Rattle.mc_tree.specs.Height as height
use Rattle.mc_tree.specs.Views.{expression_of, specifier_of, specifiers_from, expressions_from}
use Rattle.mc_grammar.specs.Words.{Lexeme}
use Rattle.mc_grammar.specs.Counts.{for_type}
use Rattle.laws_grammar.specs.Expressions.{Stars}
use Rattle.laws_grammar.specs.Rooms.{reading}
use Rattle.parse_cursor.specs.declared.cursor.Cursor.{Cursor}
use Rattle.parse_cursor.specs.declared.fault.Fault.{Fault}
use Rattle.parse_cursor.specs.declared.rule.Rule.{Rule}
use Rattle.parse_expressions.specs.declared.allowed.Allowed.{Allowed}
use Rattle.parse_expressions.specs.declared.allowed.Allowed.TheVariants as allowed
use Rattle.parse_expressions.specs.declared.read.Read.{Read}
use Rattle.parse_expressions.specs.declared.read.ReadAll.{ReadAll}
use Rattle.parse_expressions.specs.declared.read.ReadSpecifiers.{ReadSpecifiers}
use Rattle.parse_expressions.specs.declared.read.ReadStars.{ReadStars}
use Rattle.parse_expressions.specs.declared.read.ReadType.{ReadType}
use Rattle.parse_cursor.specs.Cursors.{left_of, NotMade, Refuses}
use Rattle.parse_cursor.specs.Rules.{nonterminal_of}

-- an expression
abbrev pub tree_of : Read → source_tree.Expression
tree_of r = expression_of r.tree.value

-- its height is told
abbrev pub IsHigh : Read → Type 0
IsHigh r = r.height ≡ height.height (tree_of r)

abbrev pub GivesTree : Option (source_tree.Expression × List Lexeme) → Result Read Fault
    → List Lexeme
    → Type 0
GivesTree read (Ok r) rest = (read ≡ Some (tree_of r, rest)) × IsHigh r
GivesTree read (Err fault) rest = Refuses read fault

-- expressions, with the greatest of their heights
abbrev pub trees_of : ReadAll → List source_tree.Expression
trees_of r = map expression_of r.trees.items

abbrev pub IsAllHigh : ReadAll → Type 0
IsAllHigh r = r.height ≡ height.tallest (expressions_from (trees_of r))

-- expressions that were put after others
abbrev pub GivesMore : {X : Type 0} → Option (List source_tree.Expression × List Lexeme) → ReadAll
    → Result X Fault → List Lexeme → Type 0
GivesMore read all (Ok done) rest = (read ≡ Some (trees_of all, rest)) × IsAllHigh all
GivesMore read all (Err fault) rest = Refuses read fault

abbrev pub specifiers_of : ReadSpecifiers → source_tree.Specifiers
specifiers_of r = specifiers_from (map specifier_of r.all.items)

-- specifiers, with their height
abbrev pub GivesSpecifiers : Option (source_tree.Specifiers × List Lexeme)
    → Result ReadSpecifiers Fault
    → List Lexeme → Type 0
GivesSpecifiers read (Ok r) rest =
    (read ≡ Some (specifiers_of r, rest)) × (r.height ≡ height.height_specifiers (specifiers_of r))
GivesSpecifiers read (Err fault) rest = Refuses read fault

abbrev pub stars_of : ReadStars → Stars
stars_of r = record { count = r.count; end = r.end }

abbrev pub type_of : ReadType → source_tree.TypeName
type_of r = source_tree.type_name (specifiers_from (map specifier_of r.all.items)) r.stars r.span

abbrev pub GivesType : Option (source_tree.TypeName × List Lexeme) → Result ReadType Fault
    → List Lexeme
    → Type 0
GivesType read (Ok r) rest =
    (read ≡ Some (type_of r, rest)) × (r.height ≡ height.height_type (type_of r))
GivesType read (Err fault) rest = Refuses read fault

-- a node that was made on the heap
abbrev pub GivesMade : source_tree.Expression → ℕ → Result Read Fault → Type 0
GivesMade tree high (Ok r) = (expression_of r.tree.value ≡ tree) × (r.height ≡ high)
GivesMade tree high (Err fault) = NotMade fault

-- a part with the height `measure`, and the greatest height before and after it
abbrev pub GivesPart : {X Y : Type 0} → (X → Y) → (Y → ℕ) → Option (Y × List Lexeme)
    → Result X Fault → List Lexeme → ℕ → ℕ → Type 0
GivesPart view measure read (Ok x) rest before after =
    (read ≡ Some (view x, rest)) × (after ≡ max before (measure (view x)))
GivesPart view measure read (Err fault) rest before after = Refuses read fault

-- a function value that reads expressions of fewer than so many levels
pub record Nests (room : ℕ) (pre : Global → MutBor Cursor → ℕ → Rule → Type 0)
    (post : Global → MutBor Cursor → ℕ → Rule → Result Read Fault → MutBor Cursor → Type 0)
    : Type 0 where
  pub callable : (alloc : Global) (old : MutBor Cursor) (rule : Rule) → pre alloc old room rule
  pub reads : (alloc : Global) (old new : MutBor Cursor) (rule : Rule) (r : Result Read Fault)
      → post alloc old room rule r new
      → GivesTree ((reading room).expression (nonterminal_of rule) (left_of old.now)) r
      (left_of new.now)
      × IfOk r (λ read. read.height + 1 ≤ room)

-- a function value that reads the specifiers of a type of fewer than so many levels
pub record NestsTypes (room : ℕ) (pre : Global → MutBor Cursor → ℕ → Allowed → Type 0)
    (post : Global → MutBor Cursor → ℕ → Allowed → Result ReadSpecifiers Fault → MutBor Cursor
    → Type 0)
    : Type 0 where
  pub callable : (alloc : Global) (old : MutBor Cursor) → pre alloc old room allowed.Type
  pub reads : (alloc : Global) (old new : MutBor Cursor) (r : Result ReadSpecifiers Fault)
      → post alloc old room allowed.Type r new
      → GivesSpecifiers ((reading room).specifiers for_type (left_of old.now)) r (left_of new.now)
      × IfOk r (λ read. read.height + 1 ≤ room)
