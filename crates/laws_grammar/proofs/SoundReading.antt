-- What the readers give, the grammar reads, and it has fewer levels than there are rooms: for every dialect.
use Rattle.std.proofs.Common.{◌≡◌, ℕ, ◌<◌, Bool, true, false, List, Some}
use Rattle.mc_lex.specs.declared.token.Dialect.{Dialect}
use Rattle.mc_tree.specs.Tree.{Expression, Specifiers, Declarator, Declaration, Initializer, Statement, Item}
use Rattle.mc_tree.specs.Height.{height, height_specifiers, height_declarator, height_declaration, height_initializer, height_statement, height_item}
use Rattle.mc_grammar.specs.Words.{Lexeme, sees_specifiers}
use Rattle.mc_grammar.specs.Nonterminal.{Nonterminal, Level, operand}
use Rattle.mc_grammar.specs.Expressions.{Reads, ReadsSpecifiers, ReadsDeclarator}
use Rattle.mc_grammar.specs.Statements.{ReadsInitializer, ReadsDeclaration, ReadsStatement}
use Rattle.mc_grammar.specs.Items.{ReadsItem}
use Rattle.laws_grammar.specs.Rooms.{reading}
use Rattle.laws_grammar.specs.Specifiers.{declarator_of}
use Rattle.laws_grammar.specs.Declarations.{initializer_of, local_of}
use Rattle.laws_grammar.specs.Statements.{statement_of}
use Rattle.laws_grammar.specs.Items.{item_of}
use Rattle.laws_grammar.proofs.SoundParts.{Base, operand_base}
use Rattle.laws_grammar.proofs.SoundDeclarators as declarators
use Rattle.laws_grammar.proofs.SoundSpecifiers.{sound_reading}
use Rattle.laws_grammar.proofs.SoundDeclarations as declarations
use Rattle.laws_grammar.proofs.SoundStatements as statements
use Rattle.laws_grammar.proofs.SoundItems as items

-- every nonterminal; where it is the rest of a repetition, the tree so far has few enough levels
pub expression : (d : Dialect) (n : ℕ) (m : Nonterminal) → Base m n → (ts rest : List Lexeme) (a : Expression) → (reading n).expression m ts ≡ Some (a, rest) → Reads d m ts a rest × (height a < n)
expression d n m base ts rest a e = let p = ((sound_reading d n).expression m base ts).gives a rest e in (p.reads, p.low)

pub operand_of : (d : Dialect) (n : ℕ) (k : Level) (ts rest : List Lexeme) (a : Expression) → (reading n).expression (operand k) ts ≡ Some (a, rest) → Reads d (operand k) ts a rest × (height a < n)
operand_of d n k = expression d n (operand k) (operand_base k n)

pub specifiers : (d : Dialect) (n : ℕ) (allowed : Specifiers → Bool) (ts rest : List Lexeme) (s : Specifiers) → (reading n).specifiers allowed ts ≡ Some (s, rest)
    → ReadsSpecifiers d false ts s rest × (allowed s ≡ true) × (height_specifiers s < n)
specifiers d n allowed ts rest s e = let p = ((sound_reading d n).specifiers allowed ts).gives s rest e in (p.reads, p.allows, p.low)

pub declarator : (d : Dialect) (n : ℕ) → 0 < n → (ts rest : List Lexeme) (one : Declarator) → declarator_of (reading n) ts ≡ Some (one, rest) → ReadsDeclarator d ts one rest × (height_declarator one < n)
declarator d n some ts rest one e = let p = (declarators.sound_declarator d (reading n) n some (sound_reading d n) ts).gives one rest e in (p.reads, p.low)

pub initializer : (d : Dialect) (n : ℕ) (ts rest : List Lexeme) (i : Initializer) → initializer_of n ts ≡ Some (i, rest) → ReadsInitializer d ts i rest × (height_initializer i < n)
initializer d n ts rest i e = let p = (declarations.sound_initializer d n ts).gives i rest e in (p.reads, p.low)

pub local : (d : Dialect) (n : ℕ) → 0 < n → (allowed : Specifiers → Bool) (ts rest : List Lexeme) (one : Declaration) → sees_specifiers ts ≡ true → local_of allowed n ts ≡ Some (one, rest)
    → ReadsDeclaration d false allowed ts one rest × (height_declaration one < n)
local d n some allowed ts rest one h e = let p = (declarations.sound_local d n some allowed ts h).gives one rest e in (p.reads, p.low)

pub statement : (d : Dialect) (n : ℕ) (ts rest : List Lexeme) (s : Statement) → statement_of n ts ≡ Some (s, rest) → ReadsStatement d ts s rest × (height_statement s < n)
statement d n ts rest s e = let p = (statements.sound_statement d n ts).gives s rest e in (p.reads, p.low)

pub item : (d : Dialect) (n : ℕ) → 0 < n → (ts rest : List Lexeme) (i : Item) → item_of n ts ≡ Some (i, rest) → ReadsItem d ts i rest × (height_item i < n)
item d n some ts rest i e = let p = (items.sound_item d n some ts).gives i rest e in (p.reads, p.low)
