-- Worked examples: trees of short texts, and the fault that answers. A place is given by the bytes
-- of the text.
use Rattle.std.specs.Prelude.{◌≡◌, ℕ, zero, suc, ◌+◌, ℤ, true, false, List, [], map, length, Option, Some, None}
use Rattle.mc_span.specs.declared.span.Span.{Span}
use Rattle.mc_tree.specs.declared.declarations.specifier_word.SpecifierWord.TheVariants as word
use Rattle.mc_tree.specs.Tree.{Item, Name, Specifiers, Expression, Expressions, Declarator, ArrayLengths}
use Rattle.mc_tree.specs.Tree as tree
use Rattle.mc_typed.specs.Tree.{Function, Program}
use Rattle.mc_typed.specs.Sound.{IsSound}
use Rattle.types_faults.specs.declared.fault.Fault.{Fault}
use Rattle.types_faults.specs.declared.fault.FaultKind.{FaultKind}
use Rattle.types_rules.specs.Typing.{first_fault_of, HasTyping, typing_of}

-- a text and what is said of it
pub record Row : Type 0 where
  pub items : List Item
  pub answer : Option Fault

abbrev pub row : List Item → Option Fault → Row
row items answer = record { items = items; answer = answer }

abbrev pub accepted : Option Fault
accepted = None

abbrev pub refused : FaultKind → ℕ → Option Fault
refused kind at = Some (record { kind = kind; at = at })

abbrev pub span : ℕ → ℕ → Span
span from to = record { start = from; end = to }

abbrev pub name : List ℕ → ℕ → Name
name text at = record { text = text; span = span at (at + length text) }

abbrev pub int : ℕ → Specifiers
int at = tree.specifiers (tree.Word word.Int (span at (at + 3))) tree.no_specifiers

abbrev pub void : ℕ → Specifiers
void at = tree.specifiers (tree.Word word.Void (span at (at + 4))) tree.no_specifiers

abbrev pub the : List ℕ → ℕ → Expression
the text at = tree.Named (name text at)

-- a decimal constant of one digit, and 0
abbrev pub digit : ℕ → ℕ → Expression
digit n at = tree.Constant n true false 0 (span at (at + 1))

abbrev pub zero_at : ℕ → Expression
zero_at at = tree.Constant 0 false false 0 (span at (at + 1))

abbrev pub object : Name → Declarator
object n = tree.object 0 n tree.no_lengths n.span

abbrev pub one_expression : Expression → Expressions
one_expression e = tree.expressions e tree.no_expressions

-- `[1]` so many times, from the constant in the first pair of brackets on
abbrev pub ones : ℕ → ℕ → ArrayLengths
ones zero at = tree.no_lengths
ones (suc n) at = tree.given_length (digit 1 at) (ones n (at + 3))

-- the definitions say of each text what its row says
abbrev pub Answers : List Row → Type 0
Answers rows = map (λ r. first_fault_of r.items) rows ≡ map (λ r. r.answer) rows

abbrev pub IsSoundProgram : Option Program → Type 0
IsSoundProgram None = ⊥
IsSoundProgram (Some program) = IsSound program

-- a text has a typing, which is sound
abbrev pub TypesSoundly : List Item → Type 0
TypesSoundly items = HasTyping items × IsSoundProgram (typing_of items)

abbrev pub initial_of : Option Program → List (List ℤ)
initial_of None = []
initial_of (Some program) = map (λ o. o.initial) program.statics

abbrev pub functions_only : List Function → Option Program
functions_only functions =
    Some (record { functions = functions; statics = []; structures = [] })
