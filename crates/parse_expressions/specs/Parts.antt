-- What the functions for declarators and specifiers return, as the readers of laws_grammar give it.
use Rattle.std.specs.Prelude.{◌≡◌, ℕ, ℤ, Bool, false, List, [], codes, map, Option, Some, Result, Ok, Err, Box, Vec}
use Rattle.std.specs.declared.alloc.Global.{Global}
use Rattle.mc_span.specs.declared.span.Span.{Span}
use Rattle.mc_tree.specs.declared.declarations.specifier_word.SpecifierWord.{SpecifierWord}
use Rattle.mc_tree.specs.declared.declarations.specifier.Specifier as code_specifier
use Rattle.mc_tree.specs.declared.declarations.member.Member as code_member
use Rattle.mc_tree.specs.declared.declarations.enumerator.Enumerator as code_enumerator
use Rattle.mc_tree.specs.declared.declarations.declarator.Declarator as code_declarator
use Rattle.mc_tree.specs.declared.declarations.parameter.Parameter as code_parameter
use Rattle.mc_tree.specs.Tree.{ArrayLengths, Declarator, Enumerator, Expression, Name, Parameter, Specifier, Specifiers, StructMember, TypeName, span_of, span_of_parameters}
use Rattle.mc_tree.specs.Tree as source_tree
use Rattle.mc_tree.specs.Views.{array_length_of, declarator_of, declarators_from, enumerator_of, enumerators_from, expressions_from, lengths_from, member_of, members_from, parameter_of, parameters_from, specifier_of, specifiers_from}
use Rattle.mc_tree.specs.Height.{height_declarators, height_enumerators, height_lengths, height_members, height_parameter_list, height_specifiers}
use Rattle.mc_grammar.specs.Places.{at, end_of_specifiers, name_at, to}
use Rattle.mc_grammar.specs.Words.{Lexeme, is_name}
use Rattle.mc_grammar.specs.Nonterminal as nonterminal
use Rattle.laws_grammar.specs.Lists.{listed}
use Rattle.mc_grammar.specs.steps.Parsers.{Parser, ◌>>=◌, accept, ask, expect, pure, take}
use Rattle.laws_grammar.specs.Expressions.{Parts, stars_of}
use Rattle.laws_grammar.specs.Specifiers.{Length, Lengths, lengths_of, name_next, parameter_by}
use Rattle.laws_grammar.specs.Specifiers as spec
use Rattle.parse_cursor.specs.declared.fault.Fault.{Fault}
use Rattle.parse_expressions.specs.declared.read.ReadLength.{ReadLength}
use Rattle.parse_expressions.specs.declared.read.ReadLengths.{ReadLengths}
use Rattle.parse_expressions.specs.declared.read.ReadSpecifiers.{ReadSpecifiers}
use Rattle.parse_cursor.specs.Cursors.{Refuses}
use Rattle.parse_cursor.specs.Cursors.{NotMade}

abbrev pub length_of : ReadLength → Length
length_of r = record { one = array_length_of r.one; end = r.end }

abbrev pub all_lengths_of : ReadLengths → Lengths
all_lengths_of r = record { all = map array_length_of r.all.items; end = r.end }

abbrev pub specifiers_in : Vec code_specifier.Specifier Global → Specifiers
specifiers_in all = specifiers_from (map specifier_of all.items)

abbrev pub parameters_of : Vec code_parameter.Parameter Global → List Parameter
parameters_of all = map parameter_of all.items

abbrev pub declarators_of : Vec code_declarator.Declarator Global → List Declarator
declarators_of all = map declarator_of all.items

abbrev pub members_of : Vec code_member.Member Global → List StructMember
members_of all = map member_of all.items

abbrev pub enumerators_of : Vec code_enumerator.Enumerator Global → List Enumerator
enumerators_of all = map enumerator_of all.items

-- the heights of lists
abbrev pub high_length : Length → ℕ
high_length l = height_lengths (l.one source_tree.no_lengths)

abbrev pub high_lengths : Lengths → ℕ
high_lengths ls = height_lengths (lengths_from ls.all)

abbrev pub high_parameters : List Parameter → ℕ
high_parameters all = height_parameter_list (parameters_from all)

abbrev pub high_declarators : List Declarator → ℕ
high_declarators all = height_declarators (declarators_from all)

abbrev pub high_members : List StructMember → ℕ
high_members all = height_members (members_from all)

abbrev pub high_enumerators : List Enumerator → ℕ
high_enumerators all = height_enumerators (enumerators_from all)

abbrev pub high_specifiers : List Specifier → ℕ
high_specifiers all = height_specifiers (specifiers_from all)

-- a part on the heap
abbrev pub boxed_specifier : Box code_specifier.Specifier Global → Specifier
boxed_specifier one = specifier_of one.value

abbrev pub boxed_declarator : Box code_declarator.Declarator Global → Declarator
boxed_declarator one = declarator_of one.value

abbrev pub boxed_member : Box code_member.Member Global → StructMember
boxed_member one = member_of one.value

abbrev pub boxed_enumerator : Box code_enumerator.Enumerator Global → Enumerator
boxed_enumerator one = enumerator_of one.value

abbrev pub boxed_parameter : Box code_parameter.Parameter Global → Parameter
boxed_parameter one = parameter_of one.value

-- an expression that is one token
abbrev pub constant_of : ℕ → Bool → Bool → ℕ → Parser Expression
constant_of value decimal unsigned longs = do
  x ← take
  pure (source_tree.Constant value decimal unsigned longs (at x))

abbrev pub character_of : ℤ → Parser Expression
character_of value = do
  x ← take
  pure (source_tree.Character value (at x))

-- an expression, after its last part
abbrev pub parenthesized_end : Span → Expression → Parser Expression
parenthesized_end start a = do
  y ← expect (codes ")")
  pure (source_tree.Parenthesized a (to start (at y)))

abbrev pub call_end : Lexeme → List Expression → Parser Expression
call_end x all = do
  z ← expect (codes ")")
  pure (source_tree.Call (name_at x) (expressions_from all) (to (at x) (at z)))

abbrev pub index_end : Expression → Expression → Parser Expression
index_end a b = do
  y ← expect (codes "]")
  pure (source_tree.Index a b (to (span_of a) (at y)))

-- a suffix, after its first token
abbrev pub index_after : Parts → Expression → Parser Expression
index_after parts a = do
  b ← parts.expression nonterminal.comma
  index_end a b

abbrev pub member_after : Expression → Parser Expression
member_after a = do
  y ← accept is_name
  pure (source_tree.Member a (name_at y) (to (span_of a) (at y)))

-- a type name, after its specifiers
abbrev pub type_end : Span → Specifiers → Parser TypeName
type_end start s = do
  stars ← stars_of (end_of_specifiers start s)
  pure (source_tree.type_name s stars.count (to start stars.end))

-- a length, after its bracket and after its value
abbrev pub no_length : Parser Length
no_length = do
  y ← take
  pure (record { one = source_tree.absent_length; end = at y })

abbrev pub length_end : Expression → Parser Length
length_end a = do
  y ← expect (codes "]")
  pure (record { one = source_tree.given_length a; end = at y })

-- a specifier that is one token
abbrev pub word_of : SpecifierWord → Parser Specifier
word_of w = do
  x ← take
  pure (source_tree.Word w (at x))

abbrev pub typedef_name_of : Parser Specifier
typedef_name_of = do
  x ← take
  pure (source_tree.TypedefName (name_at x))

-- a structure, after its members
abbrev pub structure_end : Lexeme → Option Name → List StructMember → Parser Specifier
structure_end x tag ms = do
  v ← expect (codes "}")
  pure (source_tree.Structure tag (members_from ms) (to (at x) (at v)))

-- an enumeration, after its constants
abbrev pub enumeration_end : Lexeme → Option Name → List Enumerator → Parser Specifier
enumeration_end x tag es = do
  v ← expect (codes "}")
  pure (source_tree.Enumeration tag (enumerators_from es) (to (at x) (at v)))

-- members, after their declarators
abbrev pub member_end : Span → Specifiers → List Declarator → Parser StructMember
member_end start s ds = do
  y ← expect (codes ";")
  pure (source_tree.member s (declarators_from ds) (to start (at y)))

-- a parameter, after its specifiers
abbrev pub parameter_named : Parts → Span → Specifiers → Parser Parameter
parameter_named parts start s = do
  stars ← stars_of (end_of_specifiers start s)
  name ← ask name_next
  parameter_by parts s stars.count start stars.end name

-- the lengths of a declarator, after its name
abbrev pub object_of : Parts → Span → ℕ → Name → Parser Declarator
object_of parts start stars name = do
  lengths ← lengths_of parts name.span
  pure (source_tree.object stars name (lengths_from lengths.all) (to start lengths.end))

-- a part that was made on the heap: nothing else can go wrong than memory
abbrev pub IsMade : {X Y : Type 0} → (X → Y) → Y → Result X Fault → Type 0
IsMade view tree (Ok one) = view one ≡ tree
IsMade view tree (Err fault) = NotMade fault

-- a specifier that was made on the heap: nothing else can go wrong than memory
abbrev pub IsMadeSpecifier : Specifier → Result (Box code_specifier.Specifier Global) Fault → Type 0
IsMadeSpecifier tree (Ok one) = boxed_specifier one ≡ tree
IsMadeSpecifier tree (Err fault) = NotMade fault

-- the lengths of a parameter, after what stands before them
abbrev pub parameter_after : Parts → Span → Specifiers → ℕ → Option Name → Span → Parser Parameter
parameter_after parts start s stars name end = do
  lengths ← lengths_of parts end
  pure (source_tree.parameter s stars name (lengths_from lengths.all) (to start lengths.end))

-- a declarator of a function, after the parenthesis that opens its list
abbrev pub void_function : Span → ℕ → Name → Span → Parser Declarator
void_function start stars name list_start = do
  y ← take
  z ← take
  pure (source_tree.function stars name (source_tree.Void (to list_start (at z)))
      (to start (to list_start (at z))))

abbrev pub listed_function : Span → ℕ → Name → Span → List Parameter → Parser Declarator
listed_function start stars name list_start ps = do
  y ← expect (codes ")")
  pure (source_tree.function stars name
      (source_tree.Listed (parameters_from ps) (to list_start (at y)))
      (to start (to list_start (at y))))

-- the parameters of a declarator, after its name
abbrev pub function_of : Parts → Span → ℕ → Name → Parser Declarator
function_of parts start stars name = do
  ps ← spec.parameters_of parts
  pure (source_tree.function stars name ps (to start (span_of_parameters ps)))

-- specifiers, as long as they go on
abbrev pub all_specifiers_of : Parts → ℕ → Parser (List Specifier)
all_specifiers_of parts room = listed (λ turns. spec.specifiers_loop turns parts room false [])

-- specifiers in a list, with their height
abbrev pub GivesList : Option (List Specifier × List Lexeme) → Result ReadSpecifiers Fault
    → List Lexeme → Type 0
GivesList read (Ok r) rest =
    (read ≡ Some (map specifier_of r.all.items, rest))
    × (r.height ≡ high_specifiers (map specifier_of r.all.items))
GivesList read (Err fault) rest = Refuses read fault
