-- Where several tokens stand together: from the first byte of the first to after the last byte of
-- the last.
use Rattle.std.specs.Prelude.{List, ◌∷◌, map}
use Rattle.mc_span.specs.declared.span.Span.{Span}
use Rattle.mc_tree.specs.Tree.{TypeName, StructMember, Declarator, Parameter, Declaration, Item}
use Rattle.mc_tree.specs.Tree as tree
use Rattle.mc_grammar.specs.Words.{Lexeme}
use Rattle.mc_grammar.specs.Places.{at, to}

abbrev pub places : List Lexeme → List Span
places ts = map at ts

-- This is the place of the tokens before this rest, of which there is one at least.
pub data IsPlace : Span → List Span → List Span → Type 0 where
  single : {place : Span} {rest : List Span} → IsPlace place (place ∷ rest) rest
  longer : {place last : Span} {all rest : List Span}
      → IsPlace last all rest
      → IsPlace (to place last) (place ∷ all) rest

-- where these stand
abbrev pub span_of_type_name : TypeName → Span
span_of_type_name (tree.type_name s stars span) = span

abbrev pub span_of_member : StructMember → Span
span_of_member (tree.member s all span) = span

abbrev pub span_of_parameter : Parameter → Span
span_of_parameter (tree.parameter s stars name all span) = span

abbrev pub span_of_declarator : Declarator → Span
span_of_declarator (tree.object stars name all span) = span
span_of_declarator (tree.function stars name all span) = span

abbrev pub span_of_declaration : Declaration → Span
span_of_declaration (tree.declaration s all span) = span

abbrev pub span_of_item : Item → Span
span_of_item (tree.Declared d) = span_of_declaration d
span_of_item (tree.Defined s d body span) = span
