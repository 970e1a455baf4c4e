-- Short texts on tags, typedef names, lengths and `?:`, each with the fault that answers.
use Rattle.std.specs.Prelude.{List, [], ◌∷◌, codes, true, false, Some}
use Rattle.mc_tree.specs.declared.expressions.binary_operator.BinaryOperator.TheVariants as binary
use Rattle.mc_tree.specs.declared.declarations.specifier_word.SpecifierWord.TheVariants as word
use Rattle.mc_tree.specs.Tree as tree
use Rattle.types_faults.specs.declared.fault.FaultKind.TheVariants.{Undeclared, Redeclared, Mismatch}
use Rattle.types_rules.specs.Sampled.{Row, row, refused, name, span, int, void, the, digit, object}

-- `enum E{A};`
abbrev enumeration : tree.Item
enumeration =
    tree.Declared
    (tree.declaration
    (tree.specifiers
    (tree.Enumeration (Some (name (codes "E") 5))
    (tree.enumerators (tree.enumerator (name (codes "A") 7)) tree.no_enumerators)
    (span 0 9)) tree.no_specifiers) []
    (span 0 10))

-- enum E{A};struct E{int a;};
abbrev pub list_on_enumeration : Row
list_on_enumeration = row
    (enumeration ∷
    (tree.Declared
    (tree.declaration
    (tree.specifiers
    (tree.Structure (Some (name (codes "E") 17))
    (tree.members
    (tree.member (int 19)
    (tree.declarators (object (name (codes "a") 23)) tree.no_declarators)
    (span 19 25)) tree.no_members)
    (span 10 26)) tree.no_specifiers) []
    (span 10 27))) ∷ [])
    (refused Redeclared 17)

-- enum E{A};enum E{B};
abbrev pub enumeration_twice : Row
enumeration_twice = row
    (enumeration ∷
    (tree.Declared
    (tree.declaration
    (tree.specifiers
    (tree.Enumeration (Some (name (codes "E") 15))
    (tree.enumerators (tree.enumerator (name (codes "B") 17)) tree.no_enumerators)
    (span 10 19)) tree.no_specifiers) []
    (span 10 20))) ∷ [])
    (refused Redeclared 15)

-- typedef int T;T;
abbrev pub typedef_alone : Row
typedef_alone = row
    ((tree.Declared
    (tree.declaration
    (tree.specifiers (tree.Word word.Typedef (span 0 7)) (int 8))
    ((tree.bare (object (name (codes "T") 12))) ∷ []) (span 0 14))) ∷
    (tree.Declared
    (tree.declaration
    (tree.specifiers (tree.TypedefName (name (codes "T") 14)) tree.no_specifiers) []
    (span 14 16))) ∷ [])
    (refused Mismatch 14)

-- struct S const;
abbrev pub const_after_tag : Row
const_after_tag = row
    ((tree.Declared
    (tree.declaration
    (tree.specifiers (tree.StructureTag (name (codes "S") 7) (span 0 8))
    (tree.specifiers (tree.Word word.Const (span 9 14)) tree.no_specifiers)) []
    (span 0 15))) ∷ [])
    (refused Undeclared 7)

-- struct S{int a;}s;void f(int c){c?s:x;}
abbrev pub structure_on_one_side : Row
structure_on_one_side = row
    ((tree.Declared
    (tree.declaration
    (tree.specifiers
    (tree.Structure (Some (name (codes "S") 7))
    (tree.members
    (tree.member (int 9)
    (tree.declarators (object (name (codes "a") 13)) tree.no_declarators)
    (span 9 15)) tree.no_members)
    (span 0 16)) tree.no_specifiers) ((tree.bare (object (name (codes "s") 16))) ∷ [])
    (span 0 18))) ∷
    (tree.Defined (void 18)
    (tree.function 0 (name (codes "f") 23)
    (tree.Listed
    (tree.parameters
    (tree.parameter (int 25) 0 (Some (name (codes "c") 29)) tree.no_lengths
    (span 25 30)) tree.no_parameters)
    (span 24 31))
    (span 23 31))
    (tree.statement
    (tree.ExpressionStatement
    (tree.Conditional (the (codes "c") 32) (the (codes "s") 34) (the (codes "x") 36)
    (span 32 37))
    (span 32 38)) tree.no_block_items)
    (span 18 39)) ∷ [])
    (refused Mismatch 32)

-- int t[1+x];
abbrev pub name_in_length : Row
name_in_length = row
    ((tree.Declared
    (tree.declaration (int 0)
    ((tree.bare
    (tree.object 0 (name (codes "t") 4)
    (tree.given_length
    (tree.Binary binary.Add (digit 1 6) (the (codes "x") 8) (span 6 9)) tree.no_lengths)
    (span 4 10))) ∷ [])
    (span 0 11))) ∷ [])
    (refused Undeclared 8)

-- int t[1+(struct U)1];
abbrev pub cast_in_length : Row
cast_in_length = row
    ((tree.Declared
    (tree.declaration (int 0)
    ((tree.bare
    (tree.object 0 (name (codes "t") 4)
    (tree.given_length
    (tree.Binary binary.Add (digit 1 6)
    (tree.Cast
    (tree.type_name
    (tree.specifiers (tree.StructureTag (name (codes "U") 16) (span 9 17)) tree.no_specifiers)
    0
    (span 9 17)) (digit 1 18)
    (span 8 19))
    (span 6 19)) tree.no_lengths)
    (span 4 20))) ∷ [])
    (span 0 21))) ∷ [])
    (refused Undeclared 16)

-- int a;int a[70000];
abbrev pub long_again : Row
long_again = row
    ((tree.Declared
    (tree.declaration (int 0) ((tree.bare (object (name (codes "a") 4))) ∷ []) (span 0 6))) ∷
    (tree.Declared
    (tree.declaration (int 6)
    ((tree.bare
    (tree.object 0 (name (codes "a") 10)
    (tree.given_length (tree.Constant 70000 true false 0 (span 12 17)) tree.no_lengths)
    (span 10 18))) ∷ [])
    (span 6 19))) ∷ [])
    (refused Redeclared 10)

-- int mcdc_in[70000];
abbrev pub long_input : Row
long_input = row
    ((tree.Declared
    (tree.declaration (int 0)
    ((tree.bare
    (tree.object 0 (name (codes "mcdc_in") 4)
    (tree.given_length (tree.Constant 70000 true false 0 (span 12 17)) tree.no_lengths)
    (span 4 18))) ∷ [])
    (span 0 19))) ∷ [])
    (refused Mismatch 4)

abbrev pub all : List Row
all =
    list_on_enumeration ∷ enumeration_twice ∷ typedef_alone ∷ const_after_tag
    ∷ structure_on_one_side
    ∷ name_in_length
    ∷ cast_in_length
    ∷ long_again
    ∷ long_input
    ∷ []
