-- Short texts on initializers.
use Rattle.std.specs.Prelude.{List, [], ◌∷◌, codes, Some}
use Rattle.mc_tree.specs.declared.expressions.binary_operator.BinaryOperator.TheVariants as binary
use Rattle.mc_tree.specs.declared.expressions.assignment_operator.AssignmentOperator.TheVariants as assign
use Rattle.mc_tree.specs.declared.declarations.specifier_word.SpecifierWord.TheVariants as word
use Rattle.mc_tree.specs.Tree as tree
use Rattle.types_faults.specs.declared.fault.FaultKind.TheVariants.{Mismatch, NotConstant}
use Rattle.types_rules.specs.Sampled.{Row, row, accepted, refused, name, span, int, void, the, digit, zero_at, object}

-- struct S{int a;}s;int f(void){int x=(s);return x;}
abbrev pub lists_1 : Row
lists_1 = row
    ((tree.Declared
    (tree.declaration
    (tree.specifiers
    (tree.Structure (Some (name (codes "S") 7))
    (tree.members
    (tree.member (int 9)
    (tree.declarators (object (name (codes "a") 13)) tree.no_declarators)
    (span 9 15)) tree.no_members)
    (span 0 16)) tree.no_specifiers)
    ((tree.bare (object (name (codes "s") 16))) ∷ [])
    (span 0 18))) ∷
    (tree.Defined (int 18)
    (tree.function 0 (name (codes "f") 22) (tree.Void (span 23 29)) (span 22 29))
    (tree.local
    (tree.declaration (int 30)
    ((tree.initialized (object (name (codes "x") 34))
    (tree.Single (tree.Parenthesized (the (codes "s") 37) (span 36 39)))) ∷ [])
    (span 30 40))
    (tree.statement (tree.Return (Some (the (codes "x") 47)) (span 40 49))
    tree.no_block_items))
    (span 18 50)) ∷ [])
    (refused Mismatch 36)

-- int t[2]={1,2,3};
abbrev pub lists_2 : Row
lists_2 = row
    ((tree.Declared
    (tree.declaration (int 0)
    ((tree.initialized
    (tree.object 0 (name (codes "t") 4)
    (tree.given_length (digit 2 6) tree.no_lengths)
    (span 4 8))
    (tree.Braced
    (tree.initializers (tree.Single (digit 1 10))
    (tree.initializers (tree.Single (digit 2 12))
    (tree.initializers (tree.Single (digit 3 14)) tree.no_initializers)))
    (span 9 16))) ∷ [])
    (span 0 17))) ∷ [])
    (refused Mismatch 9)

-- struct S{int a;}s;void f(void){int t[2]={1,s};}
abbrev pub lists_3 : Row
lists_3 = row
    ((tree.Declared
    (tree.declaration
    (tree.specifiers
    (tree.Structure (Some (name (codes "S") 7))
    (tree.members
    (tree.member (int 9)
    (tree.declarators (object (name (codes "a") 13)) tree.no_declarators)
    (span 9 15)) tree.no_members)
    (span 0 16)) tree.no_specifiers)
    ((tree.bare (object (name (codes "s") 16))) ∷ [])
    (span 0 18))) ∷
    (tree.Defined (void 18)
    (tree.function 0 (name (codes "f") 23) (tree.Void (span 24 30)) (span 23 30))
    (tree.local
    (tree.declaration (int 31)
    ((tree.initialized
    (tree.object 0 (name (codes "t") 35)
    (tree.given_length (digit 2 37) tree.no_lengths)
    (span 35 39))
    (tree.Braced
    (tree.initializers (tree.Single (digit 1 41))
    (tree.initializers (tree.Single (the (codes "s") 43))
    tree.no_initializers))
    (span 40 45))) ∷ [])
    (span 31 46)) tree.no_block_items)
    (span 18 47)) ∷ [])
    (refused Mismatch 43)

-- int x={1,2};
abbrev pub lists_4 : Row
lists_4 = row
    ((tree.Declared
    (tree.declaration (int 0)
    ((tree.initialized (object (name (codes "x") 4))
    (tree.Braced
    (tree.initializers (tree.Single (digit 1 7))
    (tree.initializers (tree.Single (digit 2 9)) tree.no_initializers))
    (span 6 11))) ∷ [])
    (span 0 12))) ∷ [])
    (refused Mismatch 6)

-- int x={{1}};int t[][2]={0};int u[2][2]={{0},{1,2}};
abbrev pub lists_5 : Row
lists_5 = row
    ((tree.Declared
    (tree.declaration (int 0)
    ((tree.initialized (object (name (codes "x") 4))
    (tree.Braced
    (tree.initializers
    (tree.Braced
    (tree.initializers (tree.Single (digit 1 8)) tree.no_initializers)
    (span 7 10)) tree.no_initializers)
    (span 6 11))) ∷ [])
    (span 0 12))) ∷
    (tree.Declared
    (tree.declaration (int 12)
    ((tree.initialized
    (tree.object 0 (name (codes "t") 16)
    (tree.absent_length (tree.given_length (digit 2 20) tree.no_lengths))
    (span 16 22))
    (tree.Braced
    (tree.initializers (tree.Single (zero_at 24)) tree.no_initializers)
    (span 23 26))) ∷ [])
    (span 12 27))) ∷
    (tree.Declared
    (tree.declaration (int 27)
    ((tree.initialized
    (tree.object 0 (name (codes "u") 31)
    (tree.given_length (digit 2 33)
    (tree.given_length (digit 2 36) tree.no_lengths))
    (span 31 38))
    (tree.Braced
    (tree.initializers
    (tree.Braced
    (tree.initializers (tree.Single (zero_at 41)) tree.no_initializers)
    (span 40 43))
    (tree.initializers
    (tree.Braced
    (tree.initializers (tree.Single (digit 1 45))
    (tree.initializers (tree.Single (digit 2 47))
    tree.no_initializers))
    (span 44 49)) tree.no_initializers))
    (span 39 50))) ∷ [])
    (span 27 51))) ∷ [])
    accepted

-- int t[2]={1/0};
abbrev pub lists_6 : Row
lists_6 = row
    ((tree.Declared
    (tree.declaration (int 0)
    ((tree.initialized
    (tree.object 0 (name (codes "t") 4)
    (tree.given_length (digit 2 6) tree.no_lengths)
    (span 4 8))
    (tree.Braced
    (tree.initializers
    (tree.Single
    (tree.Binary binary.Divide (digit 1 10) (zero_at 12) (span 10 13)))
    tree.no_initializers)
    (span 9 14))) ∷ [])
    (span 0 15))) ∷ [])
    (refused NotConstant 10)

-- int f(void){int t[2]={1/0};return t[0];}
abbrev pub lists_7 : Row
lists_7 = row
    ((tree.Defined (int 0)
    (tree.function 0 (name (codes "f") 4) (tree.Void (span 5 11)) (span 4 11))
    (tree.local
    (tree.declaration (int 12)
    ((tree.initialized
    (tree.object 0 (name (codes "t") 16)
    (tree.given_length (digit 2 18) tree.no_lengths)
    (span 16 20))
    (tree.Braced
    (tree.initializers
    (tree.Single
    (tree.Binary binary.Divide (digit 1 22) (zero_at 24) (span 22 25)))
    tree.no_initializers)
    (span 21 26))) ∷ [])
    (span 12 27))
    (tree.statement
    (tree.Return (Some (tree.Index (the (codes "t") 34) (zero_at 36) (span 34 38)))
    (span 27 39)) tree.no_block_items))
    (span 0 40)) ∷ [])
    accepted

-- int a;int b=a;
abbrev pub lists_8 : Row
lists_8 = row
    ((tree.Declared
    (tree.declaration (int 0) ((tree.bare (object (name (codes "a") 4))) ∷ []) (span 0 6))) ∷
    (tree.Declared
    (tree.declaration (int 6)
    ((tree.initialized (object (name (codes "b") 10))
    (tree.Single (the (codes "a") 12))) ∷ [])
    (span 6 14))) ∷ [])
    (refused NotConstant 12)

-- int f(void){int t[2]=1+x;return 1;}
abbrev pub lists_9 : Row
lists_9 = row
    ((tree.Defined (int 0)
    (tree.function 0 (name (codes "f") 4) (tree.Void (span 5 11)) (span 4 11))
    (tree.local
    (tree.declaration (int 12)
    ((tree.initialized
    (tree.object 0 (name (codes "t") 16)
    (tree.given_length (digit 2 18) tree.no_lengths)
    (span 16 20))
    (tree.Single
    (tree.Binary binary.Add (digit 1 21) (the (codes "x") 23) (span 21 24)))) ∷
    [])
    (span 12 25))
    (tree.statement (tree.Return (Some (digit 1 32)) (span 25 34)) tree.no_block_items))
    (span 0 35)) ∷ [])
    (refused Mismatch 21)

-- struct S{int a;}s;struct S u=s;
abbrev pub lists_10 : Row
lists_10 = row
    ((tree.Declared
    (tree.declaration
    (tree.specifiers
    (tree.Structure (Some (name (codes "S") 7))
    (tree.members
    (tree.member (int 9)
    (tree.declarators (object (name (codes "a") 13)) tree.no_declarators)
    (span 9 15)) tree.no_members)
    (span 0 16)) tree.no_specifiers)
    ((tree.bare (object (name (codes "s") 16))) ∷ [])
    (span 0 18))) ∷
    (tree.Declared
    (tree.declaration
    (tree.specifiers (tree.StructureTag (name (codes "S") 25) (span 18 26))
    tree.no_specifiers)
    ((tree.initialized (object (name (codes "u") 27))
    (tree.Single (the (codes "s") 29))) ∷ [])
    (span 18 31))) ∷ [])
    (refused Mismatch 29)

-- struct S{int a;}s;int f(void){struct S u=s;struct S v={u.a};return v.a;}
abbrev pub lists_11 : Row
lists_11 = row
    ((tree.Declared
    (tree.declaration
    (tree.specifiers
    (tree.Structure (Some (name (codes "S") 7))
    (tree.members
    (tree.member (int 9)
    (tree.declarators (object (name (codes "a") 13)) tree.no_declarators)
    (span 9 15)) tree.no_members)
    (span 0 16)) tree.no_specifiers)
    ((tree.bare (object (name (codes "s") 16))) ∷ [])
    (span 0 18))) ∷
    (tree.Defined (int 18)
    (tree.function 0 (name (codes "f") 22) (tree.Void (span 23 29)) (span 22 29))
    (tree.local
    (tree.declaration
    (tree.specifiers (tree.StructureTag (name (codes "S") 37) (span 30 38))
    tree.no_specifiers)
    ((tree.initialized (object (name (codes "u") 39))
    (tree.Single (the (codes "s") 41))) ∷ [])
    (span 30 43))
    (tree.local
    (tree.declaration
    (tree.specifiers (tree.StructureTag (name (codes "S") 50) (span 43 51))
    tree.no_specifiers)
    ((tree.initialized (object (name (codes "v") 52))
    (tree.Braced
    (tree.initializers
    (tree.Single
    (tree.Member (the (codes "u") 55) (name (codes "a") 57)
    (span 55 58))) tree.no_initializers)
    (span 54 59))) ∷ [])
    (span 43 60))
    (tree.statement
    (tree.Return
    (Some (tree.Member (the (codes "v") 67) (name (codes "a") 69) (span 67 70)))
    (span 60 71)) tree.no_block_items)))
    (span 18 72)) ∷ [])
    accepted

-- struct S{int a[2];};const struct S s={{1}};void f(void){s.a[0]=2;}
abbrev pub lists_12 : Row
lists_12 = row
    ((tree.Declared
    (tree.declaration
    (tree.specifiers
    (tree.Structure (Some (name (codes "S") 7))
    (tree.members
    (tree.member (int 9)
    (tree.declarators
    (tree.object 0 (name (codes "a") 13)
    (tree.given_length (digit 2 15) tree.no_lengths)
    (span 13 17)) tree.no_declarators)
    (span 9 18)) tree.no_members)
    (span 0 19)) tree.no_specifiers) []
    (span 0 20))) ∷
    (tree.Declared
    (tree.declaration
    (tree.specifiers (tree.Word word.Const (span 20 25))
    (tree.specifiers (tree.StructureTag (name (codes "S") 33) (span 26 34))
    tree.no_specifiers))
    ((tree.initialized (object (name (codes "s") 35))
    (tree.Braced
    (tree.initializers
    (tree.Braced
    (tree.initializers (tree.Single (digit 1 39)) tree.no_initializers)
    (span 38 41)) tree.no_initializers)
    (span 37 42))) ∷ [])
    (span 20 43))) ∷
    (tree.Defined (void 43)
    (tree.function 0 (name (codes "f") 48) (tree.Void (span 49 55)) (span 48 55))
    (tree.statement
    (tree.ExpressionStatement
    (tree.Assignment assign.Assign
    (tree.Index
    (tree.Member (the (codes "s") 56) (name (codes "a") 58) (span 56 59))
    (zero_at 60)
    (span 56 62))
    (digit 2 63)
    (span 56 64))
    (span 56 65)) tree.no_block_items)
    (span 43 66)) ∷ [])
    (refused Mismatch 56)

abbrev pub all : List Row
all =
    lists_1 ∷ lists_2 ∷ lists_3 ∷ lists_4 ∷ lists_5 ∷ lists_6 ∷ lists_7 ∷ lists_8 ∷ lists_9 ∷
    lists_10 ∷ lists_11 ∷ lists_12 ∷ []
