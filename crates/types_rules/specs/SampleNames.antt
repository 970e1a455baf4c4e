-- Short texts on names, tags and scopes.
use Rattle.std.specs.Prelude.{List, [], ◌∷◌, codes, Some, None}
use Rattle.mc_tree.specs.declared.expressions.binary_operator.BinaryOperator.TheVariants as binary
use Rattle.mc_tree.specs.declared.expressions.assignment_operator.AssignmentOperator.TheVariants as assign
use Rattle.mc_tree.specs.declared.declarations.specifier_word.SpecifierWord.TheVariants as word
use Rattle.mc_tree.specs.Tree as tree
use Rattle.types_faults.specs.declared.fault.FaultKind.TheVariants.{Undeclared, Redeclared, Mismatch, NoBody}
use Rattle.types_rules.specs.Sampled.{Row, row, accepted, refused, name, span, int, void, the, digit, object, one_expression}

-- int f(void){return x;}
abbrev pub names_1 : Row
names_1 = row
    ((tree.Defined (int 0)
    (tree.function 0 (name (codes "f") 4) (tree.Void (span 5 11)) (span 4 11))
    (tree.statement (tree.Return (Some (the (codes "x") 19)) (span 12 21))
    tree.no_block_items)
    (span 0 22)) ∷ [])
    (refused Undeclared 19)

-- int a;int a;
abbrev pub names_2 : Row
names_2 = row
    ((tree.Declared
    (tree.declaration (int 0) ((tree.bare (object (name (codes "a") 4))) ∷ []) (span 0 6))) ∷
    (tree.Declared
    (tree.declaration (int 6) ((tree.bare (object (name (codes "a") 10))) ∷ []) (span 6 12)))
    ∷ [])
    (refused Redeclared 10)

-- int f(int a){int a;return 1;}
abbrev pub names_3 : Row
names_3 = row
    ((tree.Defined (int 0)
    (tree.function 0 (name (codes "f") 4)
    (tree.Listed
    (tree.parameters
    (tree.parameter (int 6) 0 (Some (name (codes "a") 10)) tree.no_lengths
    (span 6 11)) tree.no_parameters)
    (span 5 12))
    (span 4 12))
    (tree.local
    (tree.declaration (int 13) ((tree.bare (object (name (codes "a") 17))) ∷ [])
    (span 13 19))
    (tree.statement (tree.Return (Some (digit 1 26)) (span 19 28)) tree.no_block_items))
    (span 0 29)) ∷ [])
    (refused Redeclared 17)

-- int f(int a){{int a=1;a=2;}return a;}
abbrev pub names_4 : Row
names_4 = row
    ((tree.Defined (int 0)
    (tree.function 0 (name (codes "f") 4)
    (tree.Listed
    (tree.parameters
    (tree.parameter (int 6) 0 (Some (name (codes "a") 10)) tree.no_lengths
    (span 6 11)) tree.no_parameters)
    (span 5 12))
    (span 4 12))
    (tree.statement
    (tree.Compound
    (tree.local
    (tree.declaration (int 14)
    ((tree.initialized (object (name (codes "a") 18))
    (tree.Single (digit 1 20))) ∷ [])
    (span 14 22))
    (tree.statement
    (tree.ExpressionStatement
    (tree.Assignment assign.Assign (the (codes "a") 22) (digit 2 24)
    (span 22 25))
    (span 22 26)) tree.no_block_items))
    (span 13 27))
    (tree.statement (tree.Return (Some (the (codes "a") 34)) (span 27 36))
    tree.no_block_items))
    (span 0 37)) ∷ [])
    accepted

-- int f(void){{int b;}return b;}
abbrev pub names_5 : Row
names_5 = row
    ((tree.Defined (int 0)
    (tree.function 0 (name (codes "f") 4) (tree.Void (span 5 11)) (span 4 11))
    (tree.statement
    (tree.Compound
    (tree.local
    (tree.declaration (int 13) ((tree.bare (object (name (codes "b") 17))) ∷ [])
    (span 13 19)) tree.no_block_items)
    (span 12 20))
    (tree.statement (tree.Return (Some (the (codes "b") 27)) (span 20 29))
    tree.no_block_items))
    (span 0 30)) ∷ [])
    (refused Undeclared 27)

-- int f(int a,int a);
abbrev pub names_6 : Row
names_6 = row
    ((tree.Declared
    (tree.declaration (int 0)
    ((tree.bare
    (tree.function 0 (name (codes "f") 4)
    (tree.Listed
    (tree.parameters
    (tree.parameter (int 6) 0 (Some (name (codes "a") 10)) tree.no_lengths
    (span 6 11))
    (tree.parameters
    (tree.parameter (int 12) 0 (Some (name (codes "a") 16))
    tree.no_lengths
    (span 12 17)) tree.no_parameters))
    (span 5 18))
    (span 4 18))) ∷ [])
    (span 0 19))) ∷ [])
    (refused Redeclared 16)

-- enum{A,A};
abbrev pub names_7 : Row
names_7 = row
    ((tree.Declared
    (tree.declaration
    (tree.specifiers
    (tree.Enumeration None
    (tree.enumerators (tree.enumerator (name (codes "A") 5))
    (tree.enumerators (tree.enumerator (name (codes "A") 7)) tree.no_enumerators))
    (span 0 9)) tree.no_specifiers) []
    (span 0 10))) ∷ [])
    (refused Redeclared 7)

-- int f(void){int a=1;int b=a;for(int a=2;a;){int a=3;b=a;}return a;}
abbrev pub names_8 : Row
names_8 = row
    ((tree.Defined (int 0)
    (tree.function 0 (name (codes "f") 4) (tree.Void (span 5 11)) (span 4 11))
    (tree.local
    (tree.declaration (int 12)
    ((tree.initialized (object (name (codes "a") 16)) (tree.Single (digit 1 18))) ∷ [])
    (span 12 20))
    (tree.local
    (tree.declaration (int 20)
    ((tree.initialized (object (name (codes "b") 24))
    (tree.Single (the (codes "a") 26))) ∷ [])
    (span 20 28))
    (tree.statement
    (tree.For
    (tree.StartsLocal
    (tree.declaration (int 32)
    ((tree.initialized (object (name (codes "a") 36))
    (tree.Single (digit 2 38))) ∷ [])
    (span 32 40)))
    (Some (the (codes "a") 40)) None
    (tree.Compound
    (tree.local
    (tree.declaration (int 44)
    ((tree.initialized (object (name (codes "a") 48))
    (tree.Single (digit 3 50))) ∷ [])
    (span 44 52))
    (tree.statement
    (tree.ExpressionStatement
    (tree.Assignment assign.Assign (the (codes "b") 52)
    (the (codes "a") 54)
    (span 52 55))
    (span 52 56)) tree.no_block_items))
    (span 43 57))
    (span 28 57))
    (tree.statement (tree.Return (Some (the (codes "a") 64)) (span 57 66))
    tree.no_block_items))))
    (span 0 67)) ∷ [])
    accepted

-- struct a{int a;}a;int f(void){return a.a;}
abbrev pub names_9 : Row
names_9 = row
    ((tree.Declared
    (tree.declaration
    (tree.specifiers
    (tree.Structure (Some (name (codes "a") 7))
    (tree.members
    (tree.member (int 9)
    (tree.declarators (object (name (codes "a") 13)) tree.no_declarators)
    (span 9 15)) tree.no_members)
    (span 0 16)) tree.no_specifiers)
    ((tree.bare (object (name (codes "a") 16))) ∷ [])
    (span 0 18))) ∷
    (tree.Defined (int 18)
    (tree.function 0 (name (codes "f") 22) (tree.Void (span 23 29)) (span 22 29))
    (tree.statement
    (tree.Return
    (Some (tree.Member (the (codes "a") 37) (name (codes "a") 39) (span 37 40)))
    (span 30 41)) tree.no_block_items)
    (span 18 42)) ∷ [])
    accepted

-- struct S{int a;}s;int f(void){return s.b;}
abbrev pub names_10 : Row
names_10 = row
    ((tree.Declared
    (tree.declaration
    (tree.specifiers
    (tree.Structure (Some (name (codes "S") 7))
    (tree.members
    (tree.member (int 9)
    (tree.declarators (object (name (codes "a") 13)) tree.no_declarators)
    (span 9 15)) tree.no_members)
    (span 0 16)) tree.no_specifiers)
    ((tree.bare (object (name (codes "s") 16))) ∷ [])
    (span 0 18))) ∷
    (tree.Defined (int 18)
    (tree.function 0 (name (codes "f") 22) (tree.Void (span 23 29)) (span 22 29))
    (tree.statement
    (tree.Return
    (Some (tree.Member (the (codes "s") 37) (name (codes "b") 39) (span 37 40)))
    (span 30 41)) tree.no_block_items)
    (span 18 42)) ∷ [])
    (refused Undeclared 39)

-- struct S{int a;int a;};
abbrev pub names_11 : Row
names_11 = row
    ((tree.Declared
    (tree.declaration
    (tree.specifiers
    (tree.Structure (Some (name (codes "S") 7))
    (tree.members
    (tree.member (int 9)
    (tree.declarators (object (name (codes "a") 13)) tree.no_declarators)
    (span 9 15))
    (tree.members
    (tree.member (int 15)
    (tree.declarators (object (name (codes "a") 19)) tree.no_declarators)
    (span 15 21)) tree.no_members))
    (span 0 22)) tree.no_specifiers) []
    (span 0 23))) ∷ [])
    (refused Redeclared 19)

-- struct S{int a;};struct S{int a;};
abbrev pub names_12 : Row
names_12 = row
    ((tree.Declared
    (tree.declaration
    (tree.specifiers
    (tree.Structure (Some (name (codes "S") 7))
    (tree.members
    (tree.member (int 9)
    (tree.declarators (object (name (codes "a") 13)) tree.no_declarators)
    (span 9 15)) tree.no_members)
    (span 0 16)) tree.no_specifiers) []
    (span 0 17))) ∷
    (tree.Declared
    (tree.declaration
    (tree.specifiers
    (tree.Structure (Some (name (codes "S") 24))
    (tree.members
    (tree.member (int 26)
    (tree.declarators (object (name (codes "a") 30)) tree.no_declarators)
    (span 26 32)) tree.no_members)
    (span 17 33)) tree.no_specifiers) []
    (span 17 34))) ∷ [])
    (refused Redeclared 24)

-- struct S;struct S{int a;};struct S s;
abbrev pub names_13 : Row
names_13 = row
    ((tree.Declared
    (tree.declaration
    (tree.specifiers (tree.StructureTag (name (codes "S") 7) (span 0 8))
    tree.no_specifiers) []
    (span 0 9))) ∷
    (tree.Declared
    (tree.declaration
    (tree.specifiers
    (tree.Structure (Some (name (codes "S") 16))
    (tree.members
    (tree.member (int 18)
    (tree.declarators (object (name (codes "a") 22)) tree.no_declarators)
    (span 18 24)) tree.no_members)
    (span 9 25)) tree.no_specifiers) []
    (span 9 26))) ∷
    (tree.Declared
    (tree.declaration
    (tree.specifiers (tree.StructureTag (name (codes "S") 33) (span 26 34))
    tree.no_specifiers)
    ((tree.bare (object (name (codes "s") 35))) ∷ [])
    (span 26 37))) ∷ [])
    accepted

-- struct S x;
abbrev pub names_14 : Row
names_14 = row
    ((tree.Declared
    (tree.declaration
    (tree.specifiers (tree.StructureTag (name (codes "S") 7) (span 0 8))
    tree.no_specifiers)
    ((tree.bare (object (name (codes "x") 9))) ∷ [])
    (span 0 11))) ∷ [])
    (refused Undeclared 7)

-- int f(struct S);
abbrev pub names_15 : Row
names_15 = row
    ((tree.Declared
    (tree.declaration (int 0)
    ((tree.bare
    (tree.function 0 (name (codes "f") 4)
    (tree.Listed
    (tree.parameters
    (tree.parameter
    (tree.specifiers
    (tree.StructureTag (name (codes "S") 13) (span 6 14))
    tree.no_specifiers) 0 None tree.no_lengths
    (span 6 14)) tree.no_parameters)
    (span 5 15))
    (span 4 15))) ∷ [])
    (span 0 16))) ∷ [])
    (refused Undeclared 13)

-- struct S;struct S f(void);
abbrev pub names_16 : Row
names_16 = row
    ((tree.Declared
    (tree.declaration
    (tree.specifiers (tree.StructureTag (name (codes "S") 7) (span 0 8))
    tree.no_specifiers) []
    (span 0 9))) ∷
    (tree.Declared
    (tree.declaration
    (tree.specifiers (tree.StructureTag (name (codes "S") 16) (span 9 17))
    tree.no_specifiers)
    ((tree.bare
    (tree.function 0 (name (codes "f") 18) (tree.Void (span 19 25)) (span 18 25))) ∷
    [])
    (span 9 26))) ∷ [])
    accepted

-- enum E;
abbrev pub names_17 : Row
names_17 = row
    ((tree.Declared
    (tree.declaration
    (tree.specifiers (tree.EnumerationTag (name (codes "E") 5) (span 0 6))
    tree.no_specifiers) []
    (span 0 7))) ∷ [])
    (refused Undeclared 5)

-- enum E{A};enum E;enum E x=A;
abbrev pub names_18 : Row
names_18 = row
    ((tree.Declared
    (tree.declaration
    (tree.specifiers
    (tree.Enumeration (Some (name (codes "E") 5))
    (tree.enumerators (tree.enumerator (name (codes "A") 7)) tree.no_enumerators)
    (span 0 9)) tree.no_specifiers) []
    (span 0 10))) ∷
    (tree.Declared
    (tree.declaration
    (tree.specifiers (tree.EnumerationTag (name (codes "E") 15) (span 10 16))
    tree.no_specifiers) []
    (span 10 17))) ∷
    (tree.Declared
    (tree.declaration
    (tree.specifiers (tree.EnumerationTag (name (codes "E") 22) (span 17 23))
    tree.no_specifiers)
    ((tree.initialized (object (name (codes "x") 24))
    (tree.Single (the (codes "A") 26))) ∷ [])
    (span 17 28))) ∷ [])
    accepted

-- enum E{A};struct E x;
abbrev pub names_19 : Row
names_19 = row
    ((tree.Declared
    (tree.declaration
    (tree.specifiers
    (tree.Enumeration (Some (name (codes "E") 5))
    (tree.enumerators (tree.enumerator (name (codes "A") 7)) tree.no_enumerators)
    (span 0 9)) tree.no_specifiers) []
    (span 0 10))) ∷
    (tree.Declared
    (tree.declaration
    (tree.specifiers (tree.StructureTag (name (codes "E") 17) (span 10 18))
    tree.no_specifiers)
    ((tree.bare (object (name (codes "x") 19))) ∷ [])
    (span 10 21))) ∷ [])
    (refused Mismatch 10)

-- enum E{A};struct E;
abbrev pub names_20 : Row
names_20 = row
    ((tree.Declared
    (tree.declaration
    (tree.specifiers
    (tree.Enumeration (Some (name (codes "E") 5))
    (tree.enumerators (tree.enumerator (name (codes "A") 7)) tree.no_enumerators)
    (span 0 9)) tree.no_specifiers) []
    (span 0 10))) ∷
    (tree.Declared
    (tree.declaration
    (tree.specifiers (tree.StructureTag (name (codes "E") 17) (span 10 18))
    tree.no_specifiers) []
    (span 10 19))) ∷ [])
    (refused Redeclared 17)

-- struct S{int a;};void f(void){struct S;{struct S s;}}
abbrev pub names_21 : Row
names_21 = row
    ((tree.Declared
    (tree.declaration
    (tree.specifiers
    (tree.Structure (Some (name (codes "S") 7))
    (tree.members
    (tree.member (int 9)
    (tree.declarators (object (name (codes "a") 13)) tree.no_declarators)
    (span 9 15)) tree.no_members)
    (span 0 16)) tree.no_specifiers) []
    (span 0 17))) ∷
    (tree.Defined (void 17)
    (tree.function 0 (name (codes "f") 22) (tree.Void (span 23 29)) (span 22 29))
    (tree.local
    (tree.declaration
    (tree.specifiers (tree.StructureTag (name (codes "S") 37) (span 30 38))
    tree.no_specifiers) []
    (span 30 39))
    (tree.statement
    (tree.Compound
    (tree.local
    (tree.declaration
    (tree.specifiers (tree.StructureTag (name (codes "S") 47) (span 40 48))
    tree.no_specifiers)
    ((tree.bare (object (name (codes "s") 49))) ∷ [])
    (span 40 51)) tree.no_block_items)
    (span 39 52)) tree.no_block_items))
    (span 17 53)) ∷ [])
    (refused Mismatch 49)

-- int x=(enum{A,B})1;int y=B;
abbrev pub names_22 : Row
names_22 = row
    ((tree.Declared
    (tree.declaration (int 0)
    ((tree.initialized (object (name (codes "x") 4))
    (tree.Single
    (tree.Cast
    (tree.type_name
    (tree.specifiers
    (tree.Enumeration None
    (tree.enumerators (tree.enumerator (name (codes "A") 12))
    (tree.enumerators (tree.enumerator (name (codes "B") 14))
    tree.no_enumerators))
    (span 7 16)) tree.no_specifiers) 0
    (span 7 16))
    (digit 1 17)
    (span 6 18)))) ∷ [])
    (span 0 19))) ∷
    (tree.Declared
    (tree.declaration (int 19)
    ((tree.initialized (object (name (codes "y") 23))
    (tree.Single (the (codes "B") 25))) ∷ [])
    (span 19 27))) ∷ [])
    accepted

-- int f(void);static int f(void){return 1;}int f(void);
abbrev pub names_23 : Row
names_23 = row
    ((tree.Declared
    (tree.declaration (int 0)
    ((tree.bare
    (tree.function 0 (name (codes "f") 4) (tree.Void (span 5 11)) (span 4 11))) ∷ [])
    (span 0 12))) ∷
    (tree.Defined (tree.specifiers (tree.Word word.Static (span 12 18)) (int 19))
    (tree.function 0 (name (codes "f") 23) (tree.Void (span 24 30)) (span 23 30))
    (tree.statement (tree.Return (Some (digit 1 38)) (span 31 40)) tree.no_block_items)
    (span 12 41)) ∷
    (tree.Declared
    (tree.declaration (int 41)
    ((tree.bare
    (tree.function 0 (name (codes "f") 45) (tree.Void (span 46 52)) (span 45 52))) ∷
    [])
    (span 41 53))) ∷ [])
    accepted

-- int f(void){return 1;}int f(void){return 1;}
abbrev pub names_24 : Row
names_24 = row
    ((tree.Defined (int 0)
    (tree.function 0 (name (codes "f") 4) (tree.Void (span 5 11)) (span 4 11))
    (tree.statement (tree.Return (Some (digit 1 19)) (span 12 21)) tree.no_block_items)
    (span 0 22)) ∷
    (tree.Defined (int 22)
    (tree.function 0 (name (codes "f") 26) (tree.Void (span 27 33)) (span 26 33))
    (tree.statement (tree.Return (Some (digit 1 41)) (span 34 43)) tree.no_block_items)
    (span 22 44)) ∷ [])
    (refused Redeclared 26)

-- int f;int f(void);
abbrev pub names_25 : Row
names_25 = row
    ((tree.Declared
    (tree.declaration (int 0) ((tree.bare (object (name (codes "f") 4))) ∷ []) (span 0 6))) ∷
    (tree.Declared
    (tree.declaration (int 6)
    ((tree.bare
    (tree.function 0 (name (codes "f") 10) (tree.Void (span 11 17)) (span 10 17))) ∷
    [])
    (span 6 18))) ∷ [])
    (refused Redeclared 10)

-- int g(void);int f(void){return g();}
abbrev pub names_26 : Row
names_26 = row
    ((tree.Declared
    (tree.declaration (int 0)
    ((tree.bare
    (tree.function 0 (name (codes "g") 4) (tree.Void (span 5 11)) (span 4 11))) ∷ [])
    (span 0 12))) ∷
    (tree.Defined (int 12)
    (tree.function 0 (name (codes "f") 16) (tree.Void (span 17 23)) (span 16 23))
    (tree.statement
    (tree.Return
    (Some (tree.Call (name (codes "g") 31) tree.no_expressions (span 31 34)))
    (span 24 35)) tree.no_block_items)
    (span 12 36)) ∷ [])
    (refused NoBody 31)

-- int g(void);int f(void){return g();}int g(void){return 1;}
abbrev pub names_27 : Row
names_27 = row
    ((tree.Declared
    (tree.declaration (int 0)
    ((tree.bare
    (tree.function 0 (name (codes "g") 4) (tree.Void (span 5 11)) (span 4 11))) ∷ [])
    (span 0 12))) ∷
    (tree.Defined (int 12)
    (tree.function 0 (name (codes "f") 16) (tree.Void (span 17 23)) (span 16 23))
    (tree.statement
    (tree.Return
    (Some (tree.Call (name (codes "g") 31) tree.no_expressions (span 31 34)))
    (span 24 35)) tree.no_block_items)
    (span 12 36)) ∷
    (tree.Defined (int 36)
    (tree.function 0 (name (codes "g") 40) (tree.Void (span 41 47)) (span 40 47))
    (tree.statement (tree.Return (Some (digit 1 55)) (span 48 57)) tree.no_block_items)
    (span 36 58)) ∷ [])
    accepted

-- int mcdc_in;
abbrev pub names_28 : Row
names_28 = row
    ((tree.Declared
    (tree.declaration (int 0) ((tree.bare (object (name (codes "mcdc_in") 4))) ∷ [])
    (span 0 12))) ∷ [])
    (refused Mismatch 4)

-- enum{mcdc_out};
abbrev pub names_29 : Row
names_29 = row
    ((tree.Declared
    (tree.declaration
    (tree.specifiers
    (tree.Enumeration None
    (tree.enumerators (tree.enumerator (name (codes "mcdc_out") 5))
    tree.no_enumerators)
    (span 0 14)) tree.no_specifiers) []
    (span 0 15))) ∷ [])
    (refused Mismatch 5)

-- int f(void){int mcdc_in=1;return mcdc_in;}
abbrev pub names_30 : Row
names_30 = row
    ((tree.Defined (int 0)
    (tree.function 0 (name (codes "f") 4) (tree.Void (span 5 11)) (span 4 11))
    (tree.local
    (tree.declaration (int 12)
    ((tree.initialized (object (name (codes "mcdc_in") 16))
    (tree.Single (digit 1 24))) ∷ [])
    (span 12 26))
    (tree.statement (tree.Return (Some (the (codes "mcdc_in") 33)) (span 26 41))
    tree.no_block_items))
    (span 0 42)) ∷ [])
    accepted

-- int mcdc_in(void){return 1;}
abbrev pub names_31 : Row
names_31 = row
    ((tree.Defined (int 0)
    (tree.function 0 (name (codes "mcdc_in") 4) (tree.Void (span 11 17)) (span 4 17))
    (tree.statement (tree.Return (Some (digit 1 25)) (span 18 27)) tree.no_block_items)
    (span 0 28)) ∷ [])
    (refused Redeclared 4)

-- long mcdc_in(void){return 1;}
abbrev pub names_32 : Row
names_32 = row
    ((tree.Defined (tree.specifiers (tree.Word word.Long (span 0 4)) tree.no_specifiers)
    (tree.function 0 (name (codes "mcdc_in") 5) (tree.Void (span 12 18)) (span 5 18))
    (tree.statement (tree.Return (Some (digit 1 26)) (span 19 28)) tree.no_block_items)
    (span 0 29)) ∷ [])
    (refused Redeclared 5)

-- int mcdc_in(int a);
abbrev pub names_33 : Row
names_33 = row
    ((tree.Declared
    (tree.declaration (int 0)
    ((tree.bare
    (tree.function 0 (name (codes "mcdc_in") 4)
    (tree.Listed
    (tree.parameters
    (tree.parameter (int 12) 0 (Some (name (codes "a") 16))
    tree.no_lengths
    (span 12 17)) tree.no_parameters)
    (span 11 18))
    (span 4 18))) ∷ [])
    (span 0 19))) ∷ [])
    (refused Mismatch 4)

-- int mcdc_in(void);void mcdc_out(int v);void f(void){mcdc_out(mcdc_in());}
abbrev pub names_34 : Row
names_34 = row
    ((tree.Declared
    (tree.declaration (int 0)
    ((tree.bare
    (tree.function 0 (name (codes "mcdc_in") 4) (tree.Void (span 11 17))
    (span 4 17))) ∷ [])
    (span 0 18))) ∷
    (tree.Declared
    (tree.declaration (void 18)
    ((tree.bare
    (tree.function 0 (name (codes "mcdc_out") 23)
    (tree.Listed
    (tree.parameters
    (tree.parameter (int 32) 0 (Some (name (codes "v") 36))
    tree.no_lengths
    (span 32 37)) tree.no_parameters)
    (span 31 38))
    (span 23 38))) ∷ [])
    (span 18 39))) ∷
    (tree.Defined (void 39)
    (tree.function 0 (name (codes "f") 44) (tree.Void (span 45 51)) (span 44 51))
    (tree.statement
    (tree.ExpressionStatement
    (tree.Call (name (codes "mcdc_out") 52)
    (one_expression
    (tree.Call (name (codes "mcdc_in") 61) tree.no_expressions (span 61 70)))
    (span 52 71))
    (span 52 72)) tree.no_block_items)
    (span 39 73)) ∷ [])
    accepted

-- struct S{int a;}s;int f(int s){return s+1;}
abbrev pub names_35 : Row
names_35 = row
    ((tree.Declared
    (tree.declaration
    (tree.specifiers
    (tree.Structure (Some (name (codes "S") 7))
    (tree.members
    (tree.member (int 9)
    (tree.declarators (object (name (codes "a") 13)) tree.no_declarators)
    (span 9 15)) tree.no_members)
    (span 0 16)) tree.no_specifiers)
    ((tree.bare (object (name (codes "s") 16))) ∷ [])
    (span 0 18))) ∷
    (tree.Defined (int 18)
    (tree.function 0 (name (codes "f") 22)
    (tree.Listed
    (tree.parameters
    (tree.parameter (int 24) 0 (Some (name (codes "s") 28)) tree.no_lengths
    (span 24 29)) tree.no_parameters)
    (span 23 30))
    (span 22 30))
    (tree.statement
    (tree.Return
    (Some (tree.Binary binary.Add (the (codes "s") 38) (digit 1 40) (span 38 41)))
    (span 31 42)) tree.no_block_items)
    (span 18 43)) ∷ [])
    accepted

-- int a;void f(void){int a[2];1+a;}
abbrev pub names_36 : Row
names_36 = row
    ((tree.Declared
    (tree.declaration (int 0) ((tree.bare (object (name (codes "a") 4))) ∷ []) (span 0 6))) ∷
    (tree.Defined (void 6)
    (tree.function 0 (name (codes "f") 11) (tree.Void (span 12 18)) (span 11 18))
    (tree.local
    (tree.declaration (int 19)
    ((tree.bare
    (tree.object 0 (name (codes "a") 23)
    (tree.given_length (digit 2 25) tree.no_lengths)
    (span 23 27))) ∷ [])
    (span 19 28))
    (tree.statement
    (tree.ExpressionStatement
    (tree.Binary binary.Add (digit 1 28) (the (codes "a") 30) (span 28 31))
    (span 28 32)) tree.no_block_items))
    (span 6 33)) ∷ [])
    (refused Mismatch 28)

-- struct S{int a;};void f(void){struct S s={1};{int s=2;s=3;}s.a=4;}
abbrev pub names_37 : Row
names_37 = row
    ((tree.Declared
    (tree.declaration
    (tree.specifiers
    (tree.Structure (Some (name (codes "S") 7))
    (tree.members
    (tree.member (int 9)
    (tree.declarators (object (name (codes "a") 13)) tree.no_declarators)
    (span 9 15)) tree.no_members)
    (span 0 16)) tree.no_specifiers) []
    (span 0 17))) ∷
    (tree.Defined (void 17)
    (tree.function 0 (name (codes "f") 22) (tree.Void (span 23 29)) (span 22 29))
    (tree.local
    (tree.declaration
    (tree.specifiers (tree.StructureTag (name (codes "S") 37) (span 30 38))
    tree.no_specifiers)
    ((tree.initialized (object (name (codes "s") 39))
    (tree.Braced
    (tree.initializers (tree.Single (digit 1 42)) tree.no_initializers)
    (span 41 44))) ∷ [])
    (span 30 45))
    (tree.statement
    (tree.Compound
    (tree.local
    (tree.declaration (int 46)
    ((tree.initialized (object (name (codes "s") 50))
    (tree.Single (digit 2 52))) ∷ [])
    (span 46 54))
    (tree.statement
    (tree.ExpressionStatement
    (tree.Assignment assign.Assign (the (codes "s") 54) (digit 3 56)
    (span 54 57))
    (span 54 58)) tree.no_block_items))
    (span 45 59))
    (tree.statement
    (tree.ExpressionStatement
    (tree.Assignment assign.Assign
    (tree.Member (the (codes "s") 59) (name (codes "a") 61) (span 59 62))
    (digit 4 63)
    (span 59 64))
    (span 59 65)) tree.no_block_items)))
    (span 17 66)) ∷ [])
    accepted

abbrev pub all : List Row
all =
    names_1 ∷ names_2 ∷ names_3 ∷ names_4 ∷ names_5 ∷ names_6 ∷ names_7 ∷ names_8 ∷ names_9 ∷
    names_10 ∷ names_11 ∷ names_12 ∷ names_13 ∷ names_14 ∷ names_15 ∷ names_16 ∷ names_17 ∷
    names_18 ∷ names_19 ∷ names_20 ∷ names_21 ∷ names_22 ∷ names_23 ∷ names_24 ∷ names_25 ∷
    names_26 ∷ names_27 ∷ names_28 ∷ names_29 ∷ names_30 ∷ names_31 ∷ names_32 ∷ names_33 ∷
    names_34 ∷ names_35 ∷ names_36 ∷ names_37 ∷ []
