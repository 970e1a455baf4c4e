-- Short texts on types and declarations.
use Rattle.std.specs.Prelude.{true, false, List, [], ◌∷◌, codes, Some, None}
use Rattle.mc_tree.specs.declared.expressions.binary_operator.BinaryOperator.TheVariants as binary
use Rattle.mc_tree.specs.declared.declarations.specifier_word.SpecifierWord.TheVariants as word
use Rattle.mc_tree.specs.Tree as tree
use Rattle.types_faults.specs.declared.fault.FaultKind.TheVariants.{Undeclared, Redeclared, Mismatch, NotConstant}
use Rattle.types_rules.specs.Sampled.{Row, row, accepted, refused, name, span, int, void, the, digit, zero_at, object}

-- int n=1;int t[n];
abbrev pub types_1 : Row
types_1 = row
    ((tree.Declared
    (tree.declaration (int 0)
    ((tree.initialized (object (name (codes "n") 4)) (tree.Single (digit 1 6))) ∷ [])
    (span 0 8))) ∷
    (tree.Declared
    (tree.declaration (int 8)
    ((tree.bare
    (tree.object 0 (name (codes "t") 12)
    (tree.given_length (the (codes "n") 14) tree.no_lengths)
    (span 12 16))) ∷ [])
    (span 8 17))) ∷ [])
    (refused NotConstant 14)

-- int n;int t[(n)];
abbrev pub types_2 : Row
types_2 = row
    ((tree.Declared
    (tree.declaration (int 0) ((tree.bare (object (name (codes "n") 4))) ∷ []) (span 0 6))) ∷
    (tree.Declared
    (tree.declaration (int 6)
    ((tree.bare
    (tree.object 0 (name (codes "t") 10)
    (tree.given_length (tree.Parenthesized (the (codes "n") 13) (span 12 15))
    tree.no_lengths)
    (span 10 16))) ∷ [])
    (span 6 17))) ∷ [])
    (refused NotConstant 12)

-- int t[1/0];
abbrev pub types_3 : Row
types_3 = row
    ((tree.Declared
    (tree.declaration (int 0)
    ((tree.bare
    (tree.object 0 (name (codes "t") 4)
    (tree.given_length
    (tree.Binary binary.Divide (digit 1 6) (zero_at 8) (span 6 9))
    tree.no_lengths)
    (span 4 10))) ∷ [])
    (span 0 11))) ∷ [])
    (refused NotConstant 6)

-- int t[1||1/0];
abbrev pub types_4 : Row
types_4 = row
    ((tree.Declared
    (tree.declaration (int 0)
    ((tree.bare
    (tree.object 0 (name (codes "t") 4)
    (tree.given_length
    (tree.Binary binary.Or (digit 1 6)
    (tree.Binary binary.Divide (digit 1 9) (zero_at 11) (span 9 12))
    (span 6 12)) tree.no_lengths)
    (span 4 13))) ∷ [])
    (span 0 14))) ∷ [])
    accepted

-- int f(void){return 1;}int t[f()];
abbrev pub types_5 : Row
types_5 = row
    ((tree.Defined (int 0)
    (tree.function 0 (name (codes "f") 4) (tree.Void (span 5 11)) (span 4 11))
    (tree.statement (tree.Return (Some (digit 1 19)) (span 12 21)) tree.no_block_items)
    (span 0 22)) ∷
    (tree.Declared
    (tree.declaration (int 22)
    ((tree.bare
    (tree.object 0 (name (codes "t") 26)
    (tree.given_length
    (tree.Call (name (codes "f") 28) tree.no_expressions (span 28 31))
    tree.no_lengths)
    (span 26 32))) ∷ [])
    (span 22 33))) ∷ [])
    (refused NotConstant 28)

-- int t[0];
abbrev pub types_6 : Row
types_6 = row
    ((tree.Declared
    (tree.declaration (int 0)
    ((tree.bare
    (tree.object 0 (name (codes "t") 4)
    (tree.given_length (zero_at 6) tree.no_lengths)
    (span 4 8))) ∷ [])
    (span 0 9))) ∷ [])
    (refused Mismatch 6)

-- int t[];
abbrev pub types_7 : Row
types_7 = row
    ((tree.Declared
    (tree.declaration (int 0)
    ((tree.bare
    (tree.object 0 (name (codes "t") 4) (tree.absent_length tree.no_lengths)
    (span 4 7))) ∷ [])
    (span 0 8))) ∷ [])
    (refused Mismatch 4)

-- int t[2][]={1};
abbrev pub types_8 : Row
types_8 = row
    ((tree.Declared
    (tree.declaration (int 0)
    ((tree.initialized
    (tree.object 0 (name (codes "t") 4)
    (tree.given_length (digit 2 6) (tree.absent_length tree.no_lengths))
    (span 4 10))
    (tree.Braced
    (tree.initializers (tree.Single (digit 1 12)) tree.no_initializers)
    (span 11 14))) ∷ [])
    (span 0 15))) ∷ [])
    (refused Mismatch 4)

-- int f(int a[0]){return 1;}
abbrev pub types_9 : Row
types_9 = row
    ((tree.Defined (int 0)
    (tree.function 0 (name (codes "f") 4)
    (tree.Listed
    (tree.parameters
    (tree.parameter (int 6) 0 (Some (name (codes "a") 10))
    (tree.given_length (zero_at 12) tree.no_lengths)
    (span 6 14)) tree.no_parameters)
    (span 5 15))
    (span 4 15))
    (tree.statement (tree.Return (Some (digit 1 23)) (span 16 25)) tree.no_block_items)
    (span 0 26)) ∷ [])
    (refused Mismatch 12)

-- int n;int f(int a[n]){return 1;}
abbrev pub types_10 : Row
types_10 = row
    ((tree.Declared
    (tree.declaration (int 0) ((tree.bare (object (name (codes "n") 4))) ∷ []) (span 0 6))) ∷
    (tree.Defined (int 6)
    (tree.function 0 (name (codes "f") 10)
    (tree.Listed
    (tree.parameters
    (tree.parameter (int 12) 0 (Some (name (codes "a") 16))
    (tree.given_length (the (codes "n") 18) tree.no_lengths)
    (span 12 20)) tree.no_parameters)
    (span 11 21))
    (span 10 21))
    (tree.statement (tree.Return (Some (digit 1 29)) (span 22 31)) tree.no_block_items)
    (span 6 32)) ∷ [])
    (refused NotConstant 18)

-- int f(int a[][2]){return a[0][1];}
abbrev pub types_11 : Row
types_11 = row
    ((tree.Defined (int 0)
    (tree.function 0 (name (codes "f") 4)
    (tree.Listed
    (tree.parameters
    (tree.parameter (int 6) 0 (Some (name (codes "a") 10))
    (tree.absent_length (tree.given_length (digit 2 14) tree.no_lengths))
    (span 6 16)) tree.no_parameters)
    (span 5 17))
    (span 4 17))
    (tree.statement
    (tree.Return
    (Some
    (tree.Index (tree.Index (the (codes "a") 25) (zero_at 27) (span 25 29))
    (digit 1 30)
    (span 25 32)))
    (span 18 33)) tree.no_block_items)
    (span 0 34)) ∷ [])
    accepted

-- void x;
abbrev pub types_12 : Row
types_12 = row
    ((tree.Declared
    (tree.declaration (void 0) ((tree.bare (object (name (codes "x") 5))) ∷ []) (span 0 7))) ∷
    [])
    (refused Mismatch 5)

-- struct S;struct S x;
abbrev pub types_13 : Row
types_13 = row
    ((tree.Declared
    (tree.declaration
    (tree.specifiers (tree.StructureTag (name (codes "S") 7) (span 0 8))
    tree.no_specifiers) []
    (span 0 9))) ∷
    (tree.Declared
    (tree.declaration
    (tree.specifiers (tree.StructureTag (name (codes "S") 16) (span 9 17))
    tree.no_specifiers)
    ((tree.bare (object (name (codes "x") 18))) ∷ [])
    (span 9 20))) ∷ [])
    (refused Mismatch 18)

-- struct S{struct S s;};
abbrev pub types_14 : Row
types_14 = row
    ((tree.Declared
    (tree.declaration
    (tree.specifiers
    (tree.Structure (Some (name (codes "S") 7))
    (tree.members
    (tree.member
    (tree.specifiers (tree.StructureTag (name (codes "S") 16) (span 9 17))
    tree.no_specifiers)
    (tree.declarators (object (name (codes "s") 18)) tree.no_declarators)
    (span 9 20)) tree.no_members)
    (span 0 21)) tree.no_specifiers) []
    (span 0 22))) ∷ [])
    (refused Mismatch 18)

-- struct S;int f(struct S s);
abbrev pub types_15 : Row
types_15 = row
    ((tree.Declared
    (tree.declaration
    (tree.specifiers (tree.StructureTag (name (codes "S") 7) (span 0 8))
    tree.no_specifiers) []
    (span 0 9))) ∷
    (tree.Declared
    (tree.declaration (int 9)
    ((tree.bare
    (tree.function 0 (name (codes "f") 13)
    (tree.Listed
    (tree.parameters
    (tree.parameter
    (tree.specifiers
    (tree.StructureTag (name (codes "S") 22) (span 15 23))
    tree.no_specifiers) 0
    (Some (name (codes "s") 24)) tree.no_lengths
    (span 15 25)) tree.no_parameters)
    (span 14 26))
    (span 13 26))) ∷ [])
    (span 9 27))) ∷ [])
    (refused Mismatch 24)

-- struct S;int f(struct S);
abbrev pub types_16 : Row
types_16 = row
    ((tree.Declared
    (tree.declaration
    (tree.specifiers (tree.StructureTag (name (codes "S") 7) (span 0 8))
    tree.no_specifiers) []
    (span 0 9))) ∷
    (tree.Declared
    (tree.declaration (int 9)
    ((tree.bare
    (tree.function 0 (name (codes "f") 13)
    (tree.Listed
    (tree.parameters
    (tree.parameter
    (tree.specifiers
    (tree.StructureTag (name (codes "S") 22) (span 15 23))
    tree.no_specifiers) 0 None tree.no_lengths
    (span 15 23)) tree.no_parameters)
    (span 14 24))
    (span 13 24))) ∷ [])
    (span 9 25))) ∷ [])
    (refused Mismatch 15)

-- int f(int){return 1;}
abbrev pub types_17 : Row
types_17 = row
    ((tree.Defined (int 0)
    (tree.function 0 (name (codes "f") 4)
    (tree.Listed
    (tree.parameters (tree.parameter (int 6) 0 None tree.no_lengths (span 6 9))
    tree.no_parameters)
    (span 5 10))
    (span 4 10))
    (tree.statement (tree.Return (Some (digit 1 18)) (span 11 20)) tree.no_block_items)
    (span 0 21)) ∷ [])
    (refused Mismatch 6)

-- int f(int);
abbrev pub types_18 : Row
types_18 = row
    ((tree.Declared
    (tree.declaration (int 0)
    ((tree.bare
    (tree.function 0 (name (codes "f") 4)
    (tree.Listed
    (tree.parameters
    (tree.parameter (int 6) 0 None tree.no_lengths (span 6 9))
    tree.no_parameters)
    (span 5 10))
    (span 4 10))) ∷ [])
    (span 0 11))) ∷ [])
    accepted

-- int f(int a);int f(long a);
abbrev pub types_19 : Row
types_19 = row
    ((tree.Declared
    (tree.declaration (int 0)
    ((tree.bare
    (tree.function 0 (name (codes "f") 4)
    (tree.Listed
    (tree.parameters
    (tree.parameter (int 6) 0 (Some (name (codes "a") 10)) tree.no_lengths
    (span 6 11)) tree.no_parameters)
    (span 5 12))
    (span 4 12))) ∷ [])
    (span 0 13))) ∷
    (tree.Declared
    (tree.declaration (int 13)
    ((tree.bare
    (tree.function 0 (name (codes "f") 17)
    (tree.Listed
    (tree.parameters
    (tree.parameter
    (tree.specifiers (tree.Word word.Long (span 19 23))
    tree.no_specifiers) 0
    (Some (name (codes "a") 24)) tree.no_lengths
    (span 19 25)) tree.no_parameters)
    (span 18 26))
    (span 17 26))) ∷ [])
    (span 13 27))) ∷ [])
    (refused Mismatch 17)

-- int f(const int a);int f(int a){return a;}
abbrev pub types_20 : Row
types_20 = row
    ((tree.Declared
    (tree.declaration (int 0)
    ((tree.bare
    (tree.function 0 (name (codes "f") 4)
    (tree.Listed
    (tree.parameters
    (tree.parameter
    (tree.specifiers (tree.Word word.Const (span 6 11)) (int 12)) 0
    (Some (name (codes "a") 16)) tree.no_lengths
    (span 6 17)) tree.no_parameters)
    (span 5 18))
    (span 4 18))) ∷ [])
    (span 0 19))) ∷
    (tree.Defined (int 19)
    (tree.function 0 (name (codes "f") 23)
    (tree.Listed
    (tree.parameters
    (tree.parameter (int 25) 0 (Some (name (codes "a") 29)) tree.no_lengths
    (span 25 30)) tree.no_parameters)
    (span 24 31))
    (span 23 31))
    (tree.statement (tree.Return (Some (the (codes "a") 39)) (span 32 41))
    tree.no_block_items)
    (span 19 42)) ∷ [])
    accepted

-- int f(const int a[]);int f(int a[]){return a[0];}
abbrev pub types_21 : Row
types_21 = row
    ((tree.Declared
    (tree.declaration (int 0)
    ((tree.bare
    (tree.function 0 (name (codes "f") 4)
    (tree.Listed
    (tree.parameters
    (tree.parameter
    (tree.specifiers (tree.Word word.Const (span 6 11)) (int 12)) 0
    (Some (name (codes "a") 16))
    (tree.absent_length tree.no_lengths)
    (span 6 19)) tree.no_parameters)
    (span 5 20))
    (span 4 20))) ∷ [])
    (span 0 21))) ∷
    (tree.Defined (int 21)
    (tree.function 0 (name (codes "f") 25)
    (tree.Listed
    (tree.parameters
    (tree.parameter (int 27) 0 (Some (name (codes "a") 31))
    (tree.absent_length tree.no_lengths)
    (span 27 34)) tree.no_parameters)
    (span 26 35))
    (span 25 35))
    (tree.statement
    (tree.Return (Some (tree.Index (the (codes "a") 43) (zero_at 45) (span 43 47)))
    (span 36 48)) tree.no_block_items)
    (span 21 49)) ∷ [])
    (refused Mismatch 25)

-- typedef int T[2];T f(void);
abbrev pub types_22 : Row
types_22 = row
    ((tree.Declared
    (tree.declaration (tree.specifiers (tree.Word word.Typedef (span 0 7)) (int 8))
    ((tree.bare
    (tree.object 0 (name (codes "T") 12)
    (tree.given_length (digit 2 14) tree.no_lengths)
    (span 12 16))) ∷ [])
    (span 0 17))) ∷
    (tree.Declared
    (tree.declaration
    (tree.specifiers (tree.TypedefName (name (codes "T") 17)) tree.no_specifiers)
    ((tree.bare
    (tree.function 0 (name (codes "f") 19) (tree.Void (span 20 26)) (span 19 26))) ∷
    [])
    (span 17 27))) ∷ [])
    (refused Mismatch 19)

-- struct S;struct S f(void);
abbrev pub types_23 : Row
types_23 = row
    ((tree.Declared
    (tree.declaration
    (tree.specifiers (tree.StructureTag (name (codes "S") 7) (span 0 8))
    tree.no_specifiers) []
    (span 0 9))) ∷
    (tree.Declared
    (tree.declaration
    (tree.specifiers (tree.StructureTag (name (codes "S") 16) (span 9 17))
    tree.no_specifiers)
    ((tree.bare
    (tree.function 0 (name (codes "f") 18) (tree.Void (span 19 25)) (span 18 25))) ∷
    [])
    (span 9 26))) ∷ [])
    accepted

-- struct S;struct S f(void){}
abbrev pub types_24 : Row
types_24 = row
    ((tree.Declared
    (tree.declaration
    (tree.specifiers (tree.StructureTag (name (codes "S") 7) (span 0 8))
    tree.no_specifiers) []
    (span 0 9))) ∷
    (tree.Defined
    (tree.specifiers (tree.StructureTag (name (codes "S") 16) (span 9 17))
    tree.no_specifiers)
    (tree.function 0 (name (codes "f") 18) (tree.Void (span 19 25)) (span 18 25))
    tree.no_block_items
    (span 9 27)) ∷ [])
    (refused Mismatch 18)

-- int f(void)=1;
abbrev pub types_25 : Row
types_25 = row
    ((tree.Declared
    (tree.declaration (int 0)
    ((tree.initialized
    (tree.function 0 (name (codes "f") 4) (tree.Void (span 5 11)) (span 4 11))
    (tree.Single (digit 1 12))) ∷ [])
    (span 0 14))) ∷ [])
    (refused Mismatch 4)

-- typedef int T=1;
abbrev pub types_26 : Row
types_26 = row
    ((tree.Declared
    (tree.declaration (tree.specifiers (tree.Word word.Typedef (span 0 7)) (int 8))
    ((tree.initialized (object (name (codes "T") 12)) (tree.Single (digit 1 14))) ∷ [])
    (span 0 16))) ∷ [])
    (refused Mismatch 12)

-- typedef int T(void);
abbrev pub types_27 : Row
types_27 = row
    ((tree.Declared
    (tree.declaration (tree.specifiers (tree.Word word.Typedef (span 0 7)) (int 8))
    ((tree.bare
    (tree.function 0 (name (codes "T") 12) (tree.Void (span 13 19)) (span 12 19))) ∷
    [])
    (span 0 20))) ∷ [])
    (refused Mismatch 12)

-- int;
abbrev pub types_28 : Row
types_28 = row
    ((tree.Declared (tree.declaration (int 0) [] (span 0 4))) ∷ [])
    (refused Mismatch 0)

-- struct{int a;};
abbrev pub types_29 : Row
types_29 = row
    ((tree.Declared
    (tree.declaration
    (tree.specifiers
    (tree.Structure None
    (tree.members
    (tree.member (int 7)
    (tree.declarators (object (name (codes "a") 11)) tree.no_declarators)
    (span 7 13)) tree.no_members)
    (span 0 14)) tree.no_specifiers) []
    (span 0 15))) ∷ [])
    (refused Mismatch 0)

-- enum{A};
abbrev pub types_30 : Row
types_30 = row
    ((tree.Declared
    (tree.declaration
    (tree.specifiers
    (tree.Enumeration None
    (tree.enumerators (tree.enumerator (name (codes "A") 5)) tree.no_enumerators)
    (span 0 7)) tree.no_specifiers) []
    (span 0 8))) ∷ [])
    accepted

-- enum{A=2147483648};
abbrev pub types_31 : Row
types_31 = row
    ((tree.Declared
    (tree.declaration
    (tree.specifiers
    (tree.Enumeration None
    (tree.enumerators
    (tree.valued_enumerator (name (codes "A") 5)
    (tree.Constant 2147483648 true false 0 (span 7 17))) tree.no_enumerators)
    (span 0 18)) tree.no_specifiers) []
    (span 0 19))) ∷ [])
    (refused Mismatch 5)

-- enum{A=2147483647,B};
abbrev pub types_32 : Row
types_32 = row
    ((tree.Declared
    (tree.declaration
    (tree.specifiers
    (tree.Enumeration None
    (tree.enumerators
    (tree.valued_enumerator (name (codes "A") 5)
    (tree.Constant 2147483647 true false 0 (span 7 17)))
    (tree.enumerators (tree.enumerator (name (codes "B") 18))
    tree.no_enumerators))
    (span 0 20)) tree.no_specifiers) []
    (span 0 21))) ∷ [])
    (refused Mismatch 18)

-- int a;enum{A=a};
abbrev pub types_33 : Row
types_33 = row
    ((tree.Declared
    (tree.declaration (int 0) ((tree.bare (object (name (codes "a") 4))) ∷ []) (span 0 6))) ∷
    (tree.Declared
    (tree.declaration
    (tree.specifiers
    (tree.Enumeration None
    (tree.enumerators
    (tree.valued_enumerator (name (codes "A") 11) (the (codes "a") 13))
    tree.no_enumerators)
    (span 6 15)) tree.no_specifiers) []
    (span 6 16))) ∷ [])
    (refused NotConstant 13)

-- struct S{int f(void);};
abbrev pub types_34 : Row
types_34 = row
    ((tree.Declared
    (tree.declaration
    (tree.specifiers
    (tree.Structure (Some (name (codes "S") 7))
    (tree.members
    (tree.member (int 9)
    (tree.declarators
    (tree.function 0 (name (codes "f") 13) (tree.Void (span 14 20))
    (span 13 20)) tree.no_declarators)
    (span 9 21)) tree.no_members)
    (span 0 22)) tree.no_specifiers) []
    (span 0 23))) ∷ [])
    (refused Mismatch 13)

-- typedef int mcdc_in;
abbrev pub types_35 : Row
types_35 = row
    ((tree.Declared
    (tree.declaration (tree.specifiers (tree.Word word.Typedef (span 0 7)) (int 8))
    ((tree.bare (object (name (codes "mcdc_in") 12))) ∷ [])
    (span 0 20))) ∷ [])
    (refused Mismatch 12)

-- struct mcdc_in{int mcdc_out;};
abbrev pub types_36 : Row
types_36 = row
    ((tree.Declared
    (tree.declaration
    (tree.specifiers
    (tree.Structure (Some (name (codes "mcdc_in") 7))
    (tree.members
    (tree.member (int 15)
    (tree.declarators (object (name (codes "mcdc_out") 19))
    tree.no_declarators)
    (span 15 28)) tree.no_members)
    (span 0 29)) tree.no_specifiers) []
    (span 0 30))) ∷ [])
    accepted

-- const struct S;
abbrev pub types_37 : Row
types_37 = row
    ((tree.Declared
    (tree.declaration
    (tree.specifiers (tree.Word word.Const (span 0 5))
    (tree.specifiers (tree.StructureTag (name (codes "S") 13) (span 6 14))
    tree.no_specifiers)) []
    (span 0 15))) ∷ [])
    (refused Undeclared 13)

-- void a[2];
abbrev pub types_38 : Row
types_38 = row
    ((tree.Declared
    (tree.declaration (void 0)
    ((tree.bare
    (tree.object 0 (name (codes "a") 5)
    (tree.given_length (digit 2 7) tree.no_lengths)
    (span 5 9))) ∷ [])
    (span 0 10))) ∷ [])
    (refused Mismatch 5)

-- int t[(0)];
abbrev pub types_39 : Row
types_39 = row
    ((tree.Declared
    (tree.declaration (int 0)
    ((tree.bare
    (tree.object 0 (name (codes "t") 4)
    (tree.given_length (tree.Parenthesized (zero_at 7) (span 6 9))
    tree.no_lengths)
    (span 4 10))) ∷ [])
    (span 0 11))) ∷ [])
    (refused Mismatch 6)

-- void x[u];
abbrev pub types_40 : Row
types_40 = row
    ((tree.Declared
    (tree.declaration (void 0)
    ((tree.bare
    (tree.object 0 (name (codes "x") 5)
    (tree.given_length (the (codes "u") 7) tree.no_lengths)
    (span 5 9))) ∷ [])
    (span 0 10))) ∷ [])
    (refused Mismatch 5)

-- struct S;struct S x[u];
abbrev pub types_41 : Row
types_41 = row
    ((tree.Declared
    (tree.declaration
    (tree.specifiers (tree.StructureTag (name (codes "S") 7) (span 0 8))
    tree.no_specifiers) []
    (span 0 9))) ∷
    (tree.Declared
    (tree.declaration
    (tree.specifiers (tree.StructureTag (name (codes "S") 16) (span 9 17))
    tree.no_specifiers)
    ((tree.bare
    (tree.object 0 (name (codes "x") 18)
    (tree.given_length (the (codes "u") 20) tree.no_lengths)
    (span 18 22))) ∷ [])
    (span 9 23))) ∷ [])
    (refused Mismatch 18)

-- int f(void[u]);
abbrev pub types_42 : Row
types_42 = row
    ((tree.Declared
    (tree.declaration (int 0)
    ((tree.bare
    (tree.function 0 (name (codes "f") 4)
    (tree.Listed
    (tree.parameters
    (tree.parameter (void 6) 0 None
    (tree.given_length (the (codes "u") 11) tree.no_lengths)
    (span 6 13)) tree.no_parameters)
    (span 5 14))
    (span 4 14))) ∷ [])
    (span 0 15))) ∷ [])
    (refused Mismatch 6)

-- struct S{void a[u];};
abbrev pub types_43 : Row
types_43 = row
    ((tree.Declared
    (tree.declaration
    (tree.specifiers
    (tree.Structure (Some (name (codes "S") 7))
    (tree.members
    (tree.member (void 9)
    (tree.declarators
    (tree.object 0 (name (codes "a") 14)
    (tree.given_length (the (codes "u") 16) tree.no_lengths)
    (span 14 18)) tree.no_declarators)
    (span 9 19)) tree.no_members)
    (span 0 20)) tree.no_specifiers) []
    (span 0 21))) ∷ [])
    (refused Mismatch 14)

-- struct S{int a;int a(void);};
abbrev pub types_44 : Row
types_44 = row
    ((tree.Declared
    (tree.declaration
    (tree.specifiers
    (tree.Structure (Some (name (codes "S") 7))
    (tree.members
    (tree.member (int 9)
    (tree.declarators (object (name (codes "a") 13)) tree.no_declarators)
    (span 9 15))
    (tree.members
    (tree.member (int 15)
    (tree.declarators
    (tree.function 0 (name (codes "a") 19) (tree.Void (span 20 26))
    (span 19 26)) tree.no_declarators)
    (span 15 27)) tree.no_members))
    (span 0 28)) tree.no_specifiers) []
    (span 0 29))) ∷ [])
    (refused Redeclared 19)

abbrev pub all : List Row
all =
    types_1 ∷ types_2 ∷ types_3 ∷ types_4 ∷ types_5 ∷ types_6 ∷ types_7 ∷ types_8 ∷ types_9 ∷
    types_10 ∷ types_11 ∷ types_12 ∷ types_13 ∷ types_14 ∷ types_15 ∷ types_16 ∷ types_17 ∷
    types_18 ∷ types_19 ∷ types_20 ∷ types_21 ∷ types_22 ∷ types_23 ∷ types_24 ∷ types_25 ∷
    types_26 ∷ types_27 ∷ types_28 ∷ types_29 ∷ types_30 ∷ types_31 ∷ types_32 ∷ types_33 ∷
    types_34 ∷ types_35 ∷ types_36 ∷ types_37 ∷ types_38 ∷ types_39 ∷ types_40 ∷ types_41 ∷
    types_42 ∷ types_43 ∷ types_44 ∷ []
