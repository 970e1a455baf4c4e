-- Short texts on limits.
use Rattle.std.specs.Prelude.{true, false, List, [], ◌∷◌, codes, Some, None}
use Rattle.mc_tree.specs.declared.declarations.specifier_word.SpecifierWord.TheVariants as word
use Rattle.mc_tree.specs.Tree as tree
use Rattle.types_faults.specs.declared.fault.FaultKind.TheVariants.{Undeclared, NotConstant, Limit}
use Rattle.types_rules.specs.Sampled.{Row, row, accepted, refused, name, span, int, void, the, digit, object, one_expression, ones}

-- int a[40000];void f(void){static int b[40000];}
abbrev pub limits_1 : Row
limits_1 = row
    ((tree.Declared
    (tree.declaration (int 0)
    ((tree.bare
    (tree.object 0 (name (codes "a") 4)
    (tree.given_length (tree.Constant 40000 true false 0 (span 6 11))
    tree.no_lengths)
    (span 4 12))) ∷ [])
    (span 0 13))) ∷
    (tree.Defined (void 13)
    (tree.function 0 (name (codes "f") 18) (tree.Void (span 19 25)) (span 18 25))
    (tree.local
    (tree.declaration (tree.specifiers (tree.Word word.Static (span 26 32)) (int 33))
    ((tree.bare
    (tree.object 0 (name (codes "b") 37)
    (tree.given_length (tree.Constant 40000 true false 0 (span 39 44))
    tree.no_lengths)
    (span 37 45))) ∷ [])
    (span 26 46)) tree.no_block_items)
    (span 13 47)) ∷ [])
    (refused Limit 37)

-- struct S{int a[40000];}s;void g(struct S s){}void f(void){g(s);g(s);}
abbrev pub limits_2 : Row
limits_2 = row
    ((tree.Declared
    (tree.declaration
    (tree.specifiers
    (tree.Structure (Some (name (codes "S") 7))
    (tree.members
    (tree.member (int 9)
    (tree.declarators
    (tree.object 0 (name (codes "a") 13)
    (tree.given_length (tree.Constant 40000 true false 0 (span 15 20))
    tree.no_lengths)
    (span 13 21)) tree.no_declarators)
    (span 9 22)) tree.no_members)
    (span 0 23)) tree.no_specifiers)
    ((tree.bare (object (name (codes "s") 23))) ∷ [])
    (span 0 25))) ∷
    (tree.Defined (void 25)
    (tree.function 0 (name (codes "g") 30)
    (tree.Listed
    (tree.parameters
    (tree.parameter
    (tree.specifiers (tree.StructureTag (name (codes "S") 39) (span 32 40))
    tree.no_specifiers) 0
    (Some (name (codes "s") 41)) tree.no_lengths
    (span 32 42)) tree.no_parameters)
    (span 31 43))
    (span 30 43)) tree.no_block_items
    (span 25 45)) ∷
    (tree.Defined (void 45)
    (tree.function 0 (name (codes "f") 50) (tree.Void (span 51 57)) (span 50 57))
    (tree.statement
    (tree.ExpressionStatement
    (tree.Call (name (codes "g") 58) (one_expression (the (codes "s") 60))
    (span 58 62))
    (span 58 63))
    (tree.statement
    (tree.ExpressionStatement
    (tree.Call (name (codes "g") 63) (one_expression (the (codes "s") 65))
    (span 63 67))
    (span 63 68)) tree.no_block_items))
    (span 45 69)) ∷ [])
    (refused Limit 50)

-- struct S{int a[40000];};void f(struct S a,struct S b){}
abbrev pub limits_3 : Row
limits_3 = row
    ((tree.Declared
    (tree.declaration
    (tree.specifiers
    (tree.Structure (Some (name (codes "S") 7))
    (tree.members
    (tree.member (int 9)
    (tree.declarators
    (tree.object 0 (name (codes "a") 13)
    (tree.given_length (tree.Constant 40000 true false 0 (span 15 20))
    tree.no_lengths)
    (span 13 21)) tree.no_declarators)
    (span 9 22)) tree.no_members)
    (span 0 23)) tree.no_specifiers) []
    (span 0 24))) ∷
    (tree.Defined (void 24)
    (tree.function 0 (name (codes "f") 29)
    (tree.Listed
    (tree.parameters
    (tree.parameter
    (tree.specifiers (tree.StructureTag (name (codes "S") 38) (span 31 39))
    tree.no_specifiers) 0
    (Some (name (codes "a") 40)) tree.no_lengths
    (span 31 41))
    (tree.parameters
    (tree.parameter
    (tree.specifiers (tree.StructureTag (name (codes "S") 49) (span 42 50))
    tree.no_specifiers) 0
    (Some (name (codes "b") 51)) tree.no_lengths
    (span 42 52)) tree.no_parameters))
    (span 30 53))
    (span 29 53)) tree.no_block_items
    (span 24 55)) ∷ [])
    (refused Limit 29)

-- struct S{int a[40000];}s;struct S g(void){return s;}void f(void){g();g();}
abbrev pub limits_4 : Row
limits_4 = row
    ((tree.Declared
    (tree.declaration
    (tree.specifiers
    (tree.Structure (Some (name (codes "S") 7))
    (tree.members
    (tree.member (int 9)
    (tree.declarators
    (tree.object 0 (name (codes "a") 13)
    (tree.given_length (tree.Constant 40000 true false 0 (span 15 20))
    tree.no_lengths)
    (span 13 21)) tree.no_declarators)
    (span 9 22)) tree.no_members)
    (span 0 23)) tree.no_specifiers)
    ((tree.bare (object (name (codes "s") 23))) ∷ [])
    (span 0 25))) ∷
    (tree.Defined
    (tree.specifiers (tree.StructureTag (name (codes "S") 32) (span 25 33))
    tree.no_specifiers)
    (tree.function 0 (name (codes "g") 34) (tree.Void (span 35 41)) (span 34 41))
    (tree.statement (tree.Return (Some (the (codes "s") 49)) (span 42 51))
    tree.no_block_items)
    (span 25 52)) ∷
    (tree.Defined (void 52)
    (tree.function 0 (name (codes "f") 57) (tree.Void (span 58 64)) (span 57 64))
    (tree.statement
    (tree.ExpressionStatement
    (tree.Call (name (codes "g") 65) tree.no_expressions (span 65 68))
    (span 65 69))
    (tree.statement
    (tree.ExpressionStatement
    (tree.Call (name (codes "g") 69) tree.no_expressions (span 69 72))
    (span 69 73)) tree.no_block_items))
    (span 52 74)) ∷ [])
    (refused Limit 57)

-- int f(int[][65537]);
abbrev pub limits_5 : Row
limits_5 = row
    ((tree.Declared
    (tree.declaration (int 0)
    ((tree.bare
    (tree.function 0 (name (codes "f") 4)
    (tree.Listed
    (tree.parameters
    (tree.parameter (int 6) 0 None
    (tree.absent_length
    (tree.given_length
    (tree.Constant 65537 true false 0 (span 12 17))
    tree.no_lengths))
    (span 6 18)) tree.no_parameters)
    (span 5 19))
    (span 4 19))) ∷ [])
    (span 0 20))) ∷ [])
    (refused Limit 6)

-- int t[65537];
abbrev pub limits_6 : Row
limits_6 = row
    ((tree.Declared
    (tree.declaration (int 0)
    ((tree.bare
    (tree.object 0 (name (codes "t") 4)
    (tree.given_length (tree.Constant 65537 true false 0 (span 6 11))
    tree.no_lengths)
    (span 4 12))) ∷ [])
    (span 0 13))) ∷ [])
    (refused Limit 4)

-- int t[65536];
abbrev pub limits_7 : Row
limits_7 = row
    ((tree.Declared
    (tree.declaration (int 0)
    ((tree.bare
    (tree.object 0 (name (codes "t") 4)
    (tree.given_length (tree.Constant 65536 true false 0 (span 6 11))
    tree.no_lengths)
    (span 4 12))) ∷ [])
    (span 0 13))) ∷ [])
    accepted

-- typedef int T[70000];
abbrev pub limits_8 : Row
limits_8 = row
    ((tree.Declared
    (tree.declaration (tree.specifiers (tree.Word word.Typedef (span 0 7)) (int 8))
    ((tree.bare
    (tree.object 0 (name (codes "T") 12)
    (tree.given_length (tree.Constant 70000 true false 0 (span 14 19))
    tree.no_lengths)
    (span 12 20))) ∷ [])
    (span 0 21))) ∷ [])
    accepted

-- typedef int T[70000];T x;
abbrev pub limits_9 : Row
limits_9 = row
    ((tree.Declared
    (tree.declaration (tree.specifiers (tree.Word word.Typedef (span 0 7)) (int 8))
    ((tree.bare
    (tree.object 0 (name (codes "T") 12)
    (tree.given_length (tree.Constant 70000 true false 0 (span 14 19))
    tree.no_lengths)
    (span 12 20))) ∷ [])
    (span 0 21))) ∷
    (tree.Declared
    (tree.declaration
    (tree.specifiers (tree.TypedefName (name (codes "T") 21)) tree.no_specifiers)
    ((tree.bare (object (name (codes "x") 23))) ∷ [])
    (span 21 25))) ∷ [])
    (refused Limit 23)

-- int f(int a[][65537]){return 1;}
abbrev pub limits_10 : Row
limits_10 = row
    ((tree.Defined (int 0)
    (tree.function 0 (name (codes "f") 4)
    (tree.Listed
    (tree.parameters
    (tree.parameter (int 6) 0 (Some (name (codes "a") 10))
    (tree.absent_length
    (tree.given_length (tree.Constant 65537 true false 0 (span 14 19))
    tree.no_lengths))
    (span 6 20)) tree.no_parameters)
    (span 5 21))
    (span 4 21))
    (tree.statement (tree.Return (Some (digit 1 29)) (span 22 31)) tree.no_block_items)
    (span 0 32)) ∷ [])
    (refused Limit 10)

-- struct S{int a[40000];int b[40000];};
abbrev pub limits_11 : Row
limits_11 = row
    ((tree.Declared
    (tree.declaration
    (tree.specifiers
    (tree.Structure (Some (name (codes "S") 7))
    (tree.members
    (tree.member (int 9)
    (tree.declarators
    (tree.object 0 (name (codes "a") 13)
    (tree.given_length (tree.Constant 40000 true false 0 (span 15 20))
    tree.no_lengths)
    (span 13 21)) tree.no_declarators)
    (span 9 22))
    (tree.members
    (tree.member (int 22)
    (tree.declarators
    (tree.object 0 (name (codes "b") 26)
    (tree.given_length
    (tree.Constant 40000 true false 0 (span 28 33))
    tree.no_lengths)
    (span 26 34)) tree.no_declarators)
    (span 22 35)) tree.no_members))
    (span 0 36)) tree.no_specifiers) []
    (span 0 37))) ∷ [])
    (refused Limit 26)

-- int a[40000];int b[40000];
abbrev pub limits_12 : Row
limits_12 = row
    ((tree.Declared
    (tree.declaration (int 0)
    ((tree.bare
    (tree.object 0 (name (codes "a") 4)
    (tree.given_length (tree.Constant 40000 true false 0 (span 6 11))
    tree.no_lengths)
    (span 4 12))) ∷ [])
    (span 0 13))) ∷
    (tree.Declared
    (tree.declaration (int 13)
    ((tree.bare
    (tree.object 0 (name (codes "b") 17)
    (tree.given_length (tree.Constant 40000 true false 0 (span 19 24))
    tree.no_lengths)
    (span 17 25))) ∷ [])
    (span 13 26))) ∷ [])
    (refused Limit 17)

-- int a[40000];int b[40000]={x};
abbrev pub limits_13 : Row
limits_13 = row
    ((tree.Declared
    (tree.declaration (int 0)
    ((tree.bare
    (tree.object 0 (name (codes "a") 4)
    (tree.given_length (tree.Constant 40000 true false 0 (span 6 11))
    tree.no_lengths)
    (span 4 12))) ∷ [])
    (span 0 13))) ∷
    (tree.Declared
    (tree.declaration (int 13)
    ((tree.initialized
    (tree.object 0 (name (codes "b") 17)
    (tree.given_length (tree.Constant 40000 true false 0 (span 19 24))
    tree.no_lengths)
    (span 17 25))
    (tree.Braced
    (tree.initializers (tree.Single (the (codes "x") 27)) tree.no_initializers)
    (span 26 29))) ∷ [])
    (span 13 30))) ∷ [])
    (refused Undeclared 27)

-- int f(void){int t[40000];{int u[40000];}return x;}
abbrev pub limits_14 : Row
limits_14 = row
    ((tree.Defined (int 0)
    (tree.function 0 (name (codes "f") 4) (tree.Void (span 5 11)) (span 4 11))
    (tree.local
    (tree.declaration (int 12)
    ((tree.bare
    (tree.object 0 (name (codes "t") 16)
    (tree.given_length (tree.Constant 40000 true false 0 (span 18 23))
    tree.no_lengths)
    (span 16 24))) ∷ [])
    (span 12 25))
    (tree.statement
    (tree.Compound
    (tree.local
    (tree.declaration (int 26)
    ((tree.bare
    (tree.object 0 (name (codes "u") 30)
    (tree.given_length
    (tree.Constant 40000 true false 0 (span 32 37))
    tree.no_lengths)
    (span 30 38))) ∷ [])
    (span 26 39)) tree.no_block_items)
    (span 25 40))
    (tree.statement (tree.Return (Some (the (codes "x") 47)) (span 40 49))
    tree.no_block_items)))
    (span 0 50)) ∷ [])
    (refused Limit 4)

-- int f(void){int t[65537];return 1;}
abbrev pub limits_15 : Row
limits_15 = row
    ((tree.Defined (int 0)
    (tree.function 0 (name (codes "f") 4) (tree.Void (span 5 11)) (span 4 11))
    (tree.local
    (tree.declaration (int 12)
    ((tree.bare
    (tree.object 0 (name (codes "t") 16)
    (tree.given_length (tree.Constant 65537 true false 0 (span 18 23))
    tree.no_lengths)
    (span 16 24))) ∷ [])
    (span 12 25))
    (tree.statement (tree.Return (Some (digit 1 32)) (span 25 34)) tree.no_block_items))
    (span 0 35)) ∷ [])
    (refused Limit 16)

-- void f(int a,int b,int c,int d,int e,int g,int h,int i,int j,int k,int l,int m,int n,int o,int
-- p,int q,int r);
abbrev pub limits_16 : Row
limits_16 = row
    ((tree.Declared
    (tree.declaration (void 0)
    ((tree.bare
    (tree.function 0 (name (codes "f") 5)
    (tree.Listed
    (tree.parameters
    (tree.parameter (int 7) 0 (Some (name (codes "a") 11)) tree.no_lengths
    (span 7 12))
    (tree.parameters
    (tree.parameter (int 13) 0 (Some (name (codes "b") 17))
    tree.no_lengths
    (span 13 18))
    (tree.parameters
    (tree.parameter (int 19) 0 (Some (name (codes "c") 23))
    tree.no_lengths
    (span 19 24))
    (tree.parameters
    (tree.parameter (int 25) 0 (Some (name (codes "d") 29))
    tree.no_lengths
    (span 25 30))
    (tree.parameters
    (tree.parameter (int 31) 0 (Some (name (codes "e") 35))
    tree.no_lengths
    (span 31 36))
    (tree.parameters
    (tree.parameter (int 37) 0
    (Some (name (codes "g") 41)) tree.no_lengths
    (span 37 42))
    (tree.parameters
    (tree.parameter (int 43) 0
    (Some (name (codes "h") 47)) tree.no_lengths
    (span 43 48))
    (tree.parameters
    (tree.parameter (int 49) 0
    (Some (name (codes "i") 53)) tree.no_lengths
    (span 49 54))
    (tree.parameters
    (tree.parameter (int 55) 0
    (Some (name (codes "j") 59)) tree.no_lengths
    (span 55 60))
    (tree.parameters
    (tree.parameter (int 61) 0
    (Some (name (codes "k") 65))
    tree.no_lengths
    (span 61 66))
    (tree.parameters
    (tree.parameter (int 67) 0
    (Some (name (codes "l") 71))
    tree.no_lengths
    (span 67 72))
    (tree.parameters
    (tree.parameter (int 73) 0
    (Some (name (codes "m") 77))
    tree.no_lengths
    (span 73 78))
    (tree.parameters
    (tree.parameter (int 79) 0
    (Some (name (codes "n") 83))
    tree.no_lengths
    (span 79 84))
    (tree.parameters
    (tree.parameter (int 85) 0
    (Some (name (codes "o") 89))
    tree.no_lengths
    (span 85 90))
    (tree.parameters
    (tree.parameter (int 91) 0
    (Some
    (name (codes "p") 95))
    tree.no_lengths
    (span 91 96))
    (tree.parameters
    (tree.parameter (int 97)
    0
    (Some
    (name (codes "q")
    101))
    tree.no_lengths
    (span 97 102))
    (tree.parameters
    (tree.parameter
    (int 103) 0
    (Some
    (name
    (codes "r")
    107))
    tree.no_lengths
    (span 103 108))
    tree.no_parameters)))))))))))))))))
    (span 6 109))
    (span 5 109))) ∷ [])
    (span 0 110))) ∷ [])
    (refused Limit 5)

-- int t[1]..[1]; (with 201 lengths)
abbrev pub limits_17 : Row
limits_17 = row
    ((tree.Declared
    (tree.declaration (int 0)
    ((tree.bare (tree.object 0 (name (codes "t") 4) (ones 201 6) (span 4 608))) ∷ [])
    (span 0 609))) ∷ [])
    (refused Limit 4)

-- int t[1]..[1]; (with 200 lengths)
abbrev pub limits_18 : Row
limits_18 = row
    ((tree.Declared
    (tree.declaration (int 0)
    ((tree.bare (tree.object 0 (name (codes "t") 4) (ones 200 6) (span 4 605))) ∷ [])
    (span 0 606))) ∷ [])
    accepted

-- typedef int T[1]..[1];struct S{T a;}; (with 200 lengths)
abbrev pub limits_19 : Row
limits_19 = row
    ((tree.Declared
    (tree.declaration (tree.specifiers (tree.Word word.Typedef (span 0 7)) (int 8))
    ((tree.bare (tree.object 0 (name (codes "T") 12) (ones 200 14) (span 12 613))) ∷ [])
    (span 0 614))) ∷
    (tree.Declared
    (tree.declaration
    (tree.specifiers
    (tree.Structure (Some (name (codes "S") 621))
    (tree.members
    (tree.member
    (tree.specifiers (tree.TypedefName (name (codes "T") 623))
    tree.no_specifiers)
    (tree.declarators (object (name (codes "a") 625)) tree.no_declarators)
    (span 623 627)) tree.no_members)
    (span 614 628)) tree.no_specifiers) []
    (span 614 629))) ∷ [])
    (refused Limit 625)

-- typedef int T[1]..[1];struct S{T a;}; (with 199 lengths)
abbrev pub limits_20 : Row
limits_20 = row
    ((tree.Declared
    (tree.declaration (tree.specifiers (tree.Word word.Typedef (span 0 7)) (int 8))
    ((tree.bare (tree.object 0 (name (codes "T") 12) (ones 199 14) (span 12 610))) ∷ [])
    (span 0 611))) ∷
    (tree.Declared
    (tree.declaration
    (tree.specifiers
    (tree.Structure (Some (name (codes "S") 618))
    (tree.members
    (tree.member
    (tree.specifiers (tree.TypedefName (name (codes "T") 620))
    tree.no_specifiers)
    (tree.declarators (object (name (codes "a") 622)) tree.no_declarators)
    (span 620 624)) tree.no_members)
    (span 611 625)) tree.no_specifiers) []
    (span 611 626))) ∷ [])
    accepted

-- struct S{int a[40000];};void f(struct S a,struct S){}
abbrev pub limits_21 : Row
limits_21 = row
    ((tree.Declared
    (tree.declaration
    (tree.specifiers
    (tree.Structure (Some (name (codes "S") 7))
    (tree.members
    (tree.member (int 9)
    (tree.declarators
    (tree.object 0 (name (codes "a") 13)
    (tree.given_length (tree.Constant 40000 true false 0 (span 15 20))
    tree.no_lengths)
    (span 13 21)) tree.no_declarators)
    (span 9 22)) tree.no_members)
    (span 0 23)) tree.no_specifiers) []
    (span 0 24))) ∷
    (tree.Defined (void 24)
    (tree.function 0 (name (codes "f") 29)
    (tree.Listed
    (tree.parameters
    (tree.parameter
    (tree.specifiers (tree.StructureTag (name (codes "S") 38) (span 31 39))
    tree.no_specifiers) 0
    (Some (name (codes "a") 40)) tree.no_lengths
    (span 31 41))
    (tree.parameters
    (tree.parameter
    (tree.specifiers (tree.StructureTag (name (codes "S") 49) (span 42 50))
    tree.no_specifiers) 0 None tree.no_lengths
    (span 42 50)) tree.no_parameters))
    (span 30 51))
    (span 29 51)) tree.no_block_items
    (span 24 53)) ∷ [])
    (refused Limit 29)

-- struct S{int a[40000];}s;int g(struct S p){return 1;}int f(struct S b,int a[g(s)]){return 1;}
abbrev pub limits_22 : Row
limits_22 = row
    ((tree.Declared
    (tree.declaration
    (tree.specifiers
    (tree.Structure (Some (name (codes "S") 7))
    (tree.members
    (tree.member (int 9)
    (tree.declarators
    (tree.object 0 (name (codes "a") 13)
    (tree.given_length (tree.Constant 40000 true false 0 (span 15 20))
    tree.no_lengths)
    (span 13 21)) tree.no_declarators)
    (span 9 22)) tree.no_members)
    (span 0 23)) tree.no_specifiers)
    ((tree.bare (object (name (codes "s") 23))) ∷ [])
    (span 0 25))) ∷
    (tree.Defined (int 25)
    (tree.function 0 (name (codes "g") 29)
    (tree.Listed
    (tree.parameters
    (tree.parameter
    (tree.specifiers (tree.StructureTag (name (codes "S") 38) (span 31 39))
    tree.no_specifiers) 0
    (Some (name (codes "p") 40)) tree.no_lengths
    (span 31 41)) tree.no_parameters)
    (span 30 42))
    (span 29 42))
    (tree.statement (tree.Return (Some (digit 1 50)) (span 43 52)) tree.no_block_items)
    (span 25 53)) ∷
    (tree.Defined (int 53)
    (tree.function 0 (name (codes "f") 57)
    (tree.Listed
    (tree.parameters
    (tree.parameter
    (tree.specifiers (tree.StructureTag (name (codes "S") 66) (span 59 67))
    tree.no_specifiers) 0
    (Some (name (codes "b") 68)) tree.no_lengths
    (span 59 69))
    (tree.parameters
    (tree.parameter (int 70) 0 (Some (name (codes "a") 74))
    (tree.given_length
    (tree.Call (name (codes "g") 76)
    (one_expression (the (codes "s") 78))
    (span 76 80)) tree.no_lengths)
    (span 70 81)) tree.no_parameters))
    (span 58 82))
    (span 57 82))
    (tree.statement (tree.Return (Some (digit 1 90)) (span 83 92)) tree.no_block_items)
    (span 53 93)) ∷ [])
    (refused NotConstant 76)

-- typedef int T[1]..[1]; (with 203 lengths)
abbrev pub limits_23 : Row
limits_23 = row
    ((tree.Declared
    (tree.declaration (tree.specifiers (tree.Word word.Typedef (span 0 7)) (int 8))
    ((tree.bare (tree.object 0 (name (codes "T") 12) (ones 203 14) (span 12 622))) ∷ [])
    (span 0 623))) ∷ [])
    accepted

-- typedef int T[1]..[1];T x; (with 203 lengths)
abbrev pub limits_24 : Row
limits_24 = row
    ((tree.Declared
    (tree.declaration (tree.specifiers (tree.Word word.Typedef (span 0 7)) (int 8))
    ((tree.bare (tree.object 0 (name (codes "T") 12) (ones 203 14) (span 12 622))) ∷ [])
    (span 0 623))) ∷
    (tree.Declared
    (tree.declaration
    (tree.specifiers (tree.TypedefName (name (codes "T") 623)) tree.no_specifiers)
    ((tree.bare (object (name (codes "x") 625))) ∷ [])
    (span 623 627))) ∷ [])
    (refused Limit 625)

-- typedef int T[1]..[1];struct S{T a;}; (with 203 lengths)
abbrev pub limits_25 : Row
limits_25 = row
    ((tree.Declared
    (tree.declaration (tree.specifiers (tree.Word word.Typedef (span 0 7)) (int 8))
    ((tree.bare (tree.object 0 (name (codes "T") 12) (ones 203 14) (span 12 622))) ∷ [])
    (span 0 623))) ∷
    (tree.Declared
    (tree.declaration
    (tree.specifiers
    (tree.Structure (Some (name (codes "S") 630))
    (tree.members
    (tree.member
    (tree.specifiers (tree.TypedefName (name (codes "T") 632))
    tree.no_specifiers)
    (tree.declarators (object (name (codes "a") 634)) tree.no_declarators)
    (span 632 636)) tree.no_members)
    (span 623 637)) tree.no_specifiers) []
    (span 623 638))) ∷ [])
    (refused Limit 634)

-- int f(int a[1]..[1]); (with 202 lengths)
abbrev pub limits_26 : Row
limits_26 = row
    ((tree.Declared
    (tree.declaration (int 0)
    ((tree.bare
    (tree.function 0 (name (codes "f") 4)
    (tree.Listed
    (tree.parameters
    (tree.parameter (int 6) 0 (Some (name (codes "a") 10)) (ones 202 12)
    (span 6 617)) tree.no_parameters)
    (span 5 618))
    (span 4 618))) ∷ [])
    (span 0 619))) ∷ [])
    (refused Limit 10)

-- int f(int a[1]..[1]); (with 201 lengths)
abbrev pub limits_27 : Row
limits_27 = row
    ((tree.Declared
    (tree.declaration (int 0)
    ((tree.bare
    (tree.function 0 (name (codes "f") 4)
    (tree.Listed
    (tree.parameters
    (tree.parameter (int 6) 0 (Some (name (codes "a") 10)) (ones 201 12)
    (span 6 614)) tree.no_parameters)
    (span 5 615))
    (span 4 615))) ∷ [])
    (span 0 616))) ∷ [])
    accepted

-- typedef int T[1]..[1];int f(T a); (with 203 lengths)
abbrev pub limits_28 : Row
limits_28 = row
    ((tree.Declared
    (tree.declaration (tree.specifiers (tree.Word word.Typedef (span 0 7)) (int 8))
    ((tree.bare (tree.object 0 (name (codes "T") 12) (ones 203 14) (span 12 622))) ∷ [])
    (span 0 623))) ∷
    (tree.Declared
    (tree.declaration (int 623)
    ((tree.bare
    (tree.function 0 (name (codes "f") 627)
    (tree.Listed
    (tree.parameters
    (tree.parameter
    (tree.specifiers (tree.TypedefName (name (codes "T") 629))
    tree.no_specifiers) 0
    (Some (name (codes "a") 631)) tree.no_lengths
    (span 629 632)) tree.no_parameters)
    (span 628 633))
    (span 627 633))) ∷ [])
    (span 623 634))) ∷ [])
    (refused Limit 631)

-- int t[9223372036854775807][9223372036854775807];
abbrev pub limits_29 : Row
limits_29 = row
    ((tree.Declared
    (tree.declaration (int 0)
    ((tree.bare
    (tree.object 0 (name (codes "t") 4)
    (tree.given_length
    (tree.Constant 9223372036854775807 true false 0 (span 6 25))
    (tree.given_length
    (tree.Constant 9223372036854775807 true false 0 (span 27 46))
    tree.no_lengths))
    (span 4 47))) ∷ [])
    (span 0 48))) ∷ [])
    (refused Limit 4)

-- int f(int a[][9223372036854775807]);
abbrev pub limits_30 : Row
limits_30 = row
    ((tree.Declared
    (tree.declaration (int 0)
    ((tree.bare
    (tree.function 0 (name (codes "f") 4)
    (tree.Listed
    (tree.parameters
    (tree.parameter (int 6) 0 (Some (name (codes "a") 10))
    (tree.absent_length
    (tree.given_length
    (tree.Constant 9223372036854775807 true false 0 (span 14 33))
    tree.no_lengths))
    (span 6 34)) tree.no_parameters)
    (span 5 35))
    (span 4 35))) ∷ [])
    (span 0 36))) ∷ [])
    (refused Limit 10)

-- struct S{int a[9223372036854775807];};
abbrev pub limits_31 : Row
limits_31 = row
    ((tree.Declared
    (tree.declaration
    (tree.specifiers
    (tree.Structure (Some (name (codes "S") 7))
    (tree.members
    (tree.member (int 9)
    (tree.declarators
    (tree.object 0 (name (codes "a") 13)
    (tree.given_length
    (tree.Constant 9223372036854775807 true false 0 (span 15 34))
    tree.no_lengths)
    (span 13 35)) tree.no_declarators)
    (span 9 36)) tree.no_members)
    (span 0 37)) tree.no_specifiers) []
    (span 0 38))) ∷ [])
    (refused Limit 13)

abbrev pub all : List Row
all =
    limits_1 ∷ limits_2 ∷ limits_3 ∷ limits_4 ∷ limits_5 ∷ limits_6 ∷ limits_7 ∷ limits_8 ∷
    limits_9 ∷ limits_10 ∷ limits_11 ∷ limits_12 ∷ limits_13 ∷ limits_14 ∷ limits_15 ∷ limits_16 ∷
    limits_17 ∷ limits_18 ∷ limits_19 ∷ limits_20 ∷ limits_21 ∷ limits_22 ∷ limits_23 ∷ limits_24
    ∷ limits_25 ∷ limits_26 ∷ limits_27 ∷ limits_28 ∷ limits_29 ∷ limits_30 ∷ limits_31 ∷ []
