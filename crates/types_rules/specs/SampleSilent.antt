-- Short texts in which a missing type silences other faults, or does not.
use Rattle.std.specs.Prelude.{true, false, List, [], ◌∷◌, codes, Some, None}
use Rattle.mc_tree.specs.declared.expressions.step_operator.StepOperator.TheVariants as step
use Rattle.mc_tree.specs.declared.expressions.binary_operator.BinaryOperator.TheVariants as binary
use Rattle.mc_tree.specs.declared.expressions.assignment_operator.AssignmentOperator.TheVariants as assign
use Rattle.mc_tree.specs.declared.declarations.specifier_word.SpecifierWord.TheVariants as word
use Rattle.mc_tree.specs.Tree as tree
use Rattle.types_faults.specs.declared.fault.FaultKind.TheVariants.{Undeclared, Redeclared, Mismatch, NoBody, Limit}
use Rattle.types_rules.specs.Sampled.{Row, row, refused, name, span, int, void, the, digit, zero_at, object, one_expression}

-- void f(void){for(void v;v;);}
abbrev pub silent_1 : Row
silent_1 = row
    ((tree.Defined (void 0)
    (tree.function 0 (name (codes "f") 5) (tree.Void (span 6 12)) (span 5 12))
    (tree.statement
    (tree.For
    (tree.StartsLocal
    (tree.declaration (void 17) ((tree.bare (object (name (codes "v") 22))) ∷ [])
    (span 17 24)))
    (Some (the (codes "v") 24)) None
    (tree.Null (span 27 28))
    (span 13 28)) tree.no_block_items)
    (span 0 29)) ∷ [])
    (refused Mismatch 22)

-- void f(void){for(int t[70000];t;);}
abbrev pub silent_2 : Row
silent_2 = row
    ((tree.Defined (void 0)
    (tree.function 0 (name (codes "f") 5) (tree.Void (span 6 12)) (span 5 12))
    (tree.statement
    (tree.For
    (tree.StartsLocal
    (tree.declaration (int 17)
    ((tree.bare
    (tree.object 0 (name (codes "t") 21)
    (tree.given_length (tree.Constant 70000 true false 0 (span 23 28))
    tree.no_lengths)
    (span 21 29))) ∷ [])
    (span 17 30)))
    (Some (the (codes "t") 30)) None
    (tree.Null (span 33 34))
    (span 13 34)) tree.no_block_items)
    (span 0 35)) ∷ [])
    (refused Limit 21)

-- struct S;void f(void){for(struct S s;s;);}
abbrev pub silent_3 : Row
silent_3 = row
    ((tree.Declared
    (tree.declaration
    (tree.specifiers (tree.StructureTag (name (codes "S") 7) (span 0 8))
    tree.no_specifiers) []
    (span 0 9))) ∷
    (tree.Defined (void 9)
    (tree.function 0 (name (codes "f") 14) (tree.Void (span 15 21)) (span 14 21))
    (tree.statement
    (tree.For
    (tree.StartsLocal
    (tree.declaration
    (tree.specifiers (tree.StructureTag (name (codes "S") 33) (span 26 34))
    tree.no_specifiers)
    ((tree.bare (object (name (codes "s") 35))) ∷ [])
    (span 26 37)))
    (Some (the (codes "s") 37)) None
    (tree.Null (span 40 41))
    (span 22 41)) tree.no_block_items)
    (span 9 42)) ∷ [])
    (refused Mismatch 35)

-- void f(void){for(int t[2]={x};t;);}
abbrev pub silent_4 : Row
silent_4 = row
    ((tree.Defined (void 0)
    (tree.function 0 (name (codes "f") 5) (tree.Void (span 6 12)) (span 5 12))
    (tree.statement
    (tree.For
    (tree.StartsLocal
    (tree.declaration (int 17)
    ((tree.initialized
    (tree.object 0 (name (codes "t") 21)
    (tree.given_length (digit 2 23) tree.no_lengths)
    (span 21 25))
    (tree.Braced
    (tree.initializers (tree.Single (the (codes "x") 27))
    tree.no_initializers)
    (span 26 29))) ∷ [])
    (span 17 30)))
    (Some (the (codes "t") 30)) None
    (tree.Null (span 33 34))
    (span 13 34)) tree.no_block_items)
    (span 0 35)) ∷ [])
    (refused Undeclared 27)

-- void f(int a){for(typedef void V=1;(V)a;);}
abbrev pub silent_5 : Row
silent_5 = row
    ((tree.Defined (void 0)
    (tree.function 0 (name (codes "f") 5)
    (tree.Listed
    (tree.parameters
    (tree.parameter (int 7) 0 (Some (name (codes "a") 11)) tree.no_lengths
    (span 7 12)) tree.no_parameters)
    (span 6 13))
    (span 5 13))
    (tree.statement
    (tree.For
    (tree.StartsLocal
    (tree.declaration
    (tree.specifiers (tree.Word word.Typedef (span 18 25)) (void 26))
    ((tree.initialized (object (name (codes "V") 31))
    (tree.Single (digit 1 33))) ∷ [])
    (span 18 35)))
    (Some
    (tree.Cast
    (tree.type_name
    (tree.specifiers (tree.TypedefName (name (codes "V") 36))
    tree.no_specifiers) 0
    (span 36 37))
    (the (codes "a") 38)
    (span 35 39))) None
    (tree.Null (span 41 42))
    (span 14 42)) tree.no_block_items)
    (span 0 43)) ∷ [])
    (refused Mismatch 31)

-- struct S{int a[40000];}s;int g(struct S p);int f(void){int t[40000];return g(s);}
abbrev pub silent_6 : Row
silent_6 = row
    ((tree.Declared
    (tree.declaration
    (tree.specifiers
    (tree.Structure (Some (name (codes "S") 7))
    (tree.members
    (tree.member (int 9)
    (tree.declarators
    (tree.object 0 (name (codes "a") 13)
    (tree.given_length (tree.Constant 40000 true false 0 (span 15 20))
    tree.no_lengths)
    (span 13 21)) tree.no_declarators)
    (span 9 22)) tree.no_members)
    (span 0 23)) tree.no_specifiers)
    ((tree.bare (object (name (codes "s") 23))) ∷ [])
    (span 0 25))) ∷
    (tree.Declared
    (tree.declaration (int 25)
    ((tree.bare
    (tree.function 0 (name (codes "g") 29)
    (tree.Listed
    (tree.parameters
    (tree.parameter
    (tree.specifiers
    (tree.StructureTag (name (codes "S") 38) (span 31 39))
    tree.no_specifiers) 0
    (Some (name (codes "p") 40)) tree.no_lengths
    (span 31 41)) tree.no_parameters)
    (span 30 42))
    (span 29 42))) ∷ [])
    (span 25 43))) ∷
    (tree.Defined (int 43)
    (tree.function 0 (name (codes "f") 47) (tree.Void (span 48 54)) (span 47 54))
    (tree.local
    (tree.declaration (int 55)
    ((tree.bare
    (tree.object 0 (name (codes "t") 59)
    (tree.given_length (tree.Constant 40000 true false 0 (span 61 66))
    tree.no_lengths)
    (span 59 67))) ∷ [])
    (span 55 68))
    (tree.statement
    (tree.Return
    (Some
    (tree.Call (name (codes "g") 75) (one_expression (the (codes "s") 77))
    (span 75 79)))
    (span 68 80)) tree.no_block_items))
    (span 43 81)) ∷ [])
    (refused NoBody 75)

-- struct S{int a[40000];}s;int g(struct S p){return 1;}int f(void){int t[40000];return g(s,1);}
abbrev pub silent_7 : Row
silent_7 = row
    ((tree.Declared
    (tree.declaration
    (tree.specifiers
    (tree.Structure (Some (name (codes "S") 7))
    (tree.members
    (tree.member (int 9)
    (tree.declarators
    (tree.object 0 (name (codes "a") 13)
    (tree.given_length (tree.Constant 40000 true false 0 (span 15 20))
    tree.no_lengths)
    (span 13 21)) tree.no_declarators)
    (span 9 22)) tree.no_members)
    (span 0 23)) tree.no_specifiers)
    ((tree.bare (object (name (codes "s") 23))) ∷ [])
    (span 0 25))) ∷
    (tree.Defined (int 25)
    (tree.function 0 (name (codes "g") 29)
    (tree.Listed
    (tree.parameters
    (tree.parameter
    (tree.specifiers (tree.StructureTag (name (codes "S") 38) (span 31 39))
    tree.no_specifiers) 0
    (Some (name (codes "p") 40)) tree.no_lengths
    (span 31 41)) tree.no_parameters)
    (span 30 42))
    (span 29 42))
    (tree.statement (tree.Return (Some (digit 1 50)) (span 43 52)) tree.no_block_items)
    (span 25 53)) ∷
    (tree.Defined (int 53)
    (tree.function 0 (name (codes "f") 57) (tree.Void (span 58 64)) (span 57 64))
    (tree.local
    (tree.declaration (int 65)
    ((tree.bare
    (tree.object 0 (name (codes "t") 69)
    (tree.given_length (tree.Constant 40000 true false 0 (span 71 76))
    tree.no_lengths)
    (span 69 77))) ∷ [])
    (span 65 78))
    (tree.statement
    (tree.Return
    (Some
    (tree.Call (name (codes "g") 85)
    (tree.expressions (the (codes "s") 87) (one_expression (digit 1 89)))
    (span 85 91)))
    (span 78 92)) tree.no_block_items))
    (span 53 93)) ∷ [])
    (refused Mismatch 85)

-- struct S{int a[40000];}s;int g(struct S p,int q){return 1;}int f(void){int t[40000];return
-- g(s,x);}
abbrev pub silent_8 : Row
silent_8 = row
    ((tree.Declared
    (tree.declaration
    (tree.specifiers
    (tree.Structure (Some (name (codes "S") 7))
    (tree.members
    (tree.member (int 9)
    (tree.declarators
    (tree.object 0 (name (codes "a") 13)
    (tree.given_length (tree.Constant 40000 true false 0 (span 15 20))
    tree.no_lengths)
    (span 13 21)) tree.no_declarators)
    (span 9 22)) tree.no_members)
    (span 0 23)) tree.no_specifiers)
    ((tree.bare (object (name (codes "s") 23))) ∷ [])
    (span 0 25))) ∷
    (tree.Defined (int 25)
    (tree.function 0 (name (codes "g") 29)
    (tree.Listed
    (tree.parameters
    (tree.parameter
    (tree.specifiers (tree.StructureTag (name (codes "S") 38) (span 31 39))
    tree.no_specifiers) 0
    (Some (name (codes "p") 40)) tree.no_lengths
    (span 31 41))
    (tree.parameters
    (tree.parameter (int 42) 0 (Some (name (codes "q") 46)) tree.no_lengths
    (span 42 47)) tree.no_parameters))
    (span 30 48))
    (span 29 48))
    (tree.statement (tree.Return (Some (digit 1 56)) (span 49 58)) tree.no_block_items)
    (span 25 59)) ∷
    (tree.Defined (int 59)
    (tree.function 0 (name (codes "f") 63) (tree.Void (span 64 70)) (span 63 70))
    (tree.local
    (tree.declaration (int 71)
    ((tree.bare
    (tree.object 0 (name (codes "t") 75)
    (tree.given_length (tree.Constant 40000 true false 0 (span 77 82))
    tree.no_lengths)
    (span 75 83))) ∷ [])
    (span 71 84))
    (tree.statement
    (tree.Return
    (Some
    (tree.Call (name (codes "g") 91)
    (tree.expressions (the (codes "s") 93)
    (one_expression (the (codes "x") 95)))
    (span 91 97)))
    (span 84 98)) tree.no_block_items))
    (span 59 99)) ∷ [])
    (refused Undeclared 95)

-- struct S{int a[40000];}s;int g(struct S p){return 1;}int h(int a){return a;}int f(void){int
-- t[40000];return h(g(s),1);}
abbrev pub silent_9 : Row
silent_9 = row
    ((tree.Declared
    (tree.declaration
    (tree.specifiers
    (tree.Structure (Some (name (codes "S") 7))
    (tree.members
    (tree.member (int 9)
    (tree.declarators
    (tree.object 0 (name (codes "a") 13)
    (tree.given_length (tree.Constant 40000 true false 0 (span 15 20))
    tree.no_lengths)
    (span 13 21)) tree.no_declarators)
    (span 9 22)) tree.no_members)
    (span 0 23)) tree.no_specifiers)
    ((tree.bare (object (name (codes "s") 23))) ∷ [])
    (span 0 25))) ∷
    (tree.Defined (int 25)
    (tree.function 0 (name (codes "g") 29)
    (tree.Listed
    (tree.parameters
    (tree.parameter
    (tree.specifiers (tree.StructureTag (name (codes "S") 38) (span 31 39))
    tree.no_specifiers) 0
    (Some (name (codes "p") 40)) tree.no_lengths
    (span 31 41)) tree.no_parameters)
    (span 30 42))
    (span 29 42))
    (tree.statement (tree.Return (Some (digit 1 50)) (span 43 52)) tree.no_block_items)
    (span 25 53)) ∷
    (tree.Defined (int 53)
    (tree.function 0 (name (codes "h") 57)
    (tree.Listed
    (tree.parameters
    (tree.parameter (int 59) 0 (Some (name (codes "a") 63)) tree.no_lengths
    (span 59 64)) tree.no_parameters)
    (span 58 65))
    (span 57 65))
    (tree.statement (tree.Return (Some (the (codes "a") 73)) (span 66 75))
    tree.no_block_items)
    (span 53 76)) ∷
    (tree.Defined (int 76)
    (tree.function 0 (name (codes "f") 80) (tree.Void (span 81 87)) (span 80 87))
    (tree.local
    (tree.declaration (int 88)
    ((tree.bare
    (tree.object 0 (name (codes "t") 92)
    (tree.given_length (tree.Constant 40000 true false 0 (span 94 99))
    tree.no_lengths)
    (span 92 100))) ∷ [])
    (span 88 101))
    (tree.statement
    (tree.Return
    (Some
    (tree.Call (name (codes "h") 108)
    (tree.expressions
    (tree.Call (name (codes "g") 110)
    (one_expression (the (codes "s") 112))
    (span 110 114))
    (one_expression (digit 1 115)))
    (span 108 117)))
    (span 101 118)) tree.no_block_items))
    (span 76 119)) ∷ [])
    (refused Limit 80)

-- int f(long a);int f(int a[][65537]);
abbrev pub silent_10 : Row
silent_10 = row
    ((tree.Declared
    (tree.declaration (int 0)
    ((tree.bare
    (tree.function 0 (name (codes "f") 4)
    (tree.Listed
    (tree.parameters
    (tree.parameter
    (tree.specifiers (tree.Word word.Long (span 6 10))
    tree.no_specifiers) 0
    (Some (name (codes "a") 11)) tree.no_lengths
    (span 6 12)) tree.no_parameters)
    (span 5 13))
    (span 4 13))) ∷ [])
    (span 0 14))) ∷
    (tree.Declared
    (tree.declaration (int 14)
    ((tree.bare
    (tree.function 0 (name (codes "f") 18)
    (tree.Listed
    (tree.parameters
    (tree.parameter (int 20) 0 (Some (name (codes "a") 24))
    (tree.absent_length
    (tree.given_length
    (tree.Constant 65537 true false 0 (span 28 33))
    tree.no_lengths))
    (span 20 34)) tree.no_parameters)
    (span 19 35))
    (span 18 35))) ∷ [])
    (span 14 36))) ∷ [])
    (refused Limit 24)

-- int f(int a,int b);int f(long a,int a);
abbrev pub silent_11 : Row
silent_11 = row
    ((tree.Declared
    (tree.declaration (int 0)
    ((tree.bare
    (tree.function 0 (name (codes "f") 4)
    (tree.Listed
    (tree.parameters
    (tree.parameter (int 6) 0 (Some (name (codes "a") 10)) tree.no_lengths
    (span 6 11))
    (tree.parameters
    (tree.parameter (int 12) 0 (Some (name (codes "b") 16))
    tree.no_lengths
    (span 12 17)) tree.no_parameters))
    (span 5 18))
    (span 4 18))) ∷ [])
    (span 0 19))) ∷
    (tree.Declared
    (tree.declaration (int 19)
    ((tree.bare
    (tree.function 0 (name (codes "f") 23)
    (tree.Listed
    (tree.parameters
    (tree.parameter
    (tree.specifiers (tree.Word word.Long (span 25 29))
    tree.no_specifiers) 0
    (Some (name (codes "a") 30)) tree.no_lengths
    (span 25 31))
    (tree.parameters
    (tree.parameter (int 32) 0 (Some (name (codes "a") 36))
    tree.no_lengths
    (span 32 37)) tree.no_parameters))
    (span 24 38))
    (span 23 38))) ∷ [])
    (span 19 39))) ∷ [])
    (refused Redeclared 36)

-- void mcdc_out(long a,int a);
abbrev pub silent_12 : Row
silent_12 = row
    ((tree.Declared
    (tree.declaration (void 0)
    ((tree.bare
    (tree.function 0 (name (codes "mcdc_out") 5)
    (tree.Listed
    (tree.parameters
    (tree.parameter
    (tree.specifiers (tree.Word word.Long (span 14 18))
    tree.no_specifiers) 0
    (Some (name (codes "a") 19)) tree.no_lengths
    (span 14 20))
    (tree.parameters
    (tree.parameter (int 21) 0 (Some (name (codes "a") 25))
    tree.no_lengths
    (span 21 26)) tree.no_parameters))
    (span 13 27))
    (span 5 27))) ∷ [])
    (span 0 28))) ∷ [])
    (refused Redeclared 25)

-- int f(int a);int f(struct U b,int c);
abbrev pub silent_13 : Row
silent_13 = row
    ((tree.Declared
    (tree.declaration (int 0)
    ((tree.bare
    (tree.function 0 (name (codes "f") 4)
    (tree.Listed
    (tree.parameters
    (tree.parameter (int 6) 0 (Some (name (codes "a") 10)) tree.no_lengths
    (span 6 11)) tree.no_parameters)
    (span 5 12))
    (span 4 12))) ∷ [])
    (span 0 13))) ∷
    (tree.Declared
    (tree.declaration (int 13)
    ((tree.bare
    (tree.function 0 (name (codes "f") 17)
    (tree.Listed
    (tree.parameters
    (tree.parameter
    (tree.specifiers
    (tree.StructureTag (name (codes "U") 26) (span 19 27))
    tree.no_specifiers) 0
    (Some (name (codes "b") 28)) tree.no_lengths
    (span 19 29))
    (tree.parameters
    (tree.parameter (int 30) 0 (Some (name (codes "c") 34))
    tree.no_lengths
    (span 30 35)) tree.no_parameters))
    (span 18 36))
    (span 17 36))) ∷ [])
    (span 13 37))) ∷ [])
    (refused Undeclared 26)

-- struct S{int a;}s;struct S g(void){return s;}void f(void){(g().a)=1;}
abbrev pub silent_14 : Row
silent_14 = row
    ((tree.Declared
    (tree.declaration
    (tree.specifiers
    (tree.Structure (Some (name (codes "S") 7))
    (tree.members
    (tree.member (int 9)
    (tree.declarators (object (name (codes "a") 13)) tree.no_declarators)
    (span 9 15)) tree.no_members)
    (span 0 16)) tree.no_specifiers)
    ((tree.bare (object (name (codes "s") 16))) ∷ [])
    (span 0 18))) ∷
    (tree.Defined
    (tree.specifiers (tree.StructureTag (name (codes "S") 25) (span 18 26))
    tree.no_specifiers)
    (tree.function 0 (name (codes "g") 27) (tree.Void (span 28 34)) (span 27 34))
    (tree.statement (tree.Return (Some (the (codes "s") 42)) (span 35 44))
    tree.no_block_items)
    (span 18 45)) ∷
    (tree.Defined (void 45)
    (tree.function 0 (name (codes "f") 50) (tree.Void (span 51 57)) (span 50 57))
    (tree.statement
    (tree.ExpressionStatement
    (tree.Assignment assign.Assign
    (tree.Parenthesized
    (tree.Member
    (tree.Call (name (codes "g") 59) tree.no_expressions (span 59 62))
    (name (codes "a") 63)
    (span 59 64))
    (span 58 65))
    (digit 1 66)
    (span 58 67))
    (span 58 68)) tree.no_block_items)
    (span 45 69)) ∷ [])
    (refused Mismatch 58)

-- struct S{int a;}s;struct S g(void){return s;}int f(void){return (g().a)[0];}
abbrev pub silent_15 : Row
silent_15 = row
    ((tree.Declared
    (tree.declaration
    (tree.specifiers
    (tree.Structure (Some (name (codes "S") 7))
    (tree.members
    (tree.member (int 9)
    (tree.declarators (object (name (codes "a") 13)) tree.no_declarators)
    (span 9 15)) tree.no_members)
    (span 0 16)) tree.no_specifiers)
    ((tree.bare (object (name (codes "s") 16))) ∷ [])
    (span 0 18))) ∷
    (tree.Defined
    (tree.specifiers (tree.StructureTag (name (codes "S") 25) (span 18 26))
    tree.no_specifiers)
    (tree.function 0 (name (codes "g") 27) (tree.Void (span 28 34)) (span 27 34))
    (tree.statement (tree.Return (Some (the (codes "s") 42)) (span 35 44))
    tree.no_block_items)
    (span 18 45)) ∷
    (tree.Defined (int 45)
    (tree.function 0 (name (codes "f") 49) (tree.Void (span 50 56)) (span 49 56))
    (tree.statement
    (tree.Return
    (Some
    (tree.Index
    (tree.Parenthesized
    (tree.Member
    (tree.Call (name (codes "g") 65) tree.no_expressions (span 65 68))
    (name (codes "a") 69)
    (span 65 70))
    (span 64 71))
    (zero_at 72)
    (span 64 74)))
    (span 57 75)) tree.no_block_items)
    (span 45 76)) ∷ [])
    (refused Mismatch 64)

-- struct S{int a;}s;struct S g(void){return s;}void f(void){(g().a)++;}
abbrev pub silent_16 : Row
silent_16 = row
    ((tree.Declared
    (tree.declaration
    (tree.specifiers
    (tree.Structure (Some (name (codes "S") 7))
    (tree.members
    (tree.member (int 9)
    (tree.declarators (object (name (codes "a") 13)) tree.no_declarators)
    (span 9 15)) tree.no_members)
    (span 0 16)) tree.no_specifiers)
    ((tree.bare (object (name (codes "s") 16))) ∷ [])
    (span 0 18))) ∷
    (tree.Defined
    (tree.specifiers (tree.StructureTag (name (codes "S") 25) (span 18 26))
    tree.no_specifiers)
    (tree.function 0 (name (codes "g") 27) (tree.Void (span 28 34)) (span 27 34))
    (tree.statement (tree.Return (Some (the (codes "s") 42)) (span 35 44))
    tree.no_block_items)
    (span 18 45)) ∷
    (tree.Defined (void 45)
    (tree.function 0 (name (codes "f") 50) (tree.Void (span 51 57)) (span 50 57))
    (tree.statement
    (tree.ExpressionStatement
    (tree.PostfixStep step.Increment
    (tree.Parenthesized
    (tree.Member
    (tree.Call (name (codes "g") 59) tree.no_expressions (span 59 62))
    (name (codes "a") 63)
    (span 59 64))
    (span 58 65))
    (span 58 67))
    (span 58 68)) tree.no_block_items)
    (span 45 69)) ∷ [])
    (refused Mismatch 58)

-- void f(void){((1+x)[0])=1;}
abbrev pub silent_17 : Row
silent_17 = row
    ((tree.Defined (void 0)
    (tree.function 0 (name (codes "f") 5) (tree.Void (span 6 12)) (span 5 12))
    (tree.statement
    (tree.ExpressionStatement
    (tree.Assignment assign.Assign
    (tree.Parenthesized
    (tree.Index
    (tree.Parenthesized
    (tree.Binary binary.Add (digit 1 15) (the (codes "x") 17)
    (span 15 18))
    (span 14 19))
    (zero_at 20)
    (span 14 22))
    (span 13 23))
    (digit 1 24)
    (span 13 25))
    (span 13 26)) tree.no_block_items)
    (span 0 27)) ∷ [])
    (refused Mismatch 13)

-- void f(void){(f[0])=1;}
abbrev pub silent_18 : Row
silent_18 = row
    ((tree.Defined (void 0)
    (tree.function 0 (name (codes "f") 5) (tree.Void (span 6 12)) (span 5 12))
    (tree.statement
    (tree.ExpressionStatement
    (tree.Assignment assign.Assign
    (tree.Parenthesized
    (tree.Index (the (codes "f") 14) (zero_at 16) (span 14 18))
    (span 13 19))
    (digit 1 20)
    (span 13 21))
    (span 13 22)) tree.no_block_items)
    (span 0 23)) ∷ [])
    (refused Mismatch 13)

-- void f(void){(u.a)=1;}
abbrev pub silent_19 : Row
silent_19 = row
    ((tree.Defined (void 0)
    (tree.function 0 (name (codes "f") 5) (tree.Void (span 6 12)) (span 5 12))
    (tree.statement
    (tree.ExpressionStatement
    (tree.Assignment assign.Assign
    (tree.Parenthesized
    (tree.Member (the (codes "u") 14) (name (codes "a") 16) (span 14 17))
    (span 13 18))
    (digit 1 19)
    (span 13 20))
    (span 13 21)) tree.no_block_items)
    (span 0 22)) ∷ [])
    (refused Undeclared 14)

-- void f(void){(u[0])=1;}
abbrev pub silent_20 : Row
silent_20 = row
    ((tree.Defined (void 0)
    (tree.function 0 (name (codes "f") 5) (tree.Void (span 6 12)) (span 5 12))
    (tree.statement
    (tree.ExpressionStatement
    (tree.Assignment assign.Assign
    (tree.Parenthesized
    (tree.Index (the (codes "u") 14) (zero_at 16) (span 14 18))
    (span 13 19))
    (digit 1 20)
    (span 13 21))
    (span 13 22)) tree.no_block_items)
    (span 0 23)) ∷ [])
    (refused Undeclared 14)

-- int f(void);typedef int f(void);
abbrev pub silent_21 : Row
silent_21 = row
    ((tree.Declared
    (tree.declaration (int 0)
    ((tree.bare
    (tree.function 0 (name (codes "f") 4) (tree.Void (span 5 11)) (span 4 11))) ∷ [])
    (span 0 12))) ∷
    (tree.Declared
    (tree.declaration (tree.specifiers (tree.Word word.Typedef (span 12 19)) (int 20))
    ((tree.bare
    (tree.function 0 (name (codes "f") 24) (tree.Void (span 25 31)) (span 24 31))) ∷
    [])
    (span 12 32))) ∷ [])
    (refused Redeclared 24)

-- struct S;typedef struct S T;struct S{int a;int a;};T x;
abbrev pub silent_22 : Row
silent_22 = row
    ((tree.Declared
    (tree.declaration
    (tree.specifiers (tree.StructureTag (name (codes "S") 7) (span 0 8))
    tree.no_specifiers) []
    (span 0 9))) ∷
    (tree.Declared
    (tree.declaration
    (tree.specifiers (tree.Word word.Typedef (span 9 16))
    (tree.specifiers (tree.StructureTag (name (codes "S") 24) (span 17 25))
    tree.no_specifiers))
    ((tree.bare (object (name (codes "T") 26))) ∷ [])
    (span 9 28))) ∷
    (tree.Declared
    (tree.declaration
    (tree.specifiers
    (tree.Structure (Some (name (codes "S") 35))
    (tree.members
    (tree.member (int 37)
    (tree.declarators (object (name (codes "a") 41)) tree.no_declarators)
    (span 37 43))
    (tree.members
    (tree.member (int 43)
    (tree.declarators (object (name (codes "a") 47)) tree.no_declarators)
    (span 43 49)) tree.no_members))
    (span 28 50)) tree.no_specifiers) []
    (span 28 51))) ∷
    (tree.Declared
    (tree.declaration
    (tree.specifiers (tree.TypedefName (name (codes "T") 51)) tree.no_specifiers)
    ((tree.bare (object (name (codes "x") 53))) ∷ [])
    (span 51 55))) ∷ [])
    (refused Redeclared 47)

abbrev pub all : List Row
all =
    silent_1 ∷ silent_2 ∷ silent_3 ∷ silent_4 ∷ silent_5 ∷ silent_6 ∷ silent_7 ∷ silent_8 ∷
    silent_9 ∷ silent_10 ∷ silent_11 ∷ silent_12 ∷ silent_13 ∷ silent_14 ∷ silent_15 ∷ silent_16 ∷
    silent_17 ∷ silent_18 ∷ silent_19 ∷ silent_20 ∷ silent_21 ∷ silent_22 ∷ []
