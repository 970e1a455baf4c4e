-- Short texts on expressions.
use Rattle.std.specs.Prelude.{List, [], ◌∷◌, codes, Some}
use Rattle.mc_tree.specs.declared.expressions.unary_operator.UnaryOperator.TheVariants as unary
use Rattle.mc_tree.specs.declared.expressions.binary_operator.BinaryOperator.TheVariants as binary
use Rattle.mc_tree.specs.declared.expressions.assignment_operator.AssignmentOperator.TheVariants as assign
use Rattle.mc_tree.specs.Tree as tree
use Rattle.types_faults.specs.declared.fault.FaultKind.TheVariants.{Undeclared, Mismatch}
use Rattle.types_rules.specs.Sampled.{Row, row, accepted, refused, name, span, int, void, the, digit, object, one_expression}

-- int f(int a){return f(a,a);}
abbrev pub values_1 : Row
values_1 = row
    ((tree.Defined (int 0)
    (tree.function 0 (name (codes "f") 4)
    (tree.Listed
    (tree.parameters
    (tree.parameter (int 6) 0 (Some (name (codes "a") 10)) tree.no_lengths
    (span 6 11)) tree.no_parameters)
    (span 5 12))
    (span 4 12))
    (tree.statement
    (tree.Return
    (Some
    (tree.Call (name (codes "f") 20)
    (tree.expressions (the (codes "a") 22)
    (one_expression (the (codes "a") 24)))
    (span 20 26)))
    (span 13 27)) tree.no_block_items)
    (span 0 28)) ∷ [])
    (refused Mismatch 20)

-- struct S{int a;}s;int g(int a){return a;}int f(void){return g(s);}
abbrev pub values_2 : Row
values_2 = row
    ((tree.Declared
    (tree.declaration
    (tree.specifiers
    (tree.Structure (Some (name (codes "S") 7))
    (tree.members
    (tree.member (int 9)
    (tree.declarators (object (name (codes "a") 13)) tree.no_declarators)
    (span 9 15)) tree.no_members)
    (span 0 16)) tree.no_specifiers)
    ((tree.bare (object (name (codes "s") 16))) ∷ [])
    (span 0 18))) ∷
    (tree.Defined (int 18)
    (tree.function 0 (name (codes "g") 22)
    (tree.Listed
    (tree.parameters
    (tree.parameter (int 24) 0 (Some (name (codes "a") 28)) tree.no_lengths
    (span 24 29)) tree.no_parameters)
    (span 23 30))
    (span 22 30))
    (tree.statement (tree.Return (Some (the (codes "a") 38)) (span 31 40))
    tree.no_block_items)
    (span 18 41)) ∷
    (tree.Defined (int 41)
    (tree.function 0 (name (codes "f") 45) (tree.Void (span 46 52)) (span 45 52))
    (tree.statement
    (tree.Return
    (Some
    (tree.Call (name (codes "g") 60) (one_expression (the (codes "s") 62))
    (span 60 64)))
    (span 53 65)) tree.no_block_items)
    (span 41 66)) ∷ [])
    (refused Mismatch 62)

-- void f(void){int a[2];1+a;}
abbrev pub values_3 : Row
values_3 = row
    ((tree.Defined (void 0)
    (tree.function 0 (name (codes "f") 5) (tree.Void (span 6 12)) (span 5 12))
    (tree.local
    (tree.declaration (int 13)
    ((tree.bare
    (tree.object 0 (name (codes "a") 17)
    (tree.given_length (digit 2 19) tree.no_lengths)
    (span 17 21))) ∷ [])
    (span 13 22))
    (tree.statement
    (tree.ExpressionStatement
    (tree.Binary binary.Add (digit 1 22) (the (codes "a") 24) (span 22 25))
    (span 22 26)) tree.no_block_items))
    (span 0 27)) ∷ [])
    (refused Mismatch 22)

-- void f(void){int a[2];(a);}
abbrev pub values_4 : Row
values_4 = row
    ((tree.Defined (void 0)
    (tree.function 0 (name (codes "f") 5) (tree.Void (span 6 12)) (span 5 12))
    (tree.local
    (tree.declaration (int 13)
    ((tree.bare
    (tree.object 0 (name (codes "a") 17)
    (tree.given_length (digit 2 19) tree.no_lengths)
    (span 17 21))) ∷ [])
    (span 13 22))
    (tree.statement
    (tree.ExpressionStatement (tree.Parenthesized (the (codes "a") 23) (span 22 25))
    (span 22 26)) tree.no_block_items))
    (span 0 27)) ∷ [])
    (refused Mismatch 23)

-- void f(void){int a[2];(void)a;}
abbrev pub values_5 : Row
values_5 = row
    ((tree.Defined (void 0)
    (tree.function 0 (name (codes "f") 5) (tree.Void (span 6 12)) (span 5 12))
    (tree.local
    (tree.declaration (int 13)
    ((tree.bare
    (tree.object 0 (name (codes "a") 17)
    (tree.given_length (digit 2 19) tree.no_lengths)
    (span 17 21))) ∷ [])
    (span 13 22))
    (tree.statement
    (tree.ExpressionStatement
    (tree.Cast (tree.type_name (void 23) 0 (span 23 27)) (the (codes "a") 28)
    (span 22 29))
    (span 22 30)) tree.no_block_items))
    (span 0 31)) ∷ [])
    (refused Mismatch 28)

-- int f(void){int a[2];return a;}
abbrev pub values_6 : Row
values_6 = row
    ((tree.Defined (int 0)
    (tree.function 0 (name (codes "f") 4) (tree.Void (span 5 11)) (span 4 11))
    (tree.local
    (tree.declaration (int 12)
    ((tree.bare
    (tree.object 0 (name (codes "a") 16)
    (tree.given_length (digit 2 18) tree.no_lengths)
    (span 16 20))) ∷ [])
    (span 12 21))
    (tree.statement (tree.Return (Some (the (codes "a") 28)) (span 21 30))
    tree.no_block_items))
    (span 0 31)) ∷ [])
    (refused Mismatch 21)

-- int g(int b){return b;}int f(void){int a[2];return g(a);}
abbrev pub values_7 : Row
values_7 = row
    ((tree.Defined (int 0)
    (tree.function 0 (name (codes "g") 4)
    (tree.Listed
    (tree.parameters
    (tree.parameter (int 6) 0 (Some (name (codes "b") 10)) tree.no_lengths
    (span 6 11)) tree.no_parameters)
    (span 5 12))
    (span 4 12))
    (tree.statement (tree.Return (Some (the (codes "b") 20)) (span 13 22))
    tree.no_block_items)
    (span 0 23)) ∷
    (tree.Defined (int 23)
    (tree.function 0 (name (codes "f") 27) (tree.Void (span 28 34)) (span 27 34))
    (tree.local
    (tree.declaration (int 35)
    ((tree.bare
    (tree.object 0 (name (codes "a") 39)
    (tree.given_length (digit 2 41) tree.no_lengths)
    (span 39 43))) ∷ [])
    (span 35 44))
    (tree.statement
    (tree.Return
    (Some
    (tree.Call (name (codes "g") 51) (one_expression (the (codes "a") 53))
    (span 51 55)))
    (span 44 56)) tree.no_block_items))
    (span 23 57)) ∷ [])
    (refused Mismatch 53)

-- void f(int a){f;}
abbrev pub values_8 : Row
values_8 = row
    ((tree.Defined (void 0)
    (tree.function 0 (name (codes "f") 5)
    (tree.Listed
    (tree.parameters
    (tree.parameter (int 7) 0 (Some (name (codes "a") 11)) tree.no_lengths
    (span 7 12)) tree.no_parameters)
    (span 6 13))
    (span 5 13))
    (tree.statement (tree.ExpressionStatement (the (codes "f") 14) (span 14 16))
    tree.no_block_items)
    (span 0 17)) ∷ [])
    (refused Mismatch 14)

-- void g(int a){a=1+x;}
abbrev pub values_9 : Row
values_9 = row
    ((tree.Defined (void 0)
    (tree.function 0 (name (codes "g") 5)
    (tree.Listed
    (tree.parameters
    (tree.parameter (int 7) 0 (Some (name (codes "a") 11)) tree.no_lengths
    (span 7 12)) tree.no_parameters)
    (span 6 13))
    (span 5 13))
    (tree.statement
    (tree.ExpressionStatement
    (tree.Assignment assign.Assign (the (codes "a") 14)
    (tree.Binary binary.Add (digit 1 16) (the (codes "x") 18) (span 16 19))
    (span 14 19))
    (span 14 20)) tree.no_block_items)
    (span 0 21)) ∷ [])
    (refused Undeclared 18)

-- struct S{int a;}s;void f(int c){c?s:s;}
abbrev pub values_10 : Row
values_10 = row
    ((tree.Declared
    (tree.declaration
    (tree.specifiers
    (tree.Structure (Some (name (codes "S") 7))
    (tree.members
    (tree.member (int 9)
    (tree.declarators (object (name (codes "a") 13)) tree.no_declarators)
    (span 9 15)) tree.no_members)
    (span 0 16)) tree.no_specifiers)
    ((tree.bare (object (name (codes "s") 16))) ∷ [])
    (span 0 18))) ∷
    (tree.Defined (void 18)
    (tree.function 0 (name (codes "f") 23)
    (tree.Listed
    (tree.parameters
    (tree.parameter (int 25) 0 (Some (name (codes "c") 29)) tree.no_lengths
    (span 25 30)) tree.no_parameters)
    (span 24 31))
    (span 23 31))
    (tree.statement
    (tree.ExpressionStatement
    (tree.Conditional (the (codes "c") 32) (the (codes "s") 34) (the (codes "s") 36)
    (span 32 37))
    (span 32 38)) tree.no_block_items)
    (span 18 39)) ∷ [])
    (refused Mismatch 32)

-- void g(void){}void f(int c){c?g():(void)c;c?g():c;}
abbrev pub values_11 : Row
values_11 = row
    ((tree.Defined (void 0)
    (tree.function 0 (name (codes "g") 5) (tree.Void (span 6 12)) (span 5 12))
    tree.no_block_items
    (span 0 14)) ∷
    (tree.Defined (void 14)
    (tree.function 0 (name (codes "f") 19)
    (tree.Listed
    (tree.parameters
    (tree.parameter (int 21) 0 (Some (name (codes "c") 25)) tree.no_lengths
    (span 21 26)) tree.no_parameters)
    (span 20 27))
    (span 19 27))
    (tree.statement
    (tree.ExpressionStatement
    (tree.Conditional (the (codes "c") 28)
    (tree.Call (name (codes "g") 30) tree.no_expressions (span 30 33))
    (tree.Cast (tree.type_name (void 35) 0 (span 35 39)) (the (codes "c") 40)
    (span 34 41))
    (span 28 41))
    (span 28 42))
    (tree.statement
    (tree.ExpressionStatement
    (tree.Conditional (the (codes "c") 42)
    (tree.Call (name (codes "g") 44) tree.no_expressions (span 44 47))
    (the (codes "c") 48)
    (span 42 49))
    (span 42 50)) tree.no_block_items))
    (span 14 51)) ∷ [])
    (refused Mismatch 42)

-- struct S{int a;}s;int f(void){return (int)s;}
abbrev pub values_12 : Row
values_12 = row
    ((tree.Declared
    (tree.declaration
    (tree.specifiers
    (tree.Structure (Some (name (codes "S") 7))
    (tree.members
    (tree.member (int 9)
    (tree.declarators (object (name (codes "a") 13)) tree.no_declarators)
    (span 9 15)) tree.no_members)
    (span 0 16)) tree.no_specifiers)
    ((tree.bare (object (name (codes "s") 16))) ∷ [])
    (span 0 18))) ∷
    (tree.Defined (int 18)
    (tree.function 0 (name (codes "f") 22) (tree.Void (span 23 29)) (span 22 29))
    (tree.statement
    (tree.Return
    (Some
    (tree.Cast (tree.type_name (int 38) 0 (span 38 41)) (the (codes "s") 42)
    (span 37 43)))
    (span 30 44)) tree.no_block_items)
    (span 18 45)) ∷ [])
    (refused Mismatch 37)

-- struct S{int a;}s;void f(void){(struct S)s;}
abbrev pub values_13 : Row
values_13 = row
    ((tree.Declared
    (tree.declaration
    (tree.specifiers
    (tree.Structure (Some (name (codes "S") 7))
    (tree.members
    (tree.member (int 9)
    (tree.declarators (object (name (codes "a") 13)) tree.no_declarators)
    (span 9 15)) tree.no_members)
    (span 0 16)) tree.no_specifiers)
    ((tree.bare (object (name (codes "s") 16))) ∷ [])
    (span 0 18))) ∷
    (tree.Defined (void 18)
    (tree.function 0 (name (codes "f") 23) (tree.Void (span 24 30)) (span 23 30))
    (tree.statement
    (tree.ExpressionStatement
    (tree.Cast
    (tree.type_name
    (tree.specifiers (tree.StructureTag (name (codes "S") 39) (span 32 40))
    tree.no_specifiers) 0
    (span 32 40))
    (the (codes "s") 41)
    (span 31 42))
    (span 31 43)) tree.no_block_items)
    (span 18 44)) ∷ [])
    (refused Mismatch 31)

-- struct S{int a;}s;void f(void){(void)s;}
abbrev pub values_14 : Row
values_14 = row
    ((tree.Declared
    (tree.declaration
    (tree.specifiers
    (tree.Structure (Some (name (codes "S") 7))
    (tree.members
    (tree.member (int 9)
    (tree.declarators (object (name (codes "a") 13)) tree.no_declarators)
    (span 9 15)) tree.no_members)
    (span 0 16)) tree.no_specifiers)
    ((tree.bare (object (name (codes "s") 16))) ∷ [])
    (span 0 18))) ∷
    (tree.Defined (void 18)
    (tree.function 0 (name (codes "f") 23) (tree.Void (span 24 30)) (span 23 30))
    (tree.statement
    (tree.ExpressionStatement
    (tree.Cast (tree.type_name (void 32) 0 (span 32 36)) (the (codes "s") 37)
    (span 31 38))
    (span 31 39)) tree.no_block_items)
    (span 18 40)) ∷ [])
    accepted

-- int f(int a){return f(x,a);}
abbrev pub values_15 : Row
values_15 = row
    ((tree.Defined (int 0)
    (tree.function 0 (name (codes "f") 4)
    (tree.Listed
    (tree.parameters
    (tree.parameter (int 6) 0 (Some (name (codes "a") 10)) tree.no_lengths
    (span 6 11)) tree.no_parameters)
    (span 5 12))
    (span 4 12))
    (tree.statement
    (tree.Return
    (Some
    (tree.Call (name (codes "f") 20)
    (tree.expressions (the (codes "x") 22)
    (one_expression (the (codes "a") 24)))
    (span 20 26)))
    (span 13 27)) tree.no_block_items)
    (span 0 28)) ∷ [])
    (refused Mismatch 20)

-- struct S{int a;}s;int f(void){return s<1;}
abbrev pub values_16 : Row
values_16 = row
    ((tree.Declared
    (tree.declaration
    (tree.specifiers
    (tree.Structure (Some (name (codes "S") 7))
    (tree.members
    (tree.member (int 9)
    (tree.declarators (object (name (codes "a") 13)) tree.no_declarators)
    (span 9 15)) tree.no_members)
    (span 0 16)) tree.no_specifiers)
    ((tree.bare (object (name (codes "s") 16))) ∷ [])
    (span 0 18))) ∷
    (tree.Defined (int 18)
    (tree.function 0 (name (codes "f") 22) (tree.Void (span 23 29)) (span 22 29))
    (tree.statement
    (tree.Return
    (Some (tree.Binary binary.Less (the (codes "s") 37) (digit 1 39) (span 37 40)))
    (span 30 41)) tree.no_block_items)
    (span 18 42)) ∷ [])
    (refused Mismatch 37)

-- struct S{int a;}s;int f(void){return -s;}
abbrev pub values_17 : Row
values_17 = row
    ((tree.Declared
    (tree.declaration
    (tree.specifiers
    (tree.Structure (Some (name (codes "S") 7))
    (tree.members
    (tree.member (int 9)
    (tree.declarators (object (name (codes "a") 13)) tree.no_declarators)
    (span 9 15)) tree.no_members)
    (span 0 16)) tree.no_specifiers)
    ((tree.bare (object (name (codes "s") 16))) ∷ [])
    (span 0 18))) ∷
    (tree.Defined (int 18)
    (tree.function 0 (name (codes "f") 22) (tree.Void (span 23 29)) (span 22 29))
    (tree.statement
    (tree.Return (Some (tree.Unary unary.Minus (the (codes "s") 38) (span 37 39)))
    (span 30 40)) tree.no_block_items)
    (span 18 41)) ∷ [])
    (refused Mismatch 37)

-- struct S{int a;}s;int f(void){return 1||!s;}
abbrev pub values_18 : Row
values_18 = row
    ((tree.Declared
    (tree.declaration
    (tree.specifiers
    (tree.Structure (Some (name (codes "S") 7))
    (tree.members
    (tree.member (int 9)
    (tree.declarators (object (name (codes "a") 13)) tree.no_declarators)
    (span 9 15)) tree.no_members)
    (span 0 16)) tree.no_specifiers)
    ((tree.bare (object (name (codes "s") 16))) ∷ [])
    (span 0 18))) ∷
    (tree.Defined (int 18)
    (tree.function 0 (name (codes "f") 22) (tree.Void (span 23 29)) (span 22 29))
    (tree.statement
    (tree.Return
    (Some
    (tree.Binary binary.Or (digit 1 37)
    (tree.Unary unary.Not (the (codes "s") 41) (span 40 42))
    (span 37 42)))
    (span 30 43)) tree.no_block_items)
    (span 18 44)) ∷ [])
    (refused Mismatch 40)

-- struct S{int a;}s;int f(void){return 1+(s&&1);}
abbrev pub values_19 : Row
values_19 = row
    ((tree.Declared
    (tree.declaration
    (tree.specifiers
    (tree.Structure (Some (name (codes "S") 7))
    (tree.members
    (tree.member (int 9)
    (tree.declarators (object (name (codes "a") 13)) tree.no_declarators)
    (span 9 15)) tree.no_members)
    (span 0 16)) tree.no_specifiers)
    ((tree.bare (object (name (codes "s") 16))) ∷ [])
    (span 0 18))) ∷
    (tree.Defined (int 18)
    (tree.function 0 (name (codes "f") 22) (tree.Void (span 23 29)) (span 22 29))
    (tree.statement
    (tree.Return
    (Some
    (tree.Binary binary.Add (digit 1 37)
    (tree.Parenthesized
    (tree.Binary binary.And (the (codes "s") 40) (digit 1 43) (span 40 44))
    (span 39 45))
    (span 37 45)))
    (span 30 46)) tree.no_block_items)
    (span 18 47)) ∷ [])
    (refused Mismatch 40)

-- struct S{int a;};struct T{int a;}t;void g(struct S s){}void f(void){g(t);}
abbrev pub values_20 : Row
values_20 = row
    ((tree.Declared
    (tree.declaration
    (tree.specifiers
    (tree.Structure (Some (name (codes "S") 7))
    (tree.members
    (tree.member (int 9)
    (tree.declarators (object (name (codes "a") 13)) tree.no_declarators)
    (span 9 15)) tree.no_members)
    (span 0 16)) tree.no_specifiers) []
    (span 0 17))) ∷
    (tree.Declared
    (tree.declaration
    (tree.specifiers
    (tree.Structure (Some (name (codes "T") 24))
    (tree.members
    (tree.member (int 26)
    (tree.declarators (object (name (codes "a") 30)) tree.no_declarators)
    (span 26 32)) tree.no_members)
    (span 17 33)) tree.no_specifiers)
    ((tree.bare (object (name (codes "t") 33))) ∷ [])
    (span 17 35))) ∷
    (tree.Defined (void 35)
    (tree.function 0 (name (codes "g") 40)
    (tree.Listed
    (tree.parameters
    (tree.parameter
    (tree.specifiers (tree.StructureTag (name (codes "S") 49) (span 42 50))
    tree.no_specifiers) 0
    (Some (name (codes "s") 51)) tree.no_lengths
    (span 42 52)) tree.no_parameters)
    (span 41 53))
    (span 40 53)) tree.no_block_items
    (span 35 55)) ∷
    (tree.Defined (void 55)
    (tree.function 0 (name (codes "f") 60) (tree.Void (span 61 67)) (span 60 67))
    (tree.statement
    (tree.ExpressionStatement
    (tree.Call (name (codes "g") 68) (one_expression (the (codes "t") 70))
    (span 68 72))
    (span 68 73)) tree.no_block_items)
    (span 55 74)) ∷ [])
    (refused Mismatch 70)

-- int f(int a){return a();}
abbrev pub values_21 : Row
values_21 = row
    ((tree.Defined (int 0)
    (tree.function 0 (name (codes "f") 4)
    (tree.Listed
    (tree.parameters
    (tree.parameter (int 6) 0 (Some (name (codes "a") 10)) tree.no_lengths
    (span 6 11)) tree.no_parameters)
    (span 5 12))
    (span 4 12))
    (tree.statement
    (tree.Return
    (Some (tree.Call (name (codes "a") 20) tree.no_expressions (span 20 23)))
    (span 13 24)) tree.no_block_items)
    (span 0 25)) ∷ [])
    (refused Mismatch 20)

-- int f(void){return g();}
abbrev pub values_22 : Row
values_22 = row
    ((tree.Defined (int 0)
    (tree.function 0 (name (codes "f") 4) (tree.Void (span 5 11)) (span 4 11))
    (tree.statement
    (tree.Return
    (Some (tree.Call (name (codes "g") 19) tree.no_expressions (span 19 22)))
    (span 12 23)) tree.no_block_items)
    (span 0 24)) ∷ [])
    (refused Undeclared 19)

-- struct S{int a;}s;int g(int a){return a;}int f(void){return g((s));}
abbrev pub values_23 : Row
values_23 = row
    ((tree.Declared
    (tree.declaration
    (tree.specifiers
    (tree.Structure (Some (name (codes "S") 7))
    (tree.members
    (tree.member (int 9)
    (tree.declarators (object (name (codes "a") 13)) tree.no_declarators)
    (span 9 15)) tree.no_members)
    (span 0 16)) tree.no_specifiers)
    ((tree.bare (object (name (codes "s") 16))) ∷ [])
    (span 0 18))) ∷
    (tree.Defined (int 18)
    (tree.function 0 (name (codes "g") 22)
    (tree.Listed
    (tree.parameters
    (tree.parameter (int 24) 0 (Some (name (codes "a") 28)) tree.no_lengths
    (span 24 29)) tree.no_parameters)
    (span 23 30))
    (span 22 30))
    (tree.statement (tree.Return (Some (the (codes "a") 38)) (span 31 40))
    tree.no_block_items)
    (span 18 41)) ∷
    (tree.Defined (int 41)
    (tree.function 0 (name (codes "f") 45) (tree.Void (span 46 52)) (span 45 52))
    (tree.statement
    (tree.Return
    (Some
    (tree.Call (name (codes "g") 60)
    (one_expression (tree.Parenthesized (the (codes "s") 63) (span 62 65)))
    (span 60 66)))
    (span 53 67)) tree.no_block_items)
    (span 41 68)) ∷ [])
    (refused Mismatch 62)

-- struct S{int a;}s;int f(void){return (s+1);}
abbrev pub values_24 : Row
values_24 = row
    ((tree.Declared
    (tree.declaration
    (tree.specifiers
    (tree.Structure (Some (name (codes "S") 7))
    (tree.members
    (tree.member (int 9)
    (tree.declarators (object (name (codes "a") 13)) tree.no_declarators)
    (span 9 15)) tree.no_members)
    (span 0 16)) tree.no_specifiers)
    ((tree.bare (object (name (codes "s") 16))) ∷ [])
    (span 0 18))) ∷
    (tree.Defined (int 18)
    (tree.function 0 (name (codes "f") 22) (tree.Void (span 23 29)) (span 22 29))
    (tree.statement
    (tree.Return
    (Some
    (tree.Parenthesized
    (tree.Binary binary.Add (the (codes "s") 38) (digit 1 40) (span 38 41))
    (span 37 42)))
    (span 30 43)) tree.no_block_items)
    (span 18 44)) ∷ [])
    (refused Mismatch 38)

-- void f(void){int a[2];if(a);}
abbrev pub values_25 : Row
values_25 = row
    ((tree.Defined (void 0)
    (tree.function 0 (name (codes "f") 5) (tree.Void (span 6 12)) (span 5 12))
    (tree.local
    (tree.declaration (int 13)
    ((tree.bare
    (tree.object 0 (name (codes "a") 17)
    (tree.given_length (digit 2 19) tree.no_lengths)
    (span 17 21))) ∷ [])
    (span 13 22))
    (tree.statement (tree.If (the (codes "a") 25) (tree.Null (span 27 28)) (span 22 28))
    tree.no_block_items))
    (span 0 29)) ∷ [])
    (refused Mismatch 22)

abbrev pub all : List Row
all =
    values_1 ∷ values_2 ∷ values_3 ∷ values_4 ∷ values_5 ∷ values_6 ∷ values_7 ∷ values_8 ∷
    values_9 ∷ values_10 ∷ values_11 ∷ values_12 ∷ values_13 ∷ values_14 ∷ values_15 ∷ values_16 ∷
    values_17 ∷ values_18 ∷ values_19 ∷ values_20 ∷ values_21 ∷ values_22 ∷ values_23 ∷ values_24
    ∷ values_25 ∷ []
