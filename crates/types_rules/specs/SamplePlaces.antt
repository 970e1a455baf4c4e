-- Short texts on places, assignments and arguments.
use Rattle.std.specs.Prelude.{List, [], ◌∷◌, codes, Some}
use Rattle.mc_tree.specs.declared.expressions.step_operator.StepOperator.TheVariants as step
use Rattle.mc_tree.specs.declared.expressions.binary_operator.BinaryOperator.TheVariants as binary
use Rattle.mc_tree.specs.declared.expressions.assignment_operator.AssignmentOperator.TheVariants as assign
use Rattle.mc_tree.specs.declared.declarations.specifier_word.SpecifierWord.TheVariants as word
use Rattle.mc_tree.specs.Tree as tree
use Rattle.types_faults.specs.declared.fault.FaultKind.TheVariants.{Undeclared, Mismatch}
use Rattle.types_rules.specs.Sampled.{Row, row, accepted, refused, name, span, int, void, the, digit, zero_at, object, one_expression}

-- int g(int a[]){return a[0];}const int t[2]={1,2};int f(void){return g(t);}
abbrev pub places_1 : Row
places_1 = row
    ((tree.Defined (int 0)
    (tree.function 0 (name (codes "g") 4)
    (tree.Listed
    (tree.parameters
    (tree.parameter (int 6) 0 (Some (name (codes "a") 10))
    (tree.absent_length tree.no_lengths)
    (span 6 13)) tree.no_parameters)
    (span 5 14))
    (span 4 14))
    (tree.statement
    (tree.Return (Some (tree.Index (the (codes "a") 22) (zero_at 24) (span 22 26)))
    (span 15 27)) tree.no_block_items)
    (span 0 28)) ∷
    (tree.Declared
    (tree.declaration (tree.specifiers (tree.Word word.Const (span 28 33)) (int 34))
    ((tree.initialized
    (tree.object 0 (name (codes "t") 38)
    (tree.given_length (digit 2 40) tree.no_lengths)
    (span 38 42))
    (tree.Braced
    (tree.initializers (tree.Single (digit 1 44))
    (tree.initializers (tree.Single (digit 2 46)) tree.no_initializers))
    (span 43 48))) ∷ [])
    (span 28 49))) ∷
    (tree.Defined (int 49)
    (tree.function 0 (name (codes "f") 53) (tree.Void (span 54 60)) (span 53 60))
    (tree.statement
    (tree.Return
    (Some
    (tree.Call (name (codes "g") 68) (one_expression (the (codes "t") 70))
    (span 68 72)))
    (span 61 73)) tree.no_block_items)
    (span 49 74)) ∷ [])
    (refused Mismatch 70)

-- int g(const int a[]){return a[0];}int t[2]={1,2};int f(void){return g(t);}
abbrev pub places_2 : Row
places_2 = row
    ((tree.Defined (int 0)
    (tree.function 0 (name (codes "g") 4)
    (tree.Listed
    (tree.parameters
    (tree.parameter (tree.specifiers (tree.Word word.Const (span 6 11)) (int 12)) 0
    (Some (name (codes "a") 16))
    (tree.absent_length tree.no_lengths)
    (span 6 19)) tree.no_parameters)
    (span 5 20))
    (span 4 20))
    (tree.statement
    (tree.Return (Some (tree.Index (the (codes "a") 28) (zero_at 30) (span 28 32)))
    (span 21 33)) tree.no_block_items)
    (span 0 34)) ∷
    (tree.Declared
    (tree.declaration (int 34)
    ((tree.initialized
    (tree.object 0 (name (codes "t") 38)
    (tree.given_length (digit 2 40) tree.no_lengths)
    (span 38 42))
    (tree.Braced
    (tree.initializers (tree.Single (digit 1 44))
    (tree.initializers (tree.Single (digit 2 46)) tree.no_initializers))
    (span 43 48))) ∷ [])
    (span 34 49))) ∷
    (tree.Defined (int 49)
    (tree.function 0 (name (codes "f") 53) (tree.Void (span 54 60)) (span 53 60))
    (tree.statement
    (tree.Return
    (Some
    (tree.Call (name (codes "g") 68) (one_expression (the (codes "t") 70))
    (span 68 72)))
    (span 61 73)) tree.no_block_items)
    (span 49 74)) ∷ [])
    accepted

-- void f(int x){int a[2];x=a;}
abbrev pub places_3 : Row
places_3 = row
    ((tree.Defined (void 0)
    (tree.function 0 (name (codes "f") 5)
    (tree.Listed
    (tree.parameters
    (tree.parameter (int 7) 0 (Some (name (codes "x") 11)) tree.no_lengths
    (span 7 12)) tree.no_parameters)
    (span 6 13))
    (span 5 13))
    (tree.local
    (tree.declaration (int 14)
    ((tree.bare
    (tree.object 0 (name (codes "a") 18)
    (tree.given_length (digit 2 20) tree.no_lengths)
    (span 18 22))) ∷ [])
    (span 14 23))
    (tree.statement
    (tree.ExpressionStatement
    (tree.Assignment assign.Assign (the (codes "x") 23) (the (codes "a") 25)
    (span 23 26))
    (span 23 27)) tree.no_block_items))
    (span 0 28)) ∷ [])
    (refused Mismatch 23)

-- void f(const int a){a++;}
abbrev pub places_4 : Row
places_4 = row
    ((tree.Defined (void 0)
    (tree.function 0 (name (codes "f") 5)
    (tree.Listed
    (tree.parameters
    (tree.parameter (tree.specifiers (tree.Word word.Const (span 7 12)) (int 13)) 0
    (Some (name (codes "a") 17)) tree.no_lengths
    (span 7 18)) tree.no_parameters)
    (span 6 19))
    (span 5 19))
    (tree.statement
    (tree.ExpressionStatement
    (tree.PostfixStep step.Increment (the (codes "a") 20) (span 20 23))
    (span 20 24)) tree.no_block_items)
    (span 0 25)) ∷ [])
    (refused Mismatch 20)

-- void f(void){--f;}
abbrev pub places_5 : Row
places_5 = row
    ((tree.Defined (void 0)
    (tree.function 0 (name (codes "f") 5) (tree.Void (span 6 12)) (span 5 12))
    (tree.statement
    (tree.ExpressionStatement
    (tree.PrefixStep step.Decrement (the (codes "f") 15) (span 13 16))
    (span 13 17)) tree.no_block_items)
    (span 0 18)) ∷ [])
    (refused Mismatch 13)

-- struct S{int a;}s;void f(void){s+=s;}
abbrev pub places_6 : Row
places_6 = row
    ((tree.Declared
    (tree.declaration
    (tree.specifiers
    (tree.Structure (Some (name (codes "S") 7))
    (tree.members
    (tree.member (int 9)
    (tree.declarators (object (name (codes "a") 13)) tree.no_declarators)
    (span 9 15)) tree.no_members)
    (span 0 16)) tree.no_specifiers)
    ((tree.bare (object (name (codes "s") 16))) ∷ [])
    (span 0 18))) ∷
    (tree.Defined (void 18)
    (tree.function 0 (name (codes "f") 23) (tree.Void (span 24 30)) (span 23 30))
    (tree.statement
    (tree.ExpressionStatement
    (tree.Assignment assign.Add (the (codes "s") 31) (the (codes "s") 34)
    (span 31 35))
    (span 31 36)) tree.no_block_items)
    (span 18 37)) ∷ [])
    (refused Mismatch 31)

-- int f(int a){return a;}void g(void){f(x)=1;}
abbrev pub places_7 : Row
places_7 = row
    ((tree.Defined (int 0)
    (tree.function 0 (name (codes "f") 4)
    (tree.Listed
    (tree.parameters
    (tree.parameter (int 6) 0 (Some (name (codes "a") 10)) tree.no_lengths
    (span 6 11)) tree.no_parameters)
    (span 5 12))
    (span 4 12))
    (tree.statement (tree.Return (Some (the (codes "a") 20)) (span 13 22))
    tree.no_block_items)
    (span 0 23)) ∷
    (tree.Defined (void 23)
    (tree.function 0 (name (codes "g") 28) (tree.Void (span 29 35)) (span 28 35))
    (tree.statement
    (tree.ExpressionStatement
    (tree.Assignment assign.Assign
    (tree.Call (name (codes "f") 36) (one_expression (the (codes "x") 38))
    (span 36 40))
    (digit 1 41)
    (span 36 42))
    (span 36 43)) tree.no_block_items)
    (span 23 44)) ∷ [])
    (refused Mismatch 36)

-- int f(int a){return a;}int g(void){return f(x)[0];}
abbrev pub places_8 : Row
places_8 = row
    ((tree.Defined (int 0)
    (tree.function 0 (name (codes "f") 4)
    (tree.Listed
    (tree.parameters
    (tree.parameter (int 6) 0 (Some (name (codes "a") 10)) tree.no_lengths
    (span 6 11)) tree.no_parameters)
    (span 5 12))
    (span 4 12))
    (tree.statement (tree.Return (Some (the (codes "a") 20)) (span 13 22))
    tree.no_block_items)
    (span 0 23)) ∷
    (tree.Defined (int 23)
    (tree.function 0 (name (codes "g") 27) (tree.Void (span 28 34)) (span 27 34))
    (tree.statement
    (tree.Return
    (Some
    (tree.Index
    (tree.Call (name (codes "f") 42) (one_expression (the (codes "x") 44))
    (span 42 46))
    (zero_at 47)
    (span 42 49)))
    (span 35 50)) tree.no_block_items)
    (span 23 51)) ∷ [])
    (refused Mismatch 42)

-- void g(void){(1+x)=1;}
abbrev pub places_9 : Row
places_9 = row
    ((tree.Defined (void 0)
    (tree.function 0 (name (codes "g") 5) (tree.Void (span 6 12)) (span 5 12))
    (tree.statement
    (tree.ExpressionStatement
    (tree.Assignment assign.Assign
    (tree.Parenthesized
    (tree.Binary binary.Add (digit 1 14) (the (codes "x") 16) (span 14 17))
    (span 13 18))
    (digit 1 19)
    (span 13 20))
    (span 13 21)) tree.no_block_items)
    (span 0 22)) ∷ [])
    (refused Mismatch 13)

-- void g(void){x=1;}
abbrev pub places_10 : Row
places_10 = row
    ((tree.Defined (void 0)
    (tree.function 0 (name (codes "g") 5) (tree.Void (span 6 12)) (span 5 12))
    (tree.statement
    (tree.ExpressionStatement
    (tree.Assignment assign.Assign (the (codes "x") 13) (digit 1 15) (span 13 16))
    (span 13 17)) tree.no_block_items)
    (span 0 18)) ∷ [])
    (refused Undeclared 13)

-- struct S{int a;}s;struct S g(void){return s;}int f(void){return g().a;}
abbrev pub places_11 : Row
places_11 = row
    ((tree.Declared
    (tree.declaration
    (tree.specifiers
    (tree.Structure (Some (name (codes "S") 7))
    (tree.members
    (tree.member (int 9)
    (tree.declarators (object (name (codes "a") 13)) tree.no_declarators)
    (span 9 15)) tree.no_members)
    (span 0 16)) tree.no_specifiers)
    ((tree.bare (object (name (codes "s") 16))) ∷ [])
    (span 0 18))) ∷
    (tree.Defined
    (tree.specifiers (tree.StructureTag (name (codes "S") 25) (span 18 26))
    tree.no_specifiers)
    (tree.function 0 (name (codes "g") 27) (tree.Void (span 28 34)) (span 27 34))
    (tree.statement (tree.Return (Some (the (codes "s") 42)) (span 35 44))
    tree.no_block_items)
    (span 18 45)) ∷
    (tree.Defined (int 45)
    (tree.function 0 (name (codes "f") 49) (tree.Void (span 50 56)) (span 49 56))
    (tree.statement
    (tree.Return
    (Some
    (tree.Member
    (tree.Call (name (codes "g") 64) tree.no_expressions (span 64 67))
    (name (codes "a") 68)
    (span 64 69)))
    (span 57 70)) tree.no_block_items)
    (span 45 71)) ∷ [])
    (refused Mismatch 64)

-- typedef const int C;struct S{C a;}s;struct S u;void f(void){s=u;s.a=1;}
abbrev pub places_12 : Row
places_12 = row
    ((tree.Declared
    (tree.declaration
    (tree.specifiers (tree.Word word.Typedef (span 0 7))
    (tree.specifiers (tree.Word word.Const (span 8 13)) (int 14)))
    ((tree.bare (object (name (codes "C") 18))) ∷ [])
    (span 0 20))) ∷
    (tree.Declared
    (tree.declaration
    (tree.specifiers
    (tree.Structure (Some (name (codes "S") 27))
    (tree.members
    (tree.member
    (tree.specifiers (tree.TypedefName (name (codes "C") 29))
    tree.no_specifiers)
    (tree.declarators (object (name (codes "a") 31)) tree.no_declarators)
    (span 29 33)) tree.no_members)
    (span 20 34)) tree.no_specifiers)
    ((tree.bare (object (name (codes "s") 34))) ∷ [])
    (span 20 36))) ∷
    (tree.Declared
    (tree.declaration
    (tree.specifiers (tree.StructureTag (name (codes "S") 43) (span 36 44))
    tree.no_specifiers)
    ((tree.bare (object (name (codes "u") 45))) ∷ [])
    (span 36 47))) ∷
    (tree.Defined (void 47)
    (tree.function 0 (name (codes "f") 52) (tree.Void (span 53 59)) (span 52 59))
    (tree.statement
    (tree.ExpressionStatement
    (tree.Assignment assign.Assign (the (codes "s") 60) (the (codes "u") 62)
    (span 60 63))
    (span 60 64))
    (tree.statement
    (tree.ExpressionStatement
    (tree.Assignment assign.Assign
    (tree.Member (the (codes "s") 64) (name (codes "a") 66) (span 64 67))
    (digit 1 68)
    (span 64 69))
    (span 64 70)) tree.no_block_items))
    (span 47 71)) ∷ [])
    (refused Mismatch 64)

-- struct S{int a;}s;void f(void){int t[2];s.q=t;}
abbrev pub places_13 : Row
places_13 = row
    ((tree.Declared
    (tree.declaration
    (tree.specifiers
    (tree.Structure (Some (name (codes "S") 7))
    (tree.members
    (tree.member (int 9)
    (tree.declarators (object (name (codes "a") 13)) tree.no_declarators)
    (span 9 15)) tree.no_members)
    (span 0 16)) tree.no_specifiers)
    ((tree.bare (object (name (codes "s") 16))) ∷ [])
    (span 0 18))) ∷
    (tree.Defined (void 18)
    (tree.function 0 (name (codes "f") 23) (tree.Void (span 24 30)) (span 23 30))
    (tree.local
    (tree.declaration (int 31)
    ((tree.bare
    (tree.object 0 (name (codes "t") 35)
    (tree.given_length (digit 2 37) tree.no_lengths)
    (span 35 39))) ∷ [])
    (span 31 40))
    (tree.statement
    (tree.ExpressionStatement
    (tree.Assignment assign.Assign
    (tree.Member (the (codes "s") 40) (name (codes "q") 42) (span 40 43))
    (the (codes "t") 44)
    (span 40 45))
    (span 40 46)) tree.no_block_items))
    (span 18 47)) ∷ [])
    (refused Mismatch 40)

-- struct S{int a;}s;struct S g(int a){return s;}int f(void){return g(x).a;}
abbrev pub places_14 : Row
places_14 = row
    ((tree.Declared
    (tree.declaration
    (tree.specifiers
    (tree.Structure (Some (name (codes "S") 7))
    (tree.members
    (tree.member (int 9)
    (tree.declarators (object (name (codes "a") 13)) tree.no_declarators)
    (span 9 15)) tree.no_members)
    (span 0 16)) tree.no_specifiers)
    ((tree.bare (object (name (codes "s") 16))) ∷ [])
    (span 0 18))) ∷
    (tree.Defined
    (tree.specifiers (tree.StructureTag (name (codes "S") 25) (span 18 26))
    tree.no_specifiers)
    (tree.function 0 (name (codes "g") 27)
    (tree.Listed
    (tree.parameters
    (tree.parameter (int 29) 0 (Some (name (codes "a") 33)) tree.no_lengths
    (span 29 34)) tree.no_parameters)
    (span 28 35))
    (span 27 35))
    (tree.statement (tree.Return (Some (the (codes "s") 43)) (span 36 45))
    tree.no_block_items)
    (span 18 46)) ∷
    (tree.Defined (int 46)
    (tree.function 0 (name (codes "f") 50) (tree.Void (span 51 57)) (span 50 57))
    (tree.statement
    (tree.Return
    (Some
    (tree.Member
    (tree.Call (name (codes "g") 65) (one_expression (the (codes "x") 67))
    (span 65 69))
    (name (codes "a") 70)
    (span 65 71)))
    (span 58 72)) tree.no_block_items)
    (span 46 73)) ∷ [])
    (refused Mismatch 65)

-- struct S{int a;}s;int f(int t[]){return t[s];}
abbrev pub places_15 : Row
places_15 = row
    ((tree.Declared
    (tree.declaration
    (tree.specifiers
    (tree.Structure (Some (name (codes "S") 7))
    (tree.members
    (tree.member (int 9)
    (tree.declarators (object (name (codes "a") 13)) tree.no_declarators)
    (span 9 15)) tree.no_members)
    (span 0 16)) tree.no_specifiers)
    ((tree.bare (object (name (codes "s") 16))) ∷ [])
    (span 0 18))) ∷
    (tree.Defined (int 18)
    (tree.function 0 (name (codes "f") 22)
    (tree.Listed
    (tree.parameters
    (tree.parameter (int 24) 0 (Some (name (codes "t") 28))
    (tree.absent_length tree.no_lengths)
    (span 24 31)) tree.no_parameters)
    (span 23 32))
    (span 22 32))
    (tree.statement
    (tree.Return
    (Some (tree.Index (the (codes "t") 40) (the (codes "s") 42) (span 40 44)))
    (span 33 45)) tree.no_block_items)
    (span 18 46)) ∷ [])
    (refused Mismatch 40)

-- int f(int a){return a[0];}
abbrev pub places_16 : Row
places_16 = row
    ((tree.Defined (int 0)
    (tree.function 0 (name (codes "f") 4)
    (tree.Listed
    (tree.parameters
    (tree.parameter (int 6) 0 (Some (name (codes "a") 10)) tree.no_lengths
    (span 6 11)) tree.no_parameters)
    (span 5 12))
    (span 4 12))
    (tree.statement
    (tree.Return (Some (tree.Index (the (codes "a") 20) (zero_at 22) (span 20 24)))
    (span 13 25)) tree.no_block_items)
    (span 0 26)) ∷ [])
    (refused Mismatch 20)

-- int f(int a){return a.b;}
abbrev pub places_17 : Row
places_17 = row
    ((tree.Defined (int 0)
    (tree.function 0 (name (codes "f") 4)
    (tree.Listed
    (tree.parameters
    (tree.parameter (int 6) 0 (Some (name (codes "a") 10)) tree.no_lengths
    (span 6 11)) tree.no_parameters)
    (span 5 12))
    (span 4 12))
    (tree.statement
    (tree.Return
    (Some (tree.Member (the (codes "a") 20) (name (codes "b") 22) (span 20 23)))
    (span 13 24)) tree.no_block_items)
    (span 0 25)) ∷ [])
    (refused Mismatch 20)

-- const int c=1;void f(void){c=2;}
abbrev pub places_18 : Row
places_18 = row
    ((tree.Declared
    (tree.declaration (tree.specifiers (tree.Word word.Const (span 0 5)) (int 6))
    ((tree.initialized (object (name (codes "c") 10)) (tree.Single (digit 1 12))) ∷ [])
    (span 0 14))) ∷
    (tree.Defined (void 14)
    (tree.function 0 (name (codes "f") 19) (tree.Void (span 20 26)) (span 19 26))
    (tree.statement
    (tree.ExpressionStatement
    (tree.Assignment assign.Assign (the (codes "c") 27) (digit 2 29) (span 27 30))
    (span 27 31)) tree.no_block_items)
    (span 14 32)) ∷ [])
    (refused Mismatch 27)

-- void f(const int t[]){t[0]=2;}
abbrev pub places_19 : Row
places_19 = row
    ((tree.Defined (void 0)
    (tree.function 0 (name (codes "f") 5)
    (tree.Listed
    (tree.parameters
    (tree.parameter (tree.specifiers (tree.Word word.Const (span 7 12)) (int 13)) 0
    (Some (name (codes "t") 17))
    (tree.absent_length tree.no_lengths)
    (span 7 20)) tree.no_parameters)
    (span 6 21))
    (span 5 21))
    (tree.statement
    (tree.ExpressionStatement
    (tree.Assignment assign.Assign
    (tree.Index (the (codes "t") 22) (zero_at 24) (span 22 26))
    (digit 2 27)
    (span 22 28))
    (span 22 29)) tree.no_block_items)
    (span 0 30)) ∷ [])
    (refused Mismatch 22)

-- struct S{int a;}s;struct T{int a;}t;void f(void){s=t;}
abbrev pub places_20 : Row
places_20 = row
    ((tree.Declared
    (tree.declaration
    (tree.specifiers
    (tree.Structure (Some (name (codes "S") 7))
    (tree.members
    (tree.member (int 9)
    (tree.declarators (object (name (codes "a") 13)) tree.no_declarators)
    (span 9 15)) tree.no_members)
    (span 0 16)) tree.no_specifiers)
    ((tree.bare (object (name (codes "s") 16))) ∷ [])
    (span 0 18))) ∷
    (tree.Declared
    (tree.declaration
    (tree.specifiers
    (tree.Structure (Some (name (codes "T") 25))
    (tree.members
    (tree.member (int 27)
    (tree.declarators (object (name (codes "a") 31)) tree.no_declarators)
    (span 27 33)) tree.no_members)
    (span 18 34)) tree.no_specifiers)
    ((tree.bare (object (name (codes "t") 34))) ∷ [])
    (span 18 36))) ∷
    (tree.Defined (void 36)
    (tree.function 0 (name (codes "f") 41) (tree.Void (span 42 48)) (span 41 48))
    (tree.statement
    (tree.ExpressionStatement
    (tree.Assignment assign.Assign (the (codes "s") 49) (the (codes "t") 51)
    (span 49 52))
    (span 49 53)) tree.no_block_items)
    (span 36 54)) ∷ [])
    (refused Mismatch 49)

-- int g(long a[]){return a[0]>1;}int t[2];int f(void){return g(t);}
abbrev pub places_21 : Row
places_21 = row
    ((tree.Defined (int 0)
    (tree.function 0 (name (codes "g") 4)
    (tree.Listed
    (tree.parameters
    (tree.parameter
    (tree.specifiers (tree.Word word.Long (span 6 10)) tree.no_specifiers) 0
    (Some (name (codes "a") 11))
    (tree.absent_length tree.no_lengths)
    (span 6 14)) tree.no_parameters)
    (span 5 15))
    (span 4 15))
    (tree.statement
    (tree.Return
    (Some
    (tree.Binary binary.Greater
    (tree.Index (the (codes "a") 23) (zero_at 25) (span 23 27))
    (digit 1 28)
    (span 23 29)))
    (span 16 30)) tree.no_block_items)
    (span 0 31)) ∷
    (tree.Declared
    (tree.declaration (int 31)
    ((tree.bare
    (tree.object 0 (name (codes "t") 35)
    (tree.given_length (digit 2 37) tree.no_lengths)
    (span 35 39))) ∷ [])
    (span 31 40))) ∷
    (tree.Defined (int 40)
    (tree.function 0 (name (codes "f") 44) (tree.Void (span 45 51)) (span 44 51))
    (tree.statement
    (tree.Return
    (Some
    (tree.Call (name (codes "g") 59) (one_expression (the (codes "t") 61))
    (span 59 63)))
    (span 52 64)) tree.no_block_items)
    (span 40 65)) ∷ [])
    (refused Mismatch 61)

-- int g(int a[][2]){return a[0][1];}int t[2][2];int h(int a[]){return a[1];}int f(void){return
-- g(t)+h(t[1]);}
abbrev pub places_22 : Row
places_22 = row
    ((tree.Defined (int 0)
    (tree.function 0 (name (codes "g") 4)
    (tree.Listed
    (tree.parameters
    (tree.parameter (int 6) 0 (Some (name (codes "a") 10))
    (tree.absent_length (tree.given_length (digit 2 14) tree.no_lengths))
    (span 6 16)) tree.no_parameters)
    (span 5 17))
    (span 4 17))
    (tree.statement
    (tree.Return
    (Some
    (tree.Index (tree.Index (the (codes "a") 25) (zero_at 27) (span 25 29))
    (digit 1 30)
    (span 25 32)))
    (span 18 33)) tree.no_block_items)
    (span 0 34)) ∷
    (tree.Declared
    (tree.declaration (int 34)
    ((tree.bare
    (tree.object 0 (name (codes "t") 38)
    (tree.given_length (digit 2 40)
    (tree.given_length (digit 2 43) tree.no_lengths))
    (span 38 45))) ∷ [])
    (span 34 46))) ∷
    (tree.Defined (int 46)
    (tree.function 0 (name (codes "h") 50)
    (tree.Listed
    (tree.parameters
    (tree.parameter (int 52) 0 (Some (name (codes "a") 56))
    (tree.absent_length tree.no_lengths)
    (span 52 59)) tree.no_parameters)
    (span 51 60))
    (span 50 60))
    (tree.statement
    (tree.Return (Some (tree.Index (the (codes "a") 68) (digit 1 70) (span 68 72)))
    (span 61 73)) tree.no_block_items)
    (span 46 74)) ∷
    (tree.Defined (int 74)
    (tree.function 0 (name (codes "f") 78) (tree.Void (span 79 85)) (span 78 85))
    (tree.statement
    (tree.Return
    (Some
    (tree.Binary binary.Add
    (tree.Call (name (codes "g") 93) (one_expression (the (codes "t") 95))
    (span 93 97))
    (tree.Call (name (codes "h") 98)
    (one_expression
    (tree.Index (the (codes "t") 100) (digit 1 102) (span 100 104)))
    (span 98 105))
    (span 93 105)))
    (span 86 106)) tree.no_block_items)
    (span 74 107)) ∷ [])
    accepted

abbrev pub all : List Row
all =
    places_1 ∷ places_2 ∷ places_3 ∷ places_4 ∷ places_5 ∷ places_6 ∷ places_7 ∷ places_8 ∷
    places_9 ∷ places_10 ∷ places_11 ∷ places_12 ∷ places_13 ∷ places_14 ∷ places_15 ∷ places_16 ∷
    places_17 ∷ places_18 ∷ places_19 ∷ places_20 ∷ places_21 ∷ places_22 ∷ []
