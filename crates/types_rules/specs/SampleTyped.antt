-- Texts whose typed programs are known.
use Rattle.std.specs.Prelude.{true, false, List, [], ◌∷◌, codes, Some, None}
use Rattle.mc_tree.specs.declared.expressions.unary_operator.UnaryOperator.TheVariants as unary
use Rattle.mc_tree.specs.declared.expressions.step_operator.StepOperator.TheVariants as step
use Rattle.mc_tree.specs.declared.expressions.binary_operator.BinaryOperator.TheVariants as binary
use Rattle.mc_tree.specs.declared.expressions.assignment_operator.AssignmentOperator.TheVariants as assign
use Rattle.mc_tree.specs.declared.declarations.specifier_word.SpecifierWord.TheVariants as word
use Rattle.mc_tree.specs.Tree.{Item}
use Rattle.mc_tree.specs.Tree as tree
use Rattle.types_rules.specs.Sampled.{name, span, int, the, digit, zero_at, object, one_expression}

-- int f(int n){return n?f(n-1):0;}
abbrev pub recursion : List Item
recursion =
    ((tree.Defined (int 0)
    (tree.function 0 (name (codes "f") 4)
    (tree.Listed
    (tree.parameters
    (tree.parameter (int 6) 0 (Some (name (codes "n") 10)) tree.no_lengths
    (span 6 11)) tree.no_parameters)
    (span 5 12))
    (span 4 12))
    (tree.statement
    (tree.Return
    (Some
    (tree.Conditional (the (codes "n") 20)
    (tree.Call (name (codes "f") 22)
    (one_expression
    (tree.Binary binary.Subtract (the (codes "n") 24) (digit 1 26)
    (span 24 27)))
    (span 22 28))
    (zero_at 29)
    (span 20 30)))
    (span 13 31)) tree.no_block_items)
    (span 0 32)) ∷ [])

-- int f(int n){int t[30000];t[0]=n;return n?f(n-1):0;}
abbrev pub array : List Item
array =
    ((tree.Defined (int 0)
    (tree.function 0 (name (codes "f") 4)
    (tree.Listed
    (tree.parameters
    (tree.parameter (int 6) 0 (Some (name (codes "n") 10)) tree.no_lengths
    (span 6 11)) tree.no_parameters)
    (span 5 12))
    (span 4 12))
    (tree.local
    (tree.declaration (int 13)
    ((tree.bare
    (tree.object 0 (name (codes "t") 17)
    (tree.given_length (tree.Constant 30000 true false 0 (span 19 24))
    tree.no_lengths)
    (span 17 25))) ∷ [])
    (span 13 26))
    (tree.statement
    (tree.ExpressionStatement
    (tree.Assignment assign.Assign
    (tree.Index (the (codes "t") 26) (zero_at 28) (span 26 30))
    (the (codes "n") 31)
    (span 26 32))
    (span 26 33))
    (tree.statement
    (tree.Return
    (Some
    (tree.Conditional (the (codes "n") 40)
    (tree.Call (name (codes "f") 42)
    (one_expression
    (tree.Binary binary.Subtract (the (codes "n") 44) (digit 1 46)
    (span 44 47)))
    (span 42 48))
    (zero_at 49)
    (span 40 50)))
    (span 33 51)) tree.no_block_items)))
    (span 0 52)) ∷ [])

-- struct S{int a;};static struct S s;int g(void){s.a=9;return 1;}int h(struct S p,int q){return
-- p.a+q;}int f(void){s.a=2;return h(s,g());}
abbrev pub structures : List Item
structures =
    ((tree.Declared
    (tree.declaration
    (tree.specifiers
    (tree.Structure (Some (name (codes "S") 7))
    (tree.members
    (tree.member (int 9)
    (tree.declarators (object (name (codes "a") 13)) tree.no_declarators)
    (span 9 15)) tree.no_members)
    (span 0 16)) tree.no_specifiers) []
    (span 0 17))) ∷
    (tree.Declared
    (tree.declaration
    (tree.specifiers (tree.Word word.Static (span 17 23))
    (tree.specifiers (tree.StructureTag (name (codes "S") 31) (span 24 32))
    tree.no_specifiers))
    ((tree.bare (object (name (codes "s") 33))) ∷ [])
    (span 17 35))) ∷
    (tree.Defined (int 35)
    (tree.function 0 (name (codes "g") 39) (tree.Void (span 40 46)) (span 39 46))
    (tree.statement
    (tree.ExpressionStatement
    (tree.Assignment assign.Assign
    (tree.Member (the (codes "s") 47) (name (codes "a") 49) (span 47 50))
    (digit 9 51)
    (span 47 52))
    (span 47 53))
    (tree.statement (tree.Return (Some (digit 1 60)) (span 53 62)) tree.no_block_items))
    (span 35 63)) ∷
    (tree.Defined (int 63)
    (tree.function 0 (name (codes "h") 67)
    (tree.Listed
    (tree.parameters
    (tree.parameter
    (tree.specifiers (tree.StructureTag (name (codes "S") 76) (span 69 77))
    tree.no_specifiers) 0
    (Some (name (codes "p") 78)) tree.no_lengths
    (span 69 79))
    (tree.parameters
    (tree.parameter (int 80) 0 (Some (name (codes "q") 84)) tree.no_lengths
    (span 80 85)) tree.no_parameters))
    (span 68 86))
    (span 67 86))
    (tree.statement
    (tree.Return
    (Some
    (tree.Binary binary.Add
    (tree.Member (the (codes "p") 94) (name (codes "a") 96) (span 94 97))
    (the (codes "q") 98)
    (span 94 99)))
    (span 87 100)) tree.no_block_items)
    (span 63 101)) ∷
    (tree.Defined (int 101)
    (tree.function 0 (name (codes "f") 105) (tree.Void (span 106 112)) (span 105 112))
    (tree.statement
    (tree.ExpressionStatement
    (tree.Assignment assign.Assign
    (tree.Member (the (codes "s") 113) (name (codes "a") 115) (span 113 116))
    (digit 2 117)
    (span 113 118))
    (span 113 119))
    (tree.statement
    (tree.Return
    (Some
    (tree.Call (name (codes "h") 126)
    (tree.expressions (the (codes "s") 128)
    (one_expression
    (tree.Call (name (codes "g") 130) tree.no_expressions
    (span 130 133))))
    (span 126 134)))
    (span 119 135)) tree.no_block_items))
    (span 101 136)) ∷ [])

-- int f(int n){int x=n+1;switch(n){case 1:for(;x<9;x++);default:return (long)x;}}
abbrev pub constructs : List Item
constructs =
    ((tree.Defined (int 0)
    (tree.function 0 (name (codes "f") 4)
    (tree.Listed
    (tree.parameters
    (tree.parameter (int 6) 0 (Some (name (codes "n") 10)) tree.no_lengths
    (span 6 11)) tree.no_parameters)
    (span 5 12))
    (span 4 12))
    (tree.local
    (tree.declaration (int 13)
    ((tree.initialized (object (name (codes "x") 17))
    (tree.Single
    (tree.Binary binary.Add (the (codes "n") 19) (digit 1 21) (span 19 22)))) ∷
    [])
    (span 13 23))
    (tree.statement
    (tree.Switch (the (codes "n") 30)
    (tree.Compound
    (tree.statement
    (tree.Case (digit 1 38) (span 33 40)
    (tree.For (tree.StartsExpression None)
    (Some
    (tree.Binary binary.Less (the (codes "x") 45) (digit 9 47)
    (span 45 48)))
    (Some
    (tree.PostfixStep step.Increment (the (codes "x") 49)
    (span 49 52)))
    (tree.Null (span 53 54))
    (span 40 54))
    (span 33 54))
    (tree.statement
    (tree.Default (span 54 62)
    (tree.Return
    (Some
    (tree.Cast
    (tree.type_name
    (tree.specifiers (tree.Word word.Long (span 70 74))
    tree.no_specifiers) 0
    (span 70 74))
    (the (codes "x") 75)
    (span 69 76)))
    (span 62 77))
    (span 54 77)) tree.no_block_items))
    (span 32 78))
    (span 23 78)) tree.no_block_items))
    (span 0 79)) ∷ [])

-- struct S{int a;long b[2];};static struct S s={1,{2}};struct S g(struct S p,int q){p.a=q;return
-- p;}int h(const int t[],struct S p){return t[p.a];}int f(int n){int t[3]={1,2};struct S
-- u=g(s,n);for(struct S v=g(g(u,1),2);v.a<n;v.a++)u=g(v,h(t,g(v,1)));return n?h(t,s):u.b[1];}
abbrev pub temporaries : List Item
temporaries =
    ((tree.Declared
    (tree.declaration
    (tree.specifiers
    (tree.Structure (Some (name (codes "S") 7))
    (tree.members
    (tree.member (int 9)
    (tree.declarators (object (name (codes "a") 13)) tree.no_declarators)
    (span 9 15))
    (tree.members
    (tree.member
    (tree.specifiers (tree.Word word.Long (span 15 19)) tree.no_specifiers)
    (tree.declarators
    (tree.object 0 (name (codes "b") 20)
    (tree.given_length (digit 2 22) tree.no_lengths)
    (span 20 24)) tree.no_declarators)
    (span 15 25)) tree.no_members))
    (span 0 26)) tree.no_specifiers) []
    (span 0 27))) ∷
    (tree.Declared
    (tree.declaration
    (tree.specifiers (tree.Word word.Static (span 27 33))
    (tree.specifiers (tree.StructureTag (name (codes "S") 41) (span 34 42))
    tree.no_specifiers))
    ((tree.initialized (object (name (codes "s") 43))
    (tree.Braced
    (tree.initializers (tree.Single (digit 1 46))
    (tree.initializers
    (tree.Braced
    (tree.initializers (tree.Single (digit 2 49)) tree.no_initializers)
    (span 48 51)) tree.no_initializers))
    (span 45 52))) ∷ [])
    (span 27 53))) ∷
    (tree.Defined
    (tree.specifiers (tree.StructureTag (name (codes "S") 60) (span 53 61))
    tree.no_specifiers)
    (tree.function 0 (name (codes "g") 62)
    (tree.Listed
    (tree.parameters
    (tree.parameter
    (tree.specifiers (tree.StructureTag (name (codes "S") 71) (span 64 72))
    tree.no_specifiers) 0
    (Some (name (codes "p") 73)) tree.no_lengths
    (span 64 74))
    (tree.parameters
    (tree.parameter (int 75) 0 (Some (name (codes "q") 79)) tree.no_lengths
    (span 75 80)) tree.no_parameters))
    (span 63 81))
    (span 62 81))
    (tree.statement
    (tree.ExpressionStatement
    (tree.Assignment assign.Assign
    (tree.Member (the (codes "p") 82) (name (codes "a") 84) (span 82 85))
    (the (codes "q") 86)
    (span 82 87))
    (span 82 88))
    (tree.statement (tree.Return (Some (the (codes "p") 95)) (span 88 97))
    tree.no_block_items))
    (span 53 98)) ∷
    (tree.Defined (int 98)
    (tree.function 0 (name (codes "h") 102)
    (tree.Listed
    (tree.parameters
    (tree.parameter
    (tree.specifiers (tree.Word word.Const (span 104 109)) (int 110)) 0
    (Some (name (codes "t") 114))
    (tree.absent_length tree.no_lengths)
    (span 104 117))
    (tree.parameters
    (tree.parameter
    (tree.specifiers
    (tree.StructureTag (name (codes "S") 125) (span 118 126))
    tree.no_specifiers) 0
    (Some (name (codes "p") 127)) tree.no_lengths
    (span 118 128)) tree.no_parameters))
    (span 103 129))
    (span 102 129))
    (tree.statement
    (tree.Return
    (Some
    (tree.Index (the (codes "t") 137)
    (tree.Member (the (codes "p") 139) (name (codes "a") 141) (span 139 142))
    (span 137 143)))
    (span 130 144)) tree.no_block_items)
    (span 98 145)) ∷
    (tree.Defined (int 145)
    (tree.function 0 (name (codes "f") 149)
    (tree.Listed
    (tree.parameters
    (tree.parameter (int 151) 0 (Some (name (codes "n") 155)) tree.no_lengths
    (span 151 156)) tree.no_parameters)
    (span 150 157))
    (span 149 157))
    (tree.local
    (tree.declaration (int 158)
    ((tree.initialized
    (tree.object 0 (name (codes "t") 162)
    (tree.given_length (digit 3 164) tree.no_lengths)
    (span 162 166))
    (tree.Braced
    (tree.initializers (tree.Single (digit 1 168))
    (tree.initializers (tree.Single (digit 2 170)) tree.no_initializers))
    (span 167 172))) ∷ [])
    (span 158 173))
    (tree.local
    (tree.declaration
    (tree.specifiers (tree.StructureTag (name (codes "S") 180) (span 173 181))
    tree.no_specifiers)
    ((tree.initialized (object (name (codes "u") 182))
    (tree.Single
    (tree.Call (name (codes "g") 184)
    (tree.expressions (the (codes "s") 186)
    (one_expression (the (codes "n") 188)))
    (span 184 190)))) ∷ [])
    (span 173 191))
    (tree.statement
    (tree.For
    (tree.StartsLocal
    (tree.declaration
    (tree.specifiers
    (tree.StructureTag (name (codes "S") 202) (span 195 203))
    tree.no_specifiers)
    ((tree.initialized (object (name (codes "v") 204))
    (tree.Single
    (tree.Call (name (codes "g") 206)
    (tree.expressions
    (tree.Call (name (codes "g") 208)
    (tree.expressions (the (codes "u") 210)
    (one_expression (digit 1 212)))
    (span 208 214))
    (one_expression (digit 2 215)))
    (span 206 217)))) ∷ [])
    (span 195 218)))
    (Some
    (tree.Binary binary.Less
    (tree.Member (the (codes "v") 218) (name (codes "a") 220)
    (span 218 221))
    (the (codes "n") 222)
    (span 218 223)))
    (Some
    (tree.PostfixStep step.Increment
    (tree.Member (the (codes "v") 224) (name (codes "a") 226)
    (span 224 227))
    (span 224 229)))
    (tree.ExpressionStatement
    (tree.Assignment assign.Assign (the (codes "u") 230)
    (tree.Call (name (codes "g") 232)
    (tree.expressions (the (codes "v") 234)
    (one_expression
    (tree.Call (name (codes "h") 236)
    (tree.expressions (the (codes "t") 238)
    (one_expression
    (tree.Call (name (codes "g") 240)
    (tree.expressions (the (codes "v") 242)
    (one_expression (digit 1 244)))
    (span 240 246))))
    (span 236 247))))
    (span 232 248))
    (span 230 248))
    (span 230 249))
    (span 191 249))
    (tree.statement
    (tree.Return
    (Some
    (tree.Conditional (the (codes "n") 256)
    (tree.Call (name (codes "h") 258)
    (tree.expressions (the (codes "t") 260)
    (one_expression (the (codes "s") 262)))
    (span 258 264))
    (tree.Index
    (tree.Member (the (codes "u") 265) (name (codes "b") 267)
    (span 265 268))
    (digit 1 269)
    (span 265 271))
    (span 256 271)))
    (span 249 272)) tree.no_block_items))))
    (span 145 273)) ∷ [])

-- struct S{int a;long b;};static struct S s={1};struct S g(struct S p){return p;}int h(struct S
-- p){return p.a;}int f(int n){do n+=h(s);while(n<h(g(s)));return n;}
abbrev pub loop : List Item
loop =
    ((tree.Declared
    (tree.declaration
    (tree.specifiers
    (tree.Structure (Some (name (codes "S") 7))
    (tree.members
    (tree.member (int 9)
    (tree.declarators (object (name (codes "a") 13)) tree.no_declarators)
    (span 9 15))
    (tree.members
    (tree.member
    (tree.specifiers (tree.Word word.Long (span 15 19)) tree.no_specifiers)
    (tree.declarators (object (name (codes "b") 20)) tree.no_declarators)
    (span 15 22)) tree.no_members))
    (span 0 23)) tree.no_specifiers) []
    (span 0 24))) ∷
    (tree.Declared
    (tree.declaration
    (tree.specifiers (tree.Word word.Static (span 24 30))
    (tree.specifiers (tree.StructureTag (name (codes "S") 38) (span 31 39))
    tree.no_specifiers))
    ((tree.initialized (object (name (codes "s") 40))
    (tree.Braced
    (tree.initializers (tree.Single (digit 1 43)) tree.no_initializers)
    (span 42 45))) ∷ [])
    (span 24 46))) ∷
    (tree.Defined
    (tree.specifiers (tree.StructureTag (name (codes "S") 53) (span 46 54))
    tree.no_specifiers)
    (tree.function 0 (name (codes "g") 55)
    (tree.Listed
    (tree.parameters
    (tree.parameter
    (tree.specifiers (tree.StructureTag (name (codes "S") 64) (span 57 65))
    tree.no_specifiers) 0
    (Some (name (codes "p") 66)) tree.no_lengths
    (span 57 67)) tree.no_parameters)
    (span 56 68))
    (span 55 68))
    (tree.statement (tree.Return (Some (the (codes "p") 76)) (span 69 78))
    tree.no_block_items)
    (span 46 79)) ∷
    (tree.Defined (int 79)
    (tree.function 0 (name (codes "h") 83)
    (tree.Listed
    (tree.parameters
    (tree.parameter
    (tree.specifiers (tree.StructureTag (name (codes "S") 92) (span 85 93))
    tree.no_specifiers) 0
    (Some (name (codes "p") 94)) tree.no_lengths
    (span 85 95)) tree.no_parameters)
    (span 84 96))
    (span 83 96))
    (tree.statement
    (tree.Return
    (Some (tree.Member (the (codes "p") 104) (name (codes "a") 106) (span 104 107)))
    (span 97 108)) tree.no_block_items)
    (span 79 109)) ∷
    (tree.Defined (int 109)
    (tree.function 0 (name (codes "f") 113)
    (tree.Listed
    (tree.parameters
    (tree.parameter (int 115) 0 (Some (name (codes "n") 119)) tree.no_lengths
    (span 115 120)) tree.no_parameters)
    (span 114 121))
    (span 113 121))
    (tree.statement
    (tree.DoWhile
    (tree.ExpressionStatement
    (tree.Assignment assign.Add (the (codes "n") 125)
    (tree.Call (name (codes "h") 128) (one_expression (the (codes "s") 130))
    (span 128 132))
    (span 125 132))
    (span 125 133))
    (tree.Binary binary.Less (the (codes "n") 139)
    (tree.Call (name (codes "h") 141)
    (one_expression
    (tree.Call (name (codes "g") 143) (one_expression (the (codes "s") 145))
    (span 143 147)))
    (span 141 148))
    (span 139 148))
    (span 122 150))
    (tree.statement (tree.Return (Some (the (codes "n") 157)) (span 150 159))
    tree.no_block_items))
    (span 109 160)) ∷ [])

-- _Bool b;unsigned char c;long f(short a,unsigned u){b=a<u;c+=a;c<<=u;if(!a||u&&c)return -a;return
-- (a<<1)+u-~c*(b?1l:2u);}
abbrev pub arithmetic : List Item
arithmetic =
    ((tree.Declared
    (tree.declaration (tree.specifiers (tree.Word word.Bool (span 0 5)) tree.no_specifiers)
    ((tree.bare (object (name (codes "b") 6))) ∷ [])
    (span 0 8))) ∷
    (tree.Declared
    (tree.declaration
    (tree.specifiers (tree.Word word.Unsigned (span 8 16))
    (tree.specifiers (tree.Word word.Char (span 17 21)) tree.no_specifiers))
    ((tree.bare (object (name (codes "c") 22))) ∷ [])
    (span 8 24))) ∷
    (tree.Defined (tree.specifiers (tree.Word word.Long (span 24 28)) tree.no_specifiers)
    (tree.function 0 (name (codes "f") 29)
    (tree.Listed
    (tree.parameters
    (tree.parameter
    (tree.specifiers (tree.Word word.Short (span 31 36)) tree.no_specifiers) 0
    (Some (name (codes "a") 37)) tree.no_lengths
    (span 31 38))
    (tree.parameters
    (tree.parameter
    (tree.specifiers (tree.Word word.Unsigned (span 39 47))
    tree.no_specifiers) 0
    (Some (name (codes "u") 48)) tree.no_lengths
    (span 39 49)) tree.no_parameters))
    (span 30 50))
    (span 29 50))
    (tree.statement
    (tree.ExpressionStatement
    (tree.Assignment assign.Assign (the (codes "b") 51)
    (tree.Binary binary.Less (the (codes "a") 53) (the (codes "u") 55)
    (span 53 56))
    (span 51 56))
    (span 51 57))
    (tree.statement
    (tree.ExpressionStatement
    (tree.Assignment assign.Add (the (codes "c") 57) (the (codes "a") 60)
    (span 57 61))
    (span 57 62))
    (tree.statement
    (tree.ExpressionStatement
    (tree.Assignment assign.ShiftLeft (the (codes "c") 62) (the (codes "u") 66)
    (span 62 67))
    (span 62 68))
    (tree.statement
    (tree.If
    (tree.Binary binary.Or
    (tree.Unary unary.Not (the (codes "a") 72) (span 71 73))
    (tree.Binary binary.And (the (codes "u") 75) (the (codes "c") 78)
    (span 75 79))
    (span 71 79))
    (tree.Return
    (Some (tree.Unary unary.Minus (the (codes "a") 88) (span 87 89)))
    (span 80 90))
    (span 68 90))
    (tree.statement
    (tree.Return
    (Some
    (tree.Binary binary.Subtract
    (tree.Binary binary.Add
    (tree.Parenthesized
    (tree.Binary binary.ShiftLeft (the (codes "a") 98)
    (digit 1 101)
    (span 98 102))
    (span 97 103))
    (the (codes "u") 104)
    (span 97 105))
    (tree.Binary binary.Multiply
    (tree.Unary unary.Complement (the (codes "c") 107)
    (span 106 108))
    (tree.Parenthesized
    (tree.Conditional (the (codes "b") 110)
    (tree.Constant 1 true false 1 (span 112 114))
    (tree.Constant 2 true true 0 (span 115 117))
    (span 110 117))
    (span 109 118))
    (span 106 118))
    (span 97 118)))
    (span 90 119)) tree.no_block_items)))))
    (span 24 120)) ∷ [])

-- static int x[2][3]={{1},{0}};enum E{A=5,B};struct S{char c;_Bool b;int
-- t[2];}s={257,3,{B}};static int y=(A+1)*2;int f(void){static int z=3;struct S w={1},v={0};return
-- z+w.t[0]+v.c;}
abbrev pub statics : List Item
statics =
    ((tree.Declared
    (tree.declaration (tree.specifiers (tree.Word word.Static (span 0 6)) (int 7))
    ((tree.initialized
    (tree.object 0 (name (codes "x") 11)
    (tree.given_length (digit 2 13)
    (tree.given_length (digit 3 16) tree.no_lengths))
    (span 11 18))
    (tree.Braced
    (tree.initializers
    (tree.Braced
    (tree.initializers (tree.Single (digit 1 21)) tree.no_initializers)
    (span 20 23))
    (tree.initializers
    (tree.Braced
    (tree.initializers (tree.Single (zero_at 25)) tree.no_initializers)
    (span 24 27)) tree.no_initializers))
    (span 19 28))) ∷ [])
    (span 0 29))) ∷
    (tree.Declared
    (tree.declaration
    (tree.specifiers
    (tree.Enumeration (Some (name (codes "E") 34))
    (tree.enumerators (tree.valued_enumerator (name (codes "A") 36) (digit 5 38))
    (tree.enumerators (tree.enumerator (name (codes "B") 40))
    tree.no_enumerators))
    (span 29 42)) tree.no_specifiers) []
    (span 29 43))) ∷
    (tree.Declared
    (tree.declaration
    (tree.specifiers
    (tree.Structure (Some (name (codes "S") 50))
    (tree.members
    (tree.member
    (tree.specifiers (tree.Word word.Char (span 52 56)) tree.no_specifiers)
    (tree.declarators (object (name (codes "c") 57)) tree.no_declarators)
    (span 52 59))
    (tree.members
    (tree.member
    (tree.specifiers (tree.Word word.Bool (span 59 64)) tree.no_specifiers)
    (tree.declarators (object (name (codes "b") 65)) tree.no_declarators)
    (span 59 67))
    (tree.members
    (tree.member (int 67)
    (tree.declarators
    (tree.object 0 (name (codes "t") 71)
    (tree.given_length (digit 2 73) tree.no_lengths)
    (span 71 75)) tree.no_declarators)
    (span 67 76)) tree.no_members)))
    (span 43 77)) tree.no_specifiers)
    ((tree.initialized (object (name (codes "s") 77))
    (tree.Braced
    (tree.initializers
    (tree.Single (tree.Constant 257 true false 0 (span 80 83)))
    (tree.initializers (tree.Single (digit 3 84))
    (tree.initializers
    (tree.Braced
    (tree.initializers (tree.Single (the (codes "B") 87))
    tree.no_initializers)
    (span 86 89)) tree.no_initializers)))
    (span 79 90))) ∷ [])
    (span 43 91))) ∷
    (tree.Declared
    (tree.declaration (tree.specifiers (tree.Word word.Static (span 91 97)) (int 98))
    ((tree.initialized (object (name (codes "y") 102))
    (tree.Single
    (tree.Binary binary.Multiply
    (tree.Parenthesized
    (tree.Binary binary.Add (the (codes "A") 105) (digit 1 107)
    (span 105 108))
    (span 104 109))
    (digit 2 110)
    (span 104 111)))) ∷ [])
    (span 91 112))) ∷
    (tree.Defined (int 112)
    (tree.function 0 (name (codes "f") 116) (tree.Void (span 117 123)) (span 116 123))
    (tree.local
    (tree.declaration (tree.specifiers (tree.Word word.Static (span 124 130)) (int 131))
    ((tree.initialized (object (name (codes "z") 135)) (tree.Single (digit 3 137))) ∷
    [])
    (span 124 139))
    (tree.local
    (tree.declaration
    (tree.specifiers (tree.StructureTag (name (codes "S") 146) (span 139 147))
    tree.no_specifiers)
    ((tree.initialized (object (name (codes "w") 148))
    (tree.Braced
    (tree.initializers (tree.Single (digit 1 151)) tree.no_initializers)
    (span 150 153))) ∷
    (tree.initialized (object (name (codes "v") 154))
    (tree.Braced
    (tree.initializers (tree.Single (zero_at 157)) tree.no_initializers)
    (span 156 159))) ∷ [])
    (span 139 160))
    (tree.statement
    (tree.Return
    (Some
    (tree.Binary binary.Add
    (tree.Binary binary.Add (the (codes "z") 167)
    (tree.Index
    (tree.Member (the (codes "w") 169) (name (codes "t") 171)
    (span 169 172))
    (zero_at 173)
    (span 169 175))
    (span 167 175))
    (tree.Member (the (codes "v") 176) (name (codes "c") 178)
    (span 176 179))
    (span 167 179)))
    (span 160 180)) tree.no_block_items)))
    (span 112 181)) ∷ [])
