-- Short texts on statements.
use Rattle.std.specs.Prelude.{true, false, List, [], ◌∷◌, codes, Some, None}
use Rattle.mc_tree.specs.declared.expressions.step_operator.StepOperator.TheVariants as step
use Rattle.mc_tree.specs.declared.expressions.binary_operator.BinaryOperator.TheVariants as binary
use Rattle.mc_tree.specs.declared.expressions.assignment_operator.AssignmentOperator.TheVariants as assign
use Rattle.mc_tree.specs.declared.declarations.specifier_word.SpecifierWord.TheVariants as word
use Rattle.mc_tree.specs.Tree as tree
use Rattle.types_faults.specs.declared.fault.FaultKind.TheVariants.{Undeclared, Mismatch, NotConstant, DuplicateLabel}
use Rattle.types_rules.specs.Sampled.{Row, row, accepted, refused, name, span, int, void, the, digit, zero_at, object, one_expression}

-- void f(int a){switch(a){case 1:break;case 1:break;}}
abbrev pub bodies_1 : Row
bodies_1 = row
    ((tree.Defined (void 0)
    (tree.function 0 (name (codes "f") 5)
    (tree.Listed
    (tree.parameters
    (tree.parameter (int 7) 0 (Some (name (codes "a") 11)) tree.no_lengths
    (span 7 12)) tree.no_parameters)
    (span 6 13))
    (span 5 13))
    (tree.statement
    (tree.Switch (the (codes "a") 21)
    (tree.Compound
    (tree.statement
    (tree.Case (digit 1 29) (span 24 31) (tree.Break (span 31 37)) (span 24 37))
    (tree.statement
    (tree.Case (digit 1 42) (span 37 44) (tree.Break (span 44 50))
    (span 37 50)) tree.no_block_items))
    (span 23 51))
    (span 14 51)) tree.no_block_items)
    (span 0 52)) ∷ [])
    (refused DuplicateLabel 37)

-- void f(char a){switch(a){case 1:;case 4294967297:;}}
abbrev pub bodies_2 : Row
bodies_2 = row
    ((tree.Defined (void 0)
    (tree.function 0 (name (codes "f") 5)
    (tree.Listed
    (tree.parameters
    (tree.parameter
    (tree.specifiers (tree.Word word.Char (span 7 11)) tree.no_specifiers) 0
    (Some (name (codes "a") 12)) tree.no_lengths
    (span 7 13)) tree.no_parameters)
    (span 6 14))
    (span 5 14))
    (tree.statement
    (tree.Switch (the (codes "a") 22)
    (tree.Compound
    (tree.statement
    (tree.Case (digit 1 30) (span 25 32) (tree.Null (span 32 33)) (span 25 33))
    (tree.statement
    (tree.Case (tree.Constant 4294967297 true false 0 (span 38 48))
    (span 33 49)
    (tree.Null (span 49 50))
    (span 33 50)) tree.no_block_items))
    (span 24 51))
    (span 15 51)) tree.no_block_items)
    (span 0 52)) ∷ [])
    (refused DuplicateLabel 33)

-- void f(long a){switch(a){case 1:;case 4294967297:;}}
abbrev pub bodies_3 : Row
bodies_3 = row
    ((tree.Defined (void 0)
    (tree.function 0 (name (codes "f") 5)
    (tree.Listed
    (tree.parameters
    (tree.parameter
    (tree.specifiers (tree.Word word.Long (span 7 11)) tree.no_specifiers) 0
    (Some (name (codes "a") 12)) tree.no_lengths
    (span 7 13)) tree.no_parameters)
    (span 6 14))
    (span 5 14))
    (tree.statement
    (tree.Switch (the (codes "a") 22)
    (tree.Compound
    (tree.statement
    (tree.Case (digit 1 30) (span 25 32) (tree.Null (span 32 33)) (span 25 33))
    (tree.statement
    (tree.Case (tree.Constant 4294967297 true false 0 (span 38 48))
    (span 33 49)
    (tree.Null (span 49 50))
    (span 33 50)) tree.no_block_items))
    (span 24 51))
    (span 15 51)) tree.no_block_items)
    (span 0 52)) ∷ [])
    accepted

-- void f(int a){switch(a){default:;default:;}}
abbrev pub bodies_4 : Row
bodies_4 = row
    ((tree.Defined (void 0)
    (tree.function 0 (name (codes "f") 5)
    (tree.Listed
    (tree.parameters
    (tree.parameter (int 7) 0 (Some (name (codes "a") 11)) tree.no_lengths
    (span 7 12)) tree.no_parameters)
    (span 6 13))
    (span 5 13))
    (tree.statement
    (tree.Switch (the (codes "a") 21)
    (tree.Compound
    (tree.statement
    (tree.Default (span 24 32) (tree.Null (span 32 33)) (span 24 33))
    (tree.statement
    (tree.Default (span 33 41) (tree.Null (span 41 42)) (span 33 42))
    tree.no_block_items))
    (span 23 43))
    (span 14 43)) tree.no_block_items)
    (span 0 44)) ∷ [])
    (refused DuplicateLabel 33)

-- void f(int a){switch(a){case (a):;}}
abbrev pub bodies_5 : Row
bodies_5 = row
    ((tree.Defined (void 0)
    (tree.function 0 (name (codes "f") 5)
    (tree.Listed
    (tree.parameters
    (tree.parameter (int 7) 0 (Some (name (codes "a") 11)) tree.no_lengths
    (span 7 12)) tree.no_parameters)
    (span 6 13))
    (span 5 13))
    (tree.statement
    (tree.Switch (the (codes "a") 21)
    (tree.Compound
    (tree.statement
    (tree.Case (tree.Parenthesized (the (codes "a") 30) (span 29 32))
    (span 24 33)
    (tree.Null (span 33 34))
    (span 24 34)) tree.no_block_items)
    (span 23 35))
    (span 14 35)) tree.no_block_items)
    (span 0 36)) ∷ [])
    (refused NotConstant 29)

-- void f(int a){switch(a){case 1:switch(a){case 1:;}default:;}}
abbrev pub bodies_6 : Row
bodies_6 = row
    ((tree.Defined (void 0)
    (tree.function 0 (name (codes "f") 5)
    (tree.Listed
    (tree.parameters
    (tree.parameter (int 7) 0 (Some (name (codes "a") 11)) tree.no_lengths
    (span 7 12)) tree.no_parameters)
    (span 6 13))
    (span 5 13))
    (tree.statement
    (tree.Switch (the (codes "a") 21)
    (tree.Compound
    (tree.statement
    (tree.Case (digit 1 29) (span 24 31)
    (tree.Switch (the (codes "a") 38)
    (tree.Compound
    (tree.statement
    (tree.Case (digit 1 46) (span 41 48) (tree.Null (span 48 49))
    (span 41 49)) tree.no_block_items)
    (span 40 50))
    (span 31 50))
    (span 24 50))
    (tree.statement
    (tree.Default (span 50 58) (tree.Null (span 58 59)) (span 50 59))
    tree.no_block_items))
    (span 23 60))
    (span 14 60)) tree.no_block_items)
    (span 0 61)) ∷ [])
    accepted

-- struct S{int a;}s;void f(void){switch(s){case 1:;}}
abbrev pub bodies_7 : Row
bodies_7 = row
    ((tree.Declared
    (tree.declaration
    (tree.specifiers
    (tree.Structure (Some (name (codes "S") 7))
    (tree.members
    (tree.member (int 9)
    (tree.declarators (object (name (codes "a") 13)) tree.no_declarators)
    (span 9 15)) tree.no_members)
    (span 0 16)) tree.no_specifiers)
    ((tree.bare (object (name (codes "s") 16))) ∷ [])
    (span 0 18))) ∷
    (tree.Defined (void 18)
    (tree.function 0 (name (codes "f") 23) (tree.Void (span 24 30)) (span 23 30))
    (tree.statement
    (tree.Switch (the (codes "s") 38)
    (tree.Compound
    (tree.statement
    (tree.Case (digit 1 46) (span 41 48) (tree.Null (span 48 49)) (span 41 49))
    tree.no_block_items)
    (span 40 50))
    (span 31 50)) tree.no_block_items)
    (span 18 51)) ∷ [])
    (refused Mismatch 31)

-- struct S{int a;}s;void f(void){if(s);}
abbrev pub bodies_8 : Row
bodies_8 = row
    ((tree.Declared
    (tree.declaration
    (tree.specifiers
    (tree.Structure (Some (name (codes "S") 7))
    (tree.members
    (tree.member (int 9)
    (tree.declarators (object (name (codes "a") 13)) tree.no_declarators)
    (span 9 15)) tree.no_members)
    (span 0 16)) tree.no_specifiers)
    ((tree.bare (object (name (codes "s") 16))) ∷ [])
    (span 0 18))) ∷
    (tree.Defined (void 18)
    (tree.function 0 (name (codes "f") 23) (tree.Void (span 24 30)) (span 23 30))
    (tree.statement (tree.If (the (codes "s") 34) (tree.Null (span 36 37)) (span 31 37))
    tree.no_block_items)
    (span 18 38)) ∷ [])
    (refused Mismatch 31)

-- void f(void){for(struct U i;i;);}
abbrev pub bodies_9 : Row
bodies_9 = row
    ((tree.Defined (void 0)
    (tree.function 0 (name (codes "f") 5) (tree.Void (span 6 12)) (span 5 12))
    (tree.statement
    (tree.For
    (tree.StartsLocal
    (tree.declaration
    (tree.specifiers (tree.StructureTag (name (codes "U") 24) (span 17 25))
    tree.no_specifiers)
    ((tree.bare (object (name (codes "i") 26))) ∷ [])
    (span 17 28)))
    (Some (the (codes "i") 28)) None
    (tree.Null (span 31 32))
    (span 13 32)) tree.no_block_items)
    (span 0 33)) ∷ [])
    (refused Undeclared 24)

-- void f(void){while(f());}
abbrev pub bodies_10 : Row
bodies_10 = row
    ((tree.Defined (void 0)
    (tree.function 0 (name (codes "f") 5) (tree.Void (span 6 12)) (span 5 12))
    (tree.statement
    (tree.While (tree.Call (name (codes "f") 19) tree.no_expressions (span 19 22))
    (tree.Null (span 23 24))
    (span 13 24)) tree.no_block_items)
    (span 0 25)) ∷ [])
    (refused Mismatch 13)

-- void f(void){break;}
abbrev pub bodies_11 : Row
bodies_11 = row
    ((tree.Defined (void 0)
    (tree.function 0 (name (codes "f") 5) (tree.Void (span 6 12)) (span 5 12))
    (tree.statement (tree.Break (span 13 19)) tree.no_block_items)
    (span 0 20)) ∷ [])
    (refused Mismatch 13)

-- void f(int a){switch(a){case 1:continue;}}
abbrev pub bodies_12 : Row
bodies_12 = row
    ((tree.Defined (void 0)
    (tree.function 0 (name (codes "f") 5)
    (tree.Listed
    (tree.parameters
    (tree.parameter (int 7) 0 (Some (name (codes "a") 11)) tree.no_lengths
    (span 7 12)) tree.no_parameters)
    (span 6 13))
    (span 5 13))
    (tree.statement
    (tree.Switch (the (codes "a") 21)
    (tree.Compound
    (tree.statement
    (tree.Case (digit 1 29) (span 24 31) (tree.Continue (span 31 40))
    (span 24 40)) tree.no_block_items)
    (span 23 41))
    (span 14 41)) tree.no_block_items)
    (span 0 42)) ∷ [])
    (refused Mismatch 31)

-- void f(int a){do{while(a)break;continue;}while(a);}
abbrev pub bodies_13 : Row
bodies_13 = row
    ((tree.Defined (void 0)
    (tree.function 0 (name (codes "f") 5)
    (tree.Listed
    (tree.parameters
    (tree.parameter (int 7) 0 (Some (name (codes "a") 11)) tree.no_lengths
    (span 7 12)) tree.no_parameters)
    (span 6 13))
    (span 5 13))
    (tree.statement
    (tree.DoWhile
    (tree.Compound
    (tree.statement
    (tree.While (the (codes "a") 23) (tree.Break (span 25 31)) (span 17 31))
    (tree.statement (tree.Continue (span 31 40)) tree.no_block_items))
    (span 16 41))
    (the (codes "a") 47)
    (span 14 50)) tree.no_block_items)
    (span 0 51)) ∷ [])
    accepted

-- void f(void){return 1;}
abbrev pub bodies_14 : Row
bodies_14 = row
    ((tree.Defined (void 0)
    (tree.function 0 (name (codes "f") 5) (tree.Void (span 6 12)) (span 5 12))
    (tree.statement (tree.Return (Some (digit 1 20)) (span 13 22)) tree.no_block_items)
    (span 0 23)) ∷ [])
    (refused Mismatch 13)

-- void f(void){return x;}
abbrev pub bodies_15 : Row
bodies_15 = row
    ((tree.Defined (void 0)
    (tree.function 0 (name (codes "f") 5) (tree.Void (span 6 12)) (span 5 12))
    (tree.statement (tree.Return (Some (the (codes "x") 20)) (span 13 22))
    tree.no_block_items)
    (span 0 23)) ∷ [])
    (refused Mismatch 13)

-- int f(void){return;}
abbrev pub bodies_16 : Row
bodies_16 = row
    ((tree.Defined (int 0)
    (tree.function 0 (name (codes "f") 4) (tree.Void (span 5 11)) (span 4 11))
    (tree.statement (tree.Return None (span 12 19)) tree.no_block_items)
    (span 0 20)) ∷ [])
    (refused Mismatch 12)

-- struct S{int a;};struct T{int a;}t;struct S f(void){return t;}
abbrev pub bodies_17 : Row
bodies_17 = row
    ((tree.Declared
    (tree.declaration
    (tree.specifiers
    (tree.Structure (Some (name (codes "S") 7))
    (tree.members
    (tree.member (int 9)
    (tree.declarators (object (name (codes "a") 13)) tree.no_declarators)
    (span 9 15)) tree.no_members)
    (span 0 16)) tree.no_specifiers) []
    (span 0 17))) ∷
    (tree.Declared
    (tree.declaration
    (tree.specifiers
    (tree.Structure (Some (name (codes "T") 24))
    (tree.members
    (tree.member (int 26)
    (tree.declarators (object (name (codes "a") 30)) tree.no_declarators)
    (span 26 32)) tree.no_members)
    (span 17 33)) tree.no_specifiers)
    ((tree.bare (object (name (codes "t") 33))) ∷ [])
    (span 17 35))) ∷
    (tree.Defined
    (tree.specifiers (tree.StructureTag (name (codes "S") 42) (span 35 43))
    tree.no_specifiers)
    (tree.function 0 (name (codes "f") 44) (tree.Void (span 45 51)) (span 44 51))
    (tree.statement (tree.Return (Some (the (codes "t") 59)) (span 52 61))
    tree.no_block_items)
    (span 35 62)) ∷ [])
    (refused Mismatch 52)

-- int f(void){while(1/0);}
abbrev pub bodies_18 : Row
bodies_18 = row
    ((tree.Defined (int 0)
    (tree.function 0 (name (codes "f") 4) (tree.Void (span 5 11)) (span 4 11))
    (tree.statement
    (tree.While (tree.Binary binary.Divide (digit 1 18) (zero_at 20) (span 18 21))
    (tree.Null (span 22 23))
    (span 12 23)) tree.no_block_items)
    (span 0 24)) ∷ [])
    accepted

-- typedef enum { UP, TAKEOFF, LANDING } Lever;
-- typedef struct { int speed; _Bool ground; } Air;
-- extern int mcdc_in(void);
-- void mcdc_out(int angle);
-- static int angle;
-- static int target(Lever lever) {
--   switch (lever) {
--   case UP: return 0;
--   case TAKEOFF: return 15;
--   case LANDING: return 30;
--   default: return 0;
--   }
-- }
-- int cycle(int lever) {
--   Air air;
--   air.speed = mcdc_in();
--   air.ground = mcdc_in();
--   int want = target(lever);
--   if (want > 15 && (air.speed > 160 || air.ground)) want = 15;
--   if (angle < want) angle += 5;
--   else if (angle > want) angle -= 5;
--   mcdc_out(angle);
--   return angle;
-- }
abbrev pub bodies_19 : Row
bodies_19 = row
    ((tree.Declared
    (tree.declaration
    (tree.specifiers (tree.Word word.Typedef (span 0 7))
    (tree.specifiers
    (tree.Enumeration None
    (tree.enumerators (tree.enumerator (name (codes "UP") 15))
    (tree.enumerators (tree.enumerator (name (codes "TAKEOFF") 19))
    (tree.enumerators (tree.enumerator (name (codes "LANDING") 28))
    tree.no_enumerators)))
    (span 8 37)) tree.no_specifiers))
    ((tree.bare (object (name (codes "Lever") 38))) ∷ [])
    (span 0 44))) ∷
    (tree.Declared
    (tree.declaration
    (tree.specifiers (tree.Word word.Typedef (span 45 52))
    (tree.specifiers
    (tree.Structure None
    (tree.members
    (tree.member (int 62)
    (tree.declarators (object (name (codes "speed") 66))
    tree.no_declarators)
    (span 62 72))
    (tree.members
    (tree.member
    (tree.specifiers (tree.Word word.Bool (span 73 78))
    tree.no_specifiers)
    (tree.declarators (object (name (codes "ground") 79))
    tree.no_declarators)
    (span 73 86)) tree.no_members))
    (span 53 88)) tree.no_specifiers))
    ((tree.bare (object (name (codes "Air") 89))) ∷ [])
    (span 45 93))) ∷
    (tree.Declared
    (tree.declaration (tree.specifiers (tree.Word word.Extern (span 94 100)) (int 101))
    ((tree.bare
    (tree.function 0 (name (codes "mcdc_in") 105) (tree.Void (span 112 118))
    (span 105 118))) ∷ [])
    (span 94 119))) ∷
    (tree.Declared
    (tree.declaration (void 120)
    ((tree.bare
    (tree.function 0 (name (codes "mcdc_out") 125)
    (tree.Listed
    (tree.parameters
    (tree.parameter (int 134) 0 (Some (name (codes "angle") 138))
    tree.no_lengths
    (span 134 143)) tree.no_parameters)
    (span 133 144))
    (span 125 144))) ∷ [])
    (span 120 145))) ∷
    (tree.Declared
    (tree.declaration (tree.specifiers (tree.Word word.Static (span 146 152)) (int 153))
    ((tree.bare (object (name (codes "angle") 157))) ∷ [])
    (span 146 163))) ∷
    (tree.Defined (tree.specifiers (tree.Word word.Static (span 164 170)) (int 171))
    (tree.function 0 (name (codes "target") 175)
    (tree.Listed
    (tree.parameters
    (tree.parameter
    (tree.specifiers (tree.TypedefName (name (codes "Lever") 182))
    tree.no_specifiers) 0
    (Some (name (codes "lever") 188)) tree.no_lengths
    (span 182 193)) tree.no_parameters)
    (span 181 194))
    (span 175 194))
    (tree.statement
    (tree.Switch (the (codes "lever") 207)
    (tree.Compound
    (tree.statement
    (tree.Case (the (codes "UP") 223) (span 218 226)
    (tree.Return (Some (zero_at 234)) (span 227 236))
    (span 218 236))
    (tree.statement
    (tree.Case (the (codes "TAKEOFF") 244) (span 239 252)
    (tree.Return (Some (tree.Constant 15 true false 0 (span 260 262)))
    (span 253 263))
    (span 239 263))
    (tree.statement
    (tree.Case (the (codes "LANDING") 271) (span 266 279)
    (tree.Return (Some (tree.Constant 30 true false 0 (span 287 289)))
    (span 280 290))
    (span 266 290))
    (tree.statement
    (tree.Default (span 293 301)
    (tree.Return (Some (zero_at 309)) (span 302 311))
    (span 293 311)) tree.no_block_items))))
    (span 214 315))
    (span 199 315)) tree.no_block_items)
    (span 164 317)) ∷
    (tree.Defined (int 318)
    (tree.function 0 (name (codes "cycle") 322)
    (tree.Listed
    (tree.parameters
    (tree.parameter (int 328) 0 (Some (name (codes "lever") 332)) tree.no_lengths
    (span 328 337)) tree.no_parameters)
    (span 327 338))
    (span 322 338))
    (tree.local
    (tree.declaration
    (tree.specifiers (tree.TypedefName (name (codes "Air") 343)) tree.no_specifiers)
    ((tree.bare (object (name (codes "air") 347))) ∷ [])
    (span 343 351))
    (tree.statement
    (tree.ExpressionStatement
    (tree.Assignment assign.Assign
    (tree.Member (the (codes "air") 354) (name (codes "speed") 358)
    (span 354 363))
    (tree.Call (name (codes "mcdc_in") 366) tree.no_expressions (span 366 375))
    (span 354 375))
    (span 354 376))
    (tree.statement
    (tree.ExpressionStatement
    (tree.Assignment assign.Assign
    (tree.Member (the (codes "air") 379) (name (codes "ground") 383)
    (span 379 389))
    (tree.Call (name (codes "mcdc_in") 392) tree.no_expressions
    (span 392 401))
    (span 379 401))
    (span 379 402))
    (tree.local
    (tree.declaration (int 405)
    ((tree.initialized (object (name (codes "want") 409))
    (tree.Single
    (tree.Call (name (codes "target") 416)
    (one_expression (the (codes "lever") 423))
    (span 416 429)))) ∷ [])
    (span 405 430))
    (tree.statement
    (tree.If
    (tree.Binary binary.And
    (tree.Binary binary.Greater (the (codes "want") 437)
    (tree.Constant 15 true false 0 (span 444 446))
    (span 437 446))
    (tree.Parenthesized
    (tree.Binary binary.Or
    (tree.Binary binary.Greater
    (tree.Member (the (codes "air") 451)
    (name (codes "speed") 455)
    (span 451 460))
    (tree.Constant 160 true false 0 (span 463 466))
    (span 451 466))
    (tree.Member (the (codes "air") 470)
    (name (codes "ground") 474)
    (span 470 480))
    (span 451 480))
    (span 450 481))
    (span 437 481))
    (tree.ExpressionStatement
    (tree.Assignment assign.Assign (the (codes "want") 483)
    (tree.Constant 15 true false 0 (span 490 492))
    (span 483 492))
    (span 483 493))
    (span 433 493))
    (tree.statement
    (tree.IfElse
    (tree.Binary binary.Less (the (codes "angle") 500)
    (the (codes "want") 508)
    (span 500 512))
    (tree.ExpressionStatement
    (tree.Assignment assign.Add (the (codes "angle") 514)
    (digit 5 523)
    (span 514 524))
    (span 514 525))
    (tree.If
    (tree.Binary binary.Greater (the (codes "angle") 537)
    (the (codes "want") 545)
    (span 537 549))
    (tree.ExpressionStatement
    (tree.Assignment assign.Subtract (the (codes "angle") 551)
    (digit 5 560)
    (span 551 561))
    (span 551 562))
    (span 533 562))
    (span 496 562))
    (tree.statement
    (tree.ExpressionStatement
    (tree.Call (name (codes "mcdc_out") 565)
    (one_expression (the (codes "angle") 574))
    (span 565 580))
    (span 565 581))
    (tree.statement
    (tree.Return (Some (the (codes "angle") 591)) (span 584 597))
    tree.no_block_items))))))))
    (span 318 599)) ∷ [])
    accepted

-- struct S{int a;}s;void f(void){for(;s;);}
abbrev pub bodies_20 : Row
bodies_20 = row
    ((tree.Declared
    (tree.declaration
    (tree.specifiers
    (tree.Structure (Some (name (codes "S") 7))
    (tree.members
    (tree.member (int 9)
    (tree.declarators (object (name (codes "a") 13)) tree.no_declarators)
    (span 9 15)) tree.no_members)
    (span 0 16)) tree.no_specifiers)
    ((tree.bare (object (name (codes "s") 16))) ∷ [])
    (span 0 18))) ∷
    (tree.Defined (void 18)
    (tree.function 0 (name (codes "f") 23) (tree.Void (span 24 30)) (span 23 30))
    (tree.statement
    (tree.For (tree.StartsExpression None) (Some (the (codes "s") 36)) None
    (tree.Null (span 39 40))
    (span 31 40)) tree.no_block_items)
    (span 18 41)) ∷ [])
    (refused Mismatch 31)

-- struct S{int a;}s;void f(void){do;while(s);}
abbrev pub bodies_21 : Row
bodies_21 = row
    ((tree.Declared
    (tree.declaration
    (tree.specifiers
    (tree.Structure (Some (name (codes "S") 7))
    (tree.members
    (tree.member (int 9)
    (tree.declarators (object (name (codes "a") 13)) tree.no_declarators)
    (span 9 15)) tree.no_members)
    (span 0 16)) tree.no_specifiers)
    ((tree.bare (object (name (codes "s") 16))) ∷ [])
    (span 0 18))) ∷
    (tree.Defined (void 18)
    (tree.function 0 (name (codes "f") 23) (tree.Void (span 24 30)) (span 23 30))
    (tree.statement
    (tree.DoWhile (tree.Null (span 33 34)) (the (codes "s") 40) (span 31 43))
    tree.no_block_items)
    (span 18 44)) ∷ [])
    (refused Mismatch 31)

-- void f(void){x;y;}
abbrev pub bodies_22 : Row
bodies_22 = row
    ((tree.Defined (void 0)
    (tree.function 0 (name (codes "f") 5) (tree.Void (span 6 12)) (span 5 12))
    (tree.statement (tree.ExpressionStatement (the (codes "x") 13) (span 13 15))
    (tree.statement (tree.ExpressionStatement (the (codes "y") 15) (span 15 17))
    tree.no_block_items))
    (span 0 18)) ∷ [])
    (refused Undeclared 13)

-- void f(int a){int t[2];for(a=1,t;;a++);}
abbrev pub bodies_23 : Row
bodies_23 = row
    ((tree.Defined (void 0)
    (tree.function 0 (name (codes "f") 5)
    (tree.Listed
    (tree.parameters
    (tree.parameter (int 7) 0 (Some (name (codes "a") 11)) tree.no_lengths
    (span 7 12)) tree.no_parameters)
    (span 6 13))
    (span 5 13))
    (tree.local
    (tree.declaration (int 14)
    ((tree.bare
    (tree.object 0 (name (codes "t") 18)
    (tree.given_length (digit 2 20) tree.no_lengths)
    (span 18 22))) ∷ [])
    (span 14 23))
    (tree.statement
    (tree.For
    (tree.StartsExpression
    (Some
    (tree.Comma
    (tree.expressions
    (tree.Assignment assign.Assign (the (codes "a") 27) (digit 1 29)
    (span 27 30))
    (one_expression (the (codes "t") 31)))
    (span 27 32)))) None
    (Some (tree.PostfixStep step.Increment (the (codes "a") 34) (span 34 37)))
    (tree.Null (span 38 39))
    (span 23 39)) tree.no_block_items))
    (span 0 40)) ∷ [])
    (refused Mismatch 31)

abbrev pub all : List Row
all =
    bodies_1 ∷ bodies_2 ∷ bodies_3 ∷ bodies_4 ∷ bodies_5 ∷ bodies_6 ∷ bodies_7 ∷ bodies_8 ∷
    bodies_9 ∷ bodies_10 ∷ bodies_11 ∷ bodies_12 ∷ bodies_13 ∷ bodies_14 ∷ bodies_15 ∷ bodies_16 ∷
    bodies_17 ∷ bodies_18 ∷ bodies_19 ∷ bodies_20 ∷ bodies_21 ∷ bodies_22 ∷ bodies_23 ∷ []
