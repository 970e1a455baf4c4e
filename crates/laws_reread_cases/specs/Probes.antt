-- Probes that stand right at what they may not take. A place is given by the bytes of the text.
use Rattle.std.specs.Prelude.{◌≡◌, ℕ, ◌+◌, List, [], ◌∷◌, None, codes}
use Rattle.mc_tree.specs.Tree as tree
use Rattle.reread_pieces.specs.declared.piece.What.TheVariants as what
use Rattle.reread_probes.specs.Worked.{assigned, assignment, declared, named, of_statement, operand, probe, span}

-- the colon at 3, its probe at 4, and the next token at 16
abbrev pub ColonOfAChoice : Type 0
ColonOfAChoice =
    of_statement (probe (what.Label 0 1) 4 4 16 ∷ [])
    (tree.ExpressionStatement
    (tree.Conditional (named (codes "a") 0) (named (codes "a") 2) (named (codes "a") 16)
    (span 0 17)) (span 0 18))
    ≡ None

-- the braces stand from 11 on, where the statements do
abbrev pub TwoInBraces : Type 0
TwoInBraces =
    of_statement (probe (what.Statement 1) 1 0 11 ∷ [])
    (tree.Compound
    (tree.statement (assignment 11) (tree.statement (assignment 15) tree.no_block_items))
    (span 11 19))
    ≡ None

-- the parentheses of the probe stand where the assignment does
abbrev pub OperandOfADecision : Type 0
OperandOfADecision =
    of_statement (probe (what.Decision 0 0) 0 0 11 ∷ [])
    (tree.ExpressionStatement (operand (assigned 11) 11 14) (span 11 16))
    ≡ None

-- the declaration stands at 14, where the token after the probe does
abbrev pub ForCountsNoDeclaration : Type 0
ForCountsNoDeclaration =
    of_statement (probe (what.Declaration 1) 4 4 14 ∷ [])
    (tree.For (tree.StartsLocal (declared 14)) None None (tree.Null (span 24 25)) (span 0 25))
    ≡ None
