-- Pieces of two texts.
use Rattle.std.specs.Prelude.{◌≡◌, List, [], ◌∷◌, map, codes}
use Rattle.reread_pieces.specs.Pieces.{Mark, ArePieces}
use Rattle.reread_pieces.specs.Plain.{plain_of}
use Rattle.reread_pieces.specs.Worked.{key, mark, name, number, spread, HasNone}

-- the tokens of `x * MCDC_D ( 0 , 1 , a < b ) ;` without the probe
abbrev pub FactorIsGrouped : Type 0
FactorIsGrouped =
    (ps : List Mark)
    × ArePieces
    (spread 0
    (name (codes "x") ∷ mark (codes "*") ∷ key (codes "MCDC_D") ∷ mark (codes "(")
    ∷ number 0 (codes "0")
    ∷ mark (codes ",")
    ∷ number 1 (codes "1")
    ∷ mark (codes ",")
    ∷ name (codes "a")
    ∷ mark (codes "<")
    ∷ name (codes "b")
    ∷ mark (codes ")")
    ∷ mark (codes ";")
    ∷ []))
    ps
    × (map (λ t. t.text) (plain_of ps)
    ≡ codes "x" ∷ codes "*" ∷ codes "(" ∷ codes "a" ∷ codes "<" ∷ codes "b" ∷ codes ")"
    ∷ codes ";"
    ∷ [])

-- `int f ( void ) { a = 1 ; MCDC_H ( 0 ) ; return a ; }`
abbrev pub HitBetweenStatements : Type 0
HitBetweenStatements =
    HasNone
    (spread 0
    (key (codes "int") ∷ name (codes "f") ∷ mark (codes "(") ∷ key (codes "void")
    ∷ mark (codes ")")
    ∷ mark (codes "{")
    ∷ name (codes "a")
    ∷ mark (codes "=")
    ∷ number 1 (codes "1")
    ∷ mark (codes ";")
    ∷ key (codes "MCDC_H")
    ∷ mark (codes "(")
    ∷ number 0 (codes "0")
    ∷ mark (codes ")")
    ∷ mark (codes ";")
    ∷ key (codes "return")
    ∷ name (codes "a")
    ∷ mark (codes ";")
    ∷ mark (codes "}")
    ∷ []))
