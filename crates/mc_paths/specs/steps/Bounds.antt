-- A step of the proofs: it follows the code, and no public clause rests on it.
-- Bounds of rooms and increments.
use Rattle.std.specs.Prelude.{ℕ, ◌+◌, ◌≤◌, max}
use Rattle.mc_cond.specs.Tree.{Tree, Leaf, Not, And, Or, FullAnd, FullOr, FullXor}
use Rattle.mc_paths.specs.Paths.{room}

-- the room from each condition of the tree on is at most `limit`
abbrev pub AreWithin : ℕ → Tree → ℕ → ℕ → Type 0
AreWithin limit (Leaf k) after_true after_false = after_true + after_false ≤ limit
AreWithin limit (Not a) after_true after_false = AreWithin limit a after_false after_true
AreWithin limit (And a b) after_true after_false =
    AreWithin limit b after_true after_false
    × AreWithin limit a (room b after_true after_false) after_false
AreWithin limit (Or a b) after_true after_false =
    AreWithin limit b after_true after_false
    × AreWithin limit a after_true (room b after_true after_false)
AreWithin limit (FullAnd a b) after_true after_false =
    AreWithin limit b (max after_true after_false) after_false
    × AreWithin limit a (room b (max after_true after_false) after_false)
    (room b (max after_true after_false) after_false)
AreWithin limit (FullOr a b) after_true after_false =
    AreWithin limit b after_true (max after_true after_false)
    × AreWithin limit a (room b after_true (max after_true after_false))
    (room b after_true (max after_true after_false))
AreWithin limit (FullXor a b) after_true after_false =
    AreWithin limit b (max after_true after_false) (max after_true after_false)
    × AreWithin limit a (room b (max after_true after_false) (max after_true after_false))
    (room b (max after_true after_false) (max after_true after_false))

-- the false edge of each condition of the tree adds at most `limit`
abbrev pub AddAtMost : ℕ → Tree → ℕ → ℕ → Type 0
AddAtMost limit (Leaf k) after_true after_false = after_true ≤ limit
AddAtMost limit (Not a) after_true after_false = AddAtMost limit a after_false after_true
AddAtMost limit (And a b) after_true after_false =
    AddAtMost limit b after_true after_false
    × AddAtMost limit a (room b after_true after_false) after_false
AddAtMost limit (Or a b) after_true after_false =
    AddAtMost limit b after_true after_false
    × AddAtMost limit a after_true (room b after_true after_false)
AddAtMost limit (FullAnd a b) after_true after_false =
    AddAtMost limit b (max after_true after_false) after_false
    × AddAtMost limit a (room b (max after_true after_false) after_false)
    (room b (max after_true after_false) after_false)
AddAtMost limit (FullOr a b) after_true after_false =
    AddAtMost limit b after_true (max after_true after_false)
    × AddAtMost limit a (room b after_true (max after_true after_false))
    (room b after_true (max after_true after_false))
AddAtMost limit (FullXor a b) after_true after_false =
    AddAtMost limit b (max after_true after_false) (max after_true after_false)
    × AddAtMost limit a (room b (max after_true after_false) (max after_true after_false))
    (room b (max after_true after_false) (max after_true after_false))
