-- Where the declarations in the blocks of a text start, in the order of the text.
use Rattle.std.specs.Prelude.{ℕ, List, [], ◌∷◌}
use Rattle.mc_tree.specs.Tree.{Statement, BlockItems, Item}
use Rattle.mc_tree.specs.Tree as tree
use Rattle.reread_probes.specs.Statements.{span_of_declaration}

-- the first bytes in a part of a tree, before those of what follows
abbrev pub Starts : Type 0
Starts = List ℕ → List ℕ

abbrev mutual
  pub local_starts : Statement → Starts
  local_starts (tree.Compound b span) later = local_starts_in_block b later
  local_starts (tree.Null span) later = later
  local_starts (tree.ExpressionStatement a span) later = later
  local_starts (tree.If a s span) later = local_starts s later
  local_starts (tree.IfElse a s u span) later = local_starts s (local_starts u later)
  local_starts (tree.Switch a s span) later = local_starts s later
  local_starts (tree.While a s span) later = local_starts s later
  local_starts (tree.DoWhile s a span) later = local_starts s later
  local_starts (tree.For start a b s span) later = local_starts s later
  local_starts (tree.Case a label s span) later = local_starts s later
  local_starts (tree.Default label s span) later = local_starts s later
  local_starts (tree.Label name s span) later = local_starts s later
  local_starts (tree.Goto name span) later = later
  local_starts (tree.Break span) later = later
  local_starts (tree.Continue span) later = later
  local_starts (tree.Return a span) later = later

  pub local_starts_in_block : BlockItems → Starts
  local_starts_in_block tree.no_block_items later = later
  local_starts_in_block (tree.local d rest) later =
      (span_of_declaration d).start ∷ local_starts_in_block rest later
  local_starts_in_block (tree.statement s rest) later =
      local_starts s (local_starts_in_block rest later)

abbrev pub local_starts_in_item : Item → Starts
local_starts_in_item (tree.Declared d) later = later
local_starts_in_item (tree.Defined words d b span) later = local_starts_in_block b later

abbrev pub local_starts_in_unit : List Item → List ℕ
local_starts_in_unit [] = []
local_starts_in_unit (one ∷ rest) = local_starts_in_item one (local_starts_in_unit rest)
