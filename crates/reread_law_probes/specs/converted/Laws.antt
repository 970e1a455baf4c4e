-- The implied conversions of a text's program.
use Rattle.std.specs.Prelude.{◌≡◌, List, Some}
use Rattle.mc_tree.specs.Tree.{Item}
use Rattle.mc_typed.specs.Sound.{IsSound}
use Rattle.mc_typed.specs.Tree.{Program}
use Rattle.types_rules.specs.Typing.{typing_of}
use Rattle.reread_law_probes.specs.put.Conversions.{ConversionsStand}

-- They stand where C implies them.
abbrev pub ImpliedConversionsStand : Type 0
ImpliedConversionsStand =
    (unit : List Item) (p : Program) → typing_of unit ≡ Some p → IsSound p → ConversionsStand p
