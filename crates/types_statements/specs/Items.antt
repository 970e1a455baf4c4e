-- Items of a list.
use Rattle.std.specs.Prelude.{[], map, Vec}
use Rattle.std.specs.declared.alloc.Global.{Global}
use Rattle.mc_typed.specs.declared.initializers.Initializer.{Initializer}
use Rattle.mc_typed.specs.Views.{initializer_of, initializers_from}
use Rattle.mc_typed.specs.Tree as typed
use Rattle.types_rules.specs.Values.{Judged, judged_two, lift2}

abbrev pub items_of : Vec Initializer Global → typed.Initializers
items_of v = initializers_from (map initializer_of v.items)

-- one more item, after the others
abbrev pub then_item : typed.Initializers → typed.Initializer → typed.Initializers
then_item typed.no_initializers one = typed.initializers one typed.no_initializers
then_item (typed.initializers first rest) one = typed.initializers first (then_item rest one)

abbrev pub item_then : Judged typed.Initializers → Judged typed.Initializer
    → Judged typed.Initializers
item_then x y = judged_two [] (lift2 then_item x.value y.value) x y

-- more items, after the others
abbrev pub joined_items : typed.Initializers → typed.Initializers → typed.Initializers
joined_items typed.no_initializers more = more
joined_items (typed.initializers first rest) more = typed.initializers first
    (joined_items rest more)

abbrev pub items_joined : Judged typed.Initializers → Judged typed.Initializers
    → Judged typed.Initializers
items_joined x y = judged_two [] (lift2 joined_items x.value y.value) x y
