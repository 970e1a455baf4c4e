use Rattle.std.proofs.Common.{◌∙◌, ap, map, subst, sym, List}
use Rattle.mc_typed.specs.declared.functions.Function.{Function}
use Rattle.mc_typed.specs.Layout.{object_type_of}
use Rattle.mc_typed.specs.Views.{function_of, static_of, program_of}
use Rattle.mc_probe.specs.Bare.{bare_function}
use Rattle.mc_mutate.specs.declared.search.sought.Sought.{Sought}
use Rattle.mc_mutate.specs.declared.search.sought.Sought.TheVariants.{Left}
use Rattle.mc_mutate.specs.steps.Changed.{functions_changed}
use Rattle.mc_mutate.proofs.Bared.{IsMade, made, made_sound}
use Rattle.mc_mutate.proofs.copies.changed.Goals as goal

pub new-requires : goal.new-requires
new-requires c =
    let s : Sought = Left c.args.index in
    made_sound (program_of c.args.program.now) s (record {
      functions = c.in_ok-functions.functions.items;
      statics = c.in_ok-statics.statics.items;
      structures = c.in_ok-structures.structures.items;
    }) c.functions.ensures.sound
    (made c.args.program.now s c.in_ok-functions.functions.items c.in_ok-statics.statics.items c.in_ok-structures.structures.items
    (c.in_ok-functions.ensures.tree ∙ ap (λ (fs : List Function). map bare_function (functions_changed (map function_of fs) s)) c.functions.ensures.functions)
    (c.in_ok-statics.ensures ∙ ap (map static_of) c.statics.ensures.statics)
    (c.in_ok-structures.ensures ∙ ap (map object_type_of) c.structures.ensures.structures))

pub returns-clause-made : goal.returns-clause-made
returns-clause-made c =
    let s : Sought = Left c.args.index in
    subst (IsMade (program_of c.args.program.now) s) (sym c.new.ensures)
    (made c.args.program.now s c.in_ok-functions.functions.items c.in_ok-statics.statics.items c.in_ok-structures.structures.items
    (c.in_ok-functions.ensures.tree ∙ ap (λ (fs : List Function). map bare_function (functions_changed (map function_of fs) s)) c.functions.ensures.functions)
    (c.in_ok-statics.ensures ∙ ap (map static_of) c.statics.ensures.statics)
    (c.in_ok-structures.ensures ∙ ap (map object_type_of) c.structures.ensures.structures))
