use Rattle.std.proofs.Common.{◌∙◌, map, ap, subst, sym}
use Rattle.mc_typed.specs.Layout.{object_type_of}
use Rattle.mc_typed.specs.Views.{program_of, function_of, static_of}
use Rattle.mc_typed.specs.Views as plain
use Rattle.mc_probe.specs.Bare.{bare_function}
use Rattle.mc_probe.proofs.Bared.{IsFit, copied_sound, copied_fits, copied_parts}
use Rattle.instrument_copies.proofs.copies.bare.Goals as goal

pub new-copy-requires : goal.new-copy-requires
new-copy-requires c =
    copied_sound (record {
      functions = c.in_ok-functions.functions.items;
      statics = c.in_ok-statics.statics.items;
      structures = c.in_ok-structures.structures.items;
    }) (program_of c.args.program.now) c.functions.ensures.sound
    (copied_parts c.args.program.now c.in_ok-functions.functions.items c.in_ok-statics.statics.items c.in_ok-structures.structures.items
    (c.in_ok-functions.ensures ∙ ap (λ fs. map bare_function (map function_of fs)) c.functions.ensures.functions)
    (c.in_ok-statics.ensures ∙ ap (map static_of) c.statics.ensures.statics)
    (c.in_ok-structures.ensures ∙ ap (map object_type_of) c.structures.ensures.structures))

pub new-requires : goal.new-requires
new-requires c =
    subst (λ (parts : plain.Parts). IsFit parts) (sym c.new-copy.ensures)
    (copied_fits (record {
      functions = c.in_ok-functions.functions.items;
      statics = c.in_ok-statics.statics.items;
      structures = c.in_ok-structures.structures.items;
    }) (program_of c.args.program.now) c.functions.ensures.sound
    (copied_parts c.args.program.now c.in_ok-functions.functions.items c.in_ok-statics.statics.items c.in_ok-structures.structures.items
    (c.in_ok-functions.ensures ∙ ap (λ fs. map bare_function (map function_of fs)) c.functions.ensures.functions)
    (c.in_ok-statics.ensures ∙ ap (map static_of) c.statics.ensures.statics)
    (c.in_ok-structures.ensures ∙ ap (map object_type_of) c.structures.ensures.structures)))
