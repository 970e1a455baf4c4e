use Rattle.std.proofs.Common.{◌∙◌, map, ap, subst, sym}
use Rattle.mc_typed.specs.Layout.{object_type_of}
use Rattle.mc_typed.specs.Views.{program_of, function_of, static_of}
use Rattle.mc_typed.specs.Views as plain
use Rattle.mc_probe.specs.BitMaps.{map_of}
use Rattle.mc_steps.specs.Points.{no_points}
use Rattle.mc_probe.specs.Table.{put_functions}
use Rattle.mc_instrument.proofs.Programs.{Copies, IsFit, copied_fits, copied_sound, copied_tree, parts_copied}
use Rattle.mc_instrument.proofs.Room.{all_counted}
use Rattle.mc_instrument.proofs.program.with_probes.Goals as goal

pub all_functions-requires-clause-decisions : goal.all_functions-requires-clause-decisions
all_functions-requires-clause-decisions c = rw c.functions.ensures.functions c.requires.decisions

pub all_functions-requires-clause-counted : goal.all_functions-requires-clause-counted
all_functions-requires-clause-counted c =
    rw c.functions.ensures.functions (all_counted (program_of c.args.program.now) (map_of c.args.bit_map.now) c.requires)

pub new-copy-requires : goal.new-copy-requires
new-copy-requires c =
    copied_sound (map_of c.args.bit_map.now) (record {
      functions = c.in_ok-functions.functions.items;
      statics = c.in_ok-statics.statics.items;
      structures = c.in_ok-structures.structures.items;
    }) (program_of c.args.program.now) c.functions.ensures.sound
    (parts_copied (map_of c.args.bit_map.now) c.args.program.now c.in_ok-functions.functions.items c.in_ok-statics.statics.items c.in_ok-structures.structures.items
    (c.in_ok-functions.ensures ∙ ap (λ fs. put_functions (map_of c.args.bit_map.now) 0 0 no_points (map function_of fs)) c.functions.ensures.functions)
    (c.in_ok-statics.ensures ∙ ap (map static_of) c.statics.ensures.statics)
    (c.in_ok-structures.ensures ∙ ap (map object_type_of) c.structures.ensures.structures))

pub new-requires : goal.new-requires
new-requires c =
    subst (λ (parts : plain.Parts). IsFit c.args.bit_map.now.bits parts) (sym c.new-copy.ensures)
    (copied_fits (map_of c.args.bit_map.now) (record {
      functions = c.in_ok-functions.functions.items;
      statics = c.in_ok-statics.statics.items;
      structures = c.in_ok-structures.structures.items;
    }) (program_of c.args.program.now) c.functions.ensures.sound
    (parts_copied (map_of c.args.bit_map.now) c.args.program.now c.in_ok-functions.functions.items c.in_ok-statics.statics.items c.in_ok-structures.structures.items
    (c.in_ok-functions.ensures ∙ ap (λ fs. put_functions (map_of c.args.bit_map.now) 0 0 no_points (map function_of fs)) c.functions.ensures.functions)
    (c.in_ok-statics.ensures ∙ ap (map static_of) c.statics.ensures.statics)
    (c.in_ok-structures.ensures ∙ ap (map object_type_of) c.structures.ensures.structures)))
