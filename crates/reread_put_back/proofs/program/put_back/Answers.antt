use Rattle.std.proofs.Common.{◌∙◌, map, ap, subst, sym}
use Rattle.mc_typed.specs.Layout.{object_type_of}
use Rattle.mc_typed.specs.Views.{program_of, static_of}
use Rattle.mc_typed.specs.Views as plain
use Rattle.mc_probe.specs.Erase.{erase}
use Rattle.mc_probe.specs.Trees.{Instrumented, tree_of}
use Rattle.mc_probe.specs.Views as probed
use Rattle.reread_put_back.proofs.Programs.{IsFit, copied_away, copied_fits, copied_sound, parts_copied}
use Rattle.reread_put_back.proofs.program.put_back.Goals as goal

pub new-copy-requires : goal.new-copy-requires
new-copy-requires c =
    copied_sound (program_of c.args.program.now) c.args.placed.now _ (record {
      functions = c.in_ok-functions.functions.items;
      statics = c.in_ok-statics.statics.items;
      structures = c.in_ok-structures.structures.items;
    }) c.functions.ensures.sound
    (parts_copied c.args.program.now c.args.placed.now _ _ c.in_ok-functions.functions.items c.in_ok-statics.statics.items c.in_ok-structures.structures.items
    c.functions.ensures.functions c.in_ok-functions.ensures.part c.in_ok-functions.ensures.pen
    (c.in_ok-statics.ensures ∙ ap (map static_of) c.statics.ensures.statics)
    (c.in_ok-structures.ensures ∙ ap (map object_type_of) c.structures.ensures.structures))

pub new-requires : goal.new-requires
new-requires c =
    subst (λ (parts : plain.Parts). IsFit c.in-Ok.bits parts) (sym c.new-copy.ensures)
    (copied_fits (program_of c.args.program.now) c.args.placed.now _ (record {
      functions = c.in_ok-functions.functions.items;
      statics = c.in_ok-statics.statics.items;
      structures = c.in_ok-structures.structures.items;
    }) c.in-Ok.bits c.functions.ensures.sound
    (parts_copied c.args.program.now c.args.placed.now _ _ c.in_ok-functions.functions.items c.in_ok-statics.statics.items c.in_ok-structures.structures.items
    c.functions.ensures.functions c.in_ok-functions.ensures.part c.in_ok-functions.ensures.pen
    (c.in_ok-statics.ensures ∙ ap (map static_of) c.statics.ensures.statics)
    (c.in_ok-structures.ensures ∙ ap (map object_type_of) c.structures.ensures.structures))
    c.in-Ok.ensures.none)

pub returns-clause-erases : goal.returns-clause-erases
returns-clause-erases c =
    ap (λ (i : Instrumented). erase (tree_of i).program) c.new.ensures
    ∙ (ap (λ (parts : plain.Parts). erase (probed.program_of parts)) c.new-copy.ensures
    ∙ copied_away (program_of c.args.program.now) c.args.placed.now _ (record {
      functions = c.in_ok-functions.functions.items;
      statics = c.in_ok-statics.statics.items;
      structures = c.in_ok-structures.structures.items;
    })
    (parts_copied c.args.program.now c.args.placed.now _ _ c.in_ok-functions.functions.items c.in_ok-statics.statics.items c.in_ok-structures.structures.items
    c.functions.ensures.functions c.in_ok-functions.ensures.part c.in_ok-functions.ensures.pen
    (c.in_ok-statics.ensures ∙ ap (map static_of) c.statics.ensures.statics)
    (c.in_ok-structures.ensures ∙ ap (map object_type_of) c.structures.ensures.structures)))
