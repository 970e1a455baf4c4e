-- The copy of a program with its probes is well-formed.
use Rattle.std.proofs.Common.{◌≡◌, ◌∙◌, sym, ap, subst, ℕ, List, map}
use Rattle.mc_value.specs.declared.object_type.ObjType.{ObjType}
use Rattle.mc_typed.specs.declared.functions.Function.{Function}
use Rattle.mc_typed.specs.declared.objects.StaticObject.{StaticObject}
use Rattle.mc_typed.specs.Layout.{object_type_of}
use Rattle.mc_typed.specs.Views.{Parts}
use Rattle.mc_typed.specs.Views as plain
use Rattle.mc_typed.specs.Sound.{IsSound}
use Rattle.mc_typed.specs.Tree as t
use Rattle.mc_steps.specs.Points.{no_points}
use Rattle.mc_probe.specs.Erase.{erase}
use Rattle.mc_probe.specs.Maps.{Map}
use Rattle.mc_probe.specs.Table.{put_functions, instrumented}
use Rattle.mc_probe.specs.Tree as p
use Rattle.mc_probe.specs.Trees.{tree_of}
use Rattle.mc_probe.specs.Views as probed
use Rattle.mc_probe.specs.WellFormed.{IsWellFormed}
use Rattle.mc_probe.proofs.ErasedPrograms.{programs_erase}
use Rattle.laws_simulation.proofs.Erased.{program_away}
use Rattle.laws_simulation.proofs.Fitting.{well_formed}

abbrev pub Copies : Map → t.Program → Parts → Type 0
Copies m x parts = probed.program_of parts ≡ (instrumented m x).program

pub parts_copied : (m : Map) (q : Parts) (fs : List Function) (os : List StaticObject) (us : List ObjType) → map probed.function_of fs ≡ put_functions m 0 0 no_points (map plain.function_of q.functions) → map plain.static_of os ≡ map plain.static_of q.statics → map object_type_of us ≡ map object_type_of q.structures → Copies m (plain.program_of q) (record { functions = fs; statics = os; structures = us })
parts_copied m q fs os us f o u = λ i. record { functions = f i; statics = o i; structures = u i }

pub copied_sound : (m : Map) (parts : Parts) (x : t.Program) → IsSound x → Copies m x parts → IsSound (plain.program_of parts)
copied_sound m parts x h e =
    subst IsSound (sym (sym (programs_erase parts) ∙ (ap erase e ∙ program_away m x))) h

abbrev with_bits : ℕ → p.Program → p.Tree
with_bits bits q = record { program = q; bits = bits }

abbrev pub IsFit : ℕ → Parts → Type 0
IsFit bits parts = IsWellFormed (tree_of (record { program = parts; bits = bits }))

pub copied_fits : (m : Map) (parts : Parts) (x : t.Program) → IsSound x → Copies m x parts → IsFit m.bits parts
copied_fits m parts x h e = subst IsWellFormed (ap (with_bits m.bits) (sym e)) (well_formed m x h)

pub copied_tree : (m : Map) (parts : Parts) (x : t.Program) → Copies m x parts → tree_of (record { program = parts; bits = m.bits }) ≡ instrumented m x
copied_tree m parts x e = ap (with_bits m.bits) e
