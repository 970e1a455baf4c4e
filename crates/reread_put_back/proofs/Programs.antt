-- The copy of a program with probes that were put back.
use Rattle.std.proofs.Common.{◌≡◌, ◌≢◌, ◌∙◌, ◌-◌, sym, ap, subst, ℕ, List, [], ◌∷◌, length, map, remove, Option, Some, None}
use Rattle.mc_value.specs.declared.object_type.ObjType.{ObjType}
use Rattle.mc_typed.specs.declared.functions.Function.{Function}
use Rattle.mc_typed.specs.declared.objects.StaticObject.{StaticObject}
use Rattle.mc_typed.specs.Layout.{object_type_of}
use Rattle.mc_typed.specs.Views.{Parts}
use Rattle.mc_typed.specs.Views as plain
use Rattle.mc_typed.specs.Sound.{IsSound}
use Rattle.mc_typed.specs.Tree as t
use Rattle.reread_pieces.specs.declared.placed.Placed.{Placed}
use Rattle.mc_probe.specs.Erase.{erase}
use Rattle.mc_probe.specs.Tree as tree
use Rattle.mc_probe.specs.Trees.{tree_of}
use Rattle.mc_probe.specs.Views as probed
use Rattle.mc_probe.specs.WellFormed.{IsWellFormed}
use Rattle.mc_probe.proofs.ErasedPrograms.{programs_erase}
use Rattle.reread_put_back.specs.Pens.{Pen, begun, each, first_of}
use Rattle.reread_put_back.specs.Back.{back_function, faults, first_fault}
use Rattle.reread_put_back.proofs.Erased.{functions_away}
use Rattle.reread_put_back.proofs.Fits.{IsClear, functions_fit}

-- with these functions
abbrev pub whole : t.Program → List tree.Function → tree.Program
whole x fs = record { functions = fs; statics = x.statics; structures = x.structures }

abbrev pub Copies : t.Program → List Placed → Pen → Parts → Type 0
Copies x placed s parts = (each back_function x.functions (begun placed) ≡ ((probed.program_of parts).functions, s)) × (probed.program_of parts ≡ whole x (probed.program_of parts).functions)

pub parts_copied : (q : Parts) (placed : List Placed) (s : Pen) (gs fs : List Function) (os : List StaticObject) (us : List ObjType) → gs ≡ q.functions → map probed.function_of fs ≡ (each back_function (map plain.function_of gs) (begun placed)).0 → s ≡ (each back_function (map plain.function_of gs) (begun placed)).1 → map plain.static_of os ≡ map plain.static_of q.statics → map object_type_of us ≡ map object_type_of q.structures → Copies (plain.program_of q) placed s (record { functions = fs; statics = os; structures = us })
parts_copied q placed s gs fs os us same f e o u = (
  ap (λ (hs : List Function). each back_function (map plain.function_of hs) (begun placed)) (sym same) ∙ (λ i. (sym f i, sym e i)),
  λ i. record { functions = map probed.function_of fs; statics = o i; structures = u i },
)

abbrev put_in : t.Program → List Placed → tree.Program
put_in x placed = whole x (each back_function x.functions (begun placed)).0

program_away : (x : t.Program) (placed : List Placed) → erase (put_in x placed) ≡ x
program_away x placed = λ i. record { functions = functions_away x.functions (begun placed) i; statics = x.statics; structures = x.structures }

copied : (x : t.Program) (placed : List Placed) (s : Pen) (parts : Parts) → Copies x placed s parts → probed.program_of parts ≡ put_in x placed
copied x placed s parts e = e.1 ∙ ap (λ (w : List tree.Function × Pen). whole x w.0) (sym e.0)

pub copied_away : (x : t.Program) (placed : List Placed) (s : Pen) (parts : Parts) → Copies x placed s parts → erase (probed.program_of parts) ≡ x
copied_away x placed s parts e = ap erase (copied x placed s parts e) ∙ program_away x placed

pub copied_sound : (x : t.Program) (placed : List Placed) (s : Pen) (parts : Parts) → IsSound x → Copies x placed s parts → IsSound (plain.program_of parts)
copied_sound x placed s parts h e =
    subst IsSound (sym (sym (programs_erase parts) ∙ copied_away x placed s parts e)) h

abbrev with_bits : ℕ → tree.Program → tree.Tree
with_bits bits q = record { program = q; bits = bits }

abbrev pub IsFit : ℕ → Parts → Type 0
IsFit bits parts = IsWellFormed (tree_of (record { program = parts; bits = bits }))

never : (word : ℕ) (fault : Option ℕ) → first_of word fault ≢ None
never word None h = cc
never word (Some other) h = cc

no_fault : (others : List Placed → Option ℕ) (placed left : List Placed) (fault : Option ℕ) → first_fault others placed left fault ≡ None → fault ≡ None
no_fault others placed [] fault h = h
no_fault others placed (q ∷ rest) fault h = absurd (never q.word (others (remove placed (length placed - length (q ∷ rest)))) h)

pub copied_fits : (x : t.Program) (placed : List Placed) (s : Pen) (parts : Parts) (bits : ℕ) → IsSound x → Copies x placed s parts → first_fault (faults (length placed) x) placed s.left s.fault ≡ None → IsFit bits parts
copied_fits x placed s parts bits h e none =
    let clear : IsClear (each back_function x.functions (begun placed)).1 = ap (λ (w : List tree.Function × Pen). w.1.fault) e.0 ∙ no_fault (faults (length placed) x) placed s.left s.fault none in
    subst IsWellFormed (ap (with_bits bits) (sym (copied x placed s parts e))) (record {
      sound = subst IsSound (sym (program_away x placed)) h;
      probes = (functions_fit x.functions (begun placed) clear).1;
    })
