-- What a search by a number makes of a program, as a tree without probes.
use Rattle.std.proofs.Common.{◌≡◌, ◌∙◌, sym, ap, subst, ℕ, ◌+◌, ◌-◌, ◌<◌, ◌≤◌, List, map, Result, Ok, Err, IfOk, arith}
use Rattle.std.specs.declared.alloc.AllocError.{AllocError}
use Rattle.mc_value.specs.declared.object_type.ObjType.{ObjType}
use Rattle.mc_typed.specs.declared.functions.Function.{Function}
use Rattle.mc_typed.specs.declared.objects.StaticObject.{StaticObject}
use Rattle.mc_typed.specs.Layout.{object_type_of}
use Rattle.mc_typed.specs.Sound.{IsSound}
use Rattle.mc_typed.specs.Tree as t
use Rattle.mc_typed.specs.Views.{Parts, function_of, static_of, program_of}
use Rattle.mc_probe.specs.Bare.{bare_function, bare_tree}
use Rattle.mc_probe.specs.Erase.{erase}
use Rattle.mc_probe.specs.Tree as p
use Rattle.mc_probe.specs.Trees.{Instrumented}
use Rattle.mc_probe.specs.Views as probed
use Rattle.mc_probe.proofs.Backs.{program_back}
use Rattle.mc_probe.proofs.Bared.{IsFit, copied_fits, copied_sound}
use Rattle.mc_probe.proofs.ErasedPrograms.{programs_erase}
use Rattle.mc_mutate.specs.declared.search.sought.Sought.{Sought}
use Rattle.mc_mutate.specs.declared.search.sought.Sought.TheVariants.{Left}
use Rattle.mc_mutate.specs.Mutants.{IsMutant, count}
use Rattle.mc_mutate.specs.steps.Bared.{HasMutant}
use Rattle.mc_mutate.specs.steps.Changed.{functions_changed, program_changed}
use Rattle.mc_mutate.proofs.Mutated.{is_mutant, is_mutant_of}
use Rattle.mc_mutate.proofs.Sound.{program_sound}

-- the program of these parts is what was made of a program
abbrev pub IsMade : t.Program → Sought → Parts → Type 0
IsMade x s q = probed.program_of q ≡ (bare_tree (program_changed x s)).program

pub made : (x : Parts) (s : Sought) (fs : List Function) (os : List StaticObject) (us : List ObjType) → map probed.function_of fs ≡ map bare_function (functions_changed (map function_of x.functions) s) → map static_of os ≡ map static_of x.statics → map object_type_of us ≡ map object_type_of x.structures → IsMade (program_of x) s (record { functions = fs; statics = os; structures = us })
made x s fs os us f o u = λ i. record { functions = f i; statics = o i; structures = u i }

pub made_sound : (x : t.Program) (s : Sought) (q : Parts) → IsSound x → IsMade x s q → IsSound (program_of q)
made_sound x s q h e = copied_sound q (program_changed x s) (program_sound x s h) e

pub made_fits : (x : t.Program) (s : Sought) (q : Parts) → IsSound x → IsMade x s q → IsFit q
made_fits x s q h e = copied_fits q (program_changed x s) (program_sound x s h) e

-- the plain view of what was made
plain : (q : Parts) (x : t.Program) → probed.program_of q ≡ (bare_tree x).program → program_of q ≡ x
plain q x e = sym (programs_erase q) ∙ (ap erase e ∙ program_back x)

pub made_mutant : (r : Result Parts AllocError) (x : t.Program) (number : ℕ) → 1 ≤ number → number ≤ count x → IfOk r (IsMade x (Left (number - 1))) → IfOk r (λ q. IsMutant x number (program_of q))
made_mutant (Ok q) x number first last e =
    is_mutant_of x (program_of q) number (plain q (program_changed x (Left (number - 1))) e) first last
made_mutant (Err f) x number first last e = tt

abbrev bare_program : p.Program → p.Tree
bare_program q = record { program = q; bits = 0 }

pub has_mutant : (x : t.Program) (index : ℕ) (q : Parts) (i : Instrumented) → index < count x → IsMade x (Left index) q → i ≡ record { program = q; bits = 0 } → HasMutant x index i
has_mutant x index q i lt e is =
    let same : index + 1 - 1 ≡ index = omega arith in
    subst (λ (j : Instrumented). HasMutant x index j) (sym is) (record {
      mutant = program_changed x (Left index);
      is_mutant = subst (λ (k : ℕ). IsMutant x (index + 1) (program_changed x (Left k))) same (is_mutant x (index + 1) (omega arith) (omega arith));
      bare = ap bare_program e;
    })
