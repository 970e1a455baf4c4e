-- What is found of declarations by the program, as in the definitions.
use Rattle.std.specs.Prelude.{ℕ, ℤ, Bool, true, false, List, [], ◌∷◌, ◌++◌, map, Option, Some, None, option_map, option_and_then, Vec}
use Rattle.std.specs.declared.alloc.Global.{Global}
use Rattle.std.specs.declared.sync.Arc.{Arc}
use Rattle.mc_tree.specs.declared.declarations.array_length.ArrayLength.{ArrayLength}
use Rattle.mc_tree.specs.Tree.{ArrayLengths, Specifier}
use Rattle.mc_tree.specs.Tree as tree
use Rattle.mc_tree.specs.Views.{array_length_of, lengths_from}
use Rattle.mc_typed.specs.declared.functions.Function.{Function}
use Rattle.mc_typed.specs.declared.initializers.Initializer.{Initializer}
use Rattle.mc_typed.specs.Tree as typed
use Rattle.mc_typed.specs.Views.{function_of, initializer_of}
use Rattle.types_faults.specs.declared.fault.Fault.{Fault}
use Rattle.types_rules.specs.Types as types
use Rattle.types_rules.specs.Scopes.{Meaning, Scope}
use Rattle.types_rules.specs.Scopes as scopes
use Rattle.types_rules.specs.Values as values
use Rattle.types_rules.specs.Constants.{constant_found}
use Rattle.types_rules.specs.Declarators.{Listed, Opened, length_of, length_faults}
use Rattle.types_rules.specs.Declarations as declarations
use Rattle.types_scopes.specs.Listed.{listed_of}
use Rattle.name_table.specs.Tables.{Named}
use Rattle.types_scopes.specs.declared.member.Member.{Member}
use Rattle.types_scopes.specs.declared.types.ParameterKind.{ParameterKind}
use Rattle.types_scopes.specs.declared.types.Signature.{Signature}
use Rattle.types_scopes.specs.Types.{kind_of, signature_of}
use Rattle.types_scopes.specs.declared.found.Judged.{Judged}
use Rattle.types_declarations.specs.declared.earlier.Earlier.{Earlier}
use Rattle.types_declarations.specs.declared.earlier.Earlier.TheVariants as earlier
use Rattle.types_declarations.specs.declared.parameters.Parameters.{Parameters}
use Rattle.types_declarations.specs.declared.storage.Storage.{Storage}
use Rattle.types_declarations.specs.declared.storage.Storage.TheVariants as storage
use Rattle.types_declarations.specs.declared.structures.Opened as opened
use Rattle.types_faults.specs.Kept.{listed, least}

-- ---- numbers, lengths and lists

abbrev pub number_judged : Judged ℤ → Scope → values.Judged ℤ
number_judged x s = record { faults = listed x.fault; value = x.value; scope = s }

abbrev pub lengths_in : Vec ℕ Global → List ℕ
lengths_in v = v.items

-- the lengths of a declarator, as they are written
abbrev pub written : List ArrayLength → ArrayLengths
written lengths = lengths_from (map array_length_of lengths)

-- lengths, and one more after them
abbrev pub with_length : List ℕ → ℕ → List ℕ
with_length ns n = ns ++ (n ∷ [])

abbrev pub length_then : values.Judged (List ℕ) → ℕ → values.Found → values.Judged (List ℕ)
length_then x at y = record {
  faults = x.faults ++ (y.faults ++ length_faults at y.constant (values.number_found y));
  value = values.lift2 with_length x.value (option_and_then length_of (constant_found y));
  scope = y.scope;
}

-- an initializer that may be absent
abbrev pub optional_of : Option Initializer → Option typed.Initializer
optional_of i = option_map initializer_of i

abbrev pub functions_of : Vec Function Global → List typed.Function
functions_of v = map function_of v.items

-- ---- structures and members

abbrev pub opened_of : opened.Opened → Scope → Opened
opened_of o s = record { faults = listed o.fault; number = o.number; scope = s }

abbrev pub listed_members : Option Fault → List (Named Member) → Scope → Listed types.Member
listed_members f members s =
    record { faults = listed f; items = map listed_of members; scope = s }

abbrev pub squeezed_listed : {A : Type 0} → Listed A → Listed A
squeezed_listed x = record x { faults = least x.faults }

-- ---- parameters and functions

abbrev pub kind_found : Option ParameterKind → Option types.ParameterKind
kind_found k = option_map kind_of k

abbrev pub kinds_of : Vec ParameterKind Global → List types.ParameterKind
kinds_of v = map kind_of v.items

abbrev pub signature_in : Option (Arc Signature Global) → Option types.Signature
signature_in f = option_map (λ g. signature_of g.value) f

abbrev pub listed_parameters : Parameters → Scope → Listed (Option types.ParameterKind)
listed_parameters p s =
    record { faults = listed p.fault; items = map kind_found p.kinds.items; scope = s }

-- a meaning that counts as much, where a function is declared
abbrev pub meaning_of_earlier : Earlier → Option Meaning
meaning_of_earlier earlier.Missing = None
meaning_of_earlier (earlier.Function signature has_body) =
    Some (scopes.Function (signature_in signature) has_body)
meaning_of_earlier earlier.Other = Some (scopes.Typedef None)

-- ---- storage

abbrev pub storage_from : Storage → declarations.Storage
storage_from storage.Typedef = declarations.TypedefStorage
storage_from storage.Static = declarations.StaticStorage
storage_from storage.Automatic = declarations.AutomaticStorage

abbrev pub is_structure_tag : Specifier → Bool
is_structure_tag (tree.StructureTag tag span) = true
is_structure_tag _ = false
