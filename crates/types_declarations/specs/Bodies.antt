-- Function definitions in two halves: before the statements of their bodies, and after them (C17
-- 6.9.1).
use Rattle.std.specs.Prelude.{◌≡◌, ℕ, List, [], ◌∷◌, ◌++◌, length, Option}
use Rattle.mc_span.specs.declared.span.Span.{Span}
use Rattle.mc_tree.specs.Tree.{Name, Parameters}
use Rattle.mc_typed.specs.Tree.{Statements}
use Rattle.mc_typed.specs.Tree as typed
use Rattle.types_faults.specs.declared.fault.Fault.{Fault}
use Rattle.types_rules.specs.Types.{CType, ParameterKind, Signature}
use Rattle.types_rules.specs.Scopes.{Scope, meaning_here, body_scope}
use Rattle.types_rules.specs.Values.{Judged, lift2}
use Rattle.types_rules.specs.Limits.{frame_faults}
use Rattle.types_rules.specs.Declarators.{Listed}
use Rattle.types_rules.specs.Declarations.{has_body, result_of, repeated_faults, function_faults, signature_listed}
use Rattle.types_rules.specs.Typing.{names_faults, is_incomplete, definition_faults, function_from, with_function}
use Rattle.types_scopes.specs.Blocks.{Around, function_left_by}
use Rattle.types_declarations.specs.declared.definitions.Body.{Body}
use Rattle.types_declarations.specs.declared.definitions.Heading.{Heading}
use Rattle.types_declarations.specs.Declarations.{meaning_of_earlier, signature_in}
use Rattle.types_faults.specs.Kept.{listed, least}

-- what is known of a definition before its parameters, in the scope before them
pub record IsHeading (h : Heading) (name : Name) (gives : Option CType) (s : Scope) : Type 0 where
  pub repeated : (f : Option Signature) (at : ℕ)
      → repeated_faults (meaning_of_earlier h.before) f at
      ≡ repeated_faults (meaning_here name s) f at
  pub body : has_body (meaning_of_earlier h.before) ≡ has_body (meaning_here name s)
  pub incomplete : h.incomplete ≡ is_incomplete s.structures (result_of gives)

-- its faults so far, its type where it has one, and the scope of its body
pub record BodyBegun : Type 0 where
  pub faults : List Fault
  pub signature : Option Signature
  pub scope : Scope

abbrev pub squeezed_body : BodyBegun → BodyBegun
squeezed_body x = record x { faults = least x.faults }

abbrev pub body_of : Body → Scope → BodyBegun
body_of b s =
    record { faults = listed b.fault; signature = signature_in b.signature; scope = s }

-- from what is found of its specifiers and of its parameters
abbrev pub definition_begun : Name → Parameters → Judged CType → Listed (Option ParameterKind)
    → BodyBegun
definition_begun name parameters x y =
    let f = signature_listed x.value y in
    record {
      faults = x.faults ++ (y.faults ++ (names_faults parameters
          ++ (repeated_faults (meaning_here name x.scope) f name.span.start
          ++ (function_faults name x.value (length y.items) f
          ++ definition_faults name (result_of x.value) x.scope))));
      signature = f;
      scope = body_scope x.scope (with_function name f x.scope) y.scope;
    }

-- the function in a list, where its type is known and its body has no fault
abbrev pub listed_function : Name → Span → Option Signature → Option Statements → Scope
    → Option (List typed.Function)
listed_function name span f body s = lift2 (λ g b. function_from name span s g b ∷ []) f body

abbrev pub definition_ended : Name → Span → BodyBegun → Around → Judged Statements
    → Judged (List typed.Function)
definition_ended name span b file z = record {
  faults = b.faults ++ (z.faults
      ++ frame_faults z.scope.frame (length z.scope.objects) name.span.start);
  value = listed_function name span b.signature z.value z.scope;
  scope = function_left_by file z.scope;
}
