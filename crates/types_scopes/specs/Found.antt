-- What is found by the program, as what is found of a node.
use Rattle.std.specs.Prelude.{option_map}
use Rattle.mc_typed.specs.Views.{expression_of, place_of, call_of, effect_of}
use Rattle.types_rules.specs.Scopes.{Scope}
use Rattle.types_rules.specs.Values as values
use Rattle.types_scopes.specs.Types.{base_of, type_of}
use Rattle.types_scopes.specs.declared.found.Found.{Found}
use Rattle.types_scopes.specs.declared.found.Judged.{Judged}
use Rattle.types_scopes.specs.declared.kind.Kind.{Kind}
use Rattle.types_scopes.specs.declared.kind.Kind.TheVariants as kind
use Rattle.types_scopes.specs.declared.parts.ValueParts.{ValueParts}
use Rattle.types_scopes.specs.declared.parts.ValueParts.TheVariants as parts
use Rattle.types_scopes.specs.declared.value.Value.{Value}
use Rattle.types_scopes.specs.declared.value.Value.TheVariants as value
use Rattle.types_faults.specs.Kept.{listed}

abbrev pub value_of : Value → values.Value
value_of (value.Number e) = values.Number (expression_of e)
value_of (value.Stored place u) = values.Stored (place_of place) (type_of u)
value_of (value.Borrowed array element span) = values.Borrowed array (type_of element) span
value_of (value.Returned c k) = values.Returned (call_of c) k
value_of (value.Done effect) = values.Done (effect_of effect.value)
value_of (value.Assigned effect) = values.Assigned (effect_of effect.value)
value_of value.Designator = values.Designator

abbrev pub parts_of : ValueParts → values.Value
parts_of (parts.Number e) = values.Number (expression_of e)
parts_of (parts.Stored place u) = values.Stored (place_of place) (type_of u)
parts_of (parts.Borrowed array element span) = values.Borrowed array (type_of element) span
parts_of (parts.Returned c k) = values.Returned (call_of c) k
parts_of (parts.Done effect) = values.Done (effect_of effect.value)
parts_of (parts.Assigned effect) = values.Assigned (effect_of effect.value)
parts_of parts.Designator = values.Designator

abbrev pub kind_of : Kind → values.Kind
kind_of kind.Void = values.IsVoid
kind_of kind.Assignment = values.IsAssignment
kind_of kind.Integer = values.IsInteger
kind_of (kind.Structure k) = values.IsStructure k
kind_of (kind.Array base is_const lengths) =
    values.IsArray (record { base = base_of base; is_const = is_const; lengths = lengths.now })
kind_of kind.Function = values.IsFunction

-- with the scope after it
abbrev pub found_of : Found → Scope → values.Found
found_of x s = record {
  faults = listed x.fault;
  value = option_map value_of x.value;
  place = x.place;
  constant = x.constant;
  scope = s;
}

abbrev pub judged_of : {A B : Type 0} → (A → B) → Judged A → Scope → values.Judged B
judged_of f x s = record { faults = listed x.fault; value = option_map f x.value; scope = s }
