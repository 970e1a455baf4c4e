-- What types of the program stand for.
use Rattle.std.specs.Prelude.{ℕ, List, [], ◌∷◌, map, Option, Some, None}
use Rattle.types_rules.specs.Types as types
use Rattle.types_scopes.specs.declared.types.Base.{Base}
use Rattle.types_scopes.specs.declared.types.Base.TheVariants as base
use Rattle.types_scopes.specs.declared.types.CType.{CType}
use Rattle.types_scopes.specs.declared.types.ParameterKind.{ParameterKind}
use Rattle.types_scopes.specs.declared.types.ParameterKind.TheVariants as kind
use Rattle.types_scopes.specs.declared.types.Signature.{Signature}

abbrev pub base_of : Base → types.Base
base_of base.Void = types.Void
base_of (base.Integer a) = types.Integer a
base_of (base.Tagged k) = types.Tagged k

abbrev pub type_of : CType → types.CType
type_of u = record { base = base_of u.base; is_const = u.is_const; lengths = u.lengths.items }

abbrev pub kind_of : ParameterKind → types.ParameterKind
kind_of (kind.Value b) = types.ByValue (base_of b)
kind_of (kind.Array u) = types.ByArray (type_of u)

abbrev pub signature_of : Signature → types.Signature
signature_of f =
    record { result = base_of f.result; parameters = map kind_of f.parameters.items }

-- one length, where there is one
abbrev pub length_list : Option ℕ → List ℕ
length_list None = []
length_list (Some n) = n ∷ []
