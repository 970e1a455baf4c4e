-- Types, constants and conversions of moved expressions of the typed tree.
use Rattle.std.proofs.Common.{◌≡◌, ℕ, Bool, true, false, not, ◌||◌, if◌then◌else◌, Option, Some, None, is_none, option_map, refl, ap, ◌∙◌}
use Rattle.mc_span.specs.declared.span.Span.{Span}
use Rattle.mc_tree.specs.declared.expressions.unary_operator.UnaryOperator.{UnaryOperator}
use Rattle.mc_tree.specs.declared.expressions.unary_operator.UnaryOperator.TheVariants as unary
use Rattle.mc_tree.specs.declared.expressions.binary_operator.BinaryOperator.{BinaryOperator}
use Rattle.mc_tree.specs.declared.expressions.binary_operator.BinaryOperator.TheVariants as binary
use Rattle.mc_value.specs.declared.int_type.IntType.{IntType}
use Rattle.mc_value.specs.declared.operators.BinOp.{BinOp}
use Rattle.mc_value.specs.declared.operators.UnOp.{UnOp}
use Rattle.mc_value.specs.Conversions.{promoted, common_of}
use Rattle.mc_typed.specs.declared.operators.Operator.{Operator}
use Rattle.mc_typed.specs.Constants.{constant_value}
use Rattle.mc_typed.specs.Sound.{type_of}
use Rattle.mc_typed.specs.Tree.{Place, Expression}
use Rattle.mc_typed.specs.Tree as t
use Rattle.types_faults.specs.declared.fault.FaultKind.TheVariants.{NotConstant}
use Rattle.types_rules.specs.Types.{same_integer}
use Rattle.types_rules.specs.Constants.{value_of_constant, traps, constant_faults}
use Rattle.types_rules.specs.Expressions.{convert_to, promote, common_type, typed_unary, typed_binary, in_common_type, shifting}
use Rattle.reread_law_texts.specs.alike.Moves.{Move, moved_span}
use Rattle.reread_law_places.specs.natural.Moved.{moved_place, moved_number}
use Rattle.reread_law_places.proofs.Natural.Basics.{Shifts, one_if}

pub type_kept : (m : Move) (e : Expression) → type_of (moved_number m e) ≡ type_of e
type_kept m (t.Constant v a span) = refl
type_kept m (t.Read place a) = refl
type_kept m (t.Unary operator a e span) = refl
type_kept m (t.Convert a written e span) = refl
type_kept m (t.Not e span) = refl
type_kept m (t.Binary operator a e f span) = refl
type_kept m (t.Logic operator e f span) = refl
type_kept m (t.Choice e f g a span) = refl
type_kept m (t.Call c a) = refl
type_kept m (t.Input span) = refl

place_span : (m : Move) (place : Place) → t.span_of_place (moved_place m place) ≡ moved_span m (t.span_of_place place)
place_span m (t.Local slot span) = refl
place_span m (t.Static slot span) = refl
place_span m (t.Parameter array stride index span) = refl
place_span m (t.Item array n stride index span) = refl
place_span m (t.Member structure i offset span) = refl

span_kept : (m : Move) (e : Expression) → t.span_of (moved_number m e) ≡ moved_span m (t.span_of e)
span_kept m (t.Constant v a span) = refl
span_kept m (t.Read place a) = place_span m place
span_kept m (t.Unary operator a e span) = refl
span_kept m (t.Convert a written e span) = refl
span_kept m (t.Not e span) = refl
span_kept m (t.Binary operator a e f span) = refl
span_kept m (t.Logic operator e f span) = refl
span_kept m (t.Choice e f g a span) = refl
span_kept m (t.Call (t.call f given result span) a) = refl
span_kept m (t.Input span) = refl

-- ---- constants

pub constant_kept : (m : Move) (e : Expression) → constant_value (moved_number m e) ≡ constant_value e
constant_kept m (t.Constant v a span) = refl
constant_kept m (t.Read place a) = refl
constant_kept m (t.Unary operator a e span) = rw (constant_kept m e)
constant_kept m (t.Convert a written e span) = rw (constant_kept m e)
constant_kept m (t.Not e span) = rw (constant_kept m e)
constant_kept m (t.Binary operator a e f span) = rw (constant_kept m e, constant_kept m f)
constant_kept m (t.Logic operator e f span) = rw (constant_kept m e, constant_kept m f)
constant_kept m (t.Choice e f g a span) = rw (constant_kept m e, constant_kept m f, constant_kept m g)
constant_kept m (t.Call c a) = refl
constant_kept m (t.Input span) = refl

pub value_constant : (m : Move) (b : Bool) (e : Option Expression) → value_of_constant b (option_map (moved_number m) e) ≡ value_of_constant b e
value_constant m true None = refl
value_constant m true (Some e) = constant_kept m e
value_constant m false e = refl

traps_kept : (m : Move) (e : Option Expression) → traps (option_map (moved_number m) e) ≡ traps e
traps_kept m None = refl
traps_kept m (Some e) = ap is_none (constant_kept m e)

-- ---- conversions

pub convert_moved : (m : Move) (a : IntType) (e : Expression) → convert_to a (moved_number m e) ≡ moved_number m (convert_to a e)
convert_moved m a e =
    ap (λ b. if same_integer b a then moved_number m e else t.Convert a false (moved_number m e) (t.span_of (moved_number m e))) (type_kept m e)
    ∙ ap (λ span. if same_integer (type_of e) a then moved_number m e else t.Convert a false (moved_number m e) span) (span_kept m e)
    ∙ by_test (same_integer (type_of e) a)
  where
    by_test : (b : Bool) → (if b then moved_number m e else t.Convert a false (moved_number m e) (moved_span m (t.span_of e))) ≡ moved_number m (if b then e else t.Convert a false e (t.span_of e))
    by_test true = refl
    by_test false = refl

pub promote_moved : (m : Move) (e : Expression) → promote (moved_number m e) ≡ moved_number m (promote e)
promote_moved m e = ap (λ a. convert_to (promoted a) (moved_number m e)) (type_kept m e) ∙ convert_moved m (promoted (type_of e)) e

pub common_kept : (m : Move) (e f : Expression) → common_type (moved_number m e) (moved_number m f) ≡ common_type e f
common_kept m e f = ap (λ a. common_of a (type_of (moved_number m f))) (type_kept m e) ∙ ap (λ b. common_of (type_of e) b) (type_kept m f)

-- ---- operators

promoted_type : (m : Move) (e : Expression) → type_of (promote (moved_number m e)) ≡ type_of (promote e)
promoted_type m e = ap type_of (promote_moved m e) ∙ type_kept m (promote e)

promoting_moved : (m : Move) (operator : UnOp) (span : Span) (e : Expression)
    → t.Unary operator (type_of (promote (moved_number m e))) (promote (moved_number m e)) (moved_span m span) ≡ moved_number m (t.Unary operator (type_of (promote e)) (promote e) span)
promoting_moved m operator span e =
    ap (λ a. t.Unary operator a (promote (moved_number m e)) (moved_span m span)) (promoted_type m e)
    ∙ ap (λ f. t.Unary operator (type_of (promote e)) f (moved_span m span)) (promote_moved m e)

pub unary_moved : (m : Move) (operator : UnaryOperator) (span : Span) (e : Expression) → typed_unary operator (moved_span m span) (moved_number m e) ≡ option_map (moved_number m) (typed_unary operator span e)
unary_moved m unary.Plus span e = ap Some (promoting_moved m _ span e)
unary_moved m unary.Minus span e = ap Some (promoting_moved m _ span e)
unary_moved m unary.Complement span e = ap Some (promoting_moved m _ span e)
unary_moved m unary.Not span e = refl
unary_moved m unary.Dereference span e = refl
unary_moved m unary.Address span e = refl

common_moved : (m : Move) (operator : BinOp) (span : Span) (e f : Expression) → in_common_type operator (moved_span m span) (moved_number m e) (moved_number m f) ≡ moved_number m (in_common_type operator span e f)
common_moved m operator span e f = rw (common_kept m e f, convert_moved m (common_type e f) e, convert_moved m (common_type e f) f)

shifting_moved : (m : Move) (operator : Operator) (span : Span) (e f : Expression) → shifting operator (moved_span m span) (moved_number m e) (moved_number m f) ≡ moved_number m (shifting operator span e f)
shifting_moved m operator span e f = rw (promoted_type m e, promote_moved m e, promote_moved m f)

pub binary_moved : (m : Move) (operator : BinaryOperator) (span : Span) (e f : Expression) → typed_binary operator (moved_span m span) (moved_number m e) (moved_number m f) ≡ moved_number m (typed_binary operator span e f)
binary_moved m binary.Multiply span e f = common_moved m _ span e f
binary_moved m binary.Divide span e f = common_moved m _ span e f
binary_moved m binary.Remainder span e f = common_moved m _ span e f
binary_moved m binary.Add span e f = common_moved m _ span e f
binary_moved m binary.Subtract span e f = common_moved m _ span e f
binary_moved m binary.ShiftLeft span e f = shifting_moved m _ span e f
binary_moved m binary.ShiftRight span e f = shifting_moved m _ span e f
binary_moved m binary.Less span e f = common_moved m _ span e f
binary_moved m binary.Greater span e f = common_moved m _ span e f
binary_moved m binary.LessOrEqual span e f = common_moved m _ span e f
binary_moved m binary.GreaterOrEqual span e f = common_moved m _ span e f
binary_moved m binary.Equal span e f = common_moved m _ span e f
binary_moved m binary.Unequal span e f = common_moved m _ span e f
binary_moved m binary.BitAnd span e f = common_moved m _ span e f
binary_moved m binary.BitXor span e f = common_moved m _ span e f
binary_moved m binary.BitOr span e f = common_moved m _ span e f
binary_moved m binary.And span e f = refl
binary_moved m binary.Or span e f = refl

-- ---- faults of constants

pub constant_faults_go : (m : Move) (at : ℕ) {b c : Bool} {e : Option Expression} (f : Option Expression) → b ≡ c → e ≡ option_map (moved_number m) f → Shifts m (constant_faults (m.start at) b e) (constant_faults at c f)
constant_faults_go m at {c = c} {e = e} f p q =
    one_if m NotConstant at (ap (λ x. not x || traps e) p ∙ ap (λ x. not c || x) (ap traps q ∙ traps_kept m f))
