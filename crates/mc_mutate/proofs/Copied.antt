-- What answers a search that is over, or a conversion, of a tree without probes.
use Rattle.std.proofs.Common.{◌≡◌, ◌∙◌, refl, Result, Ok, Err, IfOk}
use Rattle.std.specs.declared.alloc.AllocError.{AllocError}
use Rattle.mc_span.specs.declared.span.Span.{Span}
use Rattle.mc_value.specs.declared.int_type.IntType.{IntType}
use Rattle.mc_value.specs.declared.int_type.IntType.TheVariants.{Int}
use Rattle.mc_typed.specs.declared.expressions.Expression.{Expression}
use Rattle.mc_typed.specs.Tree as t
use Rattle.mc_probe.specs.Views as probed
use Rattle.mc_probe.specs.Bare.{bare_expression}
use Rattle.mc_mutate.specs.Changes.{converted_from_int}
use Rattle.mc_mutate.specs.steps.Bared.{bare_converted}

pub made_as : (r : Result Expression AllocError) (x y : t.Expression) → x ≡ y → IfOk r (λ c. probed.expression_of c ≡ bare_expression x) → IfOk r (λ c. probed.expression_of c ≡ bare_expression y)
made_as (Ok c) x y e h = h ∙ (λ i. bare_expression (e i))
made_as (Err f) x y e h = tt

pub converted_bare : (a : IntType) (x : t.Expression) (span : Span) → bare_expression (converted_from_int a span x) ≡ bare_converted a (bare_expression x) span
converted_bare Int x span = refl
converted_bare _ x span = refl
