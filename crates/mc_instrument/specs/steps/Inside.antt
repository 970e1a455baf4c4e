-- An expression with the probes of its parts, and those that stand round it.
use Rattle.std.specs.Prelude.{ℕ, ◌+◌}
use Rattle.mc_typed.specs.declared.probes.Probe.TheVariants as probe
use Rattle.mc_typed.specs.Tree as typed
use Rattle.decide_rules.specs.declared.role.Role.TheVariants.{Controlling, Plain}
use Rattle.decide_rules.specs.Nodes.{Node, Constant, Not, Logic, Expression, Whole}
use Rattle.decide_rules.specs.Nodes as nodes
use Rattle.decide_rules.specs.Counts.{roots, roots_in}
use Rattle.mc_probe.specs.Tree as probed
use Rattle.mc_probe.specs.Maps.{Map}
use Rattle.mc_probe.specs.Table.{Loose, InTree, base_of, increment_of, mapped, put, put_place, put_call, plain_roots, test_roots}

module _ (m : Map) (first : ℕ) where
  -- the operands of an operator that is no root stand loose
  abbrev pub inside : ℕ → typed.Expression → probed.Expression
  inside d (typed.Constant v a span) = probed.Constant v a span
  inside d (typed.Read place a) = probed.Read (put_place m first d place) a
  inside d (typed.Unary operator a e span) = probed.Unary operator a
      (put m first (Loose Plain) d e) span
  inside d (typed.Convert a written e span) = probed.Convert a written
      (put m first (Loose Plain) d e) span
  inside d (typed.Not e span) = probed.Not (put m first (Loose Plain) d e) span
  inside d (typed.Binary operator a e f span) =
      probed.Binary operator a (put m first (Loose Plain) d e)
      (put m first (Loose Plain) (d + plain_roots m first e) f) span
  inside d (typed.Logic operator e f span) =
      probed.Logic operator (put m first (Loose Plain) d e)
      (put m first (Loose Plain) (d + plain_roots m first e) f) span
  inside d (typed.Choice e f g a span) =
      probed.Choice (put m first (Loose Controlling) d e)
      (put m first (Loose Plain) (d + test_roots m first e) f)
      (put m first (Loose Plain) (d + test_roots m first e + plain_roots m first f) g) a span
  inside d (typed.Call k a) = probed.Call (put_call m first d k) a
  inside d (typed.Input span) = probed.Input span

  -- the root of a decision
  abbrev pub root : ℕ → typed.Expression → probed.Expression
  root d e =
      probed.Probe (probe.Decision d (base_of (mapped m first d)))
      (put m first (InTree d 0) (d + 1) e)

  -- condition c of decision k
  abbrev pub condition : ℕ → ℕ → ℕ → typed.Expression → probed.Expression
  condition k c d e =
      probed.Probe (probe.Condition k 0 (increment_of (mapped m first k) c)) (inside d e)

-- how many roots stand in the parts
abbrev pub inner_roots : Node → ℕ
inner_roots (Constant span) = 0
inner_roots (Not a span) = roots Plain a
inner_roots (Logic operator a b span) = roots Plain a + roots Plain b
inner_roots (Expression top ps span) = roots_in ps
inner_roots (Whole ps) = roots_in ps
