-- Which specifiers may stand together, by their types and by the other words.
use Rattle.std.proofs.Common.{◌≡◌, ◌+◌, Bool, true, false, ◌&&◌, nat_eq, nat_le, refl}
use Rattle.mc_tree.specs.Tree.{Specifiers}
use Rattle.mc_grammar.specs.Counts.{counts, has_one_type, storages}
use Rattle.parse_expressions.specs.declared.allowed.Allowed.{Allowed}
use Rattle.parse_expressions.specs.declared.allowed.Allowed.TheVariants as allowed
use Rattle.parse_expressions.specs.Counted.{stores, test_of}

and_by : (a b c : Bool) → (a && b && c) ≡ (a && (b && c))
and_by true b c = refl
and_by false b c = refl

pub test_by : (a : Allowed) (s : Specifiers) → test_of a s ≡ (has_one_type (counts s) && stores a (counts s))
test_by allowed.Item s = refl
test_by allowed.Function s = and_by (has_one_type (counts s)) (nat_le (storages s) 1) (nat_eq (counts s).typedef 0)
test_by allowed.Local s = and_by (has_one_type (counts s)) (nat_le (storages s) 1) (nat_eq ((counts s).typedef + (counts s).extern) 0)
test_by allowed.Type s = refl
