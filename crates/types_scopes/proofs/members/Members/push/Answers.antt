use Rattle.std.proofs.Common.{◌≡◌, ◌+◌, ◌∷◌, ◌++◌, [], max, refl, sym, subst, rules}
use Rattle.types_rules.specs.Profile.{counted}
use Rattle.name_table.specs.Tables.{Named}
use Rattle.types_scopes.specs.Listed.{AreLaid}
use Rattle.types_scopes.specs.declared.member.Member.{Member}
use Rattle.types_scopes.proofs.Laid.{laid_more}
use Rattle.types_scopes.proofs.members.Members.push.Goals as goal

pub invariant_of-self-2 : goal.invariant_of-self-2
invariant_of-self-2 c =
    let old = c.self.inside.table in
    let meaning : Member = record { of = c.args.of; layout = c.args.layout; offset = c.self.inside.cells } in
    let m : Named Member = record { name = c.args.name.now; meaning = meaning } in
    let total : c.counted_sum-self-inside.result ≡ counted (c.self.inside.cells + c.args.cells) = c.counted_sum-self-inside.ensures in
    let deep : c.max-self-inside.result ≡ max c.self.inside.nesting c.args.nesting = search rules in
    let h = laid_more old m c.self.inside.cells c.self.inside.nesting c.args.cells c.args.nesting c.self.invariant refl c.requires.cells c.requires.nesting in
    subst (λ all. AreLaid all c.counted_sum-self-inside.result c.max-self-inside.result) (sym c.in_ok-push.ensures.ok)
    (subst (λ n. AreLaid (old ++ (m ∷ [])) n c.max-self-inside.result) (sym total)
    (subst (λ n. AreLaid (old ++ (m ∷ [])) (counted (c.self.inside.cells + c.args.cells)) n) (sym deep) h))
