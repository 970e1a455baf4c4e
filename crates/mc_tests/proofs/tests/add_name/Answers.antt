use Rattle.std.proofs.Common.{◌≡◌, rules}
use Rattle.mc_tests.proofs.Names.{key_added, known}
use Rattle.mc_tests.proofs.tests.add_name.Goals as goal

pub returns-clause-new : goal.returns-clause-new
returns-clause-new c =
    let key = c.in_ok-to_vec.field-0 in
    let items : key.items ≡ c.args.name.now = search rules in
    known c.args.name.now (c.hash.result, key) c.hash.ensures items c.args.names.now c.in_ok-is_new.is_new c.in_ok-is_new.ensures.added

pub returns-clause-names : goal.returns-clause-names
returns-clause-names c =
    let key = c.in_ok-to_vec.field-0 in
    let items : key.items ≡ c.args.name.now = search rules in
    key_added c.args.name.now (c.hash.result, key) c.hash.ensures items c.args.names.now c.insert.new.self c.in_ok-is_new.ensures.updates
