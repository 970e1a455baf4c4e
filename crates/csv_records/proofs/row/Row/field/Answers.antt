use Rattle.std.proofs.Common.{◌≡◌, ℕ, List, [], ◌∷◌, zero, suc, None, get_or, refl, sym}
use Rattle.csv.specs.Records.{field_at, fields_of}
use Rattle.csv.proofs.RecordFacts.{field-get}
use Rattle.csv_records.proofs.row.Row.field.Goals as goal

field-missing : (fields : List (List ℕ)) (at : ℕ) → field_at fields at ≡ None → get_or fields at [] ≡ []
unfolding field_at
field-missing [] at is = refl
field-missing (f ∷ fs) zero is = absurd (cc is)
field-missing (f ∷ fs) (suc at) is = field-missing fs at is

pub returns-in-Some : goal.returns-in-Some
returns-in-Some c =
    let fields = fields_of c.self.inside.fields in
    rw (← c.self.view_is) (sym (field-get fields c.args.at c.in-Some.text.now (sym c.in-Some.ensures.value)))

pub returns-in-None : goal.returns-in-None
returns-in-None c =
    rw (← c.self.view_is) (sym (field-missing (fields_of c.self.inside.fields) c.args.at (sym c.in-None.ensures.value)))
