-- Places that are numbered from 0 on.
use Rattle.std.specs.Prelude.{ℕ}
use Rattle.mc_oblige.specs.declared.obligation.ObligationId.{ObligationId}
use Rattle.mc_oblige.specs.declared.obligation.ObligationId.TheVariants.{Entry, Exit, Statement, Label, Condition}
use Rattle.mc_oblige.specs.declared.places.Kind.{Kind}
use Rattle.mc_oblige.specs.declared.places.Kind.TheVariants as kind

abbrev pub id_of : Kind → ℕ → ObligationId
id_of kind.Entry = Entry
id_of kind.Exit = Exit
id_of kind.Statement = Statement
id_of kind.Label = Label
id_of (kind.Condition d) = Condition d
