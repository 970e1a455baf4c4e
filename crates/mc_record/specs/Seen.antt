-- What clauses see of records, and of parts of a text.
use Rattle.std.specs.Prelude.{◌≡◌, ℕ, Bool, List, ◌++◌, Option, option_map, Result, Ok, Err, Vec}
use Rattle.std.specs.List.{list_any}
use Rattle.std.specs.Str.{bytes_eq}
use Rattle.std.specs.declared.alloc.Global.{Global}
use Rattle.std.specs.BTreeMap.{BTreeMap, get_by}
use Rattle.std.specs.BTreeSet.{BTreeSet, contains_by}
use Rattle.std.specs.Cmp.Lexicographic.{slice_cmp}
use Rattle.std.specs.Ordering.{nat_cmp}
use denote.Ref.{Bor}
use Rattle.mc_typed.specs.declared.plans.TestState.{TestState}
use Rattle.mc_record.specs.Kept.{Kept}
use Rattle.mc_record.specs.Tests.{TestsRead}
use Rattle.mc_record.specs.declared.fault.RecordFault.{RecordFault}
use Rattle.mc_record.specs.declared.kept.Record as code
use Rattle.mc_record.specs.declared.tests.TestLine.{TestLine}

abbrev pub kept_of : code.Record → Kept
kept_of r = record {
  digest = r.digest;
  names = r.names.items;
  states = r.states.items;
  matrix = r.matrix;
}

-- ---- parts of a text

abbrev pub seen_rest : Option (Bor (List ℕ)) → Option (List ℕ)
seen_rest found = option_map (λ rest. rest.now) found

abbrev pub seen_parts : Option (Bor (List ℕ) × Bor (List ℕ)) → Option (List ℕ × List ℕ)
seen_parts found = option_map (λ p. (p.0.now, p.1.now)) found

abbrev pub seen_number : Option (ℕ × Bor (List ℕ)) → Option (ℕ × List ℕ)
seen_number found = option_map (λ p. (p.0, p.1.now)) found

abbrev pub rest_read : Result (Bor (List ℕ)) RecordFault → Result (List ℕ) RecordFault
rest_read (Ok rest) = Ok rest.now
rest_read (Err fault) = Err fault

abbrev pub number_read : Result (ℕ × Bor (List ℕ)) RecordFault → Result (ℕ × List ℕ) RecordFault
number_read (Ok p) = Ok (p.0, p.1.now)
number_read (Err fault) = Err fault

-- some words, and those that were found after them
abbrev pub onto : List ℕ → Option (List ℕ × List ℕ) → Option (List ℕ × List ℕ)
onto words found = option_map (λ p. (words ++ p.0, p.1)) found

-- ---- tests

abbrev pub seen_test : Option TestLine → Option (List ℕ × TestState × List ℕ)
seen_test found = option_map (λ t. (t.name.now, t.state, t.rest.now)) found

abbrev pub has_name : BTreeSet (Bor (List ℕ)) → List ℕ → Bool
has_name seen q = contains_by (λ k. slice_cmp nat_cmp q k.now) seen

-- the set has these names
abbrev pub AreSeen : List (List ℕ) → BTreeSet (Bor (List ℕ)) → Type 0
AreSeen names seen = (q : List ℕ) → has_name seen q ≡ list_any (bytes_eq q) names

abbrev pub tests_of : Vec (List ℕ) Global → Vec TestState Global → List ℕ → TestsRead
tests_of names states rest = record { names = names.items; states = states.items; rest = rest }

-- the place that a map has for a name
abbrev pub place_named : BTreeMap (Bor (List ℕ)) ℕ → List ℕ → Option ℕ
place_named places q = get_by (λ k. slice_cmp nat_cmp q k.now) places
