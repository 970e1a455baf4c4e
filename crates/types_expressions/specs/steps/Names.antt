-- A name, by what it means.
use Rattle.std.specs.Prelude.{Option, option_and_then}
use Rattle.mc_span.specs.declared.span.Span.{Span}
use Rattle.types_rules.specs.Scopes.{Meaning, Scope}
use Rattle.types_rules.specs.Values.{Found}
use Rattle.types_rules.specs.Expressions.{name_faults, value_of_name, is_object, is_enumerator}

-- `name_found name s` is `named_found name.span (meaning_of name s) s`
abbrev pub named_found : Span → Option Meaning → Scope → Found
named_found span meaning s = record {
  faults = name_faults meaning span.start;
  value = option_and_then (value_of_name span) meaning;
  place = is_object meaning;
  constant = is_enumerator meaning;
  scope = s;
}
