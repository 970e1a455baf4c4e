-- What the program counts of specifiers, and what it tests.
use Rattle.std.specs.Prelude.{ℕ, ◌+◌, Bool, ◌&&◌, ◌||◌, nat_eq, nat_le, if◌then◌else◌, List, [], ◌∷◌, Option, Some, None}
use Rattle.mc_span.specs.declared.span.Span.{Span}
use Rattle.mc_tree.specs.Tree.{Specifier, Specifiers, span_of_specifier}
use Rattle.mc_grammar.specs.Counts.{for_item, for_function, for_local, for_type}
use Rattle.mc_grammar.specs.Counts as spec
use Rattle.parse_expressions.specs.declared.allowed.Allowed.{Allowed}
use Rattle.parse_expressions.specs.declared.allowed.Allowed.TheVariants as allowed
use Rattle.parse_expressions.specs.declared.allowed.Counts.{Counts}

abbrev pub counts_of : Counts → spec.Counts
counts_of c = record {
  typedef = c.typedefs;
  static = c.statics;
  extern = c.externs;
  void = c.voids;
  bool = c.bools;
  char = c.chars;
  short = c.shorts;
  int = c.ints;
  long = c.longs;
  signs = c.signs;
  others = c.others;
}

-- how many there are in all
abbrev pub total : spec.Counts → ℕ
total c =
    c.typedef + c.static + c.extern + c.void + c.bool + c.char + c.short + c.int + c.long + c.signs
    + c.others

-- which specifiers may begin it
abbrev pub test_of : Allowed → Specifiers → Bool
test_of allowed.Item = for_item
test_of allowed.Function = for_function
test_of allowed.Local = for_local
test_of allowed.Type = for_type

-- which words that are no types may stand in it
abbrev pub stores : Allowed → spec.Counts → Bool
stores allowed.Item c = nat_le (c.typedef + c.static + c.extern) 1
stores allowed.Function c = nat_le (c.typedef + c.static + c.extern) 1 && nat_eq c.typedef 0
stores allowed.Local c = nat_le (c.typedef + c.static + c.extern) 1
    && nat_eq (c.typedef + c.extern) 0
stores allowed.Type c = nat_eq (c.typedef + c.static + c.extern) 0

-- the words of types
abbrev pub types : spec.Counts → ℕ
types c = c.others + c.void + (c.bool + c.char + c.short + c.int + c.long + c.signs)

-- Others can follow: what makes one type is one also without some of its words.
abbrev pub can_go_on : Allowed → spec.Counts → Bool
can_go_on a c = stores a c && (nat_eq (types c) 0 || spec.has_one_type c)

-- where the first specifier stands after which none can follow, after so many
abbrev pub refused_in : Allowed → spec.Counts → List Specifier → Option Span
refused_in a c [] = None
refused_in a c (s ∷ rest) = if can_go_on a (spec.with_specifier s c)
    then refused_in a (spec.with_specifier s c) rest
    else Some (span_of_specifier s)
