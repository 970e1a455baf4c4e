-- The readers of declarators and of specifiers, over what reads their parts: trees of fewer than
-- `room` levels. The list of a structure or an enumeration is a part of its specifier.
use Rattle.std.specs.Prelude.{ℕ, zero, suc, Bool, true, false, ◌||◌, nat_le, if◌then◌else◌, List, [], ◌∷◌, ◌++◌, Option, Some, None, codes}
use Rattle.mc_span.specs.declared.span.Span.{Span}
use Rattle.mc_tree.specs.declared.declarations.specifier_word.SpecifierWord.{SpecifierWord}
use Rattle.mc_tree.specs.Tree.{Name, ArrayLengths, Declarator, Enumerator, Parameter, Parameters, Specifier, Specifiers, StructMember, span_of_parameters}
use Rattle.mc_tree.specs.Tree as tree
use Rattle.mc_tree.specs.Views.{declarators_from, enumerators_from, lengths_from, members_from, parameters_from, specifiers_from}
use Rattle.mc_grammar.specs.Words.{Lexeme, is_keyword, is_name, is_tag, next_is, sees_specifiers, sees_void_alone, go_on}
use Rattle.mc_grammar.specs.Places.{at, name_at, to, end_of_specifiers}
use Rattle.mc_grammar.specs.Operators.{is_type_word}
use Rattle.mc_grammar.specs.Counts.{for_type}
use Rattle.mc_grammar.specs.Nonterminal as nonterminal
use Rattle.mc_grammar.specs.steps.Parsers.{Parser, ◌>>=◌, pure, refuse, ask, see, take, accept, expect, first, only}
use Rattle.mc_grammar.specs.steps.Next.{word_next}
use Rattle.laws_grammar.specs.Lists.{braced_list, comma_list, listed, some_list}
use Rattle.laws_grammar.specs.Expressions.{Parts, stars_of}

-- ---- lengths

-- lengths in brackets, and the place of the last token read
pub record Lengths : Type 0 where
  pub all : List (ArrayLengths → ArrayLengths)
  pub end : Span

-- one pair of brackets
pub record Length : Type 0 where
  pub one : ArrayLengths → ArrayLengths
  pub end : Span

unfoldable pub length_of : Parts → Parser Length
length_of parts = do
  x ← take
  empty ← see (codes "]")
  if empty then (do
    y ← take
    pure (record { one = tree.absent_length; end = at y })) else (do
      a ← parts.expression nonterminal.cond
      y ← expect (codes "]")
      pure (record { one = tree.given_length a; end = at y }))

abbrev pub lengths_turn : (List (ArrayLengths → ArrayLengths) → Span → Parser Lengths) → Parts
    → List (ArrayLengths → ArrayLengths) → Span → Parser Lengths
lengths_turn go parts before end = do
  more ← see (codes "[")
  if more then (do
    part ← length_of parts
    go (before ++ part.one ∷ []) part.end) else pure (record { all = before; end = end })

unfoldable pub lengths_loop : ℕ → Parts → List (ArrayLengths → ArrayLengths) → Span → Parser Lengths
lengths_loop zero parts before end = refuse
lengths_loop (suc turns) parts before end = lengths_turn (lengths_loop turns parts) parts before end

abbrev pub lengths_of : Parts → Span → Parser Lengths
lengths_of parts end = listed (λ turns. lengths_loop turns parts [] end)

-- ---- parameters

abbrev pub name_next : List Lexeme → Option Name
name_next [] = None
name_next (x ∷ ts) = if is_name x then Some (name_at x) else None

abbrev pub parameter_by : Parts → Specifiers → ℕ → Span → Span → Option Name → Parser Parameter
parameter_by parts s stars start end None = do
  lengths ← lengths_of parts end
  pure (tree.parameter s stars None (lengths_from lengths.all) (to start lengths.end))
parameter_by parts s stars start end (Some name) = do
  y ← take
  lengths ← lengths_of parts (at y)
  pure (tree.parameter s stars (Some name) (lengths_from lengths.all) (to start lengths.end))

unfoldable pub parameter_of : Parts → Parser Parameter
parameter_of parts = do
  start ← first
  s ← parts.specifiers for_type
  stars ← stars_of (end_of_specifiers start s)
  name ← ask name_next
  parameter_by parts s stars.count start stars.end name

abbrev pub parameter_list_of : Parts → Lexeme → Parser Parameters
parameter_list_of parts x = do
  all ← listed (λ turns. comma_list turns (parameter_of parts) [])
  y ← expect (codes ")")
  pure (tree.Listed (parameters_from all) (to (at x) (at y)))

abbrev pub void_of : Lexeme → Parser Parameters
void_of x = do
  y ← take
  z ← take
  pure (tree.Void (to (at x) (at z)))

unfoldable pub parameters_of : Parts → Parser Parameters
parameters_of parts = do
  x ← expect (codes "(")
  empty ← see (codes ")")
  if empty then (do
    y ← take
    pure (tree.Empty (to (at x) (at y)))) else (do
      void ← ask sees_void_alone
      if void then void_of x else parameter_list_of parts x)

-- ---- declarators

unfoldable pub declarator_of : Parts → Parser Declarator
declarator_of parts = do
  start ← first
  stars ← stars_of start
  y ← accept is_name
  calls ← see (codes "(")
  if calls then (do
    ps ← parameters_of parts
    pure (tree.function stars.count (name_at y) ps (to start (span_of_parameters ps)))) else (do
      lengths ← lengths_of parts (at y)
      pure (tree.object stars.count (name_at y) (lengths_from lengths.all) (to start lengths.end)))

-- ---- members and enumerators

unfoldable pub struct_member_of : Parts → Parser StructMember
struct_member_of parts = do
  start ← first
  s ← parts.specifiers for_type
  ds ← listed (λ turns. comma_list turns (declarator_of parts) [])
  y ← expect (codes ";")
  pure (tree.member s (declarators_from ds) (to start (at y)))

unfoldable pub enumerator_of : Parts → Parser Enumerator
enumerator_of parts = do
  x ← accept is_name
  valued ← see (codes "=")
  if valued then (do
    y ← take
    a ← parts.expression nonterminal.cond
    pure (tree.valued_enumerator (name_at x) a)) else pure (tree.enumerator (name_at x))

-- ---- specifiers

-- the members of a structure between its braces; no list has no level
abbrev pub structure_list : Parts → ℕ → Lexeme → Option Name → Parser Specifier
structure_list parts room x tag = only (nat_le 1 room) (do
  z ← take
  ms ← listed (λ turns. some_list turns sees_specifiers (struct_member_of parts) [])
  v ← expect (codes "}")
  pure (tree.Structure tag (members_from ms) (to (at x) (at v))))

abbrev pub enumeration_list : Parts → ℕ → Lexeme → Option Name → Parser Specifier
enumeration_list parts room x tag = only (nat_le 1 room) (do
  z ← take
  es ← listed (λ turns. braced_list turns (enumerator_of parts) [])
  v ← expect (codes "}")
  pure (tree.Enumeration tag (enumerators_from es) (to (at x) (at v))))

unfoldable pub structure_of : Parts → ℕ → Parser Specifier
structure_of parts room = do
  x ← take
  opens ← see (codes "{")
  if opens then structure_list parts room x None else (do
    y ← accept is_tag
    lists ← see (codes "{")
    if lists then structure_list parts room x (Some (name_at y)) else
        pure (tree.StructureTag (name_at y) (to (at x) (at y))))

unfoldable pub enumeration_of : Parts → ℕ → Parser Specifier
enumeration_of parts room = do
  x ← take
  opens ← see (codes "{")
  if opens then enumeration_list parts room x None else (do
    y ← accept is_tag
    lists ← see (codes "{")
    if lists then enumeration_list parts room x (Some (name_at y)) else
        pure (tree.EnumerationTag (name_at y) (to (at x) (at y))))

-- one specifier; which stand first was asked
abbrev pub specifier_by : Parts → ℕ → Option SpecifierWord → Parser Specifier
specifier_by parts room (Some w) = do
  x ← take
  pure (tree.Word w (at x))
specifier_by parts room None = do
  structures ← ask (next_is (is_keyword (codes "struct")))
  if structures then structure_of parts room else (do
    enumerates ← ask (next_is (is_keyword (codes "enum")))
    if enumerates then enumeration_of parts room else (do
      x ← take
      pure (tree.TypedefName (name_at x))))

unfoldable pub specifier_of : Parts → ℕ → Parser Specifier
specifier_of parts room = do
  w ← ask word_next
  specifier_by parts room w

-- whether there is a type after it
abbrev pub is_type_specifier : Specifier → Bool
is_type_specifier (tree.Word w span) = is_type_word w
is_type_specifier _ = true

abbrev pub specifiers_turn : (Bool → List Specifier → Parser (List Specifier)) → Parts → ℕ → Bool
    → List Specifier → Parser (List Specifier)
specifiers_turn go parts room has_type before = do
  more ← ask (go_on has_type)
  if more then (do
    one ← specifier_of parts room
    go (has_type || is_type_specifier one) (before ++ one ∷ [])) else pure before

unfoldable pub specifiers_loop : ℕ → Parts → ℕ → Bool → List Specifier → Parser (List Specifier)
specifiers_loop zero parts room has_type before = refuse
specifiers_loop (suc turns) parts room has_type before =
    specifiers_turn (specifiers_loop turns parts room) parts room has_type before

unfoldable pub specifiers_of : Parts → ℕ → (Specifiers → Bool) → Parser Specifiers
specifiers_of parts room test = do
  all ← listed (λ turns. specifiers_loop turns parts room false [])
  only (test (specifiers_from all)) (pure (specifiers_from all))
