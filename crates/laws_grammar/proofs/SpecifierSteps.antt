-- What the readers of specifiers and declarators give, one alternative at a time.
use Rattle.std.proofs.Common.{◌≡◌, ℕ, suc, ◌+◌, ◌<◌, ◌≤◌, Bool, true, false, ◌||◌, List, [], ◌∷◌, ◌++◌, length, Option, Some, None, refl, ap, sym, ◌∙◌, append_assoc, arith, le-leb, codes}
use Rattle.std.proofs.lemmas.List.{append-nil}
use Rattle.mc_span.specs.declared.span.Span.{Span}
use Rattle.mc_tree.specs.declared.declarations.specifier_word.SpecifierWord.{SpecifierWord}
use Rattle.mc_tree.specs.Tree.{ArrayLengths, Declarator, Declarators, Enumerators, Expression, Members, Name, ParameterList, Parameters, Specifier, Specifiers, StructMember, Parameter, Enumerator, span_of_parameters}
use Rattle.mc_tree.specs.Tree as t
use Rattle.mc_tree.specs.Views.{declarators_from, enumerators_from, lengths_from, members_from, parameters_from, specifiers_from}
use Rattle.mc_grammar.specs.Words.{Lexeme, is_punctuator, is_keyword, is_name, is_tag, is_type_name, next_is, sees, sees_specifiers, sees_void_alone, go_on}
use Rattle.mc_grammar.specs.Places.{at, name_at, to, end_of_specifiers}
use Rattle.mc_grammar.specs.Counts.{for_type}
use Rattle.mc_grammar.specs.Nonterminal as n
use Rattle.mc_grammar.specs.steps.Parsers.{accept}
use Rattle.mc_grammar.specs.steps.Next.{word_at}
use Rattle.laws_grammar.specs.Lists.{braced_list, comma_list, some_list}
use Rattle.laws_grammar.specs.Expressions.{Parts, stars_of}
use Rattle.laws_grammar.specs.Specifiers.{Lengths, length_of, lengths_loop, lengths_of, name_next, parameter_of, parameters_of, declarator_of, struct_member_of, enumerator_of, structure_of, enumeration_of, specifier_of, is_type_specifier, specifiers_loop, specifiers_of}
use Rattle.laws_grammar.proofs.Known.{word, typed, tagged}
use Rattle.laws_grammar.proofs.CompleteLists.{Adds, one_turn, later, added}
use Rattle.laws_grammar.proofs.ExpressionSteps.{starred}

abbrev pub sized : List (ArrayLengths → ArrayLengths) → Span → Lengths
sized all end = record { all = all; end = end }

module _ (parts : Parts) where
  -- ---- lengths

  lengths_end : (turns : ℕ) (before : List (ArrayLengths → ArrayLengths)) (end : Span) (ts : List Lexeme) → sees (codes "[") ts ≡ false → lengths_loop (suc turns) parts before end ts ≡ Some (sized before end, ts)
  unfolding lengths_loop
  lengths_end turns before end ts e = rw e refl

  lengths_absent : (turns : ℕ) (before : List (ArrayLengths → ArrayLengths)) (start : Span) (x y : Lexeme) (ts : List Lexeme) → is_punctuator (codes "[") x ≡ true → is_punctuator (codes "]") y ≡ true
      → lengths_loop (suc turns) parts before start (x ∷ y ∷ ts) ≡ lengths_loop turns parts (before ++ t.absent_length ∷ []) (at y) ts
  unfolding lengths_loop length_of
  lengths_absent turns before start x y ts e f = rw (e, f) refl

  lengths_given : (turns : ℕ) (before : List (ArrayLengths → ArrayLengths)) (start : Span) (x y : Lexeme) (ts mid : List Lexeme) (a : Expression) → is_punctuator (codes "[") x ≡ true
      → sees (codes "]") ts ≡ false → parts.expression n.cond ts ≡ Some (a, y ∷ mid) → is_punctuator (codes "]") y ≡ true
      → lengths_loop (suc turns) parts before start (x ∷ ts) ≡ lengths_loop turns parts (before ++ t.given_length a ∷ []) (at y) mid
  unfolding lengths_loop length_of accept
  lengths_given turns before start x y ts mid a e f h g = rw (e, f, h, g) refl

  -- the loop adds these lengths to those before, whatever they are
  pub record AddsLengths (start : Span) (ts : List Lexeme) (all : List (ArrayLengths → ArrayLengths)) (end : Span) (rest : List Lexeme) : Type 0 where
    pub adds : (turns : ℕ) → length ts < turns → (before : List (ArrayLengths → ArrayLengths)) → lengths_loop turns parts before start ts ≡ Some (sized (before ++ all) end, rest)

  pub all_lengths : {start end : Span} {ts rest : List Lexeme} {all : List (ArrayLengths → ArrayLengths)} → AddsLengths start ts all end rest → lengths_of parts start ts ≡ Some (sized all end, rest)
  all_lengths {ts = ts} p = p.adds (length ts + 1) (omega arith) []

  abbrev measured : List (ArrayLengths → ArrayLengths) → Span → List Lexeme → Option (Lengths × List Lexeme)
  measured all end rest = Some (sized all end, rest)

  joined : (before : List (ArrayLengths → ArrayLengths)) (one : ArrayLengths → ArrayLengths) (all : List (ArrayLengths → ArrayLengths)) (end : Span) (rest : List Lexeme)
      → measured ((before ++ one ∷ []) ++ all) end rest ≡ measured (before ++ one ∷ all) end rest
  joined before one all end rest = rw append_assoc refl

  pub no_lengths : {start : Span} {ts : List Lexeme} → sees (codes "[") ts ≡ false → AddsLengths start ts [] start ts
  no_lengths {start = start} {ts = ts} e = record { adds = one_turn _ (length ts) (λ turns before. lengths_end turns before start ts e ∙ ap (λ all. measured all start ts) (sym (append-nil before))) }

  pub absent_length : {start end : Span} {x y : Lexeme} {ts rest : List Lexeme} {all : List (ArrayLengths → ArrayLengths)} → is_punctuator (codes "[") x ≡ true → is_punctuator (codes "]") y ≡ true
      → AddsLengths (at y) ts all end rest → AddsLengths start (x ∷ y ∷ ts) (t.absent_length ∷ all) end rest
  absent_length {start = start} {end = end} {x = x} {y = y} {ts = ts} {rest = rest} {all = all} e f p =
      record {
        adds = later _ (length ts) (length (x ∷ y ∷ ts)) (omega arith) (λ turns low before. lengths_absent turns before start x y ts e f ∙ p.adds turns low (before ++ t.absent_length ∷ []) ∙ joined before t.absent_length all end rest);
      }

  pub given_length : {start end : Span} {x y : Lexeme} {ts mid rest : List Lexeme} {a : Expression} {all : List (ArrayLengths → ArrayLengths)} → is_punctuator (codes "[") x ≡ true
      → sees (codes "]") ts ≡ false → parts.expression n.cond ts ≡ Some (a, y ∷ mid) → is_punctuator (codes "]") y ≡ true → length (y ∷ mid) ≤ length ts
      → AddsLengths (at y) mid all end rest → AddsLengths start (x ∷ ts) (t.given_length a ∷ all) end rest
  given_length {start = start} {end = end} {x = x} {y = y} {ts = ts} {mid = mid} {rest = rest} {a = a} {all = all} e f h g lt p =
      record {
        adds = later _ (length mid) (length (x ∷ ts)) (omega (arith, lt)) (λ turns low before. lengths_given turns before start x y ts mid a e f h g ∙ p.adds turns low (before ++ t.given_length a ∷ []) ∙ joined before (t.given_length a) all end rest);
      }

  -- ---- parameters

  pub parameter_named : (x y : Lexeme) (before end : Span) (ts words mid rest : List Lexeme) (s : Specifiers) (k : ℕ) (items : List (ArrayLengths → ArrayLengths)) (all : ArrayLengths)
      → parts.specifiers for_type (x ∷ ts) ≡ Some (s, words) → stars_of (end_of_specifiers (at x) s) words ≡ Some (starred k before, y ∷ mid) → is_name y ≡ true
      → lengths_of parts (at y) mid ≡ Some (sized items end, rest) → lengths_from items ≡ all → parameter_of parts (x ∷ ts) ≡ Some (t.parameter s k (Some (name_at y)) all (to (at x) end), rest)
  unfolding parameter_of
  parameter_named x y before end ts words mid rest s k items all h g e i back = rw (h, g, e, i, back) refl

  no_name : (ts : List Lexeme) → next_is is_name ts ≡ false → name_next ts ≡ None
  no_name [] e = refl
  no_name (x ∷ ts) e = rw e refl

  pub parameter_unnamed : (x : Lexeme) (before end : Span) (ts words mid rest : List Lexeme) (s : Specifiers) (k : ℕ) (items : List (ArrayLengths → ArrayLengths)) (all : ArrayLengths)
      → parts.specifiers for_type (x ∷ ts) ≡ Some (s, words) → stars_of (end_of_specifiers (at x) s) words ≡ Some (starred k before, mid) → next_is is_name mid ≡ false
      → lengths_of parts before mid ≡ Some (sized items end, rest) → lengths_from items ≡ all → parameter_of parts (x ∷ ts) ≡ Some (t.parameter s k None all (to (at x) end), rest)
  unfolding parameter_of
  parameter_unnamed x before end ts words mid rest s k items all h g e i back = rw (h, g, no_name mid e, i, back) refl

  pub parameters_empty : (x y : Lexeme) (rest : List Lexeme) → is_punctuator (codes "(") x ≡ true → is_punctuator (codes ")") y ≡ true → parameters_of parts (x ∷ y ∷ rest) ≡ Some (t.Empty (to (at x) (at y)), rest)
  unfolding parameters_of accept
  parameters_empty x y rest e f = rw (e, f) refl

  pub parameters_void : (x y z : Lexeme) (rest : List Lexeme) → is_punctuator (codes "(") x ≡ true → is_keyword (codes "void") y ≡ true → is_punctuator (codes ")") z ≡ true
      → parameters_of parts (x ∷ y ∷ z ∷ rest) ≡ Some (t.Void (to (at x) (at z)), rest)
  unfolding parameters_of accept
  parameters_void x y z rest e f g = let w = word (codes "void") y f in rw (e, w.kind_is, w.text_is, g) refl

  pub parameters_listed : (x y : Lexeme) (ts rest : List Lexeme) (items : List Parameter) (all : ParameterList) → is_punctuator (codes "(") x ≡ true → sees (codes ")") ts ≡ false → sees_void_alone ts ≡ false
      → comma_list (length ts + 1) (parameter_of parts) [] ts ≡ Some (items, y ∷ rest) → parameters_from items ≡ all → is_punctuator (codes ")") y ≡ true
      → parameters_of parts (x ∷ ts) ≡ Some (t.Listed all (to (at x) (at y)), rest)
  unfolding parameters_of accept
  parameters_listed x y ts rest items all e f g h back i = rw (e, f, g, h, i, back) refl

  -- ---- declarators

  pub declarator_object : (x y : Lexeme) (before end : Span) (ts mid rest : List Lexeme) (k : ℕ) (items : List (ArrayLengths → ArrayLengths)) (all : ArrayLengths)
      → stars_of (at x) (x ∷ ts) ≡ Some (starred k before, y ∷ mid) → is_name y ≡ true → sees (codes "(") mid ≡ false → lengths_of parts (at y) mid ≡ Some (sized items end, rest)
      → lengths_from items ≡ all → declarator_of parts (x ∷ ts) ≡ Some (t.object k (name_at y) all (to (at x) end), rest)
  unfolding declarator_of accept
  declarator_object x y before end ts mid rest k items all h e f g back = rw (h, e, f, g, back) refl

  pub declarator_function : (x y : Lexeme) (before : Span) (ts mid rest : List Lexeme) (k : ℕ) (ps : Parameters) → stars_of (at x) (x ∷ ts) ≡ Some (starred k before, y ∷ mid) → is_name y ≡ true
      → sees (codes "(") mid ≡ true → parameters_of parts mid ≡ Some (ps, rest) → declarator_of parts (x ∷ ts) ≡ Some (t.function k (name_at y) ps (to (at x) (span_of_parameters ps)), rest)
  unfolding declarator_of accept
  declarator_function x y before ts mid rest k ps h e f g = rw (h, e, f, g) refl

  -- ---- members and enumerators

  pub member_made : (x y : Lexeme) (ts mid rest : List Lexeme) (s : Specifiers) (items : List Declarator) (all : Declarators) → parts.specifiers for_type (x ∷ ts) ≡ Some (s, mid)
      → comma_list (length mid + 1) (declarator_of parts) [] mid ≡ Some (items, y ∷ rest) → declarators_from items ≡ all → is_punctuator (codes ";") y ≡ true
      → struct_member_of parts (x ∷ ts) ≡ Some (t.member s all (to (at x) (at y)), rest)
  unfolding struct_member_of accept
  member_made x y ts mid rest s items all h g back e = rw (h, g, e, back) refl

  pub enumerator_alone : (x : Lexeme) (rest : List Lexeme) → is_name x ≡ true → sees (codes "=") rest ≡ false → enumerator_of parts (x ∷ rest) ≡ Some (t.enumerator (name_at x), rest)
  unfolding enumerator_of accept
  enumerator_alone x rest e f = rw (e, f) refl

  pub enumerator_valued : (x y : Lexeme) (ts rest : List Lexeme) (a : Expression) → is_name x ≡ true → is_punctuator (codes "=") y ≡ true → parts.expression n.cond ts ≡ Some (a, rest)
      → enumerator_of parts (x ∷ y ∷ ts) ≡ Some (t.valued_enumerator (name_at x) a, rest)
  unfolding enumerator_of accept
  enumerator_valued x y ts rest a e f h = rw (e, f, h) refl

module _ (parts : Parts) (room : ℕ) where
  -- ---- one specifier

  pub specifier_word : (x : Lexeme) (ts : List Lexeme) (w : SpecifierWord) → word_at x ≡ Some w → specifier_of parts room (x ∷ ts) ≡ Some (t.Word w (at x), ts)
  unfolding specifier_of
  specifier_word x ts w e = rw e refl

  pub specifier_typedef : (x : Lexeme) (ts : List Lexeme) → is_type_name x ≡ true → specifier_of parts room (x ∷ ts) ≡ Some (t.TypedefName (name_at x), ts)
  unfolding specifier_of
  specifier_typedef x ts e = rw (typed x e).0 refl

  specifier_structure : (x : Lexeme) (ts : List Lexeme) → is_keyword (codes "struct") x ≡ true → specifier_of parts room (x ∷ ts) ≡ structure_of parts room (x ∷ ts)
  unfolding specifier_of
  specifier_structure x ts e = let w = word (codes "struct") x e in rw (w.kind_is, w.text_is) refl

  specifier_enumeration : (x : Lexeme) (ts : List Lexeme) → is_keyword (codes "enum") x ≡ true → specifier_of parts room (x ∷ ts) ≡ enumeration_of parts room (x ∷ ts)
  unfolding specifier_of
  specifier_enumeration x ts e = let w = word (codes "enum") x e in rw (w.kind_is, w.text_is) refl

  pub structure_tag : (x y : Lexeme) (ts : List Lexeme) → is_keyword (codes "struct") x ≡ true → is_tag y ≡ true → sees (codes "{") ts ≡ false
      → specifier_of parts room (x ∷ y ∷ ts) ≡ Some (t.StructureTag (name_at y) (to (at x) (at y)), ts)
  unfolding structure_of accept
  structure_tag x y ts e f g = specifier_structure x (y ∷ ts) e ∙ rw (tagged y f, g) refl

  pub structure_made : (x y z v : Lexeme) (ts mid : List Lexeme) (items : List StructMember) (all : Members) → 0 < room → is_keyword (codes "struct") x ≡ true → is_tag y ≡ true → is_punctuator (codes "{") z ≡ true
      → some_list (length ts + 1) sees_specifiers (struct_member_of parts) [] ts ≡ Some (items, v ∷ mid) → members_from items ≡ all → is_punctuator (codes "}") v ≡ true
      → specifier_of parts room (x ∷ y ∷ z ∷ ts) ≡ Some (t.Structure (Some (name_at y)) all (to (at x) (at v)), mid)
  unfolding structure_of accept
  structure_made x y z v ts mid items all low e f g h back i = specifier_structure x (y ∷ z ∷ ts) e ∙ rw (tagged y f, g, le-leb 1 room low, h, i, back) refl

  pub untagged_structure : (x z v : Lexeme) (ts mid : List Lexeme) (items : List StructMember) (all : Members) → 0 < room → is_keyword (codes "struct") x ≡ true → is_punctuator (codes "{") z ≡ true
      → some_list (length ts + 1) sees_specifiers (struct_member_of parts) [] ts ≡ Some (items, v ∷ mid) → members_from items ≡ all → is_punctuator (codes "}") v ≡ true
      → specifier_of parts room (x ∷ z ∷ ts) ≡ Some (t.Structure None all (to (at x) (at v)), mid)
  unfolding structure_of accept
  untagged_structure x z v ts mid items all low e g h back i = specifier_structure x (z ∷ ts) e ∙ rw (g, le-leb 1 room low, h, i, back) refl

  pub enumeration_tag : (x y : Lexeme) (ts : List Lexeme) → is_keyword (codes "enum") x ≡ true → is_tag y ≡ true → sees (codes "{") ts ≡ false
      → specifier_of parts room (x ∷ y ∷ ts) ≡ Some (t.EnumerationTag (name_at y) (to (at x) (at y)), ts)
  unfolding enumeration_of accept
  enumeration_tag x y ts e f g = specifier_enumeration x (y ∷ ts) e ∙ rw (tagged y f, g) refl

  pub enumeration_made : (x y z v : Lexeme) (ts mid : List Lexeme) (items : List Enumerator) (all : Enumerators) → 0 < room → is_keyword (codes "enum") x ≡ true → is_tag y ≡ true → is_punctuator (codes "{") z ≡ true
      → braced_list (length ts + 1) (enumerator_of parts) [] ts ≡ Some (items, v ∷ mid) → enumerators_from items ≡ all → is_punctuator (codes "}") v ≡ true
      → specifier_of parts room (x ∷ y ∷ z ∷ ts) ≡ Some (t.Enumeration (Some (name_at y)) all (to (at x) (at v)), mid)
  unfolding enumeration_of accept
  enumeration_made x y z v ts mid items all low e f g h back i = specifier_enumeration x (y ∷ z ∷ ts) e ∙ rw (tagged y f, g, le-leb 1 room low, h, i, back) refl

  pub untagged_enumeration : (x z v : Lexeme) (ts mid : List Lexeme) (items : List Enumerator) (all : Enumerators) → 0 < room → is_keyword (codes "enum") x ≡ true → is_punctuator (codes "{") z ≡ true
      → braced_list (length ts + 1) (enumerator_of parts) [] ts ≡ Some (items, v ∷ mid) → enumerators_from items ≡ all → is_punctuator (codes "}") v ≡ true
      → specifier_of parts room (x ∷ z ∷ ts) ≡ Some (t.Enumeration None all (to (at x) (at v)), mid)
  unfolding enumeration_of accept
  untagged_enumeration x z v ts mid items all low e g h back i = specifier_enumeration x (z ∷ ts) e ∙ rw (g, le-leb 1 room low, h, i, back) refl

  -- ---- all specifiers

  specifiers_end : (turns : ℕ) (has : Bool) (before : List Specifier) (ts : List Lexeme) → go_on has ts ≡ false → specifiers_loop (suc turns) parts room has before ts ≡ Some (before ++ [], ts)
  unfolding specifiers_loop
  specifiers_end turns has before ts e = rw (e, append-nil before) refl

  specifiers_turn : (turns : ℕ) (has : Bool) (before : List Specifier) (ts mid : List Lexeme) (one : Specifier) → go_on has ts ≡ true → specifier_of parts room ts ≡ Some (one, mid)
      → specifiers_loop (suc turns) parts room has before ts ≡ specifiers_loop turns parts room (has || is_type_specifier one) (before ++ one ∷ []) mid
  unfolding specifiers_loop
  specifiers_turn turns has before ts mid one e h = rw (e, h) refl

  pub no_specifiers : (has : Bool) {ts : List Lexeme} → go_on has ts ≡ false → Adds (λ turns. specifiers_loop turns parts room has) ts [] ts
  no_specifiers has {ts = ts} e = record { adds = one_turn _ (length ts) (λ turns before. specifiers_end turns has before ts e) }

  pub more_specifiers : (has next : Bool) {ts mid rest : List Lexeme} {one : Specifier} {all : List Specifier} → go_on has ts ≡ true → specifier_of parts room ts ≡ Some (one, mid)
      → (has || is_type_specifier one) ≡ next → length mid < length ts → Adds (λ turns. specifiers_loop turns parts room next) mid all rest
      → Adds (λ turns. specifiers_loop turns parts room has) ts (one ∷ all) rest
  more_specifiers has next {ts = ts} {mid = mid} {rest = rest} {one = one} {all = all} e h same lt p =
      record {
        adds = later _ (length mid) (length ts) lt (λ turns low before. specifiers_turn turns has before ts mid one e h ∙ rw same (p.adds turns low (before ++ one ∷ []) ∙ added before one all rest));
      }

  pub specifiers_tested : (test : Specifiers → Bool) (ts rest : List Lexeme) (items : List Specifier) (all : Specifiers) → specifiers_loop (length ts + 1) parts room false [] ts ≡ Some (items, rest)
      → specifiers_from items ≡ all → test all ≡ true → specifiers_of parts room test ts ≡ Some (all, rest)
  unfolding specifiers_of
  specifiers_tested test ts rest items all h back e = rw (h, back, e) refl
