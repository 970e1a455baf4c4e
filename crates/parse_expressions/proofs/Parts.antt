-- One turn of each loop over parts of declarators and specifiers, and the height of a list with one part more.
use Rattle.std.proofs.Common.{◌≡◌, ◌<◌, ◌≤◌, ◌+◌, ◌-◌, ℕ, suc, Bool, true, false, if◌then◌else◌, List, [], ◌∷◌, ◌++◌, map, max, Option, Some, None, option_map, refl, ap, sym, ◌∙◌, arith}
use Rattle.mc_span.specs.declared.span.Span.{Span}
use Rattle.mc_tree.specs.declared.declarations.array_length.ArrayLength.{ArrayLength}
use Rattle.mc_tree.specs.declared.declarations.array_length.ArrayLength.TheOpen.{ArrayLength-F}
use Rattle.mc_tree.specs.declared.declarations.array_length.ArrayLength.TheFolds.{fold_out-ArrayLength}
use Rattle.mc_tree.specs.Tree.{ArrayLengths, Declarator, Enumerator, Parameter, Specifier, StructMember}
use Rattle.mc_tree.specs.Tree as t
use Rattle.mc_tree.specs.Height as h
use Rattle.mc_tree.specs.Views.{array_length_of, node_declarator, node_enumerator, node_expression, node_length, node_member, node_parameter, node_specifier, declarators_from, enumerators_from, lengths_from, members_from, parameters_from, specifiers_from}
use Rattle.mc_grammar.specs.Words.{Lexeme, is_name, next_is}
use Rattle.mc_grammar.specs.Places.{name_at}
use Rattle.mc_grammar.specs.steps.Parsers.{Parser, take}
use Rattle.laws_grammar.specs.Lists.{braced_list, braced_turn, some_list, some_turn}
use Rattle.laws_grammar.specs.Expressions.{Parts}
use Rattle.laws_grammar.specs.Specifiers.{lengths_loop, lengths_turn, name_next, specifiers_loop, specifiers_turn}
use Rattle.parse_expressions.proofs.Lists.{comma_list_none, comma_list_turn, map_push}

-- ---- turns

pub lengths_next : (parts : Parts) (before : List (ArrayLengths → ArrayLengths)) (end : Span) (ts : List Lexeme) (n k : ℕ)
    → k < n → lengths_loop (n - k) parts before end ts ≡ lengths_turn (lengths_loop (n - (k + 1)) parts) parts before end ts
unfolding lengths_loop
lengths_next parts before end ts n k h = let e : n - k ≡ suc (n - (k + 1)) = omega arith in rw e refl

pub lengths_none : (parts : Parts) (before : List (ArrayLengths → ArrayLengths)) (end : Span) (ts : List Lexeme) (n k : ℕ)
    → n ≤ k → lengths_loop (n - k) parts before end ts ≡ None
unfolding lengths_loop
lengths_none parts before end ts n k h = let e : n - k ≡ 0 = omega arith in rw e refl

pub some_list_turn : {A : Type 0} (begins : List Lexeme → Bool) (one : Parser A) (before : List A) (ts : List Lexeme) (n k : ℕ)
    → k < n → some_list (n - k) begins one before ts ≡ some_turn (some_list (n - (k + 1)) begins one) begins one before ts
unfolding some_list
some_list_turn begins one before ts n k h = let e : n - k ≡ suc (n - (k + 1)) = omega arith in rw e refl

pub some_list_none : {A : Type 0} (begins : List Lexeme → Bool) (one : Parser A) (before : List A) (ts : List Lexeme) (n k : ℕ)
    → n ≤ k → some_list (n - k) begins one before ts ≡ None
unfolding some_list
some_list_none begins one before ts n k h = let e : n - k ≡ 0 = omega arith in rw e refl

pub braced_list_turn : {A : Type 0} (one : Parser A) (before : List A) (ts : List Lexeme) (n k : ℕ)
    → k < n → braced_list (n - k) one before ts ≡ braced_turn (braced_list (n - (k + 1)) one) one before ts
unfolding braced_list
braced_list_turn one before ts n k h = let e : n - k ≡ suc (n - (k + 1)) = omega arith in rw e refl

pub braced_list_none : {A : Type 0} (one : Parser A) (before : List A) (ts : List Lexeme) (n k : ℕ)
    → n ≤ k → braced_list (n - k) one before ts ≡ None
unfolding braced_list
braced_list_none one before ts n k h = let e : n - k ≡ 0 = omega arith in rw e refl

pub specifiers_next : (parts : Parts) (room : ℕ) (has_type : Bool) (before : List Specifier) (ts : List Lexeme) (n k : ℕ)
    → k < n → specifiers_loop (n - k) parts room has_type before ts
    ≡ specifiers_turn (specifiers_loop (n - (k + 1)) parts room) parts room has_type before ts
unfolding specifiers_loop
specifiers_next parts room has_type before ts n k h = let e : n - k ≡ suc (n - (k + 1)) = omega arith in rw e refl

pub specifiers_none : (parts : Parts) (room : ℕ) (has_type : Bool) (before : List Specifier) (ts : List Lexeme) (n k : ℕ)
    → n ≤ k → specifiers_loop (n - k) parts room has_type before ts ≡ None
unfolding specifiers_loop
specifiers_none parts room has_type before ts n k h = let e : n - k ≡ 0 = omega arith in rw e refl

-- ---- heights

max_push : (a b c d : ℕ) → d ≡ max b c → max a d ≡ max (max a b) c
max_push a b c d e = omega (arith, e)

max_zero : (a b : ℕ) → max a b ≡ max (max a 0) b
max_zero a b = omega arith

zero_max : (b : ℕ) → b ≡ max 0 b
zero_max b = omega arith

abbrev Node : Type 0
Node = ArrayLength-F (ArrayLengths → ArrayLengths) Declarator Enumerator Specifier t.Expression StructMember Parameter

node_high : (x : Node) (rest : ArrayLengths)
    → h.height_lengths (node_length x rest) ≡ max (h.height_lengths (node_length x t.no_lengths)) (h.height_lengths rest)
node_high ArrayLength-F.Absent rest = zero_max (h.height_lengths rest)
node_high (ArrayLength-F.Given value) rest = max_zero (h.height value.value) (h.height_lengths rest)

by_node : (f : ArrayLengths → ArrayLengths) (x : Node) (rest : ArrayLengths) → f ≡ node_length x
    → h.height_lengths (f rest) ≡ max (h.height_lengths (f t.no_lengths)) (h.height_lengths rest)
by_node f x rest e =
    ap (λ (g : ArrayLengths → ArrayLengths). h.height_lengths (g rest)) e
    ∙ node_high x rest
    ∙ ap (λ (g : ArrayLengths → ArrayLengths). max (h.height_lengths (g t.no_lengths)) (h.height_lengths rest)) (sym e)

one_high : (one : ArrayLength) (rest : ArrayLengths)
    → h.height_lengths (array_length_of one rest) ≡ max (h.height_lengths (array_length_of one t.no_lengths)) (h.height_lengths rest)
one_high one rest =
    by_node (array_length_of one) _ rest (fold_out-ArrayLength (ArrayLengths → ArrayLengths) Declarator Enumerator Specifier t.Expression StructMember Parameter node_length node_declarator node_enumerator node_specifier node_expression node_member node_parameter one)

pub high_lengths_push : (all : List ArrayLength) (one : ArrayLength)
    → h.height_lengths (lengths_from (map array_length_of (all ++ one ∷ [])))
    ≡ max (h.height_lengths (lengths_from (map array_length_of all))) (h.height_lengths (array_length_of one t.no_lengths))
high_lengths_push [] one = omega arith
high_lengths_push (b ∷ all) one =
    one_high b (lengths_from (map array_length_of (all ++ one ∷ [])))
    ∙ max_push (h.height_lengths (array_length_of b t.no_lengths)) (h.height_lengths (lengths_from (map array_length_of all)))
    (h.height_lengths (array_length_of one t.no_lengths)) (h.height_lengths (lengths_from (map array_length_of (all ++ one ∷ [])))) (high_lengths_push all one)
    ∙ ap (λ (n : ℕ). max n (h.height_lengths (array_length_of one t.no_lengths))) (sym (one_high b (lengths_from (map array_length_of all))))

pub high_parameters_push : (all : List Parameter) (one : Parameter)
    → h.height_parameter_list (parameters_from (all ++ one ∷ [])) ≡ max (h.height_parameter_list (parameters_from all)) (h.height_parameter one)
high_parameters_push [] one = omega arith
high_parameters_push (first ∷ all) one = omega (arith, high_parameters_push all one)

pub high_declarators_push : (all : List Declarator) (one : Declarator)
    → h.height_declarators (declarators_from (all ++ one ∷ [])) ≡ max (h.height_declarators (declarators_from all)) (h.height_declarator one)
high_declarators_push [] one = omega arith
high_declarators_push (first ∷ all) one = omega (arith, high_declarators_push all one)

pub high_members_push : (all : List StructMember) (one : StructMember)
    → h.height_members (members_from (all ++ one ∷ [])) ≡ max (h.height_members (members_from all)) (h.height_member one)
high_members_push [] one = omega arith
high_members_push (first ∷ all) one = omega (arith, high_members_push all one)

pub high_enumerators_push : (all : List Enumerator) (one : Enumerator)
    → h.height_enumerators (enumerators_from (all ++ one ∷ [])) ≡ max (h.height_enumerators (enumerators_from all)) (h.height_enumerator one)
high_enumerators_push [] one = omega arith
high_enumerators_push (first ∷ all) one = omega (arith, high_enumerators_push all one)

pub high_specifiers_push : (all : List Specifier) (one : Specifier)
    → h.height_specifiers (specifiers_from (all ++ one ∷ [])) ≡ max (h.height_specifiers (specifiers_from all)) (h.height_specifier one)
high_specifiers_push [] one = omega arith
high_specifiers_push (first ∷ all) one = omega (arith, high_specifiers_push all one)

-- ---- names

pub name_absent : (ts : List Lexeme) → next_is is_name ts ≡ false → name_next ts ≡ None
name_absent [] e = refl
name_absent (x ∷ ts) e = ap (λ (b : Bool). if b then Some (name_at x) else None) e

pub name_taken : (ts : List Lexeme) (x : Lexeme) (rest : List Lexeme) → next_is is_name ts ≡ true → take ts ≡ Some (x, rest)
    → name_next ts ≡ Some (name_at x)
name_taken [] x rest e f = let g : false ≡ true = e in cc
name_taken (y ∷ ts) x rest e f =
    let same : Some y ≡ Some x = ap (λ (o : Option (Lexeme × List Lexeme)). option_map (λ p. p.0) o) f in
    ap (λ (b : Bool). if b then Some (name_at y) else None) e ∙ ap (λ (o : Option Lexeme). option_map name_at o) same

pub ruleset lengths_steps = (lengths_next, lengths_none, map_push, high_lengths_push)

pub ruleset parameters_steps = (comma_list_turn, comma_list_none, map_push, high_parameters_push)

pub ruleset declarators_steps = (comma_list_turn, comma_list_none, map_push, high_declarators_push)

pub ruleset members_steps = (some_list_turn, some_list_none, map_push, high_members_push)

pub ruleset enumerators_steps = (braced_list_turn, braced_list_none, map_push, high_enumerators_push)

pub ruleset specifiers_steps = (specifiers_next, specifiers_none, map_push, high_specifiers_push)

pub ruleset name_steps = (name_absent, name_taken)
