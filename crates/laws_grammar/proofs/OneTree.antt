-- A text has at most one tree, and so has each part of one, since a reader gives one.
use Rattle.std.proofs.Common.{◌≡◌, ℕ, ◌+◌, Bool, true, false, List, [], ◌∷◌, Option, Some, None, refl, sym, ap, ◌∙◌, subst, arith, codes}
use Rattle.mc_lex.specs.declared.token.Dialect.{Dialect}
use Rattle.mc_lex.specs.Tokens.{Tok}
use Rattle.mc_span.specs.declared.span.Span.{Span}
use Rattle.mc_tree.specs.Tree.{ArrayLengths, BlockItems, Declaration, Declarator, Declarators, Enumerator, Enumerators, Expression, Expressions, ForStart, InitDeclarator, Initializer, Initializers, Item, Members, Parameter, ParameterList, Parameters, Specifiers, Statement, StructMember, TypeName}
use Rattle.mc_tree.specs.Tree as t
use Rattle.mc_tree.specs.Height.{height, tallest, height_type, height_specifiers, height_member, height_members, height_enumerator, height_enumerators, height_declarator, height_declarators, height_lengths, height_parameters, height_parameter, height_parameter_list, height_initializer, height_initializers, height_init_declarator, height_init_declarators, height_optional, height_start, height_statement, height_block, height_item, height_unit}
use Rattle.mc_tree.specs.Views.{expressions_from, specifiers_from, members_from, enumerators_from, declarators_from, lengths_from, parameters_from}
use Rattle.mc_tree.specs.Units.{initializers_from, block_from}
use Rattle.mc_grammar.specs.Words.{Lexeme, sees, lexemes_of}
use Rattle.mc_grammar.specs.Places.{at, to}
use Rattle.mc_grammar.specs.Nonterminal.{Nonterminal}
use Rattle.mc_grammar.specs.Expressions.{Reads, ReadsExpressions, ReadsTypeName, ReadsStars, ReadsSpecifiers, ReadsMembers, ReadsMember, ReadsDeclarators, ReadsEnumerators, ReadsEnumerator, ReadsDeclarator, ReadsArrayLengths, ReadsParameters, ReadsParameterList, ReadsParameter}
use Rattle.mc_grammar.specs.Statements.{ReadsOptional, ReadsTest, ReadsInitializer, ReadsInitializers, ReadsInitDeclarator, ReadsInitDeclarators, ReadsDeclaration, ReadsForStart, ReadsStatement, ReadsCompound, ReadsBlockItems}
use Rattle.mc_grammar.specs.Statements as s
use Rattle.mc_grammar.specs.Items.{ReadsItem, ReadsUnit, IsTree}
use Rattle.laws_grammar.specs.Rooms.{reading}
use Rattle.laws_grammar.proofs.TreeLists.{expressions_back, specifiers_back, members_back, enumerators_back, declarators_back, lengths_back, parameters_back, initializers_back, block_back}
use Rattle.laws_grammar.proofs.CompleteLists.{Adds, all_of}
use Rattle.laws_grammar.proofs.ExpressionSteps.{complete_stars}
use Rattle.laws_grammar.proofs.SpecifierSteps.{all_lengths}
use Rattle.laws_grammar.proofs.Beginnings.{init_declarator_begins}
use Rattle.laws_grammar.proofs.CompleteExpressions.{complete_whole, complete_expressions, complete_type_name, complete_specifiers, complete_members, complete_member, complete_declarators, complete_enumerators, complete_enumerator, complete_declarator, complete_lengths, complete_parameters, complete_parameter_list, complete_parameter}
use Rattle.laws_grammar.proofs.CompleteDeclarations.{complete_initializer, complete_initializers, complete_init_declarator, complete_init_declarators}
use Rattle.laws_grammar.proofs.CompleteStatements.{complete_optional, complete_test, complete_for_start, complete_statement, complete_compound, complete_block_items}
use Rattle.laws_grammar.proofs.CompleteItems.{complete_item, complete_items}

-- ---- what is given twice is one

first_or : {A B : Type 0} → A → Option (A × B) → A
first_or a None = a
first_or a (Some p) = p.0

second_or : {A B : Type 0} → B → Option (A × B) → B
second_or b None = b
second_or b (Some p) = p.1

same_parts : {A B : Type 0} (p q : A × B) → Some p ≡ Some q → (p.0 ≡ q.0) × (p.1 ≡ q.1)
unfolding first_or second_or
same_parts p q e = (ap (first_or p.0) e, ap (second_or p.1) e)

agree : {A B : Type 0} {read : Option (A × B)} {p q : A × B} → read ≡ Some p → read ≡ Some q → (p.0 ≡ q.0) × (p.1 ≡ q.1)
agree {p = p} {q = q} h g = same_parts p q (sym h ∙ g)

-- the same of a list of parts
agree_on : {A L : Type 0} {loop : ℕ → List A → List Lexeme → Option (List A × List Lexeme)} {ts rest left : List Lexeme} {parts others : List A} {one other : L} (from : List A → L)
    → from parts ≡ one → from others ≡ other → Adds loop ts parts rest → Adds loop ts others left → (one ≡ other) × (rest ≡ left)
agree_on from back ahead p q =
    let same = agree (all_of p) (all_of q) in
    (sym back ∙ (ap from same.0 ∙ ahead), same.1)

-- ---- expressions

pub one_expression : (d : Dialect) (m : Nonterminal) (ts rest left : List Lexeme) (one other : Expression) → Reads d m ts one rest → Reads d m ts other left → (one ≡ other) × (rest ≡ left)
one_expression d m ts rest left one other p q = let room = height one + height other in agree (complete_whole p room (omega arith)) (complete_whole q room (omega arith))

pub one_expressions : (d : Dialect) (ts rest left : List Lexeme) (one other : Expressions) → ReadsExpressions d ts one rest → ReadsExpressions d ts other left → (one ≡ other) × (rest ≡ left)
one_expressions d ts rest left one other p q =
    let room = tallest one + tallest other + 1 in
    agree_on expressions_from (expressions_back one) (expressions_back other) (complete_expressions p room (omega arith)) (complete_expressions q room (omega arith))

pub one_type_name : (d : Dialect) (ts rest left : List Lexeme) (one other : TypeName) → ReadsTypeName d ts one rest → ReadsTypeName d ts other left → (one ≡ other) × (rest ≡ left)
one_type_name d ts rest left one other p q =
    let room = height_type one + height_type other + 1 in
    agree (complete_type_name p room (omega arith)) (complete_type_name q room (omega arith))

-- ---- specifiers and declarators

-- and the place of the last token read
pub one_stars : (before end last : Span) (ts rest left : List Lexeme) (one other : ℕ) → ReadsStars before ts one end rest → ReadsStars before ts other last left → (one ≡ other) × (end ≡ last) × (rest ≡ left)
one_stars before end last ts rest left one other p q =
    let same = agree (complete_stars p) (complete_stars q) in
    (ap (λ stars. stars.count) same.0, ap (λ stars. stars.end) same.0, same.1)

pub one_specifiers : (d : Dialect) (has_type : Bool) (ts rest left : List Lexeme) (one other : Specifiers) → ReadsSpecifiers d has_type ts one rest → ReadsSpecifiers d has_type ts other left
    → (one ≡ other) × (rest ≡ left)
one_specifiers d has_type ts rest left one other p q =
    let room = height_specifiers one + height_specifiers other in
    agree_on specifiers_from (specifiers_back one) (specifiers_back other) (complete_specifiers p room (omega arith)) (complete_specifiers q room (omega arith))

pub one_members : (d : Dialect) (ts rest left : List Lexeme) (one other : Members) → ReadsMembers d ts one rest → ReadsMembers d ts other left → (one ≡ other) × (rest ≡ left)
one_members d ts rest left one other p q =
    let room = height_members one + height_members other + 1 in
    agree_on members_from (members_back one) (members_back other) (complete_members p room (omega arith)) (complete_members q room (omega arith))

pub one_member : (d : Dialect) (ts rest left : List Lexeme) (one other : StructMember) → ReadsMember d ts one rest → ReadsMember d ts other left → (one ≡ other) × (rest ≡ left)
one_member d ts rest left one other p q =
    let room = height_member one + height_member other + 1 in
    agree (complete_member p room (omega arith)) (complete_member q room (omega arith))

pub one_declarators : (d : Dialect) (ts rest left : List Lexeme) (one other : Declarators) → ReadsDeclarators d ts one rest → ReadsDeclarators d ts other left → (one ≡ other) × (rest ≡ left)
one_declarators d ts rest left one other p q =
    let room = height_declarators one + height_declarators other + 1 in
    agree_on declarators_from (declarators_back one) (declarators_back other) (complete_declarators p room (omega arith)) (complete_declarators q room (omega arith))

pub one_enumerators : (d : Dialect) (ts rest left : List Lexeme) (one other : Enumerators) → ReadsEnumerators d ts one rest → ReadsEnumerators d ts other left → (one ≡ other) × (rest ≡ left)
one_enumerators d ts rest left one other p q =
    let room = height_enumerators one + height_enumerators other + 1 in
    agree_on enumerators_from (enumerators_back one) (enumerators_back other) (complete_enumerators p room (omega arith)) (complete_enumerators q room (omega arith))

pub one_enumerator : (d : Dialect) (ts rest left : List Lexeme) (one other : Enumerator) → ReadsEnumerator d ts one rest → ReadsEnumerator d ts other left → (one ≡ other) × (rest ≡ left)
one_enumerator d ts rest left one other p q =
    let room = height_enumerator one + height_enumerator other + 1 in
    agree (complete_enumerator p room (omega arith)) (complete_enumerator q room (omega arith))

pub one_declarator : (d : Dialect) (ts rest left : List Lexeme) (one other : Declarator) → ReadsDeclarator d ts one rest → ReadsDeclarator d ts other left → (one ≡ other) × (rest ≡ left)
one_declarator d ts rest left one other p q =
    let room = height_declarator one + height_declarator other + 1 in
    agree (complete_declarator p room (omega arith)) (complete_declarator q room (omega arith))

-- and the place of the last token read
pub one_lengths : (d : Dialect) (before end last : Span) (ts rest left : List Lexeme) (one other : ArrayLengths) → ReadsArrayLengths d before ts one end rest → ReadsArrayLengths d before ts other last left
    → (one ≡ other) × (end ≡ last) × (rest ≡ left)
one_lengths d before end last ts rest left one other p q =
    let room = height_lengths one + height_lengths other + 1 in
    let same = agree (all_lengths (reading room) (complete_lengths p room (omega arith))) (all_lengths (reading room) (complete_lengths q room (omega arith))) in
    (sym (lengths_back one) ∙ (ap (λ lengths. lengths_from lengths.all) same.0 ∙ lengths_back other), ap (λ lengths. lengths.end) same.0, same.1)

pub one_parameters : (d : Dialect) (ts rest left : List Lexeme) (one other : Parameters) → ReadsParameters d ts one rest → ReadsParameters d ts other left → (one ≡ other) × (rest ≡ left)
one_parameters d ts rest left one other p q =
    let room = height_parameters one + height_parameters other + 1 in
    agree (complete_parameters p room (omega arith)) (complete_parameters q room (omega arith))

pub one_parameter_list : (d : Dialect) (ts rest left : List Lexeme) (one other : ParameterList) → ReadsParameterList d ts one rest → ReadsParameterList d ts other left → (one ≡ other) × (rest ≡ left)
one_parameter_list d ts rest left one other p q =
    let room = height_parameter_list one + height_parameter_list other + 1 in
    agree_on parameters_from (parameters_back one) (parameters_back other) (complete_parameter_list p room (omega arith)) (complete_parameter_list q room (omega arith))

pub one_parameter : (d : Dialect) (ts rest left : List Lexeme) (one other : Parameter) → ReadsParameter d ts one rest → ReadsParameter d ts other left → (one ≡ other) × (rest ≡ left)
one_parameter d ts rest left one other p q =
    let room = height_parameter one + height_parameter other + 1 in
    agree (complete_parameter p room (omega arith)) (complete_parameter q room (omega arith))

-- ---- declarations

pub one_initializer : (d : Dialect) (ts rest left : List Lexeme) (one other : Initializer) → ReadsInitializer d ts one rest → ReadsInitializer d ts other left → (one ≡ other) × (rest ≡ left)
one_initializer d ts rest left one other p q =
    let levels = height_initializer one + height_initializer other + 1 in
    agree (complete_initializer p levels (omega arith)) (complete_initializer q levels (omega arith))

pub one_initializers : (d : Dialect) (ts rest left : List Lexeme) (one other : Initializers) → ReadsInitializers d ts one rest → ReadsInitializers d ts other left → (one ≡ other) × (rest ≡ left)
one_initializers d ts rest left one other p q =
    let levels = height_initializers one + height_initializers other + 1 in
    agree_on initializers_from (initializers_back one) (initializers_back other) (complete_initializers p levels (omega arith)) (complete_initializers q levels (omega arith))

pub one_init_declarator : (d : Dialect) (typedef : Bool) (ts rest left : List Lexeme) (one other : InitDeclarator) → ReadsInitDeclarator d typedef ts one rest → ReadsInitDeclarator d typedef ts other left
    → (one ≡ other) × (rest ≡ left)
one_init_declarator d typedef ts rest left one other p q =
    let levels = height_init_declarator one + height_init_declarator other + 1 in
    agree (complete_init_declarator p levels (omega arith)) (complete_init_declarator q levels (omega arith))

-- before a `;` there are none
none_there : {d : Dialect} {typedef : Bool} {ts rest : List Lexeme} {all : List InitDeclarator} → ReadsInitDeclarators d typedef ts all rest → sees (codes ";") ts ≡ true → (all ≡ []) × (rest ≡ ts)
none_there (s.no_init_declarator e) u = (refl, refl)
none_there (s.last_init_declarator p e) u = let no = init_declarator_begins p in absurd (cc)
none_there (s.more_init_declarators p e f q) u = let no = init_declarator_begins p in absurd (cc)

one_list : (d : Dialect) (typedef : Bool) (ts rest left : List Lexeme) (one other : List InitDeclarator) → ReadsInitDeclarators d typedef ts one rest → ReadsInitDeclarators d typedef ts other left
    → (stops : Bool) → sees (codes ";") ts ≡ stops → (one ≡ other) × (rest ≡ left)
one_list d typedef ts rest left one other p q true e =
    let here = none_there p e in
    let there = none_there q e in
    (here.0 ∙ sym there.0, here.1 ∙ sym there.1)
one_list d typedef ts rest left one other p q false e =
    let levels = height_init_declarators one + height_init_declarators other + 1 in
    agree (all_of (complete_init_declarators p e levels (omega arith))) (all_of (complete_init_declarators q e levels (omega arith)))

pub one_init_declarators : (d : Dialect) (typedef : Bool) (ts rest left : List Lexeme) (one other : List InitDeclarator) → ReadsInitDeclarators d typedef ts one rest
    → ReadsInitDeclarators d typedef ts other left → (one ≡ other) × (rest ≡ left)
one_init_declarators d typedef ts rest left one other p q = one_list d typedef ts rest left one other p q (sees (codes ";") ts) refl

head_or : Lexeme → List Lexeme → Lexeme
head_or x [] = x
head_or x (y ∷ ts) = y

tail_of : List Lexeme → List Lexeme
tail_of [] = []
tail_of (x ∷ ts) = ts

same_declaration : (start : Span) (words others : Specifiers) (all more : List InitDeclarator) (y z : Lexeme) (rest left : List Lexeme) → words ≡ others → all ≡ more → y ∷ rest ≡ z ∷ left
    → (t.declaration words all (to start (at y)) ≡ t.declaration others more (to start (at z))) × (rest ≡ left)
unfolding head_or tail_of
same_declaration start words others all more y z rest left e f g =
    let same : y ≡ z = ap (head_or y) g in
    (rw (e, f, same) refl, ap tail_of g)

-- whatever tests its specifiers meet
pub one_declaration : (d : Dialect) (typedef : Bool) (allowed others : Specifiers → Bool) (ts rest left : List Lexeme) (one other : Declaration) → ReadsDeclaration d typedef allowed ts one rest
    → ReadsDeclaration d typedef others ts other left → (one ≡ other) × (rest ≡ left)
one_declaration d typedef allowed others _ _ _ _ _ (s.declaration {x = x} {y = y} {ts = ts} {mid = mid} {rest = rest} {s = words} {all = all} e p f q g)
    (s.declaration {y = z} {mid = middle} {rest = left} {s = more} {all = each} h v i w j) =
    let head = one_specifiers d false (x ∷ ts) mid middle words more p v in
    let tail = one_init_declarators d typedef mid (y ∷ rest) (z ∷ left) all each q (subst (λ from. ReadsInitDeclarators d typedef from each (z ∷ left)) (sym head.1) w) in
    same_declaration (at x) words more all each y z rest left head.0 tail.0 tail.1

-- ---- statements

pub one_optional : (d : Dialect) (stop : List ℕ) (ts rest left : List Lexeme) (one other : Option Expression) → ReadsOptional d stop ts one rest → ReadsOptional d stop ts other left → (one ≡ other) × (rest ≡ left)
one_optional d stop ts rest left one other p q =
    let levels = height_optional one + height_optional other + 1 in
    agree (complete_optional p levels (omega arith)) (complete_optional q levels (omega arith))

pub one_test : (d : Dialect) (ts rest left : List Lexeme) (one other : Expression) → ReadsTest d ts one rest → ReadsTest d ts other left → (one ≡ other) × (rest ≡ left)
one_test d ts rest left one other p q =
    let levels = height one + height other + 1 in
    agree (complete_test p levels (omega arith)) (complete_test q levels (omega arith))

pub one_for_start : (d : Dialect) (ts rest left : List Lexeme) (one other : ForStart) → ReadsForStart d ts one rest → ReadsForStart d ts other left → (one ≡ other) × (rest ≡ left)
one_for_start d ts rest left one other p q =
    let levels = height_start one + height_start other + 1 in
    agree (complete_for_start p levels (omega arith)) (complete_for_start q levels (omega arith))

pub one_statement : (d : Dialect) (ts rest left : List Lexeme) (one other : Statement) → ReadsStatement d ts one rest → ReadsStatement d ts other left → (one ≡ other) × (rest ≡ left)
one_statement d ts rest left one other p q =
    let levels = height_statement one + height_statement other + 1 in
    agree (complete_statement p levels (omega arith)) (complete_statement q levels (omega arith))

-- and where it stands
pub one_compound : (d : Dialect) (place other_place : Span) (ts rest left : List Lexeme) (one other : BlockItems) → ReadsCompound d ts one place rest → ReadsCompound d ts other other_place left
    → (one ≡ other) × (place ≡ other_place) × (rest ≡ left)
one_compound d place other_place ts rest left one other p q =
    let levels = height_block one + height_block other + 1 in
    let same = agree (complete_compound p levels (omega arith)) (complete_compound q levels (omega arith)) in
    (sym (block_back one) ∙ (ap (λ block. block_from block.items) same.0 ∙ block_back other), ap (λ block. block.span) same.0, same.1)

pub one_block_items : (d : Dialect) (ts rest left : List Lexeme) (one other : BlockItems) → ReadsBlockItems d ts one rest → ReadsBlockItems d ts other left → (one ≡ other) × (rest ≡ left)
one_block_items d ts rest left one other p q =
    let levels = height_block one + height_block other + 1 in
    agree_on block_from (block_back one) (block_back other) (complete_block_items p levels (omega arith)) (complete_block_items q levels (omega arith))

-- ---- items

pub one_item : (d : Dialect) (ts rest left : List Lexeme) (one other : Item) → ReadsItem d ts one rest → ReadsItem d ts other left → (one ≡ other) × (rest ≡ left)
one_item d ts rest left one other p q =
    let levels = height_item one + height_item other + 1 in
    agree (complete_item p levels (omega arith)) (complete_item q levels (omega arith))

pub one_unit : (d : Dialect) (ts : List Lexeme) (one other : List Item) → ReadsUnit d ts one → ReadsUnit d ts other → one ≡ other
one_unit d ts one other p q =
    let levels = height_unit one + height_unit other + 1 in
    (agree (all_of (complete_items p levels (omega arith))) (all_of (complete_items q levels (omega arith)))).0

pub one_tree : (d : Dialect) (tokens : List Tok) (one other : List Item) → IsTree d tokens one → IsTree d tokens other → one ≡ other
one_tree d tokens one other p q = one_unit d (lexemes_of tokens) one other p q
