-- What the grammar reads of items and of a whole unit, the readers give where there is room for its height.
use Rattle.std.proofs.Common.{◌≡◌, ℕ, zero, suc, ◌+◌, ◌<◌, ◌≤◌, Bool, true, false, not, ◌&&◌, nat_eq, nat_le, List, [], ◌∷◌, length, Some, refl, ap, ◌∙◌, arith}
use Rattle.mc_lex.specs.declared.token.Dialect.{Dialect}
use Rattle.mc_tree.specs.Tree.{Declaration, Item, Specifiers}
use Rattle.mc_tree.specs.Tree as t
use Rattle.mc_tree.specs.Height.{height_item, height_unit, height_declaration}
use Rattle.mc_grammar.specs.Words.{Lexeme}
use Rattle.mc_grammar.specs.Places.{at}
use Rattle.mc_grammar.specs.Counts.{counts, for_item, for_function, has_one_type, is_typedef, storages}
use Rattle.mc_grammar.specs.Expressions as r
use Rattle.mc_grammar.specs.Statements.{ReadsDeclaration}
use Rattle.mc_grammar.specs.Statements as s
use Rattle.mc_grammar.specs.Items.{ReadsItem, ReadsUnit, is_item_of}
use Rattle.mc_grammar.specs.Items as i
use Rattle.mc_grammar.specs.steps.Parsers.{pure}
use Rattle.laws_grammar.specs.Lists.{until_list}
use Rattle.laws_grammar.specs.Rooms.{reading}
use Rattle.laws_grammar.specs.Items.{item_of, unit_of}
use Rattle.mc_grammar.proofs.Lengths.{item_shorter}
use Rattle.mc_grammar.specs.steps.Next.{ended}
use Rattle.laws_grammar.proofs.Known.{and_left, and_right}
use Rattle.laws_grammar.proofs.TreeLists.{block_back}
use Rattle.laws_grammar.proofs.CompleteLists.{Adds, all_of, until_none, until_more}
use Rattle.laws_grammar.proofs.CompleteExpressions.{complete_specifiers, complete_declarator, inside_specifiers}
use Rattle.laws_grammar.proofs.Beginnings.{declarator_begins, compound_begins}
use Rattle.laws_grammar.proofs.DeclarationSteps as step
use Rattle.laws_grammar.proofs.CompleteDeclarations.{Declares, none, some, complete_declares}
use Rattle.laws_grammar.proofs.CompleteStatements.{complete_compound}

-- ---- the words of an item

no_typedef_is : (a b : Bool) → (a && not b) ≡ true → b ≡ false
no_typedef_is true true e = absurd (cc)
no_typedef_is true false e = refl
no_typedef_is false b e = absurd (cc)

-- whether an item is a typedef is told by its words
told : (typedef : Bool) (words : Specifiers) → is_item_of typedef words ≡ true → is_typedef words ≡ typedef
told true words e = and_right (for_item words) (is_typedef words) e
told false words e = no_typedef_is (for_item words) (is_typedef words) e

words_of_item : (typedef : Bool) (words : Specifiers) → is_item_of typedef words ≡ true → for_item words ≡ true
words_of_item true words e = and_left (for_item words) (is_typedef words) e
words_of_item false words e = and_left (for_item words) (not (is_typedef words)) e

first_two : (a b c : Bool) → (a && b && c) ≡ true → (a && b) ≡ true
first_two true true c e = refl
first_two true false c e = absurd (cc)
first_two false b c e = absurd (cc)

words_of_function : (words : Specifiers) → for_function words ≡ true → for_item words ≡ true
words_of_function words e = first_two (has_one_type (counts words)) (nat_le (storages words) 1) (nat_eq (counts words).typedef 0) e

-- ---- items

item_made : (typedef : Bool) (rooms : ℕ) (x : Lexeme) (ts mid rest : List Lexeme) (words : Specifiers) (one : Declaration) → is_typedef words ≡ typedef
    → (reading rooms).specifiers for_item (x ∷ ts) ≡ Some (words, mid) → Declares typedef rooms (at x) words mid one rest → item_of rooms (x ∷ ts) ≡ Some (t.Declared one, rest)
item_made typedef rooms x ts mid rest words _ u h (none {y = y} same g) = step.item_none rooms x y ts rest words (h ∙ ap (λ left. pure words left) same) g
item_made typedef rooms x ts mid rest words one u h (some {left = left} {first = first} e g f v) = step.item_some rooms typedef x ts mid left rest words first one u h e g f v

declared : {d : Dialect} {typedef : Bool} {ts rest : List Lexeme} {one : Declaration} → ReadsDeclaration d typedef (is_item_of typedef) ts one rest → (rooms : ℕ) → height_declaration one < rooms
    → item_of rooms ts ≡ Some (t.Declared one, rest)
declared {typedef = typedef} (s.declaration {x = x} {ts = ts} {mid = mid} {rest = rest} {s = words} e p f q g) rooms h =
    item_made typedef rooms x ts mid rest words _ (told typedef words f) (inside_specifiers for_item _ _ _ (words_of_item typedef words f) (complete_specifiers p) rooms (omega arith))
    (complete_declares q g rooms (omega arith) (at x) words)

pub complete_item : {d : Dialect} {ts rest : List Lexeme} {one : Item} → ReadsItem d ts one rest → (levels : ℕ) → height_item one < levels → item_of levels ts ≡ Some (one, rest)
complete_item (i.declared p) levels h = declared p levels h
complete_item (i.defined p e q f v w) zero h = absurd (omega (arith, h))
complete_item (i.defined {s = words} {b = all} p e q f v w) (suc room) h =
    step.item_defined room _ _ _ _ _ _ _ _ _ _ _ _ (omega arith) (inside_specifiers for_item _ _ _ (words_of_function words e) (complete_specifiers p) (suc room) (omega arith)) (declarator_begins (r.function q f v))
    (complete_declarator (r.function q f v) (suc room) (omega arith)) (compound_begins w) e (complete_compound w room (omega arith)) (block_back all)

-- ---- a whole unit

goes_on : (ts rest : List Lexeme) → length rest < length ts → ended ts ≡ false
goes_on [] rest lt = absurd (omega (arith, lt))
goes_on (x ∷ ts) rest lt = refl

pub complete_items : {d : Dialect} {ts : List Lexeme} {all : List Item} → ReadsUnit d ts all → (levels : ℕ) → height_unit all < levels → Adds (λ turns. until_list turns ended (item_of levels)) ts all []
complete_items i.no_items levels h = until_none _ ended refl
complete_items (i.item {ts = ts} {rest = rest} p q) levels h =
    until_more _ ended (goes_on ts rest (item_shorter p)) (complete_item p levels (omega arith)) (item_shorter p) (complete_items q levels (omega arith))

pub complete_unit : (d : Dialect) (limit : ℕ) (ts : List Lexeme) (unit : List Item) → ReadsUnit d ts unit → height_unit unit ≤ limit → unit_of (limit + 1) ts ≡ Some (unit, [])
unfolding unit_of
complete_unit d limit ts unit p h = all_of (complete_items p (limit + 1) (omega arith))
