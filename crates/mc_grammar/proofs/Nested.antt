-- Structures inside one another have a tree, and each of their trees is as high as they are deep.
use Rattle.std.proofs.Common.{◌≡◌, ℕ, zero, suc, ◌+◌, ◌≤◌, ◌<◌, max, Bool, true, false, List, [], ◌∷◌, refl, sym, ◌∙◌, subst, ap, arith, codes}
use Rattle.std.proofs.Math.Nat.{max-zero, zero-max}
use Rattle.mc_lex.specs.declared.token.Dialect.{Dialect}
use Rattle.mc_span.specs.declared.span.Span.{Span}
use Rattle.mc_lex.specs.Tokens.{Tok}
use Rattle.mc_tree.specs.declared.declarations.specifier_word.SpecifierWord.{SpecifierWord}
use Rattle.mc_tree.specs.Tree.{Specifiers, StructMember, Members, Declarator, Declarators, ArrayLengths, InitDeclarator, Item}
use Rattle.mc_tree.specs.Tree as t
use Rattle.mc_tree.specs.Height.{height, height_specifiers, height_members, height_member, height_declarators, height_declarator, height_lengths, height_init_declarator, height_init_declarators, height_item, height_unit}
use Rattle.mc_grammar.specs.Words.{Lexeme, lexeme_of, lexemes_of, is_punctuator, retag, sees_specifiers}
use Rattle.mc_grammar.specs.Operators.{IsSpecifierWord}
use Rattle.mc_grammar.specs.Operators as o
use Rattle.mc_grammar.specs.Counts.{for_type}
use Rattle.mc_grammar.specs.Places.{at}
use Rattle.mc_grammar.specs.Expressions.{ReadsStars, ReadsSpecifiers, ReadsMembers, ReadsMember, ReadsDeclarators, ReadsDeclarator, ReadsArrayLengths, ReadsParameters}
use Rattle.mc_grammar.specs.Expressions as r
use Rattle.mc_grammar.specs.Statements.{ReadsInitDeclarator, ReadsInitDeclarators}
use Rattle.mc_grammar.specs.Statements as s
use Rattle.mc_grammar.specs.Items.{ReadsItem, ReadsUnit, IsTree, IsTreeWithin, is_item_of}
use Rattle.mc_grammar.specs.Items as i
use Rattle.mc_grammar.specs.Samples.{keyword, word_of, punctuator, number}
use Rattle.mc_grammar.specs.Nested.{width, nested, nested_tokens, nested_height}
use Rattle.mc_grammar.proofs.Lengths.{item_shorter}
use Rattle.mc_grammar.proofs.Leaving.{other_sign, same_rest, plain_starts, postfix_leaves, postfix_to_cond, constant_leaves}
use Rattle.mc_grammar.proofs.Refused.{bracket_stops, no_parameters, no_stars, no_words}
use Rattle.mc_grammar.proofs.Derivations.{at_bracket, alone, a_constant}

-- an identifier and a punctuator, as the texts have them
abbrev a_word : List ℕ → ℕ → Lexeme
a_word text start = lexeme_of (word_of text start)

abbrev a_mark : List ℕ → ℕ → Lexeme
a_mark text start = lexeme_of (punctuator text start)

-- ---- they have a tree

member_of : {d : Dialect} {y : Lexeme} {ts mid rest : List Lexeme} {s : Specifiers} {ds : Declarators}
    → ReadsSpecifiers d false ts s mid → for_type s ≡ true → ReadsDeclarators d mid ds (y ∷ rest) → is_punctuator (codes ";") y ≡ true
    → (m : StructMember) × ReadsMember d ts m rest
member_of {ts = []} (r.specifiers_end g) e q f = absurd (cc)
member_of {ts = x ∷ ts} p e q f = (_, r.struct_member p e q f)

item_of : {d : Dialect} {y : Lexeme} {ts mid rest : List Lexeme} {s : Specifiers} {all : List InitDeclarator}
    → sees_specifiers ts ≡ true → ReadsSpecifiers d false ts s mid → is_item_of false s ≡ true
    → ReadsInitDeclarators d false mid all (y ∷ rest) → is_punctuator (codes ";") y ≡ true
    → (one : Item) × ReadsItem d ts one rest
item_of {ts = []} e p f q g = absurd (cc)
item_of {ts = x ∷ ts} e p f q g = (_, i.declared {typedef = false} (s.declaration e p f q g))

reads_nested : (d : Dialect) (sized : Bool) (k place : ℕ) (text : List ℕ) (start : ℕ) (ts : List Tok)
    → (all : Specifiers) × ReadsSpecifiers d false (lexemes_of (nested sized k place (word_of text start ∷ ts))) all (lexemes_of (word_of text start ∷ ts)) × (for_type all ≡ true) × (is_item_of false all ≡ true)
unfolding nested
reads_nested d false zero place text start ts = (_, r.word (o.int refl) (r.specifiers_end refl), refl, refl)
reads_nested d true zero place text start ts = (
  _,
  r.untagged_structure refl refl
      (r.last_member (r.struct_member (r.word (o.int refl) (r.specifiers_end refl)) refl (r.last_declarator (r.object (r.no_star refl) refl refl
      (r.given_length refl refl (alone (a_constant refl refl refl refl) (at_bracket (place + 16)) refl) refl (r.lengths_end refl))) refl) refl) refl)
      refl (r.specifiers_end refl),
  refl,
  refl,
)
reads_nested d sized (suc k) place text start ts =
    let inner = reads_nested d sized k (place + 9) (codes "a") (place + 10 + width sized k) (punctuator (codes ";") (place + 11 + width sized k) ∷ punctuator (codes "}") (place + 13 + width sized k) ∷ word_of text start ∷ ts) in
    let one = member_of inner.1 inner.2 (r.last_declarator (r.object (r.no_star refl) refl refl (r.lengths_end refl)) refl) refl in (
      _,
      r.untagged_structure refl refl
          (r.last_member one.1 refl)
          refl (r.specifiers_end refl),
      refl,
      refl,
    )

begins : (sized : Bool) (k place : ℕ) (ts : List Tok) → sees_specifiers (lexemes_of (nested sized k place ts)) ≡ true
unfolding nested
begins false zero place ts = refl
begins true zero place ts = refl
begins sized (suc k) place ts = refl

nested_read : (d : Dialect) (sized : Bool) (k : ℕ) → (unit : List Item) × IsTree d (nested_tokens sized k) unit
nested_read d sized k =
    let inner = reads_nested d sized k 0 (codes "a") (1 + width sized k) (punctuator (codes ";") (2 + width sized k) ∷ []) in
    let one = item_of (begins sized k 0 _) inner.1 inner.3 (s.last_init_declarator (s.bare (r.object (r.no_star refl) refl refl (r.lengths_end refl)) refl) refl) refl in
    (_, i.item one.1 i.no_items)

-- ---- each tree of them has this height

no_sizes_read : {d : Dialect} {before end : Span} {x : Lexeme} {ts rest : List Lexeme} {all : ArrayLengths} → is_punctuator (codes "[") x ≡ false → ReadsArrayLengths d before (x ∷ ts) all end rest → (rest ≡ x ∷ ts) × (height_lengths all ≡ 0)
no_sizes_read h (r.lengths_end e) = (refl, refl)
no_sizes_read h (r.absent_length e f p) = absurd (cc)
no_sizes_read h (r.given_length e f p g q) = absurd (cc)

declarator_read : {d : Dialect} {text : List ℕ} {start place : ℕ} {ts rest : List Lexeme} {one : Declarator} → ReadsDeclarator d (a_word text start ∷ a_mark (codes ";") place ∷ ts) one rest
    → (rest ≡ a_mark (codes ";") place ∷ ts) × (height_declarator one ≡ 0)
declarator_read {d = d} {rest = rest} (r.object {y = y} {end = end} {lengths = lengths} p e f q) = no_sizes_read refl (subst (λ us. ReadsArrayLengths d (at y) us lengths end rest) (same_rest (no_stars refl p)) q)
declarator_read {d = d} {rest = rest} (r.function {ps = ps} p e q) = absurd (no_parameters refl (subst (λ us. ReadsParameters d us ps rest) (same_rest (no_stars refl p)) q))

declarators_read : {d : Dialect} {text : List ℕ} {start place : ℕ} {ts rest : List Lexeme} {all : Declarators} → ReadsDeclarators d (a_word text start ∷ a_mark (codes ";") place ∷ ts) all rest
    → (rest ≡ a_mark (codes ";") place ∷ ts) × (height_declarators all ≡ 0)
declarators_read (r.last_declarator p e) = let q = declarator_read p in (q.0, max-zero _ ∙ q.1)
declarators_read (r.more_declarators p e q) = absurd (other_sign (codes ",") (declarator_read p).0 refl e)

-- a declarator with the length 1
sized_read : {d : Dialect} {before end : Span} {first number_start last place : ℕ} {ts rest : List Lexeme} {all : ArrayLengths}
    → ReadsArrayLengths d before (a_mark (codes "[") first ∷ lexeme_of (number 1 (codes "1") number_start) ∷ a_mark (codes "]") last ∷ a_mark (codes ";") place ∷ ts) all end rest → (rest ≡ a_mark (codes ";") place ∷ ts) × (height_lengths all ≡ 1)
sized_read (r.lengths_end e) = absurd (cc)
sized_read (r.absent_length e f p) = absurd (cc)
sized_read {d = d} {number_start = start} {last = last} {rest = rest} (r.given_length {y = y} {end = end} {a = a} {lengths = more} e f p g q) =
    let one = postfix_to_cond (plain_starts _ refl) (bracket_stops last) refl (postfix_leaves (bracket_stops last) (constant_leaves 1 true false 0 (codes "1") start)) _ _ p in
    let after = no_sizes_read refl (subst (λ us. ReadsArrayLengths d (at y) us more end rest) (same_rest one.0) q) in
    (after.0, ap (λ m. max m (height_lengths more)) (ap height one.1) ∙ ap (max 1) after.1)

sized_declarator_read : {d : Dialect} {text : List ℕ} {start first number_start last place : ℕ} {ts rest : List Lexeme} {one : Declarator}
    → ReadsDeclarator d (a_word text start ∷ a_mark (codes "[") first ∷ lexeme_of (number 1 (codes "1") number_start) ∷ a_mark (codes "]") last ∷ a_mark (codes ";") place ∷ ts) one rest
    → (rest ≡ a_mark (codes ";") place ∷ ts) × (height_declarator one ≡ 1)
sized_declarator_read {d = d} {rest = rest} (r.object {y = y} {end = end} {lengths = lengths} p e f q) = sized_read (subst (λ us. ReadsArrayLengths d (at y) us lengths end rest) (same_rest (no_stars refl p)) q)
sized_declarator_read {d = d} {rest = rest} (r.function {ps = ps} p e q) = absurd (no_parameters refl (subst (λ us. ReadsParameters d us ps rest) (same_rest (no_stars refl p)) q))

sized_declarators_read : {d : Dialect} {text : List ℕ} {start first number_start last place : ℕ} {ts rest : List Lexeme} {all : Declarators}
    → ReadsDeclarators d (a_word text start ∷ a_mark (codes "[") first ∷ lexeme_of (number 1 (codes "1") number_start) ∷ a_mark (codes "]") last ∷ a_mark (codes ";") place ∷ ts) all rest
    → (rest ≡ a_mark (codes ";") place ∷ ts) × (height_declarators all ≡ 1)
sized_declarators_read (r.last_declarator p e) = let q = sized_declarator_read p in (q.0, max-zero _ ∙ q.1)
sized_declarators_read (r.more_declarators p e q) = absurd (other_sign (codes ",") (sized_declarator_read p).0 refl e)

-- a member whose words leave this, of which its declarators leave that
member_read : {d : Dialect} {k m place : ℕ} {ts vs us rest : List Lexeme} {one : StructMember}
    → ((all : Specifiers) (left : List Lexeme) → ReadsSpecifiers d false ts all left → (left ≡ vs) × (height_specifiers all ≡ k))
    → ((all : Declarators) (left : List Lexeme) → ReadsDeclarators d vs all left → (left ≡ a_mark (codes ";") place ∷ us) × (height_declarators all ≡ m))
    → ReadsMember d ts one rest → (rest ≡ us) × (height_member one ≡ max k m)
member_read {d = d} {k = k} h g (r.struct_member {y = y} {rest = rest} {s = all} {ds = ds} p f q v) =
    let inner = h _ _ p in
    let after = g _ _ (subst (λ vs. ReadsDeclarators d vs ds (y ∷ rest)) inner.0 q) in
    (same_rest after.0, ap (λ m. max m (height_declarators ds)) inner.1 ∙ ap (max k) after.1)

no_more : {mid vs : List Lexeme} {end : ℕ} → mid ≡ a_mark (codes "}") end ∷ vs → sees_specifiers mid ≡ true → ⊥
no_more e f = absurd (cc)

members_read : {d : Dialect} {k end : ℕ} {ts us rest : List Lexeme} {all : Members}
    → ((one : StructMember) (left : List Lexeme) → ReadsMember d ts one left → (left ≡ a_mark (codes "}") end ∷ us) × (height_member one ≡ k))
    → ReadsMembers d ts all rest → (rest ≡ a_mark (codes "}") end ∷ us) × (height_members all ≡ k)
members_read h (r.last_member p e) = let q = h _ _ p in (q.0, max-zero _ ∙ q.1)
members_read h (r.more_members p e q) = absurd (no_more (h _ _ p).0 e)

struct_no_word : {place : ℕ} {w : SpecifierWord} → IsSpecifierWord (lexeme_of (keyword (codes "struct") place)) w → ⊥
struct_no_word (o.typedef e) = absurd (cc)
struct_no_word (o.static e) = absurd (cc)
struct_no_word (o.extern e) = absurd (cc)
struct_no_word (o.const e) = absurd (cc)
struct_no_word (o.void e) = absurd (cc)
struct_no_word (o.bool e) = absurd (cc)
struct_no_word (o.char e) = absurd (cc)
struct_no_word (o.short e) = absurd (cc)
struct_no_word (o.int e) = absurd (cc)
struct_no_word (o.long e) = absurd (cc)
struct_no_word (o.signed e) = absurd (cc)
struct_no_word (o.unsigned e) = absurd (cc)

int_read : {d : Dialect} {place start : ℕ} {text : List ℕ} {ts rest : List Lexeme} {all : Specifiers} → ReadsSpecifiers d false (lexeme_of (keyword (codes "int") place) ∷ a_word text start ∷ ts) all rest
    → (rest ≡ a_word text start ∷ ts) × (height_specifiers all ≡ 0)
int_read (r.specifiers_end e) = absurd (cc)
int_read (r.word e p) = let q = no_words (λ text. refl) refl p in (q.1, zero-max _ ∙ ap height_specifiers q.0)
int_read (r.typedef_name e p) = absurd (cc)
int_read (r.structure_tag e f k p) = absurd (cc)
int_read (r.structure e f k p v q) = absurd (cc)
int_read (r.untagged_structure e f p v q) = absurd (cc)
int_read (r.enumeration_tag e f k p) = absurd (cc)
int_read (r.enumeration e f k p v q) = absurd (cc)
int_read (r.untagged_enumeration e f p v q) = absurd (cc)

structure_read : {d : Dialect} {k place brace end next : ℕ} {text : List ℕ} {ts us rest : List Lexeme} {all : Specifiers}
    → ((one : StructMember) (left : List Lexeme) → ReadsMember d ts one left → (left ≡ a_mark (codes "}") end ∷ a_word text next ∷ us) × (height_member one ≡ k))
    → ReadsSpecifiers d false (lexeme_of (keyword (codes "struct") place) ∷ a_mark (codes "{") brace ∷ ts) all rest
    → (rest ≡ a_word text next ∷ us) × (height_specifiers all ≡ suc k)
structure_read h (r.specifiers_end e) = absurd (cc)
structure_read h (r.word e p) = absurd (struct_no_word e)
structure_read h (r.typedef_name e p) = absurd (cc)
structure_read h (r.structure_tag e f g p) = absurd (cc)
structure_read h (r.structure e f g p v q) = absurd (cc)
structure_read {d = d} {k = k} {rest = rest} h (r.untagged_structure {ms = ms} {s = more} e f p v q) =
    let inner = members_read h p in
    let after = no_words (λ text. refl) refl (subst (λ vs. ReadsSpecifiers d true vs more rest) (same_rest inner.0) q) in
    (after.1, ap (max (height_members ms + 1)) (ap height_specifiers after.0) ∙ max-zero (height_members ms + 1) ∙ ap (λ m. m + 1) inner.1 ∙ omega arith)
structure_read h (r.enumeration_tag e f g p) = absurd (cc)
structure_read h (r.enumeration e f g p v q) = absurd (cc)
structure_read h (r.untagged_enumeration e f p v q) = absurd (cc)

one_more : (sized : Bool) (k : ℕ) → suc (nested_height sized k) ≡ nested_height sized (suc k)
one_more true k = omega arith
one_more false k = refl

nested_specifiers : (d : Dialect) (sized : Bool) (k place : ℕ) (text : List ℕ) (start : ℕ) (ts : List Tok) (all : Specifiers) (rest : List Lexeme)
    → ReadsSpecifiers d false (lexemes_of (nested sized k place (word_of text start ∷ ts))) all rest → (rest ≡ lexemes_of (word_of text start ∷ ts)) × (height_specifiers all ≡ nested_height sized k)
unfolding nested
nested_specifiers d false zero place text start ts all rest p = int_read p
nested_specifiers d true zero place text start ts all rest p = structure_read (λ one left. member_read (λ s left. int_read) (λ s left. sized_declarators_read)) p
nested_specifiers d sized (suc k) place text start ts all rest p =
    let all = structure_read (λ one left. member_read
    (λ s left. nested_specifiers d sized k (place + 9) (codes "a") (place + 10 + width sized k) (punctuator (codes ";") (place + 11 + width sized k) ∷ punctuator (codes "}") (place + 13 + width sized k) ∷ word_of text start ∷ ts) s left)
    (λ s left. declarators_read)) p in
    (all.0, all.1 ∙ ap suc (max-zero (nested_height sized k)) ∙ one_more sized k)

after_semicolon : (typedef : Bool) (one : Declarator) (place : ℕ) (mid : List Lexeme) → mid ≡ a_mark (codes ";") place ∷ [] → s.after typedef one mid ≡ a_mark (codes ";") place ∷ []
unfolding retag
after_semicolon true one place mid e = ap (retag (t.name_of one).text) e
after_semicolon false one place mid e = e

init_declarator_read : {d : Dialect} {typedef : Bool} {text : List ℕ} {start place : ℕ} {rest : List Lexeme} {one : InitDeclarator}
    → ReadsInitDeclarator d typedef (a_word text start ∷ a_mark (codes ";") place ∷ []) one rest → (rest ≡ a_mark (codes ";") place ∷ []) × (height_init_declarator one ≡ 0)
init_declarator_read {typedef = typedef} {place = place} (s.bare {d = one} p e) = let q = declarator_read p in (after_semicolon typedef one place _ q.0, q.1)
init_declarator_read {typedef = typedef} {place = place} (s.initialized {d = one} p g e q) = absurd (other_sign (codes "=") (sym g ∙ after_semicolon typedef one place _ (declarator_read p).0) refl e)

init_declarators_read : {d : Dialect} {typedef : Bool} {text : List ℕ} {start place : ℕ} {rest : List Lexeme} {all : List InitDeclarator}
    → ReadsInitDeclarators d typedef (a_word text start ∷ a_mark (codes ";") place ∷ []) all rest → (rest ≡ a_mark (codes ";") place ∷ []) × (height_init_declarators all ≡ 0)
init_declarators_read (s.no_init_declarator e) = absurd (cc)
init_declarators_read (s.last_init_declarator p e) = let q = init_declarator_read p in (q.0, max-zero _ ∙ q.1)
init_declarators_read (s.more_init_declarators p e f q) = absurd (other_sign (codes ",") (init_declarator_read p).0 refl e)

-- an item whose words leave a name and a `;`
nested_item : {d : Dialect} {k start place : ℕ} {text : List ℕ} {ts rest : List Lexeme} {one : Item}
    → ((all : Specifiers) (left : List Lexeme) → ReadsSpecifiers d false ts all left → (left ≡ a_word text start ∷ a_mark (codes ";") place ∷ []) × (height_specifiers all ≡ k))
    → ReadsItem d ts one rest → (rest ≡ []) × (height_item one ≡ k)
nested_item {d = d} {k = k} h (i.declared {typedef = typedef} (s.declaration {y = y} {rest = rest} {all = all} e p f q g)) =
    let inner = h _ _ p in
    let after = init_declarators_read (subst (λ us. ReadsInitDeclarators d typedef us all (y ∷ rest)) inner.0 q) in
    (same_rest after.0, ap (λ m. max m (height_init_declarators all)) inner.1 ∙ ap (max k) after.1 ∙ max-zero k)
nested_item {d = d} h (i.defined {y = y} {z = z} {before = before} {mid = mid} {body = body} {stars = stars} {ps = ps} p e q f v w) =
    absurd (no_parameters refl (subst (λ us. ReadsParameters d us ps body) (same_rest (no_stars refl (subst (λ us. ReadsStars (at y) us stars before (z ∷ mid)) (h _ _ p).0 q))) v))

no_unit : {d : Dialect} {all : List Item} → ReadsUnit d [] all → all ≡ []
no_unit i.no_items = refl
no_unit (i.item p q) = absurd (omega (arith, item_shorter p))

nested_unit : {d : Dialect} {k : ℕ} {ts : List Lexeme} {unit : List Item} → ((one : Item) (rest : List Lexeme) → ReadsItem d ts one rest → (rest ≡ []) × (height_item one ≡ k)) → sees_specifiers ts ≡ true
    → ReadsUnit d ts unit → height_unit unit ≡ k
nested_unit h e i.no_items = absurd (cc)
nested_unit {d = d} {k = k} h e (i.item {i = one} {all = all} p q) =
    let inner = h _ _ p in
    ap (max (height_item one)) (ap height_unit (no_unit (subst (λ us. ReadsUnit d us all) inner.0 q))) ∙ max-zero (height_item one) ∙ inner.1

pub as_high : (d : Dialect) (sized : Bool) (k : ℕ) (unit : List Item) → IsTree d (nested_tokens sized k) unit → height_unit unit ≡ nested_height sized k
as_high d sized k unit p = nested_unit (λ one rest. nested_item (λ all left. nested_specifiers d sized k 0 _ _ _ all left)) (begins sized k 0 _) p

pub within : (d : Dialect) (sized : Bool) (k limit : ℕ) → nested_height sized k ≤ limit → (unit : List Item) × IsTreeWithin limit d (nested_tokens sized k) unit
within d sized k limit h = let one = nested_read d sized k in (one.0, (one.1, omega (arith, h, as_high d sized k one.0 one.1)))

pub too_high : (d : Dialect) (sized : Bool) (k limit : ℕ) (unit : List Item) → limit < nested_height sized k → IsTreeWithin limit d (nested_tokens sized k) unit → ⊥
too_high d sized k limit unit h p = omega (arith, h, p.1, as_high d sized k unit p.0)
