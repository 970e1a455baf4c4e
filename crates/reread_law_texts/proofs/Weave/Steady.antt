-- Steps that begin with the next token of the source: where none of an expression's brackets may
-- stand.
use Rattle.std.proofs.Common.{◌≡◌, ℕ, Bool, true, false, not, ◌&&◌, ◌||◌, List, [], ◌∷◌, Option, Some, None, refl, sym, ap, ◌∙◌, codes, true≢false}
use Rattle.mc_span.specs.declared.span.Span.{Span}
use Rattle.mc_lex.specs.declared.token.Dialect.{Dialect}
use Rattle.mc_tree.specs.Tree.{TypeName, Specifiers, StructMember, Members, Enumerator, Enumerators, Declarator, Declarators, ArrayLengths, Parameter, ParameterList}
use Rattle.mc_grammar.specs.Words.{Lexeme, is_keyword, is_punctuator, is_specifier_word, is_type_name, next_is, sees_void_alone, go_on}
use Rattle.mc_grammar.specs.Counts.{for_type}
use Rattle.mc_grammar.specs.Expressions.{ReadsTypeName, ReadsStars, ReadsSpecifiers, ReadsMembers, ReadsMember, ReadsDeclarators, ReadsEnumerators, ReadsEnumerator, ReadsDeclarator, ReadsArrayLengths, ReadsParameterList, ReadsParameter}
use Rattle.mc_grammar.specs.Expressions as r
use Rattle.reread_law_texts.specs.weave.Brackets.{Brackets, Step, copy, run}
use Rattle.reread_law_texts.specs.weave.Weaving.{none, in_expression, in_parameters, in_stars, in_type_name, in_specifiers, in_members, in_member, in_declarators, in_enumerators, in_enumerator, in_declarator, in_lengths, in_parameter_list, in_parameter}

abbrev pub first : List Lexeme → Option Lexeme
first [] = None
first (x ∷ ts) = Some x

abbrev pub tail : List Lexeme → List Lexeme
tail [] = []
tail (x ∷ ts) = ts

abbrev test_first : (Lexeme → Bool) → Option Lexeme → Bool
test_first test None = false
test_first test (Some x) = test x

by_first : (test : Lexeme → Bool) (ts : List Lexeme) → next_is test ts ≡ test_first test (first ts)
by_first test [] = refl
by_first test (x ∷ ts) = refl

-- a test of the next token
pub same_next : (test : Lexeme → Bool) (us ts : List Lexeme) → first us ≡ first ts → next_is test us ≡ next_is test ts
same_next test us ts e = by_first test us ∙ (ap (test_first test) e ∙ sym (by_first test ts))

some_injective : {x y : Lexeme} → ◌≡◌ {A = Option Lexeme} (Some x) (Some y) → x ≡ y
some_injective e = cc

none_some : {x : Lexeme} → ◌≡◌ {A = Option Lexeme} None (Some x) → ⊥
none_some e = absurd (cc)

pub front : (us : List Lexeme) {x : Lexeme} → first us ≡ Some x → us ≡ x ∷ tail us
front [] e = absurd (none_some e)
front (y ∷ us) e = ap (λ z. z ∷ us) (some_injective e)

-- the first of these steps leaves the next token where it is
abbrev pub Steady : List Step → Type 0
Steady s = (ts : List Lexeme) → first (run s ts) ≡ first ts

pub copies : (s : List Step) → Steady (copy ∷ s)
copies s [] = refl
copies s (x ∷ ts) = refl

pub kept : (test : Lexeme → Bool) (s : List Step) → Steady s → (ts : List Lexeme) {b : Bool} → next_is test ts ≡ b → next_is test (run s ts) ≡ b
kept test s h ts e = same_next test (run s ts) ts (h ts) ∙ e

pub goes_kept : (s : List Step) → Steady s → (has : Bool) (ts : List Lexeme) {b : Bool} → go_on has ts ≡ b → go_on has (run s ts) ≡ b
goes_kept s h has ts e =
    ap (λ one. one || (not has && next_is is_type_name (run s ts))) (kept is_specifier_word s h ts refl)
    ∙ (ap (λ other. next_is is_specifier_word ts || (not has && other)) (kept is_type_name s h ts refl) ∙ e)

-- ---- parts of declarations

pub stars_steady : {before end : Span} {ts rest : List Lexeme} {k : ℕ} (p : ReadsStars before ts k end rest) (s : List Step) → Steady s → Steady (in_stars p s)
stars_steady (r.star e p) s h = copies (in_stars p s)
stars_steady (r.no_star e) s h = h

pub specifiers_steady : (w : Brackets) {d : Dialect} {has : Bool} {ts rest : List Lexeme} {all : Specifiers} (p : ReadsSpecifiers d has ts all rest) (s : List Step) → Steady s → Steady (in_specifiers w p s)
specifiers_steady w (r.specifiers_end e) s h = h
specifiers_steady w (r.word e p) s h = copies (in_specifiers w p s)
specifiers_steady w (r.typedef_name e p) s h = copies (in_specifiers w p s)
specifiers_steady w (r.structure_tag e f g p) s h = copies (copy ∷ in_specifiers w p s)
specifiers_steady w (r.structure e f g p v q) s h = copies (copy ∷ copy ∷ in_members w p (copy ∷ in_specifiers w q s))
specifiers_steady w (r.untagged_structure e g p v q) s h = copies (copy ∷ in_members w p (copy ∷ in_specifiers w q s))
specifiers_steady w (r.enumeration_tag e f g p) s h = copies (copy ∷ in_specifiers w p s)
specifiers_steady w (r.enumeration e f g p v q) s h = copies (copy ∷ copy ∷ in_enumerators w p (copy ∷ in_specifiers w q s))
specifiers_steady w (r.untagged_enumeration e g p v q) s h = copies (copy ∷ in_enumerators w p (copy ∷ in_specifiers w q s))

pub type_name_steady : (w : Brackets) {d : Dialect} {ts rest : List Lexeme} {type : TypeName} (p : ReadsTypeName d ts type rest) (s : List Step) → Steady s → Steady (in_type_name w p s)
type_name_steady w (r.type_name p e q) s h = specifiers_steady w p (in_stars q s) (stars_steady q s h)

pub declarator_steady : (w : Brackets) {d : Dialect} {ts rest : List Lexeme} {one : Declarator} (p : ReadsDeclarator d ts one rest) (s : List Step) → Steady (in_declarator w p s)
declarator_steady w (r.object p e f q) s = stars_steady p (copy ∷ in_lengths w q s) (copies (in_lengths w q s))
declarator_steady w (r.function p e q) s = stars_steady p (copy ∷ in_parameters w q s) (copies (in_parameters w q s))

pub declarators_steady : (w : Brackets) {d : Dialect} {ts rest : List Lexeme} {all : Declarators} (p : ReadsDeclarators d ts all rest) (s : List Step) → Steady (in_declarators w p s)
declarators_steady w (r.last_declarator p e) s = declarator_steady w p s
declarators_steady w (r.more_declarators p e q) s = declarator_steady w p (copy ∷ in_declarators w q s)

pub member_steady : (w : Brackets) {d : Dialect} {ts rest : List Lexeme} {one : StructMember} (p : ReadsMember d ts one rest) (s : List Step) → Steady (in_member w p s)
member_steady w (r.struct_member p e q f) s = specifiers_steady w p (in_declarators w q (copy ∷ s)) (declarators_steady w q (copy ∷ s))

pub members_steady : (w : Brackets) {d : Dialect} {ts rest : List Lexeme} {all : Members} (p : ReadsMembers d ts all rest) (s : List Step) → Steady (in_members w p s)
members_steady w (r.last_member p e) s = member_steady w p s
members_steady w (r.more_members p e q) s = member_steady w p (in_members w q s)

pub enumerator_steady : (w : Brackets) {d : Dialect} {ts rest : List Lexeme} {one : Enumerator} (p : ReadsEnumerator d ts one rest) (s : List Step) → Steady (in_enumerator w p s)
enumerator_steady w (r.enumerator e f) s = copies s
enumerator_steady w (r.valued_enumerator e f p) s = copies (copy ∷ in_expression w p none s)

pub enumerators_steady : (w : Brackets) {d : Dialect} {ts rest : List Lexeme} {all : Enumerators} (p : ReadsEnumerators d ts all rest) (s : List Step) → Steady (in_enumerators w p s)
enumerators_steady w (r.last_enumerator p e) s = enumerator_steady w p s
enumerators_steady w (r.last_enumerator_comma p e f) s = enumerator_steady w p (copy ∷ s)
enumerators_steady w (r.more_enumerators p e f q) s = enumerator_steady w p (copy ∷ in_enumerators w q s)

pub lengths_steady : (w : Brackets) {d : Dialect} {before end : Span} {ts rest : List Lexeme} {all : ArrayLengths} (p : ReadsArrayLengths d before ts all end rest) (s : List Step) → Steady s → Steady (in_lengths w p s)
lengths_steady w (r.lengths_end e) s h = h
lengths_steady w (r.absent_length e f p) s h = copies (copy ∷ in_lengths w p s)
lengths_steady w (r.given_length e f p g q) s h = copies (in_expression w p none (copy ∷ in_lengths w q s))

pub parameter_steady : (w : Brackets) {d : Dialect} {ts rest : List Lexeme} {one : Parameter} (p : ReadsParameter d ts one rest) (s : List Step) → Steady s → Steady (in_parameter w p s)
parameter_steady w (r.parameter p e q f v) s h =
    specifiers_steady w p (in_stars q (copy ∷ in_lengths w v s)) (stars_steady q (copy ∷ in_lengths w v s) (copies (in_lengths w v s)))
parameter_steady w (r.unnamed_parameter p e q f v) s h = specifiers_steady w p (in_stars q (in_lengths w v s)) (stars_steady q (in_lengths w v s) (lengths_steady w v s h))

pub parameter_list_steady : (w : Brackets) {d : Dialect} {ts rest : List Lexeme} {all : ParameterList} (p : ReadsParameterList d ts all rest) (s : List Step) → Steady s → Steady (in_parameter_list w p s)
parameter_list_steady w (r.last_parameter p e) s h = parameter_steady w p s h
parameter_list_steady w (r.more_parameters p e q) s h = parameter_steady w p (copy ∷ in_parameter_list w q s) (copies (in_parameter_list w q s))

-- ---- `void` alone

abbrev SameVoid : List Step → List Lexeme → Type 0
SameVoid s ts = sees_void_alone (run s ts) ≡ sees_void_alone ts

word_void : (s : List Step) (x : Lexeme) (ts : List Lexeme) → Steady s → sees_void_alone (x ∷ run s ts) ≡ sees_void_alone (x ∷ ts)
word_void s x ts h = ap (λ b. is_keyword (codes "void") x && b) (kept (is_punctuator (codes ")")) s h ts refl)

specifiers_void : (w : Brackets) {d : Dialect} {ts rest : List Lexeme} {all : Specifiers} (p : ReadsSpecifiers d false ts all rest) (s : List Step) → Steady s → for_type all ≡ true → SameVoid (in_specifiers w p s) ts
specifiers_void w (r.specifiers_end e) s h g = absurd (true≢false (sym g))
specifiers_void w (r.word {x = x} {ts = ts} e p) s h g = word_void (in_specifiers w p s) x ts (specifiers_steady w p s h)
specifiers_void w (r.typedef_name {x = x} {ts = ts} e p) s h g = word_void (in_specifiers w p s) x ts (specifiers_steady w p s h)
specifiers_void w (r.structure_tag e f v p) s h g = refl
specifiers_void w (r.structure e f v p u q) s h g = refl
specifiers_void w (r.untagged_structure e v p u q) s h g = refl
specifiers_void w (r.enumeration_tag e f v p) s h g = refl
specifiers_void w (r.enumeration e f v p u q) s h g = refl
specifiers_void w (r.untagged_enumeration e v p u q) s h g = refl

parameter_void : (w : Brackets) {d : Dialect} {ts rest : List Lexeme} {one : Parameter} (p : ReadsParameter d ts one rest) (s : List Step) → Steady s → SameVoid (in_parameter w p s) ts
parameter_void w (r.parameter p e q f v) s h =
    specifiers_void w p (in_stars q (copy ∷ in_lengths w v s)) (stars_steady q (copy ∷ in_lengths w v s) (copies (in_lengths w v s))) e
parameter_void w (r.unnamed_parameter p e q f v) s h = specifiers_void w p (in_stars q (in_lengths w v s)) (stars_steady q (in_lengths w v s) (lengths_steady w v s h)) e

pub list_void : (w : Brackets) {d : Dialect} {ts rest : List Lexeme} {all : ParameterList} (p : ReadsParameterList d ts all rest) (s : List Step) → Steady s → SameVoid (in_parameter_list w p s) ts
list_void w (r.last_parameter p e) s h = parameter_void w p s h
list_void w (r.more_parameters p e q) s h = parameter_void w p (copy ∷ in_parameter_list w q s) (copies (in_parameter_list w q s))
