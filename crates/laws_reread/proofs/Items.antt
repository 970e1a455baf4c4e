-- External declarations, and the parts of the head of a function.
use Rattle.std.proofs.Common.{◌≡◌, ◌⊎◌, inl, inr, ℕ, Bool, true, false, not, ◌&&◌, ◌||◌, List, [], ◌∷◌, ◌++◌, None, refl, sym, ap, subst, ◌∙◌, codes, true≢false}
use Rattle.std.specs.List.{list_all, list_any}
use Rattle.std.specs.Str.{bytes_eq}
use Rattle.mc_span.specs.declared.span.Span.{Span}
use Rattle.mc_lex.specs.declared.token.Dialect.{Dialect}
use Rattle.mc_lex.specs.Tokens.{Tok}
use Rattle.mc_lex.specs.Words.{one_of}
use Rattle.mc_tree.specs.Tree.{Specifier, Specifiers, Declarator, InitDeclarator, Declaration, Parameters, Parameter, ParameterList, BlockItems}
use Rattle.mc_tree.specs.Tree as tree
use Rattle.subset_forms.specs.declared.context.Region.TheVariants as region
use Rattle.mc_subset.specs.Nodes.{a_specifier, a_parameter_list, nodes_of_specifier, nodes_of_specifiers, nodes_of_parameters}
use Rattle.mc_subset.specs.Forms.{first_outside}
use Rattle.mc_grammar.specs.Words.{Lexeme, is_punctuator, sees}
use Rattle.mc_grammar.specs.Expressions.{ReadsStars, ReadsParameters, ReadsParameterList}
use Rattle.mc_grammar.specs.Expressions as r
use Rattle.mc_grammar.specs.Statements.{ReadsInitDeclarator, ReadsInitDeclarators, ReadsDeclaration, ReadsBlockItems}
use Rattle.mc_grammar.specs.Statements as g
use Rattle.mc_grammar.specs.Spelling.{Spelled, Spells, comma, spell_specifier, spell_specifiers, spell_parameter, spell_parameter_list, spell_force, spell_init_declarator, spell_init_declarators, spell_block}
use Rattle.mc_grammar.specs.Spelling as spelling
use Rattle.mc_grammar.proofs.Spelling.{specifiers_spell, declarator_spells, parameter_spells, initializer_spells, declaration_spells, statement_spells}
use Rattle.mc_grammar.proofs.Storage.{local_typedef}
use Rattle.reread_pieces.specs.Words.{is}
use Rattle.reread_law_rows.specs.inserted.Fits.{IsBalanced, first_is, last_is}
use Rattle.reread_law_rows.specs.inserted.Fits as fit
use Rattle.reread_law_printed.specs.parts.Stands.{is_brace}
use Rattle.reread_law_printed.specs.placed.Heads.{has_body, is_apart}
use Rattle.laws_reread.proofs.Signs.{AreClear, brackets, no_bracket, are_pair}
use Rattle.laws_reread.proofs.Stretch.{Stretch, empty, free, join, no_braces, no_body}
use Rattle.laws_reread.proofs.Said.{assoc, inside, splits, AreWords, append_balanced, balanced, braceless, first_or_later, holds_none}
use Rattle.laws_reread.proofs.Trees.{anywhere, specifiers_stretch, list_stretch}
use Rattle.laws_reread.proofs.HeadedBodies.{inits_stretch}
use Rattle.reread_law_texts.proofs.Tokens.{tk}
use Rattle.reread_law_rows.proofs.Fitting.Sections.{sign_text}
use Rattle.reread_law_rows.proofs.Fitting.Words.{neither}
use Rattle.reread_law_rows.proofs.Fitting.Endings.{is_sign}
use Rattle.reread_law_rows.proofs.Fitting.Profile.{head_inside, rest_inside, left_inside, right_inside, no_structure, no_enumeration}

-- ---- what is read is what is spelled

joined_parameters : {d : Dialect} {ts rest : List Lexeme} {all : ParameterList} {from end : List Lexeme} (one : Parameter) (others : List Spelled)
    → ReadsParameterList d ts all rest → Spells (spell_parameter one (comma ∷ spell_parameter_list all others)) from end → Spells (spell_parameter_list (tree.parameters one all) others) from end
joined_parameters one others (r.last_parameter p e) h = h
joined_parameters one others (r.more_parameters p e q) h = h

list_spells : {d : Dialect} {ts rest end : List Lexeme} {parts : ParameterList} {all : List Spelled} → ReadsParameterList d ts parts rest → Spells all rest end → Spells (spell_parameter_list parts all) ts end
list_spells (r.last_parameter p e) h = parameter_spells p h
list_spells {all = others} (r.more_parameters {p = one} p e q) h = joined_parameters one others q (parameter_spells p (spelling.token e (list_spells q h)))

joined_inits : {d : Dialect} {typedef : Bool} {ts rest : List Lexeme} {all : List InitDeclarator} {from end : List Lexeme} (one : InitDeclarator) (others : List Spelled)
    → ReadsInitDeclarators d typedef ts all rest → sees (codes ";") ts ≡ false
    → Spells (spell_init_declarator typedef one (comma ∷ spell_init_declarators typedef all others)) from end → Spells (spell_init_declarators typedef (one ∷ all) others) from end
joined_inits one others (g.no_init_declarator e) f h = cc
joined_inits one others (g.last_init_declarator p e) f h = h
joined_inits one others (g.more_init_declarators p e v q) f h = h

force : {ts end : List Lexeme} {all : List Spelled} (typedef : Bool) (one : Declarator) → Spells all (g.after typedef one ts) end → Spells (spell_force typedef one all) ts end
force true one h = spelling.in_force h
force false one h = h

moved : {us ts end : List Lexeme} {all : List Spelled} → us ≡ ts → Spells all ts end → Spells all us end
moved {end = end} {all = all} e h = subst (λ vs. Spells all vs end) (sym e) h

init_spells : {d : Dialect} {typedef : Bool} {ts rest end : List Lexeme} {one : InitDeclarator} {all : List Spelled}
    → ReadsInitDeclarator d typedef ts one rest → Spells all rest end → Spells (spell_init_declarator typedef one all) ts end
init_spells {typedef = typedef} (g.bare {d = one} p e) h = declarator_spells p (force typedef one h)
init_spells {typedef = typedef} (g.initialized {d = one} p v e q) h = declarator_spells p (force typedef one (moved v (spelling.token e (initializer_spells q h))))

inits_spell : {d : Dialect} {typedef : Bool} {ts rest end : List Lexeme} {parts : List InitDeclarator} {all : List Spelled}
    → ReadsInitDeclarators d typedef ts parts rest → Spells all rest end → Spells (spell_init_declarators typedef parts all) ts end
inits_spell (g.no_init_declarator e) h = h
inits_spell (g.last_init_declarator p e) h = init_spells p h
inits_spell {all = others} (g.more_init_declarators {i = one} p e f q) h = joined_inits one others q f (init_spells p (spelling.token e (inits_spell q h)))

pub block_spells : {d : Dialect} {ts rest end : List Lexeme} {parts : BlockItems} {all : List Spelled} → ReadsBlockItems d ts parts rest → Spells all rest end → Spells (spell_block parts all) ts end
block_spells (g.block_end e) h = h
block_spells (g.local e p q) h = declaration_spells local_typedef p (block_spells q h)
block_spells (g.statement e f p q) h = statement_spells p (block_spells q h)

-- ---- the last token

last_append : (test : Tok → Bool) (xs ys : List Tok) → last_is test ys ≡ true → last_is test (xs ++ ys) ≡ true
last_append test [] ys e = e
last_append test (x ∷ []) [] e = absurd (true≢false (sym e))
last_append test (x ∷ []) (y ∷ ys) e = e
last_append test (x ∷ z ∷ xs) ys e = last_append test (z ∷ xs) ys e

-- ---- bodies

first_free : (a b c : Bool) → a ≡ false → c ≡ false → (a && b || c) ≡ false
first_free a b c e f = rw (e, f) refl

second_free : (a b c : Bool) → b ≡ false → c ≡ false → (a && b || c) ≡ false
second_free true b c e f = rw (e, f) refl
second_free false b c e f = f

kept : (a c d : Bool) → (a || c) ≡ false → d ≡ false → (a || d) ≡ false
kept true c d e f = absurd (true≢false e)
kept false c d e f = f

later : (a c : Bool) → (a || c) ≡ false → c ≡ false
later a c e = (neither a c e).1

-- A token that is neither `)` nor `{` stands between.
bodies_between : (xs : List Tok) (y : Tok) (ys : List Tok) → is (codes ")") y ≡ false → is (codes "{") y ≡ false → has_body xs ≡ false → has_body ys ≡ false → has_body (xs ++ y ∷ ys) ≡ false
bodies_between [] y ys e f h k = first_or_later y ys ∙ first_free (is (codes ")") y) (first_is (codes "{") ys) (has_body ys) e k
bodies_between (t ∷ []) y ys e f h k = second_free (is (codes ")") t) (is (codes "{") y) (has_body (y ∷ ys)) f (bodies_between [] y ys e f refl k)
bodies_between (t ∷ u ∷ xs) y ys e f h k =
    kept (is (codes ")") t && is (codes "{") u) (has_body (u ∷ xs)) (has_body (u ∷ (xs ++ y ∷ ys))) h
    (bodies_between (u ∷ xs) y ys e f (later (is (codes ")") t && is (codes "{") u) (has_body (u ∷ xs)) h) k)

-- ---- external declarations

-- each through its `;`
pub record AreExternal (tokens : List Tok) : Type 0 where
  pub balanced : IsBalanced tokens
  pub ended : (tokens ≡ []) ⊎ (last_is (is (codes ";")) tokens ≡ true)
  pub no_body : has_body tokens ≡ false

pub no_declaration : AreExternal []
no_declaration = record { balanced = fit.nothing; ended = inl refl; no_body = refl }

-- one of them
pub record IsDeclared (from rest : List Tok) : Type 0 where
  pub inside : List Tok
  pub last : Lexeme
  pub all : from ≡ inside ++ last.token ∷ rest
  pub balanced : IsBalanced inside
  pub no_body : has_body inside ≡ false
  pub ends : is_punctuator (codes ";") last ≡ true

semicolon_bracket : (y : Lexeme) → is_punctuator (codes ";") y ≡ true → one_of brackets y.token.text ≡ false
semicolon_bracket y e = ap (λ l. one_of brackets l) (sign_text (codes ";") y e)

pub declared_before : {from rest : List Tok} (one : IsDeclared from rest) (tokens : List Tok) → AreExternal tokens → AreExternal (one.inside ++ one.last.token ∷ tokens)
declared_before one tokens k =
    let y = one.last in
    let same = sign_text (codes ";") y one.ends in
    record {
      balanced = append_balanced one.balanced (fit.other (no_bracket y.token (semicolon_bracket y one.ends)) k.balanced);
      ended = inr (last_append (is (codes ";")) one.inside (y.token ∷ tokens) (last_by tokens k.ended));
      no_body = bodies_between one.inside y.token tokens (ap (λ l. bytes_eq l (codes ")")) same) (ap (λ l. bytes_eq l (codes "{")) same) one.no_body k.no_body;
    }
  where
    last_by : (tokens : List Tok) → (tokens ≡ []) ⊎ (last_is (is (codes ";")) tokens ≡ true) → last_is (is (codes ";")) (one.last.token ∷ tokens) ≡ true
    last_by [] e = is_sign (codes ";") one.last one.ends
    last_by (t ∷ ts) (inl e) = absurd (cc)
    last_by (t ∷ ts) (inr e) = e

pub declared : {d : Dialect} {typedef : Bool} {allowed : Specifiers → Bool} {ts rest : List Lexeme} {one : Declaration} → ReadsDeclaration d typedef allowed ts one rest → AreClear (tk ts) → IsDeclared (tk ts) (tk rest)
declared {typedef = typedef} (g.declaration {x = x} {y = y} {ts = ts} {rest = rest} {s = words} {all = parts} e p f q v) k =
    let spelled : Spells (spell_specifiers words (spell_init_declarators typedef parts [])) (x ∷ ts) (y ∷ rest) = specifiers_spell p (inits_spell q spelling.nothing) in
    let stretch : Stretch true false (spell_specifiers words (spell_init_declarators typedef parts [])) [] =
    join (specifiers_stretch true words (anywhere _) (spell_init_declarators typedef parts [])) (inits_stretch typedef parts [] refl) in
    record {
      inside = inside spelled;
      last = y;
      all = splits spelled;
      balanced = balanced stretch spelled k;
      no_body = holds_none spelled (no_body stretch refl) k;
      ends = v;
    }

-- ---- specifiers

specifier_words : (s : Specifier) → first_outside (nodes_of_specifier region.Function s) ≡ None → (after : List Spelled) → AreWords after → AreWords (spell_specifier s after)
specifier_words (tree.Word w span) h after k = (tt, k)
specifier_words (tree.TypedefName name) h after k = (tt, k)
specifier_words (tree.StructureTag name span) h after k = (tt, (tt, k))
specifier_words (tree.Structure tag all span) h after k = absurd (no_structure tag all span (head_inside (a_specifier (tree.Structure tag all span) region.Function) _ h))
specifier_words (tree.EnumerationTag name span) h after k = (tt, (tt, k))
specifier_words (tree.Enumeration tag all span) h after k = absurd (no_enumeration tag all span (head_inside (a_specifier (tree.Enumeration tag all span) region.Function) _ h))

pub specifiers_words : (all : Specifiers) → first_outside (nodes_of_specifiers region.Function all) ≡ None → (after : List Spelled) → AreWords after → AreWords (spell_specifiers all after)
specifiers_words tree.no_specifiers h after k = k
specifiers_words (tree.specifiers s rest) h after k =
    let xs = nodes_of_specifier region.Function s in
    let ys = nodes_of_specifiers region.Function rest in
    specifier_words s (left_inside xs ys h) (spell_specifiers rest after) (specifiers_words rest (right_inside xs ys h) after k)

apart_bracket : (t : Tok) → is_apart t ≡ false → fit.is_bracket t ≡ false
apart_bracket t e = (neither (fit.is_bracket t) (is (codes ";") t) (neither (fit.is_bracket t || is (codes ";") t) (is (codes "*") t) e).0).0

pub plain_balanced : (ts : List Tok) → list_any is_apart ts ≡ false → IsBalanced ts
plain_balanced [] e = fit.nothing
plain_balanced (t ∷ ts) e = let a = neither (is_apart t) (list_any is_apart ts) e in fit.other (apart_bracket t a.0) (plain_balanced ts a.1)

pub no_star_read : {before last : Span} {ts rest : List Lexeme} → ReadsStars before ts 0 last rest → tk ts ≡ tk rest
no_star_read (r.no_star e) = refl

-- ---- parameters

pub record AreParameters (tokens : List Tok) : Type 0 where
  pub balanced : IsBalanced tokens
  pub no_brace : list_all (λ t. not (is_brace t)) tokens ≡ true
  pub first : Tok
  pub between : List Tok
  pub last : Tok
  pub pair : tokens ≡ first ∷ between ++ last ∷ []
  pub opens : is (codes "(") first ≡ true
  pub closes : is (codes ")") last ≡ true
  pub within : IsBalanced between

pub record HasParameters (from rest : List Tok) : Type 0 where
  pub tokens : List Tok
  pub all : from ≡ tokens ++ rest
  pub are : AreParameters tokens

put_braceless : (t : Tok) (ts : List Tok) → is_brace t ≡ false → list_all (λ t. not (is_brace t)) ts ≡ true → list_all (λ t. not (is_brace t)) (t ∷ ts) ≡ true
put_braceless t ts e h = rw (e, h) refl

append_braceless : (xs ys : List Tok) → list_all (λ t. not (is_brace t)) xs ≡ true → list_all (λ t. not (is_brace t)) ys ≡ true → list_all (λ t. not (is_brace t)) (xs ++ ys) ≡ true
append_braceless [] ys h k = k
append_braceless (x ∷ xs) ys h k = both (not (is_brace x)) (list_all (λ t. not (is_brace t)) xs) (list_all (λ t. not (is_brace t)) (xs ++ ys)) h (λ e. append_braceless xs ys e k)
  where
    both : (a b c : Bool) → (a && b) ≡ true → (b ≡ true → c ≡ true) → (a && c) ≡ true
    both true b c e f = f e
    both false b c e f = absurd (true≢false (sym e))

in_parentheses : (x y : Lexeme) (middle rest : List Tok) → is_punctuator (codes "(") x ≡ true → is_punctuator (codes ")") y ≡ true → IsBalanced middle → list_all (λ t. not (is_brace t)) middle ≡ true → HasParameters (x.token ∷ (middle ++ y.token ∷ rest)) rest
in_parentheses x y middle rest e f h k =
    let brace_at : (text : List ℕ) (z : Lexeme) → is_punctuator text z ≡ true → bytes_eq text (codes "{") ≡ false → is_brace z.token ≡ false = λ text z g i. ap (λ l. bytes_eq l (codes "{")) (sign_text text z g) ∙ i in
    record {
      tokens = x.token ∷ (middle ++ y.token ∷ []);
      all = ap (λ us. x.token ∷ us) (sym (assoc middle (y.token ∷ []) rest));
      are = record {
        balanced = fit.pair x.token y.token middle [] (are_pair (codes "(") (codes ")") refl x y e f) h fit.nothing;
        no_brace = put_braceless x.token (middle ++ y.token ∷ []) (brace_at (codes "(") x e refl)
            (append_braceless middle (y.token ∷ []) k (put_braceless y.token [] (brace_at (codes ")") y f refl) refl));
        first = x.token;
        between = middle;
        last = y.token;
        pair = refl;
        opens = is_sign (codes "(") x e;
        closes = is_sign (codes ")") y f;
        within = h;
      };
    }

word_stretch : (text : List ℕ) → Stretch false false (spelling.Keyword text ∷ []) []
word_stretch text = free tt empty

pub has_parameters : {d : Dialect} {ts rest : List Lexeme} {ps : Parameters} → ReadsParameters d ts ps rest → first_outside (nodes_of_parameters ps) ≡ None → AreClear (tk ts) → HasParameters (tk ts) (tk rest)
has_parameters {rest = rest} (r.empty_parameters {x = x} {y = y} e f) h k = in_parentheses x y [] (tk rest) e f fit.nothing refl
has_parameters {rest = rest} (r.void_parameters {x = x} {y = y} {z = z} e f v) h k =
    let word : Spells (spelling.Keyword (codes "void") ∷ []) (y ∷ z ∷ rest) (z ∷ rest) = spelling.token f spelling.nothing in
    in_parentheses x z (y.token ∷ []) (tk rest) e v (balanced (word_stretch (codes "void")) word k.1) (braceless word (tt, tt) k.1)
has_parameters {rest = rest} (r.listed_parameters {x = x} {y = y} {ts = ts} {ps = all} e f v p w) h k =
    let spelled : Spells (spell_parameter_list all []) ts (y ∷ rest) = list_spells p spelling.nothing in
    let stretch = list_stretch false all (λ same. rest_inside (a_parameter_list (tree.Listed all _)) _ h) [] in
    subst (λ us. HasParameters (x.token ∷ us) (tk rest)) (sym (splits spelled))
    (in_parentheses x y (inside spelled) (tk rest) e w (balanced stretch spelled k.1) (braceless spelled (no_braces stretch tt) k.1))
