-- What stands round the bodies of the functions of a text.
use Rattle.std.proofs.Common.{◌≡◌, ◌+◌, ◌-◌, ℕ, zero, suc, true, false, not, List, [], ◌∷◌, ◌++◌, None, length, codes, refl, sym, ap, subst, ◌∙◌, arith}
use Rattle.std.specs.List.{list_any}
use Rattle.mc_span.specs.declared.span.Span.{Span}
use Rattle.mc_lex.specs.declared.token.Dialect.{Dialect}
use Rattle.mc_lex.specs.Tokens.{Tok}
use Rattle.mc_tree.specs.Tree.{Name, Specifiers, Parameters, BlockItems, Item}
use Rattle.mc_tree.specs.Tree as tree
use Rattle.subset_forms.specs.declared.context.Region.TheVariants as region
use Rattle.subset_forms.specs.declared.context.Standing.TheVariants as standing
use Rattle.mc_subset.specs.Nodes.{Node, a_declarator, has_extern, nodes_of_specifiers, nodes_of_declarator, nodes_of_parameters, nodes_of_block, nodes_of_item, nodes_of_unit}
use Rattle.mc_subset.specs.Forms.{first_outside}
use Rattle.mc_grammar.specs.Words.{Lexeme, is_punctuator, is_identifier_kind}
use Rattle.mc_grammar.specs.Expressions.{ReadsStars}
use Rattle.mc_grammar.specs.Statements as g
use Rattle.mc_grammar.specs.Items.{ReadsItem, ReadsUnit}
use Rattle.mc_grammar.specs.Items as i
use Rattle.mc_grammar.specs.Spelling.{Spells, spell_specifiers, spell_block}
use Rattle.mc_grammar.specs.Spelling as spelling
use Rattle.mc_grammar.proofs.Spelling.{specifiers_spell}
use Rattle.mc_typed.specs.Tree as typed
use Rattle.mc_steps.specs.Points.{Points, no_points}
use Rattle.mc_probe.specs.Maps.{Map}
use Rattle.mc_probe.specs.Tree as p
use Rattle.mc_probe.specs.Table.{put_function, put_functions}
use Rattle.reread_pieces.specs.Words.{is}
use Rattle.reread_law_texts.specs.alike.Moves.{FollowFrom, end_of}
use Rattle.reread_law_rows.specs.inserted.Fits.{is_bracket, IsBalanced}
use Rattle.laws_types.specs.SourceUnits.{IsFunctionOf, AreFunctionsOf, ProgramsHaveTheirSource}
use Rattle.laws_types.specs.SourceUnits as of
use Rattle.reread_law_printed.specs.parts.Stands.{is_brace, IsFunctionAmong, AreAmong}
use Rattle.reread_law_printed.specs.parts.Closed.{AreBalanced}
use Rattle.reread_law_printed.specs.placed.Heads.{is_apart, IsHead, HaveHeads}
use Rattle.laws_reread.specs.Headed.{TextsAreBalanced, TextsHaveHeads}
use Rattle.laws_reread.proofs.Signs.{AreClear, are_clear, no_semicolon, free_name}
use Rattle.laws_reread.proofs.Profile.{no_stars}
use Rattle.laws_reread.proofs.Said.{assoc, inside, splits, cleared, append_balanced, balanced, plain}
use Rattle.laws_reread.proofs.HeadedBodies.{block_stretch}
use Rattle.laws_reread.proofs.Items.{block_spells, AreExternal, no_declaration, IsDeclared, declared, declared_before, specifiers_words, plain_balanced, no_star_read, AreParameters, has_parameters}
use Rattle.laws_reread.proofs.Unique.{same_at, same_brace, follow_later}
use Rattle.reread_law_texts.proofs.Tokens.{tk, same_tokens}
use Rattle.reread_law_rows.proofs.Fitting.Sections.{sign_text, left_of}
use Rattle.reread_law_rows.proofs.Fitting.Endings.{is_sign}
use Rattle.reread_law_rows.proofs.Fitting.Profile.{head_inside, rest_inside, left_inside, right_inside}

-- ---- a function

record IsCut (tokens : List Tok) (f : p.Function) : Type 0 where
  declarations : List Tok
  specifiers : List Tok
  name : Tok
  parameters : List Tok
  opening : Tok
  inside : List Tok
  closing : Tok
  after : List Tok
  all : tokens ≡ (declarations ++ specifiers) ++ name ∷ (parameters ++ opening ∷ (inside ++ closing ∷ after))
  external : AreExternal declarations
  plain : list_any is_apart specifiers ≡ false
  name_start : name.start ≡ f.name_span.start
  name_free : is_bracket name ≡ false
  named : is (codes ";") name ≡ false
  are_parameters : AreParameters parameters
  opening_is : is_brace opening ≡ true
  balanced : IsBalanced inside
  closing_start : closing.start ≡ f.closing.start

-- each after the one before it
abbrev Cuts : List p.Function → List Tok → Type 0
Cuts [] ts = AreExternal ts
Cuts (f ∷ rest) ts = (c : IsCut ts f) × Cuts rest c.after

-- ---- declarations before functions

declared_first : {from rest : List Tok} (fs : List p.Function) → IsDeclared from rest → Cuts fs rest → Cuts fs from
declared_first {rest = rest} [] one h = subst (λ us. AreExternal us) (sym one.all) (declared_before one rest h)
declared_first (f ∷ fs) one (c, later) = (
  record {
    declarations = one.inside ++ one.last.token ∷ c.declarations;
    specifiers = c.specifiers;
    name = c.name;
    parameters = c.parameters;
    opening = c.opening;
    inside = c.inside;
    closing = c.closing;
    after = c.after;
    all = one.all ∙ ap (λ us. one.inside ++ one.last.token ∷ us) c.all ∙ moved one.inside one.last.token c.declarations c.specifiers _;
    external = declared_before one c.declarations c.external;
    plain = c.plain;
    name_start = c.name_start;
    name_free = c.name_free;
    named = c.named;
    are_parameters = c.are_parameters;
    opening_is = c.opening_is;
    balanced = c.balanced;
    closing_start = c.closing_start;
  },
  later,
)
  where
    moved : (a : List Tok) (x : Tok) (b c d : List Tok) → a ++ x ∷ ((b ++ c) ++ d) ≡ ((a ++ x ∷ b) ++ c) ++ d
    moved a x b c d = sym (assoc a (x ∷ (b ++ c)) d) ∙ ap (λ us. us ++ d) (sym (assoc a (x ∷ b) c))

-- ---- definitions

one_byte : (a n : ℕ) → n ≡ 1 → a ≡ a + n - 1
one_byte a n e = omega (arith, e)

-- where a `}` stands
brace_start : (y : Lexeme) → is_punctuator (codes "}") y ≡ true → y.token.start ≡ end_of y.token - 1
brace_start y e = one_byte y.token.start (length y.token.text) (ap (λ text. length text) (sign_text (codes "}") y e))

-- the nodes of a definition
abbrev definition : Specifiers → ℕ → Name → Parameters → Span → BlockItems → Span → List Node
definition s stars name ps at b span = nodes_of_item (tree.Defined s (tree.function stars name ps at) b span)

module _ (s : Specifiers) (stars : ℕ) (name : Name) (ps : Parameters) (at : Span) (b : BlockItems) (span : Span) (h : first_outside (definition s stars name ps at b span) ≡ None) where
  abbrev declarator_nodes : List Node
  declarator_nodes = nodes_of_declarator region.Function false (has_extern s) (tree.function stars name ps at)

  abbrev block_nodes : List Node
  block_nodes = nodes_of_block standing.Elsewhere b

  specifiers_in : first_outside (nodes_of_specifiers region.Function s) ≡ None
  specifiers_in = left_inside (nodes_of_specifiers region.Function s) (declarator_nodes ++ block_nodes) h

  declarator_in : first_outside declarator_nodes ≡ None
  declarator_in = left_inside declarator_nodes block_nodes (right_inside (nodes_of_specifiers region.Function s) (declarator_nodes ++ block_nodes) h)

  parameters_in : first_outside (nodes_of_parameters ps) ≡ None
  parameters_in = rest_inside (a_declarator (tree.function stars name ps at) false (has_extern s)) (nodes_of_parameters ps) declarator_in

unstarred : (s : Specifiers) (stars : ℕ) (name : Name) (ps : Parameters) (at : Span) (b : BlockItems) (span : Span) → first_outside (definition s stars name ps at b span) ≡ None
    → {before last : Span} {ts rest : List Lexeme} → ReadsStars before ts stars last rest → tk ts ≡ tk rest
unstarred s zero name ps at b span h q = no_star_read q
unstarred s (suc n) name ps at b span h q =
    absurd (no_stars n name ps at false (has_extern s) (head_inside (a_declarator (tree.function (suc n) name ps at) false (has_extern s)) (nodes_of_parameters ps) (declarator_in s (suc n) name ps at b span h)))

record Defines (ts : List Tok) (f : p.Function) (rest : List Tok) : Type 0 where
  cut : IsCut ts f
  after : cut.after ≡ rest

module _ (m : Map) where
  defined : {d : Dialect} {ts rest : List Lexeme} {words : Specifiers} {stars : ℕ} {name : Name} {given : Parameters} {at span : Span} {body : BlockItems} {f : typed.Function}
      → ReadsItem d ts (tree.Defined words (tree.function stars name given at) body span) rest → IsFunctionOf name body span f
      → AreClear (tk ts) → first_outside (definition words stars name given at body span) ≡ None
      → (number decisions : ℕ) (points : Points) → Defines (tk ts) (put_function m number decisions points f) (tk rest)
  defined {rest = rest} {words = words} {stars = stars} {name = name} {given = given} {at = place} {span = span} {body = b} {f = f}
      (i.defined {x = o} {y = v} {z = z} {ts = us} {words = others} {mid = mid} {body = braced} p e q n w (g.block {x = x} {y = y} {ts = ts} k t l)) own clear h number decisions points =
      let spelled : Spells (spell_specifiers words []) (o ∷ us) (v ∷ others) = specifiers_spell p spelling.nothing in
      let stars_gone = unstarred words stars name given place b span h q in
      let from_name : AreClear (z.token ∷ tk mid) = subst (λ us. AreClear us) stars_gone (cleared (inside spelled) (tk (v ∷ others)) (splits spelled) clear) in
      let between = has_parameters w (parameters_in words stars name given place b span h) from_name.1 in
      let from_brace : AreClear (x.token ∷ tk ts) = cleared between.tokens (x.token ∷ tk ts) between.all from_name.1 in
      let block : Spells (spell_block b []) ts (y ∷ rest) = block_spells t spelling.nothing in
      record {
        cut = record {
          declarations = [];
          specifiers = inside spelled;
          name = z.token;
          parameters = between.tokens;
          opening = x.token;
          inside = inside block;
          closing = y.token;
          after = tk rest;
          all = splits spelled ∙ ap (λ us. inside spelled ++ us) (stars_gone ∙ ap (λ us. z.token ∷ us) (between.all ∙ ap (λ us. between.tokens ++ x.token ∷ us) (splits block)));
          external = no_declaration;
          plain = plain spelled (specifiers_words words (specifiers_in words stars name given place b span h) [] tt) clear;
          name_start = sym (ap (λ s. s.start) own.place);
          name_free = free_name z (left_of (is_identifier_kind z.token.kind) (not z.names_type) n) from_name.0;
          named = no_semicolon z (left_of (is_identifier_kind z.token.kind) (not z.names_type) n) from_name.0;
          are_parameters = between.are;
          opening_is = is_sign (codes "{") x k;
          balanced = balanced (block_stretch b []) block from_brace.1;
          closing_start = brace_start y l ∙ sym (ap (λ s. s.start) own.closing);
        };
        after = refl;
      }

  next_cut : {ts : List Tok} {f : p.Function} {rest : List Tok} (fs : List p.Function) → Defines ts f rest → Cuts fs rest → Cuts (f ∷ fs) ts
  next_cut fs one h = (one.cut, subst (λ us. Cuts fs us) (sym one.after) h)

  item_clear : {ts : List Tok} {f : p.Function} {rest : List Tok} → Defines ts f rest → AreClear ts → AreClear rest
  item_clear one k =
      let c = one.cut in
      let front = (c.declarations ++ c.specifiers) ++ c.name ∷ (c.parameters ++ c.opening ∷ (c.inside ++ c.closing ∷ [])) in
      subst (λ us. AreClear us) one.after (cleared front c.after (c.all ∙ parts (c.declarations ++ c.specifiers) c.name c.parameters c.opening c.inside c.closing c.after) k)
    where
      parts : (a : List Tok) (x : Tok) (b : List Tok) (y : Tok) (c : List Tok) (z : Tok) (d : List Tok)
          → a ++ x ∷ (b ++ y ∷ (c ++ z ∷ d)) ≡ (a ++ x ∷ (b ++ y ∷ (c ++ z ∷ []))) ++ d
      parts a x b y c z d =
          ap (λ us. a ++ x ∷ us) (ap (λ us. b ++ y ∷ us) (sym (assoc c (z ∷ []) d)) ∙ sym (assoc b (y ∷ (c ++ z ∷ [])) d)) ∙ sym (assoc a (x ∷ (b ++ y ∷ (c ++ z ∷ []))) d)

  cuts : {d : Dialect} {ts : List Lexeme} {unit : List Item} {fs : List typed.Function} → ReadsUnit d ts unit → AreFunctionsOf unit fs → AreClear (tk ts)
      → first_outside (nodes_of_unit unit) ≡ None → (number decisions : ℕ) (points : Points) → Cuts (put_functions m number decisions points fs) (tk ts)
  cuts i.no_items of.no_functions k h number decisions points = no_declaration
  cuts (i.item {rest = left} {i = one} {all = all} (i.declared p) q) (of.declared {fs = fs} l) k h number decisions points =
      let first = declared p k in
      declared_first (put_functions m number decisions points fs) first
      (cuts q l (cleared (first.inside ++ first.last.token ∷ []) (tk left) (first.all ∙ sym (assoc first.inside (first.last.token ∷ []) (tk left))) k) (right_inside (nodes_of_item one) (nodes_of_unit all) h) number decisions points)
  cuts (i.item {i = one} {all = all} p q) (of.defined own l) k h number decisions points =
      let first = defined p own k (left_inside (nodes_of_item one) (nodes_of_unit all) h) number decisions points in
      next_cut _ first (cuts q l (item_clear first k) (right_inside (nodes_of_item one) (nodes_of_unit all) h) _ _ _)

-- ---- the function that stands there

record IsSame {ts : List Tok} {f : p.Function} (c : IsCut ts f) (q : IsFunctionAmong ts f) : Type 0 where
  before : c.declarations ++ c.specifiers ≡ q.before
  name : c.name ≡ q.name
  parameters : c.parameters ≡ q.parameters
  inside : c.inside ≡ q.inside
  after : c.after ≡ q.after

same : {ts : List Tok} {f : p.Function} (at : ℕ) → FollowFrom at ts → (c : IsCut ts f) (q : IsFunctionAmong ts f) → IsSame c q
same at follow c q =
    let from_start = subst (λ us. FollowFrom at us) c.all follow in
    let first = same_at (c.declarations ++ c.specifiers) q.before c.name q.name _ _ at from_start (sym c.all ∙ q.all) (c.name_start ∙ sym q.name_start) in
    let from_name = follow_later (c.declarations ++ c.specifiers) (c.name ∷ (c.parameters ++ c.opening ∷ (c.inside ++ c.closing ∷ c.after))) at from_start in
    let second = same_brace c.parameters q.parameters c.opening q.opening _ _ c.are_parameters.no_brace q.no_brace c.opening_is q.opening_is first.after in
    let from_brace = follow_later c.parameters (c.opening ∷ (c.inside ++ c.closing ∷ c.after)) _ from_name.1.2 in
    let third = same_at c.inside q.inside c.closing q.closing c.after q.after _ from_brace.1.2 second.after (c.closing_start ∙ sym q.closing_start) in
    record {
      before = first.before;
      name = first.token;
      parameters = second.before;
      inside = third.before;
      after = third.after;
    }

-- the tokens after it
after_follow : {ts : List Tok} {f : p.Function} (at : ℕ) → FollowFrom at ts → (q : IsFunctionAmong ts f) → (e : ℕ) × FollowFrom e q.after
after_follow at follow q =
    let a = follow_later q.before (q.name ∷ (q.parameters ++ q.opening ∷ (q.inside ++ q.closing ∷ q.after))) at (subst (λ us. FollowFrom at us) q.all follow) in
    let b = follow_later q.parameters (q.opening ∷ (q.inside ++ q.closing ∷ q.after)) _ a.1.2 in
    let c = follow_later q.inside (q.closing ∷ q.after) _ b.1.2 in
    (end_of q.closing, c.1.2)

balance : (fs : List p.Function) (ts : List Tok) (at : ℕ) → FollowFrom at ts → Cuts fs ts → (q : AreAmong fs ts) → AreBalanced fs ts q
balance [] ts at follow c q = c.balanced
balance (f ∷ fs) ts at follow c q =
    let s = same at follow c.0 q.0 in
    let later = after_follow at follow q.0 in (
      subst (λ us. IsBalanced us) s.before (append_balanced c.0.external.balanced (plain_balanced c.0.specifiers c.0.plain)),
      subst (λ t. is_bracket t ≡ false) s.name c.0.name_free,
      subst (λ us. IsBalanced us) s.parameters c.0.are_parameters.balanced,
      subst (λ us. IsBalanced us) s.inside c.0.balanced,
      balance fs q.0.after later.0 later.1 (subst (λ us. Cuts fs us) s.after c.1) q.1,
    )

head_of : {ts : List Tok} {f : p.Function} (c : IsCut ts f) → IsHead (c.declarations ++ c.specifiers) c.name c.parameters
head_of c = record {
  declarations = c.declarations;
  specifiers = c.specifiers;
  all = refl;
  balanced = c.external.balanced;
  ended = c.external.ended;
  no_body = c.external.no_body;
  plain = c.plain;
  named = c.named;
  first = c.are_parameters.first;
  between = c.are_parameters.between;
  last = c.are_parameters.last;
  pair = c.are_parameters.pair;
  opens = c.are_parameters.opens;
  closes = c.are_parameters.closes;
  within = c.are_parameters.within;
}

heads : (fs : List p.Function) (ts : List Tok) (at : ℕ) → FollowFrom at ts → Cuts fs ts → (q : AreAmong fs ts) → HaveHeads fs ts q
heads [] ts at follow c q = c.no_body
heads (f ∷ fs) ts at follow c q =
    let s = same at follow c.0 q.0 in
    let later = after_follow at follow q.0 in (
      subst (λ us. IsHead q.0.before q.0.name us) s.parameters
          (subst (λ t. IsHead q.0.before t c.0.parameters) s.name (subst (λ us. IsHead us c.0.name c.0.parameters) s.before (head_of c.0))),
      heads fs q.0.after later.0 later.1 (subst (λ us. Cuts fs us) s.after c.1) q.1,
    )

-- ---- texts

text_cuts : (m : Map) {d : Dialect} (tokens : List Tok) (unit : List Item) (program : typed.Program) → AreClear tokens → i.IsTree d tokens unit
    → first_outside (nodes_of_unit unit) ≡ None → AreFunctionsOf unit program.functions → Cuts (put_functions m 0 0 no_points program.functions) tokens
text_cuts m tokens unit program k tree h of =
    let same_list = same_tokens tokens in
    subst (λ us. Cuts (put_functions m 0 0 no_points program.functions) us) same_list (cuts m tree of (subst (λ us. AreClear us) (sym same_list) k) h 0 0 no_points)

pub texts_balanced : ProgramsHaveTheirSource → TextsAreBalanced
texts_balanced source d tokens unit program m mean tree h e stands =
    balance (put_functions m 0 0 no_points program.functions) tokens 0 stands.follow (text_cuts m tokens unit program (are_clear d tokens mean) tree h (source unit program e)) stands.functions

pub texts_headed : ProgramsHaveTheirSource → TextsHaveHeads
texts_headed source d tokens unit program m mean tree h e stands =
    heads (put_functions m 0 0 no_points program.functions) tokens 0 stands.follow (text_cuts m tokens unit program (are_clear d tokens mean) tree h (source unit program e)) stands.functions
