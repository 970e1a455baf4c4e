-- Each function of a text among its tokens.
use Rattle.std.proofs.Common.{◌≡◌, ◌≤◌, ◌+◌, ◌-◌, ℕ, true, false, List, [], ◌∷◌, ◌++◌, None, length, codes, refl, sym, ap, subst, ◌∙◌, arith}
use Rattle.mc_span.specs.declared.span.Span.{Span}
use Rattle.mc_lex.specs.declared.token.Dialect.{Dialect}
use Rattle.mc_lex.specs.Tokens.{Tok}
use Rattle.mc_tree.specs.Tree.{Name, Specifiers, Parameters, BlockItems, Item}
use Rattle.mc_tree.specs.Tree as tree
use Rattle.subset_forms.specs.declared.context.Region.TheVariants as region
use Rattle.subset_forms.specs.declared.context.Standing.TheVariants as standing
use Rattle.mc_subset.specs.Nodes.{a_declarator, has_extern, nodes_of_specifiers, nodes_of_declarator, nodes_of_parameters, nodes_of_block, nodes_of_item, nodes_of_unit}
use Rattle.mc_subset.specs.Forms.{first_outside}
use Rattle.mc_grammar.specs.Words.{Lexeme, is_punctuator}
use Rattle.mc_grammar.specs.Statements as g
use Rattle.mc_grammar.specs.Items.{ReadsItem, ReadsUnit}
use Rattle.mc_grammar.specs.Items as i
use Rattle.mc_grammar.specs.Spelling as spelling
use Rattle.mc_grammar.proofs.Spelling.{specifiers_spell, parameters_spell}
use Rattle.mc_typed.specs.Tree as typed
use Rattle.mc_steps.specs.Points.{Points, no_points}
use Rattle.mc_probe.specs.Maps.{Map}
use Rattle.mc_probe.specs.Tree as p
use Rattle.mc_probe.specs.Table.{put_function, put_functions}
use Rattle.reread_law_texts.specs.alike.Moves.{FollowFrom, end_of}
use Rattle.reread_law_texts.specs.alike.Laws.{TokensFollow}
use Rattle.reread_law_rows.specs.inserted.Rows.{Row}
use Rattle.reread_law_rows.specs.fitting.Laws.{ScannedTokensMeanTheirKinds, TextsFit}
use Rattle.laws_types.specs.SourceUnits.{IsFunctionOf, AreFunctionsOf, ProgramsHaveTheirSource}
use Rattle.laws_types.specs.SourceUnits as of
use Rattle.reread_law_rows.specs.carried.Laws.{RowsFit}
use Rattle.reread_law_printed.specs.parts.Parts.{body_rows}
use Rattle.reread_law_printed.specs.parts.Stands.{past, AreInOrder, IsFunctionAmong, AreAmong}
use Rattle.reread_law_printed.specs.ordered.Laws.{RowsAreInOrder, BlocksAreNested}
use Rattle.laws_reread.specs.Among.{SourcesStand, TextsStand}
use Rattle.laws_reread.proofs.Tokens.{AreClear, are_clear}
use Rattle.laws_reread.proofs.Leaving.{same_tokens, assoc, join, followed, cleared, stars_leave, block_leaves, item_leaves, spelled}
use Rattle.laws_reread.proofs.Spelled.{braceless, parameters_free}
use Rattle.reread_law_texts.proofs.Tokens.{tk}
use Rattle.reread_law_rows.proofs.Fitting.Sections.{sign_text}
use Rattle.reread_law_rows.proofs.Fitting.Endings.{is_sign}
use Rattle.reread_law_rows.proofs.Fitting.Profile.{rest_inside, left_inside, right_inside}

-- ---- bytes

later_end : (rows : List Row) (from : ℕ) {to high : ℕ} → to ≤ high → AreInOrder from rows to → AreInOrder from rows high
later_end [] from l h = omega (arith, h, l)
later_end (r ∷ rows) from l h = (h.0, later_end rows (past r) l h.1)

one_byte : (a n : ℕ) → n ≡ 1 → a ≡ a + n - 1
one_byte a n e = omega (arith, e)

-- where a `}` stands
brace_start : (y : Lexeme) → is_punctuator (codes "}") y ≡ true → y.token.start ≡ end_of y.token - 1
brace_start y e = one_byte y.token.start (length y.token.text) (ap (λ text. length text) (sign_text (codes "}") y e))

no_later : {a b c : ℕ} → a ≤ b → b ≡ c → a ≤ c
no_later {a = a} h e = subst (λ n. a ≤ n) e h

-- ---- tokens before the first function

earlier : (front ts : List Tok) (fs : List p.Function) → AreAmong fs ts → AreAmong fs (front ++ ts)
earlier front ts [] h = tt
earlier front ts (f ∷ rest) h = (
  record {
    before = front ++ h.0.before;
    name = h.0.name;
    parameters = h.0.parameters;
    opening = h.0.opening;
    inside = h.0.inside;
    closing = h.0.closing;
    after = h.0.after;
    all = ap (λ us. front ++ us) h.0.all ∙ sym (assoc front h.0.before _);
    name_start = h.0.name_start;
    name_end = h.0.name_end;
    no_brace = h.0.no_brace;
    opening_is = h.0.opening_is;
    closing_is = h.0.closing_is;
    closing_start = h.0.closing_start;
    closing_end = h.0.closing_end;
    in_order = h.0.in_order;
  },
  h.1,
)

-- ---- functions

-- before these tokens
record Placed (ts : List Tok) (f : p.Function) (rest : List Tok) : Type 0 where
  among : IsFunctionAmong ts f
  after : among.after ≡ rest

parameters_inside : (s : Specifiers) (stars : ℕ) (name : Name) (ps : Parameters) (at span : Span) (b : BlockItems)
    → first_outside (nodes_of_item (tree.Defined s (tree.function stars name ps at) b span)) ≡ None → first_outside (nodes_of_parameters ps) ≡ None
parameters_inside s stars name ps at span b h =
    let d = tree.function stars name ps at in
    let ys = nodes_of_declarator region.Function false (has_extern s) d in
    let zs = nodes_of_block standing.Elsewhere b in
    rest_inside (a_declarator d false (has_extern s)) (nodes_of_parameters ps) (left_inside ys zs (right_inside (nodes_of_specifiers region.Function s) (ys ++ zs) h))

module _ (order : RowsAreInOrder) (nest : BlocksAreNested) (m : Map) where
  function_among : {d : Dialect} {ts rest : List Lexeme} {words : Specifiers} {stars : ℕ} {name : Name} {given : Parameters} {at span : Span} {body : BlockItems} {f : typed.Function} (c : ℕ)
      → ReadsItem d ts (tree.Defined words (tree.function stars name given at) body span) rest → IsFunctionOf name body span f
      → FollowFrom c (tk ts) → AreClear (tk ts) → first_outside (nodes_of_item (tree.Defined words (tree.function stars name given at) body span)) ≡ None
      → (number decisions : ℕ) (points : Points) → Placed (tk ts) (put_function m number decisions points f) (tk rest)
  function_among {d = d} {rest = rest} {words = words} {stars = stars} {name = name} {given = given} {at = place} {span = span} {body = b} {f = f} c
      (i.defined {z = z} p e q v w (g.block {x = x} {y = y} {ts = ts} k t l)) own h clear inside number decisions points =
      let front = join (spelled (specifiers_spell p spelling.nothing)) (stars_leave q) in
      let from_name = followed c front h in
      let between = braceless (parameters_spell w spelling.nothing) (parameters_free given (parameters_inside words stars name given place span b inside) [] tt) (cleared front clear).1 in
      let from_brace = followed (end_of z.token) (record { inside = between.inside; all = between.all }) from_name.1.2 in
      let nested = nest d ts (y ∷ rest) b (end_of x.token) t from_brace.1.2 in
      let items = block_leaves t in
      let closing : y.token.start ≡ f.closing.start = brace_start y l ∙ sym (ap (λ s. s.start) own.closing) in
      record {
        among = record {
          before = front.inside;
          name = z.token;
          parameters = between.inside;
          opening = x.token;
          inside = items.inside;
          closing = y.token;
          after = tk rest;
          all = front.all ∙ ap (λ us. front.inside ++ z.token ∷ us) (between.all ∙ ap (λ us. between.inside ++ x.token ∷ us) items.all);
          name_start = sym (ap (λ s. s.start) own.place);
          name_end = sym (ap (λ s. s.end) own.place);
          no_brace = between.no_brace;
          opening_is = is_sign (codes "{") x k;
          closing_is = is_sign (codes "}") y l;
          closing_start = closing;
          closing_end = sym (ap (λ s. s.end) own.closing);
          in_order = later_end (body_rows (put_function m number decisions points f)) (end_of x.token) {to = nested.0} {high = f.closing.start} (no_later nested.2.0 closing) (order m decisions 0 _ b f.body (end_of x.token) nested.0 own.items nested.1);
        };
        after = refl;
      }

  next_among : {ts : List Tok} {f : p.Function} {rest : List Tok} (fs : List p.Function) → Placed ts f rest → AreAmong fs rest → AreAmong (f ∷ fs) ts
  next_among fs one h = (one.among, subst (λ us. AreAmong fs us) (sym one.after) h)

  functions_among : {d : Dialect} {ts : List Lexeme} {unit : List Item} {fs : List typed.Function} (c : ℕ) → ReadsUnit d ts unit → AreFunctionsOf unit fs → FollowFrom c (tk ts) → AreClear (tk ts)
      → first_outside (nodes_of_unit unit) ≡ None → (number decisions : ℕ) (points : Points) → AreAmong (put_functions m number decisions points fs) (tk ts)
  functions_among c i.no_items of.no_functions h clear inside number decisions points = tt
  functions_among c (i.item {rest = left} {i = one} {all = all} p q) (of.declared {fs = fs} l) h clear inside number decisions points =
      let front = item_leaves p in
      let follow = followed c front h in
      let rest = functions_among follow.0 q l follow.1 (cleared front clear) (right_inside (nodes_of_item one) (nodes_of_unit all) inside) number decisions points in
      let whole = put_functions m number decisions points fs in
      subst (λ us. AreAmong whole us) (sym front.all) (earlier front.inside (tk left) whole rest)
  functions_among c (i.item {i = one} {all = all} p q) (of.defined own l) h clear inside number decisions points =
      let front = item_leaves p in
      let follow = followed c front h in
      next_among _ (function_among c p own h clear (left_inside (nodes_of_item one) (nodes_of_unit all) inside) number decisions points)
      (functions_among follow.0 q l follow.1 (cleared front clear) (right_inside (nodes_of_item one) (nodes_of_unit all) inside) _ _ _)

-- ---- texts

pub texts_stand : ProgramsHaveTheirSource → RowsFit → TextsFit → RowsAreInOrder → BlocksAreNested → TextsStand
texts_stand source rows fits order nest d tokens unit program m follow mean tree inside e =
    let same = same_tokens tokens in
    let fs = put_functions m 0 0 no_points program.functions in
    record {
      follow = follow;
      fit = rows tokens unit program m e (fits d tokens unit mean tree inside);
      functions = subst (λ us. AreAmong fs us) (sym same)
          (functions_among order nest m 0 tree (source unit program e) (subst (λ us. FollowFrom 0 us) same follow) (subst (λ us. AreClear us) same (are_clear d tokens mean)) inside 0 0 no_points);
    }

pub sources_stand : TokensFollow → ScannedTokensMeanTheirKinds → TextsStand → SourcesStand
sources_stand follows mean stand text tokens unit program m scans tree inside e =
    stand _ tokens unit program m (follows _ [] text tokens None scans) (mean _ text tokens None scans) tree inside e
