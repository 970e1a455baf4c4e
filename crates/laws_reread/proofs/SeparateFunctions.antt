-- The rows of functions and of whole texts side by side.
use Rattle.std.proofs.Common.{◌≡◌, ◌≤◌, ◌==◌, ℕ, Bool, true, false, if◌then◌else◌, List, [], ◌∷◌, Some, None, refl, sym, ap, subst}
use Rattle.mc_span.specs.declared.span.Span.{Span}
use Rattle.mc_lex.specs.declared.token.Dialect.{Dialect}
use Rattle.mc_lex.specs.Tokens.{Tok}
use Rattle.mc_tree.specs.Tree.{Name, Specifiers, Parameters, BlockItems, Item}
use Rattle.mc_tree.specs.Tree as tree
use Rattle.mc_subset.specs.Nodes.{nodes_of_item, nodes_of_unit}
use Rattle.mc_subset.specs.Forms.{first_outside}
use Rattle.mc_grammar.specs.Words.{Lexeme, lexemes_of}
use Rattle.mc_grammar.specs.Statements as g
use Rattle.mc_grammar.specs.Items.{ReadsItem, ReadsUnit}
use Rattle.mc_grammar.specs.Items as i
use Rattle.mc_typed.specs.Tree as typed
use Rattle.mc_steps.specs.Points.{Points, no_points, all_complete}
use Rattle.mc_probe.specs.Maps.{Map}
use Rattle.mc_probe.specs.Tree as p
use Rattle.mc_probe.specs.Table.{put_function, put_functions}
use Rattle.reread_pieces.specs.declared.piece.What.{What}
use Rattle.reread_pieces.specs.declared.piece.What.TheVariants as what
use Rattle.reread_law_texts.specs.alike.Moves.{FollowFrom, end_of}
use Rattle.reread_law_rows.specs.inserted.Rows.{Rows, exit_row, rows_in_function, rows_in_functions}
use Rattle.mc_grammar.proofs.Spelling.{specifiers_spell, parameters_spell}
use Rattle.mc_grammar.specs.Spelling as spelling
use Rattle.laws_types.specs.SourceUnits.{IsFunctionOf, AreFunctionsOf, ProgramsHaveTheirSource}
use Rattle.laws_types.specs.SourceUnits as of
use Rattle.reread_law_printed.specs.placed.Separate.{AreSeparateAfter}
use Rattle.reread_law_printed.specs.ordered.Laws.{BlocksAreNested}
use Rattle.laws_reread.specs.Separate.{RowsAreSeparate}
use Rattle.laws_reread.proofs.Ready.{le, same, Ready, ready_later, may_be_last, front, left, Goes, followed, wider}
use Rattle.laws_reread.proofs.Labels.{labels_in_function}
use Rattle.laws_reread.proofs.Reading.{grows, spelled, item_leaves, Here, step, Later, passed, stars_leave, block_leaves, block_laid}
use Rattle.laws_reread.proofs.SeparateBodies.{block_forward, items}
use Rattle.reread_law_texts.proofs.Tokens.{tk}
use Rattle.reread_law_rows.proofs.Fitting.Profile.{left_inside, right_inside}

-- ---- rows of a function that are there or not

registers_row : {tokens : List Tok} (f : p.Function) (none : Bool) {n s : ℕ} → n ≤ f.name_span.start → s ≤ f.name_span.start
    → Goes tokens false n s f.name_span.start f.name_span.start (λ later. if none then later else record { what = what.Registers f.registers; span = f.name_span; end = f.closing.end } ∷ later)
registers_row f true h l = record { goes = λ v at later r k. k v at (ready_later h l r) }
registers_row f false h l = record {
  goes = λ v at later r k. front (what.Registers f.registers) f.name_span f.closing.end _ r l tt (k (what.Registers f.registers) f.name_span (record { past = same f.name_span.start; ready = refl }));
}

entered : {tokens : List Tok} (f : p.Function) (bit : ℕ)
    → Goes tokens false f.name_span.start f.name_span.start f.name_span.start f.name_span.start (λ later. record { what = what.Entry bit; span = f.name_span; end = f.closing.end } ∷ later)
entered f bit = record {
  goes = λ v at later r k. front (what.Entry bit) f.name_span f.closing.end _ r (same f.name_span.start) tt (k (what.Entry bit) f.name_span (record { past = same f.name_span.start; ready = refl }));
}

left_row : {tokens : List Tok} (f : p.Function) (complete : Bool) (bit to : ℕ) → f.name_span.start ≤ to → Goes tokens false to to to to (exit_row f (if complete then Some bit else None))
left_row f true bit to h = record {
  goes = λ v at later r k. left bit f.name_span f.closing.end _ r (k (what.Exit bit) f.name_span (record { past = h; ready = refl }));
}
left_row f false bit to h = record { goes = λ v at later r k. k v at r }

-- ---- functions

-- the rows of a function, from where its text begins to where what follows it does
record Made (tokens : List Tok) (c : ℕ) (rest : List Lexeme) (mine : Rows) : Type 0 where
  end : ℕ
  here : Here tokens end rest
  goes : Goes tokens false c c end end mine

module _ (nest : BlocksAreNested) (tokens : List Tok) (m : Map) where
  function_separate : {d : Dialect} {ts rest : List Lexeme} {words : Specifiers} {stars : ℕ} {name : Name} {given : Parameters} {at span : Span} {body : BlockItems} {f : typed.Function} (c : ℕ)
      → ReadsItem d ts (tree.Defined words (tree.function stars name given at) body span) rest → IsFunctionOf name body span f → Here tokens c ts
      → first_outside (nodes_of_item (tree.Defined words (tree.function stars name given at) body span)) ≡ None
      → (number decisions : ℕ) (points : Points) → Made tokens c rest (rows_in_function (put_function m number decisions points f))
  function_separate {d = d} {rest = rest} {words = words} {stars = stars} {name = name} {given = given} {at = place} {span = span} {body = b} {f = f} c
      (i.defined {y = word} {z = z} {words = left_words} {mid = mid} p e q v w (g.block {x = x} {y = y} {ts = ts} k t l)) own h inside number decisions points =
      let one = put_function m number decisions points f in
      let pointed : Later tokens c (word ∷ left_words) = passed h (spelled (specifiers_spell p spelling.nothing)) in
      let before_name = passed {ts = word ∷ left_words} {rest = z ∷ mid} pointed.here (stars_leave q) in
      let name_low : c ≤ one.name_span.start = subst (λ (s : Span). c ≤ s.start) (sym own.place) (le pointed.low (le before_name.low before_name.here.follow.0)) in
      let after_name = step {x = z} before_name.here in
      let brace = passed after_name (spelled (parameters_spell w spelling.nothing)) in
      let inner = step {x = x} brace.here in
      let from : ℕ = end_of x.token in
      let nested = nest d ts (y ∷ rest) b from t inner.follow in
      let to : ℕ = nested.0 in
      let name_high : one.name_span.start ≤ from =
      subst (λ (s : Span). s.start ≤ from) (sym own.place) (le (grows z (same z.token.start)) (le brace.low (grows x brace.here.follow.0))) in
      let laid = block_laid t inner in
      let labels = labels_in_function words (tree.function stars name given place) b span inside in
      let rows = items tokens m decisions false own.items nested.1 laid labels 0 _ in
      record {
        end = end_of y.token;
        here = step {x = y} (passed inner (block_leaves t)).here;
        goes =
            followed (registers_row one (one.registers == 0) name_low name_low) (same one.name_span.start) (same one.name_span.start)
            (followed (entered one _) name_high name_high
            (followed rows (same to) (same to) (wider (same to) (same to) (grows y nested.2.0) (grows y nested.2.0) (left_row one (all_complete f.body) _ to (le name_high (block_forward b nested.1))))));
      }

  functions_separate : {d : Dialect} {ts : List Lexeme} {unit : List Item} {fs : List typed.Function} (c : ℕ) → ReadsUnit d ts unit → AreFunctionsOf unit fs → Here tokens c ts
      → first_outside (nodes_of_unit unit) ≡ None → (number decisions : ℕ) (points : Points) (v : What) (at : Span) → Ready tokens false c c v at
      → AreSeparateAfter tokens v at (rows_in_functions (put_functions m number decisions points fs) [])
  functions_separate c i.no_items of.no_functions h inside number decisions points v at r = may_be_last tokens false c c v at r.ready
  functions_separate c (i.item {i = one} {all = all} p q) (of.declared {fs = fs} l) h inside number decisions points v at r =
      let later = passed h (item_leaves p) in
      functions_separate later.end q l later.here (right_inside (nodes_of_item one) (nodes_of_unit all) inside) number decisions points v at (ready_later later.low later.low r)
  functions_separate c (i.item {i = one} {all = all} p q) (of.defined {fs = fs} own l) h inside number decisions points v at r =
      let made = function_separate c p own h (left_inside (nodes_of_item one) (nodes_of_unit all) inside) number decisions points in
      made.goes.goes v at (rows_in_functions (put_functions m _ _ _ fs) []) r
      (λ w other x. functions_separate made.end q l made.here (right_inside (nodes_of_item one) (nodes_of_unit all) inside) _ _ _ w other x)

-- ---- texts

same_tokens : (tokens : List Tok) → tokens ≡ tk (lexemes_of tokens)
same_tokens [] = refl
same_tokens (x ∷ tokens) = ap (λ us. x ∷ us) (same_tokens tokens)

pub rows_are_separate : ProgramsHaveTheirSource → BlocksAreNested → RowsAreSeparate
rows_are_separate source nest d tokens unit program m follow text inside e =
    let all = same_tokens tokens in
    functions_separate nest tokens m 0 text (source unit program e) (record { before = []; all = all; follow = subst (λ us. FollowFrom 0 us) all follow }) inside 0 0 no_points
    what.Closing (record { start = 0; end = 0 }) (record { past = same 0; ready = tt })
