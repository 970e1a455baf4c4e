-- The tokens of a source at the places where they are printed, its tree and its program there, and
-- the pieces of the printed text.
use Rattle.std.proofs.Common.{◌≡◌, ◌≤◌, ℕ, false, List, [], ◌∷◌, length, All, Option, Some, None, is_some, refl, sym, ap, subst, ◌∙◌, arith}
use Rattle.std.specs.List.{AllByRecursion as Each}
use Rattle.mc_lex.specs.declared.token.Dialect.{Dialect}
use Rattle.mc_lex.specs.declared.token.Dialect.TheVariants.{Plain}
use Rattle.mc_lex.specs.Tokens.{Tok}
use Rattle.mc_lex.specs.Scans.{Scans}
use Rattle.mc_tree.specs.Tree.{Item}
use Rattle.mc_tree.specs.Height.{height_unit}
use Rattle.mc_grammar.specs.Items.{IsTree, IsSyntaxOf}
use Rattle.mc_subset.specs.Nodes.{nodes_of_unit}
use Rattle.mc_subset.specs.Forms.{first_outside}
use Rattle.mc_typed.specs.Tree.{Program}
use Rattle.types_rules.specs.Typing.{IsTypingOf}
use Rattle.mc_probe.specs.Tree.{Tree}
use Rattle.mc_probe.specs.Maps.{Map, IsMapOf}
use Rattle.mc_probe.specs.Table.{instrumented}
use Rattle.reread_law_texts.specs.alike.Moves.{Move, AllFit, FollowFrom, between, end_of, moved_tokens}
use Rattle.reread_law_texts.specs.alike.Trees.{moved_unit}
use Rattle.reread_law_texts.specs.alike.Laws.{TreeMoves, AlikeTokensAreMoved, HeightIsKept, RefusalIsKept}
use Rattle.reread_law_places.specs.natural.Settled.{settled}
use Rattle.reread_law_places.specs.natural.Laws.{ProgramsMove}
use Rattle.laws_simulation.specs.Laws.{InstrumentedErases}
use Rattle.mc_print.specs.Pens.{spaced}
use Rattle.mc_print.specs.Texts.{text_of}
use Rattle.reread_law_rows.specs.fitting.Laws.{MeanTheirKinds, ScannedTokensMeanTheirKinds}
use Rattle.reread_law_printed.specs.parts.Parts.{parts_of}
use Rattle.reread_law_printed.specs.parts.Marks.{marks, own_tokens}
use Rattle.reread_law_printed.specs.parts.Laws.{Stands, OwnTokensAreAlike, PartsMove}
use Rattle.reread_law_printed.specs.shifted.Laws.{RowsAreMoved}
use Rattle.laws_reread.specs.Among.{TextsStand, SourcesStand}
use Rattle.laws_reread.specs.Laws.{OwnTokensFollow, OwnTokensEnd, IsAsPrinted}

-- an accepted source: its tokens, its tree, its typed program and its map
pub record Source (source : List ℕ) (ts : List Tok) (unit : List Item) (p : Program) (m : Map) : Type 0 where
  pub scans : Scans Plain [] source ts None
  pub syntax : IsSyntaxOf Plain ts unit
  pub inside : first_outside (nodes_of_unit unit) ≡ None
  pub typing : IsTypingOf unit p
  pub map : IsMapOf p m

-- the laws of places and of moves that this takes
pub record Places : Type 0 where
  pub means : ScannedTokensMeanTheirKinds
  pub source : SourcesStand
  pub texts : TextsStand
  pub alike : OwnTokensAreAlike
  pub own : OwnTokensFollow
  pub ends : OwnTokensEnd
  pub moved : AlikeTokensAreMoved
  pub tree : TreeMoves
  pub height : HeightIsKept
  pub refusal : RefusalIsKept
  pub program : ProgramsMove
  pub erases : InstrumentedErases
  pub rows : RowsAreMoved
  pub parts : PartsMove

-- ---- lists of tokens

-- Tokens of the same kinds and texts mean the same.
moved_mean : (d : Dialect) (move : Move) (ts : List Tok) → MeanTheirKinds d ts → MeanTheirKinds d (moved_tokens move ts)
moved_mean d move [] h = tt
moved_mean d move (t ∷ ts) h = (h.0, moved_mean d move ts h.1)

is_none : {A : Type 0} (o : Option A) → is_some o ≡ false → o ≡ None
is_none None e = refl
is_none (Some a) e = absurd (cc)

pub weaker : (limit most : ℕ) (ts : List Tok) → limit ≤ most → Each (λ (t : Tok). end_of t ≤ limit) ts → Each (λ (t : Tok). end_of t ≤ most) ts
weaker limit most [] le h = tt
weaker limit most (t ∷ ts) le h = let end = h.0 in (omega (arith, end, le), weaker limit most ts le h.1)

-- ---- the places at which the tokens are printed

pub record Printed (ts : List Tok) (tree : Tree) : Type 0 where
  pub move : Move
  pub own : own_tokens (marks ts (parts_of ts tree)) ≡ moved_tokens move ts
  pub fits : AllFit move ts
  pub follows : FollowFrom 0 (moved_tokens move ts)
  pub ends : All (λ (t : Tok). end_of t ≤ length (spaced (text_of ts tree))) (moved_tokens move ts)

pub record There (ts : List Tok) (p : Program) (m : Map) (move : Move) (unit : List Item) : Type 0 where
  pub program : Program
  pub map : Map
  pub typing : IsTypingOf (moved_unit move unit) program
  pub is_map : IsMapOf program map
  pub syntax : IsTree Plain (moved_tokens move ts) (moved_unit move unit)
  pub low : height_unit (moved_unit move unit) ≤ 200
  pub inside : first_outside (nodes_of_unit (moved_unit move unit)) ≡ None
  pub same : IsAsPrinted p m (instrumented map program)
  pub stand : Stands (moved_tokens move ts) (instrumented map program)
  pub parts : parts_of (moved_tokens move ts) (instrumented map program) ≡ parts_of ts (instrumented m p)

module _ (k : Places) where
  pub printed : (source : List ℕ) (ts : List Tok) (tree : Tree) → Scans Plain [] source ts None → Stands ts tree → Printed ts tree
  printed source ts tree scans stand =
      let others : List Tok = own_tokens (marks ts (parts_of ts tree)) in
      let move : Move = between ts others in
      let moved = k.moved ts others (k.alike source ts tree scans stand) stand.follow in
      record {
        move = move;
        own = sym moved.0;
        fits = moved.1;
        follows = subst (FollowFrom 0) (sym moved.0) (k.own ts ts tree stand);
        ends = subst (λ l. All (λ (t : Tok). end_of t ≤ length (spaced (text_of ts tree))) l) (sym moved.0) (k.ends ts ts tree stand);
      }

  -- ---- the source's tree and its program there

  module _ (source : List ℕ) (ts : List Tok) (unit : List Item) (p : Program) (m : Map) (h : Source source ts unit p m) (move : Move)
      (fits : AllFit move ts) (follows : FollowFrom 0 (moved_tokens move ts)) where
    pub there : There ts p m move unit
    there =
        let stand = k.source source ts unit p m h.scans h.syntax.0 h.inside h.typing.1 in
        let moved = k.program move unit p h.typing in
        let rows = k.rows move ts unit p moved.0 m fits stand.functions h.typing.1 moved.1.1 h.map in
        let syntax = k.tree Plain Plain move ts unit fits h.syntax.0 in
        let inside = is_none (first_outside (nodes_of_unit (moved_unit move unit))) (k.refusal move unit ∙ ap is_some h.inside) in
        let mean = moved_mean Plain move ts (k.means Plain source ts None h.scans) in
        record {
          program = moved.0;
          map = rows.0;
          typing = moved.1;
          is_map = rows.1;
          syntax = syntax;
          low = subst (λ n. n ≤ 200) (sym (k.height move unit)) h.syntax.1;
          inside = inside;
          same = record { same = rows.3; erased = (move, ap settled (k.erases rows.0 moved.0) ∙ moved.2) };
          stand = k.texts Plain (moved_tokens move ts) (moved_unit move unit) moved.0 rows.0 follows mean syntax inside moved.1.1;
          parts = k.parts move ts (instrumented m p) (instrumented rows.0 moved.0) stand fits follows rows.4;
        }
