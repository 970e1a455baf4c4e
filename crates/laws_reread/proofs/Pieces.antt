-- What is read of pieces whose probes stand at the rows of a program.
use Rattle.std.proofs.Common.{◌≡◌, ◌≤◌, ◌<◌, ◌+◌, ◌*◌, ◌^◌, ℕ, List, length, None, Ok, sym, ap, subst, ◌∙◌, arith}
use Rattle.mc_lex.specs.declared.token.Dialect.{Dialect}
use Rattle.mc_lex.specs.declared.token.Dialect.TheVariants.{Instrumented}
use Rattle.mc_lex.specs.Tokens.{Tok}
use Rattle.mc_tree.specs.Tree.{Item}
use Rattle.mc_tree.specs.Height.{height_unit}
use Rattle.mc_tree.specs.Length.{token_count}
use Rattle.mc_grammar.specs.Items.{IsTree, IsSyntaxOf}
use Rattle.mc_grammar.specs.Laws.{TreeIsNoLonger}
use Rattle.reread_pieces.specs.declared.placed.Placed.{Placed}
use Rattle.reread_pieces.specs.Pieces.{Mark}
use Rattle.reread_pieces.specs.Plain.{plain_of}
use Rattle.reread_probes.specs.Probes.{probes}
use Rattle.reread_plain_tree.specs.Unprobed.{unprobed_unit}
use Rattle.mc_subset.specs.Nodes.{nodes_of_unit}
use Rattle.mc_subset.specs.Forms.{first_outside}
use Rattle.mc_typed.specs.Sound.{IsSound}
use Rattle.mc_typed.specs.Tree.{Program}
use Rattle.types_rules.specs.Typing.{IsTypingOf}
use Rattle.laws_soundness.specs.Laws.{UnitsAreSound, UnitsAreFew}
use Rattle.mc_probe.specs.Maps.{Map, IsMapOf}
use Rattle.mc_probe.specs.Table.{instrumented}
use Rattle.reread_law_texts.specs.alike.Moves.{FollowFrom}
use Rattle.reread_law_texts.specs.weave.Brackets.{Brackets}
use Rattle.reread_law_texts.specs.weave.Trees.{bracketed_unit}
use Rattle.reread_law_texts.specs.weave.Laws.{HeightIsWithin}
use Rattle.reread_law_texts.specs.brackets.Signs.{poured, signs_in_unit}
use Rattle.reread_law_texts.specs.brackets.Laws.{PouredTextsHaveBracketedTrees}
use Rattle.reread_law_texts.specs.unwoven.Laws.{TreesComeBack}
use Rattle.reread_law_rows.specs.inserted.Rows.{Row, rows_of}
use Rattle.reread_law_rows.specs.inserted.Signs.{brackets_of, signs_of}
use Rattle.reread_law_rows.specs.inserted.Seats.{ArePlaced, probe_rows, AreThere}
use Rattle.reread_law_texts.specs.apart.Distinct.{IsDistinct}
use Rattle.reread_law_texts.specs.apart.Places.{spans_in_unit}
use Rattle.reread_law_texts.specs.apart.Laws.{ExpressionsAreApart, BracketsStartBefore, PlacesHaveBytes}
use Rattle.reread_law_rows.specs.signed.Laws.{SignsAreThoseOfTheTree, BracketsAreFew, BracketsAreAfterTokens}
use Rattle.reread_law_rows.specs.taken.Laws.{AreTaken, ProbesAreTaken, LocalsAreApart}
use Rattle.reread_put_back.specs.Back.{put_back}
use Rattle.reread_law_probes.specs.put.Laws.{TablesArePutBack}
use Rattle.reread_law_probes.specs.stood.Laws.{StandsAreApart, ProgramsStandApart}
use Rattle.reread_law_probes.specs.counted.Laws.{InstrumentedUnitsAreCounted}
use Rattle.reread_law_probes.specs.converted.Laws.{ImpliedConversionsStand}
use Rattle.reread_program.specs.Reading.{ReadsUnit}
use Rattle.laws_reread.specs.Laws.{PiecesAreRead}

-- the laws of trees, of brackets and of probes that this takes
pub record Trees : Type 0 where
  pub apart : ExpressionsAreApart
  pub before : BracketsStartBefore
  pub bytes : PlacesHaveBytes
  pub locals : LocalsAreApart
  pub taken : ProbesAreTaken
  pub signs : SignsAreThoseOfTheTree
  pub few : BracketsAreFew
  pub ends : BracketsAreAfterTokens
  pub bracketed : PouredTextsHaveBracketedTrees
  pub within : HeightIsWithin
  pub back : TreesComeBack
  pub no_longer : TreeIsNoLonger
  pub counts : UnitsAreFew
  pub sound : UnitsAreSound
  pub conversions : ImpliedConversionsStand
  pub stands : StandsAreApart
  pub places : ProgramsStandApart
  pub counted : InstrumentedUnitsAreCounted
  pub put : TablesArePutBack

-- ---- numbers

below : (a b n : ℕ) → a ≤ b → b < n → a < n
below a b n le lt = omega (arith, le, lt)

not_too_high : (high low : ℕ) → high ≤ (3 + 1) * low → low ≤ 200 → high ≤ 800
not_too_high high low h l = omega (arith, h, l)

-- ---- one unit

module _ (k : Trees) (d : Dialect) (tokens : List Tok) (unit : List Item) (p : Program) (m : Map) (follow : FollowFrom 0 tokens) (tree : IsTree d tokens unit) (typing : IsTypingOf unit p) where
  abbrev rows : List Row
  rows = rows_of (instrumented m p)

  abbrev w : Brackets
  w = brackets_of rows

  abbrev woven : List Item
  woven = bracketed_unit w unit

  distinct : IsDistinct (spans_in_unit unit)
  distinct = k.apart d tokens unit follow tree

  -- the text without the probes, and its tree
  woven_text : (pieces : List Mark) → plain_of pieces ≡ poured (signs_of rows) tokens → plain_of pieces ≡ poured (signs_in_unit w unit) tokens
  woven_text pieces plain = plain ∙ ap (λ signs. poured signs tokens) (k.signs unit p m typing.1 distinct)

  woven_tree : IsTree Instrumented (poured (signs_in_unit w unit) tokens) woven
  woven_tree =
      let bytes = k.bytes d tokens unit follow tree in
      k.bracketed d Instrumented w tokens unit (k.ends unit p m typing.1 bytes.0 bytes.1) follow tree

  woven_low : height_unit unit ≤ 200 → height_unit woven ≤ 800
  woven_low low = not_too_high (height_unit woven) (height_unit unit) (k.within 3 w unit (omega arith) (k.few unit p m typing.1 distinct)) low

  woven_syntax : (pieces : List Mark) → plain_of pieces ≡ poured (signs_of rows) tokens → height_unit unit ≤ 200 → IsSyntaxOf Instrumented (plain_of pieces) woven
  woven_syntax pieces plain low = (subst (λ (ts : List Tok). IsTree Instrumented ts woven) (sym (woven_text pieces plain)) woven_tree, woven_low low)

  -- what the probes stand at
  are_taken : (pieces : List Mark) → AreThere (probe_rows rows) (probes pieces) → AreTaken unit rows (probes pieces)
  are_taken pieces there = k.taken unit p m (probes pieces) typing.1 distinct (k.locals d tokens unit follow tree) (k.before d tokens unit follow tree) there

  module _ (short : length tokens < 2 ^ 31) (inside : first_outside (nodes_of_unit unit) ≡ None) (map : IsMapOf p m) where
    is_sound : IsSound p
    is_sound = k.sound unit p inside typing (k.counts unit p typing (below (token_count unit) (length tokens) (2 ^ 31) (k.no_longer d tokens unit tree) short))

    is_put_back : (placed : List Placed) → ArePlaced rows placed → put_back p placed ≡ Ok (instrumented m p)
    is_put_back placed at =
        k.put p m placed is_sound (k.conversions unit p typing.1 is_sound) map.kept (k.places unit p m typing.1 (k.stands d tokens unit follow tree)) (k.counted unit p m typing.1 map) at

    unit_read : (placed : List Placed) → ArePlaced rows placed → ReadsUnit (unprobed_unit woven) placed (Ok (instrumented m p))
    unit_read placed at =
        subst (λ (u : List Item). ReadsUnit u placed (Ok (instrumented m p))) (sym (k.back d w tokens unit follow tree)) (tt, inside, (p, typing, is_put_back placed at))

pub pieces_read : Trees → PiecesAreRead
pieces_read k d tokens unit p m pieces follow short tree low inside typing map there plain =
    let taken = are_taken k d tokens unit p m follow tree typing pieces there in
    let syntax = woven_syntax k d tokens unit p m follow tree typing pieces plain low in
    let read = unit_read k d tokens unit p m follow tree typing short inside map taken.0 taken.2 in
    (bracketed_unit (brackets_of (rows_of (instrumented m p))) unit, syntax, (taken.0, taken.1, read))
