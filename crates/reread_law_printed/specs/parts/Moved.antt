-- The functions of a program at other places of its tokens.
use Rattle.std.specs.Prelude.{◌≡◌, List, [], ◌∷◌, map}
use Rattle.mc_probe.specs.Tree as p
use Rattle.reread_law_texts.specs.alike.Moves.{Move, moved_span}
use Rattle.reread_law_rows.specs.inserted.Rows.{Row}
use Rattle.reread_law_printed.specs.parts.Parts.{body_rows}

abbrev pub moved_row : Move → Row → Row
moved_row m r = record { what = r.what; span = moved_span m r.span; end = m.end r.end }

-- The second function is the first one at other places, as far as the table has rows for it.
pub record IsMoved (m : Move) (f g : p.Function) : Type 0 where
  pub name : g.name_span ≡ moved_span m f.name_span
  pub closing : g.closing ≡ moved_span m f.closing
  pub registers : g.registers ≡ f.registers
  pub entry : g.entry ≡ f.entry
  pub exit : g.exit ≡ f.exit
  pub rows : body_rows g ≡ map (moved_row m) (body_rows f)

abbrev pub AreMoved : Move → List p.Function → List p.Function → Type 0
AreMoved m [] [] = Unit {0}
AreMoved m (f ∷ fs) (g ∷ gs) = IsMoved m f g × AreMoved m fs gs
AreMoved m _ _ = ⊥
