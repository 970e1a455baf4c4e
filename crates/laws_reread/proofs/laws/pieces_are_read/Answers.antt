use Rattle.laws_reread.proofs.Pieces.{pieces_read}
use Rattle.laws_reread.proofs.laws.pieces_are_read.Goals as goal

pub returns : goal.returns
returns c =
    pieces_read (record {
      apart = c.places_are_apart.ensures.expressions;
      before = c.brackets_start_before.ensures;
      bytes = c.places_have_bytes.ensures;
      locals = c.locals_are_apart.ensures;
      taken = c.probes_are_taken.ensures;
      signs = c.signs_are_those_of_the_tree.ensures;
      few = c.brackets_have_places.ensures.few;
      ends = c.brackets_have_places.ensures.ends;
      bracketed = c.poured_texts_have_bracketed_trees.ensures;
      within = c.height_is_within.ensures;
      back = c.trees_come_back.ensures.back;
      no_longer = c.tree_is_no_longer_than_text.ensures;
      counts = c.units_are_sound.ensures.few;
      sound = c.units_are_sound.ensures.sound;
      conversions = c.implied_conversions_stand.ensures;
      stands = c.stands_are_apart.ensures;
      places = c.programs_stand_apart.ensures;
      counted = c.instrumented_units_are_counted.ensures;
      put = c.tables_are_put_back.ensures;
    })
