use Rattle.laws_reread.proofs.Again.{read_again}
use Rattle.laws_reread.proofs.laws.printed_texts_are_read_again.Goals as goal

pub returns : goal.returns
returns c =
    read_again
    (record {
      means = c.scanned_tokens_mean_their_kinds.ensures;
      source = c.sources_stand.ensures;
      texts = c.texts_stand.ensures;
      alike = c.own_tokens_are_alike.ensures;
      own = c.own_tokens_are_placed.ensures.follow;
      ends = c.own_tokens_are_placed.ensures.ends;
      moved = c.alike_texts_have_moved_trees.ensures.moved;
      tree = c.trees_move.ensures.tree;
      height = c.height_is_kept.ensures;
      refusal = c.forms_are_kept.ensures.refusal;
      program = c.units_move.ensures.program;
      erases = c.instrumented_programs_erase.ensures.program;
      rows = c.rows_are_moved.ensures;
      parts = c.parts_move.ensures;
    })
    (record {
      numbers = c.instrumented_numbers_are_short.ensures;
      scans = c.printed_text_scans.ensures;
      pieces = c.printed_parts_are_pieces.ensures;
      probes = c.probes_are_there.ensures;
      plain = c.plain_is_poured.ensures;
      read = c.pieces_are_read.ensures;
    })
