use Rattle.laws_reread.proofs.Parted.{parts_are_pieces}
use Rattle.laws_reread.proofs.laws.printed_parts_are_pieces.Goals as goal

pub returns : goal.returns
returns c =
    parts_are_pieces (record {
      means = c.scanned_tokens_mean_their_kinds.ensures;
      stand = c.sources_stand.ensures;
      words = c.sources_have_own_words.ensures;
      entries = c.functions_have_entries.ensures;
      numbers = c.instrumented_numbers_are_short.ensures;
      numerals = c.sources_have_numerals.ensures;
      kinds = c.sources_keep_kinds.ensures;
      balanced = c.texts_are_balanced.ensures;
      heads = c.texts_have_heads.ensures;
      separate = c.rows_are_separate.ensures;
      after = c.parts_come_after.ensures;
      followed = c.parts_are_followed.ensures;
      inside = c.parts_are_inside.ensures;
      typed = c.values_are_typed.ensures;
      placed = c.parts_are_placed.ensures;
      pieces = c.pieces_of_parts.ensures;
    })
