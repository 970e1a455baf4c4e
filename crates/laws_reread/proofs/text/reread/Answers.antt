use Rattle.laws_reread.proofs.text.reread.Goals as goal

pub returns-clause-printed : goal.returns-clause-printed
returns-clause-printed c =
    c.printed_texts_are_read_only_so.ensures.calls c.args.text.now c.reread.result c.requires c.reread.ensures.reads
