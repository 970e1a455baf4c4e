use Rattle.std.proofs.Common.{◌<◌, ◌^◌, length, arith}
use Rattle.std.proofs.lemmas.List.{length-map}
use Rattle.mc_lex.specs.Tokens.{tok_of, toks_of}
use Rattle.mc_lex.specs.declared.token.Dialect.TheVariants.{Plain}
use Rattle.mc_tree.specs.Units.{items_of}
use Rattle.mc_parse.proofs.Texts.{is_low, is_memory, is_only, is_short, is_tree}
use Rattle.mc_parse.proofs.whole.parse_within.Goals as goal

pub invariant_of-result : goal.invariant_of-result
invariant_of-result c =
    let tokens = toks_of c.args.tokens.now in
    let few : length tokens < 2 ^ 31 = omega (arith, c.requires.few, length-map c.args.tokens.now tok_of) in
    let items = items_of c.in-Ok.items.items in record {
      low = is_low Plain c.args.limit tokens items c.requires.limit c.in-Ok.ensures;
      short = is_short Plain c.args.limit tokens items few c.in-Ok.ensures;
    }

pub returns-in-Ok-clause-tree : goal.returns-in-Ok-clause-tree
returns-in-Ok-clause-tree c = λ dialect. is_tree dialect c.args.limit (toks_of c.args.tokens.now) (items_of c.in-Ok.items.items) c.in-Ok.ensures

pub returns-in-Ok-clause-only : goal.returns-in-Ok-clause-only
returns-in-Ok-clause-only c = λ dialect tree p.
    is_only dialect c.args.limit (toks_of c.args.tokens.now) tree (items_of c.in-Ok.items.items) c.in-Ok.ensures p

pub returns-in-Err-clause-only : goal.returns-in-Err-clause-only
returns-in-Err-clause-only c = λ dialect tree p.
    is_memory dialect c.args.limit (length c.args.tokens.now) (toks_of c.args.tokens.now) tree c.in-Err.fault c.in-Err.ensures p
