-- From the reading of a whole text to the grammar.
use Rattle.mc_limits.specs.Limits.{most_instrumented_height}
use Rattle.std.proofs.Common.{◌≡◌, ◌≤◌, ◌<◌, ◌+◌, ◌^◌, ℕ, List, length, Option, Some, None, refl, sym, ◌∙◌, ap, arith}
use Rattle.mc_lex.specs.Tokens.{Tok}
use Rattle.mc_lex.specs.declared.token.Dialect.{Dialect}
use Rattle.mc_tree.specs.Tree as t
use Rattle.mc_tree.specs.Height.{height_unit}
use Rattle.mc_tree.specs.Length.{token_count}
use Rattle.mc_grammar.specs.Words.{Lexeme, lexemes_of}
use Rattle.mc_grammar.specs.Items.{IsTreeWithin}
use Rattle.mc_grammar.proofs.Counted.{tree_counted}
use Rattle.laws_grammar.specs.Items.{unit_of}
use Rattle.laws_grammar.proofs.CompleteItems.{complete_unit}
use Rattle.laws_grammar.proofs.SoundItems.{sound_whole}
use Rattle.mc_parse.specs.declared.fault.ParseFault.{ParseFault}
use Rattle.mc_parse.specs.declared.fault.ParseFault.TheVariants.{Syntax, OutOfMemory}
use Rattle.mc_parse.specs.steps.Wholes.{RefusesWhole, tree_in}

-- what is read is a tree
pub is_tree : (d : Dialect) (limit : ℕ) (tokens : List Tok) (unit : List t.Item)
    → tree_in (unit_of (limit + 1) (lexemes_of tokens)) ≡ Some unit → IsTreeWithin limit d tokens unit
is_tree d limit tokens unit e = by_read (unit_of (limit + 1) (lexemes_of tokens)) refl e
  where
    by_read : (read : Option (List t.Item × List Lexeme)) → unit_of (limit + 1) (lexemes_of tokens) ≡ read → tree_in read ≡ Some unit
        → IsTreeWithin limit d tokens unit
    by_read None is e = absurd (cc)
    by_read (Some read) is e =
        let same : read.0 ≡ unit = cc in
        let whole : unit_of (limit + 1) (lexemes_of tokens) ≡ Some (unit, read.1) = is ∙ ap (λ (one : List t.Item). let p : List t.Item × List Lexeme = (one, read.1) in Some p) same in
        let sound = sound_whole d limit (lexemes_of tokens) read.1 unit whole in
        (sound.0, sound.1)

-- a tree is read
pub is_read : (d : Dialect) (limit : ℕ) (tokens : List Tok) (unit : List t.Item) → IsTreeWithin limit d tokens unit
    → tree_in (unit_of (limit + 1) (lexemes_of tokens)) ≡ Some unit
is_read d limit tokens unit p = ap tree_in (complete_unit d limit (lexemes_of tokens) unit p.0 p.1)

pub is_only : (d : Dialect) (limit : ℕ) (tokens : List Tok) (tree one : List t.Item)
    → tree_in (unit_of (limit + 1) (lexemes_of tokens)) ≡ Some one → IsTreeWithin limit d tokens tree → one ≡ tree
is_only d limit tokens tree one gives p = let same : Some one ≡ Some tree = sym gives ∙ is_read d limit tokens tree p in cc

-- where there is a tree, nothing but memory is the fault
pub is_memory : (d : Dialect) (limit count : ℕ) (tokens : List Tok) (tree : List t.Item) (fault : ParseFault)
    → RefusesWhole (tree_in (unit_of (limit + 1) (lexemes_of tokens))) count fault → IsTreeWithin limit d tokens tree → fault ≡ OutOfMemory
is_memory d limit count tokens tree (Syntax at) gives p = let clash : None ≡ Some tree = sym gives.0 ∙ is_read d limit tokens tree p in absurd (cc)
is_memory d limit count tokens tree OutOfMemory gives p = refl

-- the bounds that the type of a unit keeps
pub is_low : (d : Dialect) (limit : ℕ) (tokens : List Tok) (unit : List t.Item) → limit ≤ most_instrumented_height
    → tree_in (unit_of (limit + 1) (lexemes_of tokens)) ≡ Some unit → height_unit unit ≤ most_instrumented_height
is_low d limit tokens unit low e = omega (arith, low, (is_tree d limit tokens unit e).1)

pub is_short : (d : Dialect) (limit : ℕ) (tokens : List Tok) (unit : List t.Item) → length tokens < 2 ^ 31
    → tree_in (unit_of (limit + 1) (lexemes_of tokens)) ≡ Some unit → token_count unit < 2 ^ 31
is_short d limit tokens unit few e = omega (arith, few, tree_counted tokens (is_tree d limit tokens unit e).0)
