-- The tokens and the trees of the samples.
use Rattle.std.proofs.Common.{◌≡◌, ℕ, Bool, true, false, ◌&&◌, nat_le, nat_lt, List, [], ◌∷◌, length, refl}
use Rattle.std.proofs.lemmas.Bool.{leb-true, ltb-true}
use Rattle.mc_lex.specs.declared.token.Dialect.{Dialect}
use Rattle.mc_lex.specs.Tokens.{Tok}
use Rattle.mc_grammar.specs.Operators as o
use Rattle.mc_grammar.specs.Expressions as r
use Rattle.mc_grammar.specs.Statements as s
use Rattle.mc_grammar.specs.Items.{IsTree}
use Rattle.mc_grammar.specs.Items as i
use Rattle.mc_grammar.proofs.Derivations.{at_semicolon, sum_alone, a_name, a_constant}
use Rattle.reread_law_texts.specs.alike.Moves.{FollowFrom, end_of}
use Rattle.reread_law_texts.specs.alike.Samples.{dense_tokens, dense_tree, spaced_tokens, spaced_tree}
use Rattle.reread_law_texts.proofs.Alike.Alike.{alike_trees}

-- whether tokens follow each other, computed
follow : ℕ → List Tok → Bool
follow place [] = true
follow place (x ∷ tokens) = nat_le place x.start && (nat_lt 0 (length x.text) && follow (end_of x) tokens)

left : (a b : Bool) → (a && b) ≡ true → a ≡ true
left true b e = refl
left false b e = e

right : (a b : Bool) → (a && b) ≡ true → b ≡ true
right true b e = e
right false b e = cc

they_follow : (place : ℕ) (tokens : List Tok) → follow place tokens ≡ true → FollowFrom place tokens
unfolding follow
they_follow place [] e = tt
they_follow place (x ∷ tokens) e =
    let later = nat_lt 0 (length x.text) && follow (end_of x) tokens in
    let rest = right (nat_le place x.start) later e in (
      leb-true place x.start (left (nat_le place x.start) later e),
      ltb-true 0 (length x.text) (left (nat_lt 0 (length x.text)) (follow (end_of x) tokens) rest),
      they_follow (end_of x) tokens (right (nat_lt 0 (length x.text)) (follow (end_of x) tokens) rest),
    )

pub dense_follow : FollowFrom 0 dense_tokens
unfolding follow
dense_follow = they_follow 0 dense_tokens refl

pub dense : (d : Dialect) → IsTree d dense_tokens dense_tree
dense d =
    i.item (i.defined (r.word (o.int refl) (r.specifiers_end refl)) refl (r.no_star refl) refl
    (r.listed_parameters refl refl refl
    (r.last_parameter (r.parameter (r.word (o.int refl) (r.specifiers_end refl)) refl (r.no_star refl) refl (r.lengths_end refl)) refl) refl)
    (s.block refl
    (s.statement refl refl (s.return refl (s.an_expression refl (r.comma_one (r.assign_cond (sum_alone
    (r.level (r.level (a_name refl refl refl refl refl) (r.operations_end refl))
    (r.operation refl (r.level (a_constant refl refl refl refl) (r.operations_end refl)) (r.operations_end refl)))
    (at_semicolon 23) refl) refl) refl)) refl)
    (s.block_end refl)) refl)) i.no_items

-- the other tree is the moved one
pub spaced : (d : Dialect) → IsTree d spaced_tokens spaced_tree
spaced d = alike_trees d d dense_tokens spaced_tokens dense_tree refl dense_follow (dense d)
