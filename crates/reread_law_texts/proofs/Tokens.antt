-- The tokens of a list that is read, whatever is marked as a typedef name; and bytes in their order.
use Rattle.std.proofs.Common.{◌≡◌, ◌≤◌, ◌<◌, ◌+◌, ℕ, Bool, true, false, ◌&&◌, List, [], ◌∷◌, map, nat_lt, if◌then◌else◌, refl, ap, ◌∙◌, arith}
use Rattle.std.proofs.lemmas.Bool.Decides.{nat_tests}
use Rattle.std.specs.Str.{bytes_eq}
use Rattle.mc_lex.specs.Tokens.{Tok}
use Rattle.mc_tree.specs.Tree.{Declarator, name_of}
use Rattle.mc_grammar.specs.Words.{Lexeme, is_identifier_kind, retag, lexemes_of}
use Rattle.mc_grammar.specs.Statements.{after}

abbrev pub tk : List Lexeme → List Tok
tk ts = map (λ x. x.token) ts

pub same_tokens : (tokens : List Tok) → tk (lexemes_of tokens) ≡ tokens
same_tokens [] = refl
same_tokens (x ∷ tokens) = ap (λ us. x ∷ us) (same_tokens tokens)

-- ---- typedef names

abbrev pub marked : Bool → Lexeme → Lexeme
marked b x = if b then record { token = x.token; names_type = true } else x

pub same_token : (b : Bool) (x : Lexeme) → (marked b x).token ≡ x.token
same_token true x = refl
same_token false x = refl

pub retag_tokens : (name : List ℕ) (ts : List Lexeme) → tk (retag name ts) ≡ tk ts
unfolding retag
retag_tokens name [] = refl
retag_tokens name (x ∷ ts) =
    ap (λ t. t ∷ tk (retag name ts)) (same_token (is_identifier_kind x.token.kind && bytes_eq x.token.text name) x) ∙ ap (λ us. x.token ∷ us) (retag_tokens name ts)

pub after_tokens : (typedef : Bool) (d : Declarator) (ts : List Lexeme) → tk (after typedef d ts) ≡ tk ts
after_tokens true d ts = retag_tokens (name_of d).text ts
after_tokens false d ts = refl

-- ---- bytes in their order

pub reflexive : (n : ℕ) → n ≤ n
reflexive n = omega arith

pub transitive : (a b c : ℕ) → a ≤ b → b ≤ c → a ≤ c
transitive a b c h k = omega (arith, h, k)

pub ends_later : (c start length : ℕ) → c ≤ start → c ≤ start + length
ends_later c start length h = omega (arith, h)

pub ends_after : (c start length : ℕ) → c ≤ start → 0 < length → c < start + length
ends_after c start length h k = omega (arith, h, k)

pub is_before : (n m : ℕ) → n < m → nat_lt n m ≡ true
is_before n m h = grind (arith, nat_tests)

pub not_before : (n m : ℕ) → m ≤ n → nat_lt n m ≡ false
not_before n m h = grind (arith, nat_tests)
