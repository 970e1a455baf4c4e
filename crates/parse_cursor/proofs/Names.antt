-- A new name of a typedef marks the tokens of its text.
use Rattle.std.proofs.Common.{◌≡◌, ◌||◌, ◌&&◌, ℕ, suc, Bool, true, false, List, [], ◌∷◌, ◌++◌, Option, Some, None, option_map, is_some, refl, sym, if◌then◌else◌}
use Rattle.std.specs.Str.{bytes_eq}
use Rattle.mc_lex.specs.Tokens.{Tok}
use Rattle.mc_lex.proofs.Texts.{same_text, text_itself}
use Rattle.mc_grammar.specs.Words.{Lexeme, lexemes_of, retag, retagged, is_identifier_kind}
use Rattle.name_table.specs.Tables.{Named, last_place_of, later_or}
use Rattle.parse_cursor.specs.Cursors.{Names, has_name, marked, marked_all}

found : (last : Option ℕ) (here : Bool)
    → is_some (later_or (option_map suc last) (if here then Some 0 else None)) ≡ (here || is_some last)
found None true = refl
found None false = refl
found (Some i) true = refl
found (Some i) false = refl

-- a name that has a place is one of them
pub has_place : (text : List ℕ) (names : Names) → is_some (last_place_of text names) ≡ has_name names text
has_place text [] = refl
has_place text (n ∷ names) =
    rw (found (last_place_of text names) (bytes_eq n.name text), has_place text names) refl

either_first : (p q r : Bool) → (p || (q || r)) ≡ (q || (p || r))
either_first true true r = refl
either_first true false r = refl
either_first false q r = refl

-- one more name
pub one_more : (n : Named (Unit {0})) (names : Names) (text : List ℕ)
    → has_name (names ++ n ∷ []) text ≡ (bytes_eq n.name text || has_name names text)
one_more n [] text = refl
one_more n (first ∷ names) text =
    rw (one_more n names text) (either_first (bytes_eq first.name text) (bytes_eq n.name text) (has_name names text))

both : (p q : Bool) → (p ≡ true → q ≡ true) → (q ≡ true → p ≡ true) → p ≡ q
both true true f g = refl
both true false f g = sym (f refl)
both false true f g = g refl
both false false f g = refl

swapped : (a b : List ℕ) → bytes_eq a b ≡ bytes_eq b a
swapped a b = both (bytes_eq a b) (bytes_eq b a)
    (λ e. text_itself b a (sym (same_text a b e))) (λ e. text_itself a b (sym (same_text b a e)))

abbrev lexeme : Tok → Bool → Lexeme
lexeme token names_type = record { token = token; names_type = names_type }

either_way : (kind named had : Bool) (x : Tok)
    → ◌≡◌ {A = Lexeme} (if kind && named then lexeme x true else lexeme x (kind && had)) (lexeme x (kind && (named || had)))
either_way true true had x = refl
either_way true false had x = refl
either_way false named had x = refl

retag_one : (old new : Names) (name : List ℕ)
    → ((q : List ℕ) → has_name new q ≡ (bytes_eq name q || has_name old q))
    → (x : Tok) → retagged name (marked old x) ≡ marked new x
retag_one old new name e x =
    rw (e x.text, swapped name x.text)
    (either_way (is_identifier_kind x.kind) (bytes_eq x.text name) (has_name old x.text) x)

pub retags : (old new : Names) (name : List ℕ)
    → ((q : List ℕ) → has_name new q ≡ (bytes_eq name q || has_name old q))
    → (ts : List Tok) → retag name (marked_all old ts) ≡ marked_all new ts
unfolding retag marked_all
retags old new name e [] = refl
retags old new name e (x ∷ ts) = rw (retag_one old new name e x, retags old new name e ts) refl

not_marked : (kind : Bool) → (kind && false) ≡ false
not_marked true = refl
not_marked false = refl

-- where no name is in force, no token is marked
pub unmarked : (ts : List Tok) → marked_all [] ts ≡ lexemes_of ts
unfolding marked_all
unmarked [] = refl
unmarked (x ∷ ts) = rw (not_marked (is_identifier_kind x.kind), unmarked ts) refl
