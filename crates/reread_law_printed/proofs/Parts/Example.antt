-- The worked text.
use Rattle.std.proofs.Common.{◌≡◌, ℕ, Bool, true, nat_le, nat_lt, ◌&&◌, List, [], ◌∷◌, ◌++◌, length, codes, refl, arith}
use Rattle.std.proofs.lemmas.Bool.Decides.{nat_tests}
use Rattle.std.proofs.lemmas.List.Elements.{All-from_recursion}
use Rattle.std.specs.List.{AllByRecursion as Each}
use Rattle.mc_span.specs.declared.span.Span.{Span}
use Rattle.mc_lex.specs.Tokens.{Tok}
use Rattle.mc_lex.proofs.Texts.{both}
use Rattle.reread_pieces.specs.Words.{specifiers}
use Rattle.reread_law_texts.specs.alike.Moves.{FollowFrom, end_of}
use Rattle.reread_law_rows.specs.inserted.Rows.{rows_of}
use Rattle.reread_law_rows.specs.inserted.Fits.{IsBalanced, nothing, other, pair, StandsAmong, IsOperandAmong, IsStatementAmong, ReturnsAmong}
use Rattle.reread_law_printed.specs.parts.Stands.{IsFunctionAmong}
use Rattle.reread_law_printed.specs.parts.Worked.{keyword, name, mark, result, parameters, tokens, function, tree, TheyStand}
use Rattle.reread_law_printed.proofs.Parts.Tied.{Fit}

-- ---- tokens that follow each other

abbrev follow : ℕ → List Tok → Bool
follow place [] = true
follow place (x ∷ ts) = nat_le place x.start && (nat_lt 0 (length x.text) && follow (end_of x) ts)

they_follow : (place : ℕ) (ts : List Tok) → follow place ts ≡ true → FollowFrom place ts
they_follow place [] e = tt
they_follow place (x ∷ ts) e =
    let a = both (nat_le place x.start) (nat_lt 0 (length x.text) && follow (end_of x) ts) e in
    let b = both (nat_lt 0 (length x.text)) (follow (end_of x) ts) a.1 in
    let first = a.0 in
    let some = b.0 in
    (grind (arith, nat_tests), grind (arith, nat_tests), they_follow (end_of x) ts b.1)

-- ---- parts of the text

abbrev span : ℕ → ℕ → Span
span start end = record { start = start; end = end }

abbrev word : Tok
word = keyword (codes "return") 19

abbrev left : Tok
left = name (codes "a") 26

abbrev ampersands : Tok
ampersands = mark (codes "&&") 27

abbrev right : Tok
right = name (codes "b") 29

abbrev semicolon : Tok
semicolon = mark (codes ";") 30

abbrev closing : Tok
closing = mark (codes "}") 31

abbrev front : List Tok
front = result ++ name (codes "f") 4 ∷ (parameters ++ mark (codes "{") 18 ∷ [])

value_balanced : IsBalanced (left ∷ ampersands ∷ right ∷ [])
value_balanced = other refl (other refl (other refl nothing))

inside_balanced : IsBalanced (word ∷ left ∷ ampersands ∷ right ∷ semicolon ∷ [])
inside_balanced = other refl (other refl (other refl (other refl (other refl nothing))))

parameters_balanced : IsBalanced parameters
parameters_balanced =
    pair (mark (codes "(") 5) (mark (codes ")") 17) (keyword (codes "int") 6 ∷ name (codes "a") 10 ∷ mark (codes ",") 11 ∷ keyword (codes "int") 12 ∷ name (codes "b") 16 ∷ []) [] refl
    (other refl (other refl (other refl (other refl (other refl nothing))))) nothing

whole : StandsAmong tokens (span 19 31)
whole = record { before = front; inside = word ∷ left ∷ ampersands ∷ right ∷ semicolon ∷ []; after = closing ∷ []; all = refl; start = refl; end = refl }

the_statement : IsStatementAmong tokens (span 19 31)
unfolding specifiers whole
the_statement = record { place = whole; balanced = inside_balanced; brace = refl; declaration = refl }

the_return : ReturnsAmong tokens (span 19 31)
unfolding whole
the_return = record {
  value = left ∷ ampersands ∷ right ∷ [];
  stands = record { place = whole; word = word; semicolon = semicolon; tokens_are = refl; word_is = refl; semicolon_is = refl };
  balanced = value_balanced;
  one = refl;
}

the_decision : IsOperandAmong tokens (span 26 30)
the_decision = record {
  place = record { before = front ++ word ∷ []; inside = left ∷ ampersands ∷ right ∷ []; after = semicolon ∷ closing ∷ []; all = refl; start = refl; end = refl };
  balanced = value_balanced;
  before = refl;
}

the_left : IsOperandAmong tokens (span 26 27)
the_left = record {
  place = record { before = front ++ word ∷ []; inside = left ∷ []; after = ampersands ∷ right ∷ semicolon ∷ closing ∷ []; all = refl; start = refl; end = refl };
  balanced = other refl nothing;
  before = refl;
}

the_right : IsOperandAmong tokens (span 29 30)
the_right = record {
  place = record { before = front ++ word ∷ left ∷ ampersands ∷ []; inside = right ∷ []; after = semicolon ∷ closing ∷ []; all = refl; start = refl; end = refl };
  balanced = other refl nothing;
  before = refl;
}

the_rows : Each (Fit tokens) (rows_of tree)
the_rows = (tt, (tt, (the_statement, (the_return, (the_decision, (the_left, (tt, (the_right, (tt, (tt, (tt, (tt, tt))))))))))))

the_function : IsFunctionAmong tokens function
the_function = record {
  before = result;
  name = name (codes "f") 4;
  parameters = parameters;
  opening = mark (codes "{") 18;
  inside = word ∷ left ∷ ampersands ∷ right ∷ semicolon ∷ [];
  closing = closing;
  after = [];
  all = refl;
  name_start = refl;
  name_end = refl;
  no_brace = refl;
  opening_is = refl;
  closing_is = refl;
  closing_start = refl;
  closing_end = refl;
  in_order =
      (omega arith, (omega arith, (omega arith, (omega arith, (omega arith, (omega arith, (omega arith, (omega arith, (omega arith, (omega arith, omega arith))))))))));
}

pub they_stand : TheyStand
unfolding the_function
they_stand = (
  record {
    follow = they_follow 0 tokens refl;
    fit = All-from_recursion (Fit tokens) (rows_of tree) the_rows;
    functions = (the_function, tt);
  },
  (other refl nothing, refl, parameters_balanced, inside_balanced, nothing),
)
