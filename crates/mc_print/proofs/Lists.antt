-- One after the other: what is written of a list.
use Rattle.std.proofs.Common.{◌≡◌, ◌∙◌, refl, sym, ap, ℕ, ◌+◌, ◌<◌, ◌≤◌, Bool, true, false, List, [], ◌∷◌, ◌++◌, Option, map, length, get_or, drop, if◌then◌else◌, zero, suc, arith}
use Rattle.std.proofs.lemmas.List.{drop_more, drop_all, append-nil}
use Rattle.mc_typed.specs.declared.expressions.Argument.{Argument}
use Rattle.mc_typed.specs.declared.effects.Effect.{Effect}
use Rattle.mc_typed.specs.declared.initializers.Initializer.{Initializer}
use Rattle.mc_typed.specs.declared.statements.Statement.{Statement}
use Rattle.mc_typed.specs.declared.statements.Declarator.{Declarator}
use Rattle.mc_typed.specs.declared.functions.Function.{Function}
use Rattle.mc_lex.specs.declared.token.Token.{Token}
use Rattle.mc_lex.specs.Tokens.{tok_of, toks_of}
use Rattle.mc_probe.specs.Views.{argument_of, arguments_from, declarator_of, effect_of, function_of, initializer_of, initializers_from, statement_of, statements_from}
use Rattle.mc_print.specs.declared.pen.Pen.{Pen as CodePen}
use Rattle.mc_print.specs.declared.pieces.Piece.{Piece}
use Rattle.mc_print.specs.Pens.{Pen, put, texts_of, type_words}
use Rattle.mc_print.specs.Texts.{write_argument, write_arguments, write_effect, write_effects, write_initial, write_initializer, write_initializers, write_declarators, write_statement, write_statements, write_function, write_functions}
use Rattle.mc_print.specs.steps.Holds.{Holds, Writes}
use Rattle.mc_print.specs.steps.Pieces.{text_of}
use Rattle.mc_print.specs.steps.Pieces as pieces
use Rattle.mc_print.proofs.Held.{at_pen, put_put}

module _ {C : Type 0} (one : C → Pen → Pen) where
  abbrev pub each : List C → Pen → Pen
  each [] p = p
  each (x ∷ xs) p = each xs (one x p)

  -- a pen is held that comes to the whole by what is left
  abbrev pub StillTo : List C → ℕ → Option (List ℕ) → ℕ → CodePen → Option (List ℕ) → ℕ → CodePen → Type 0
  StillTo xs i b f s b' f' s' =
      (start : Option (List ℕ)) (first : ℕ) (p : Pen) → Holds start first p b f s →
      (q : Pen) × Holds start first q b' f' s' × (each (drop i xs) q ≡ each xs p)

  pub begin : (xs : List C) (b : Option (List ℕ)) (f : ℕ) (s : CodePen) → StillTo xs 0 b f s b f s
  begin xs b f s = λ start first p h. (p, h, refl)

  split : (xs : List C) (i : ℕ) (x : C) → i < length xs → x ≡ get_or xs i x → drop i xs ≡ x ∷ drop (i + 1) xs
  split xs i x lt is = drop_more xs i x lt ∙ ap (λ (y : C). y ∷ drop (i + 1) xs) (sym is)

  pub next : (xs : List C) (i : ℕ) (x : C) (b b' b'' : Option (List ℕ)) (f f' f'' : ℕ) (s s' s'' : CodePen) → i < length xs → x ≡ get_or xs i x → Writes (one x) b' f' s' b'' f'' s'' → StillTo xs i b f s b' f' s' → StillTo xs (i + 1) b f s b'' f'' s''
  next xs i x b b' b'' f f' f'' s s' s'' lt is step still = λ start first p h.
      let (q, held, whole) = still start first p h in
      (one x q, step start first q held, ap (λ (l : List C). each l q) (sym (split xs i x lt is)) ∙ whole)

  same_at : (xs : List C) (i : ℕ) (d e : C) → i < length xs → get_or xs i d ≡ get_or xs i e
  same_at [] i d e lt = absurd (omega arith)
  same_at (x ∷ xs) zero d e lt = refl
  same_at (x ∷ xs) (suc i) d e lt = same_at xs i d e (omega arith)

  pub next_at : (xs : List C) (i : ℕ) (d : C) (b b' b'' : Option (List ℕ)) (f f' f'' : ℕ) (s s' s'' : CodePen) → i < length xs → Writes (one (get_or xs i d)) b' f' s' b'' f'' s'' → StillTo xs i b f s b' f' s' → StillTo xs (i + 1) b f s b'' f'' s''
  next_at xs i d b b' b'' f f' f'' s s' s'' lt step still =
      next xs i (get_or xs i d) b b' b'' f f' f'' s s' s'' lt (same_at xs i d (get_or xs i d) lt) step still

  pub finish : (xs : List C) (i : ℕ) (whole : Pen → Pen) (b b' : Option (List ℕ)) (f f' : ℕ) (s s' : CodePen) → length xs ≤ i → ((p : Pen) → each xs p ≡ whole p) → StillTo xs i b f s b' f' s' → Writes whole b f s b' f' s'
  finish xs i whole b b' f f' s s' end same still = λ start first p h.
      let (q, held, is) = still start first p h in
      at_pen start first q (whole p) b' f' s'
      (ap (λ (l : List C). each l q) (sym (drop_all i xs end)) ∙ is ∙ same p) held

-- ---- the lists of a tree

abbrev pub argument_act : Argument → Pen → Pen
argument_act x = write_argument (argument_of x)

pub all_arguments : (xs : List Argument) (p : Pen) → each argument_act xs p ≡ write_arguments (arguments_from (map argument_of xs)) p
all_arguments [] p = refl
all_arguments (x ∷ xs) p = all_arguments xs (argument_act x p)

abbrev pub effect_act : Effect → Pen → Pen
effect_act x = write_effect (effect_of x)

pub all_effects : (xs : List Effect) (p : Pen) → each effect_act xs p ≡ write_effects (map effect_of xs) p
all_effects [] p = refl
all_effects (x ∷ xs) p = all_effects xs (effect_act x p)

abbrev pub initializer_act : Initializer → Pen → Pen
initializer_act x = write_initializer (initializer_of x)

pub all_initializers : (xs : List Initializer) (p : Pen) → each initializer_act xs p ≡ write_initializers (initializers_from (map initializer_of xs)) p
all_initializers [] p = refl
all_initializers (x ∷ xs) p = all_initializers xs (initializer_act x p)

abbrev pub declarator_act : Declarator → Pen → Pen
declarator_act x = write_initial (declarator_of x).value

pub all_declarators : (xs : List Declarator) (p : Pen) → each declarator_act xs p ≡ write_declarators (map declarator_of xs) p
all_declarators [] p = refl
all_declarators (x ∷ xs) p = all_declarators xs (declarator_act x p)

abbrev pub statement_act : Statement → Pen → Pen
statement_act x = write_statement (statement_of x)

pub all_statements : (xs : List Statement) (p : Pen) → each statement_act xs p ≡ write_statements (statements_from (map statement_of xs)) p
all_statements [] p = refl
all_statements (x ∷ xs) p = all_statements xs (statement_act x p)

abbrev pub function_act : Function → Pen → Pen
function_act x = write_function (function_of x)

pub all_functions : (xs : List Function) (p : Pen) → each function_act xs p ≡ write_functions (map function_of xs) p
all_functions [] p = refl
all_functions (x ∷ xs) p = all_functions xs (function_act x p)

-- ---- tokens that are put

none_put : (p : Pen) → p ≡ put [] p
none_put p = ap (λ (l : List (List ℕ)). record p { written = l }) (sym (append-nil p.written))

abbrev pub token_act : Token → Pen → Pen
token_act x = put (x.text.now ∷ [])

pub all_tokens : (xs : List Token) (p : Pen) → each token_act xs p ≡ put (texts_of (toks_of xs)) p
all_tokens [] p = none_put p
all_tokens (x ∷ xs) p = all_tokens xs (token_act x p) ∙ put_put (x.text.now ∷ []) (texts_of (toks_of xs)) p

abbrev pub piece_act : Piece → Pen → Pen
piece_act x = put (pieces.texts_of (x ∷ []))

pub all_pieces : (xs : List Piece) (p : Pen) → each piece_act xs p ≡ put (pieces.texts_of xs) p
all_pieces [] p = none_put p
all_pieces (x ∷ xs) p = all_pieces xs (piece_act x p) ∙ put_put (text_of x ∷ []) (pieces.texts_of xs) p

abbrev pub type_act : Token → Pen → Pen
type_act x = put (type_words (tok_of x ∷ []))

joined : (out : Bool) (text : List ℕ) (later : List (List ℕ)) → (if out then [] else text ∷ []) ++ later ≡ (if out then later else text ∷ later)
joined true text later = refl
joined false text later = refl

pub all_types : (xs : List Token) (p : Pen) → each type_act xs p ≡ put (type_words (toks_of xs)) p
all_types [] p = none_put p
all_types (x ∷ xs) p =
    all_types xs (type_act x p)
    ∙ (put_put (type_words (tok_of x ∷ [])) (type_words (toks_of xs)) p
    ∙ ap (λ (l : List (List ℕ)). put l p) (joined _ x.text.now (type_words (toks_of xs))))
