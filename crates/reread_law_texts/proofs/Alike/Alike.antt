-- Two lists with the same kinds and texts: the second is the first, moved.
use Rattle.std.proofs.Common.{◌≡◌, ◌≤◌, ◌<◌, ◌+◌, ◌==◌, ℕ, List, [], ◌∷◌, ◌++◌, length, map, if◌then◌else◌, Option, Ok, length-append, refl, sym, ap, ◌∙◌, subst, arith}
use Rattle.std.proofs.lemmas.Bool.{eq-eqb, ne_eqb}
use Rattle.mc_lex.specs.declared.token.Dialect.{Dialect}
use Rattle.mc_lex.specs.declared.token.TokenKind.{TokenKind}
use Rattle.mc_lex.specs.declared.fault.LexFault.{LexFault}
use Rattle.mc_lex.specs.Tokens.{Tok}
use Rattle.mc_lex.specs.Scans.{Scans}
use Rattle.mc_lex.specs.Scans as scan
use Rattle.mc_lex.proofs.Candidates.{stood, stands_full}
use Rattle.mc_tree.specs.Tree.{Item}
use Rattle.mc_grammar.specs.Items.{IsTree}
use Rattle.mc_grammar.specs.Samples.{token}
use Rattle.reread_law_texts.specs.alike.Moves.{Fits, AllFit, AreAlike, FollowFrom, between, start_in, end_in, end_of, moved_token, moved_tokens, without_place}
use Rattle.reread_law_texts.specs.alike.Trees.{moved_unit}
use Rattle.reread_law_texts.proofs.Alike.MovedStatements.{tree_moves}

-- ---- equal lists have equal parts

first_or : Tok → List Tok → Tok
first_or x [] = x
first_or x (y ∷ tokens) = y

others_of : List Tok → List Tok
others_of [] = []
others_of (y ∷ tokens) = tokens

same_first : (x y : Tok) (ts us : List Tok) → x ∷ ts ≡ y ∷ us → x ≡ y
unfolding first_or
same_first x y ts us e = ap (first_or x) e

same_others : (x y : Tok) (ts us : List Tok) → x ∷ ts ≡ y ∷ us → ts ≡ us
unfolding others_of
same_others x y ts us e = ap others_of e

same_token : (k l : TokenKind) (text other : List ℕ) (n o : ℕ) → k ≡ l → text ≡ other → n ≡ o → token k text n ≡ token l other o
same_token k l text other n o e f g = ap (λ k. token k text n) e ∙ (ap (λ text. token l text n) f ∙ ap (token l other) g)

-- ---- the first token, and those after it

chosen : (a b : ℕ) (n o : ℕ) → a ≡ b → (if a == b then n else o) ≡ n
chosen a b n o e = ap (λ t. if t then n else o) (eq-eqb a b e)

passed : (a b : ℕ) (n o : ℕ) → a < b → (if a == b then n else o) ≡ o
passed a b n o lt = ap (λ t. if t then n else o) (ne_eqb a b (λ e. omega (arith, lt, e)))

-- a token that stands later is found later
later_start : (x y z : Tok) (ts us : List Tok) → x.start < z.start → start_in (x ∷ ts) (y ∷ us) z.start ≡ start_in ts us z.start
later_start x y z ts us lt = passed x.start z.start y.start (start_in ts us z.start) lt

later_end : (x y z : Tok) (ts us : List Tok) → end_of x < end_of z → end_in (x ∷ ts) (y ∷ us) (end_of z) ≡ end_in ts us (end_of z)
later_end x y z ts us lt = passed (end_of x) (end_of z) (end_of y) (end_in ts us (end_of z)) lt

later_moved : (x y : Tok) (ts us : List Tok) (place : ℕ) (zs : List Tok) → x.start < place → FollowFrom place zs
    → moved_tokens (between (x ∷ ts) (y ∷ us)) zs ≡ moved_tokens (between ts us) zs
later_moved x y ts us place [] lt h = refl
later_moved x y ts us place (z ∷ zs) lt h =
    ap (λ n. token z.kind z.text n ∷ moved_tokens (between (x ∷ ts) (y ∷ us)) zs) (later_start x y z ts us (omega (arith, lt, h.0)))
    ∙ ap (λ rest. moved_token (between ts us) z ∷ rest) (later_moved x y ts us (end_of z) zs (omega (arith, lt, h.0)) h.2)

later_fit : (x y : Tok) (ts us : List Tok) (place : ℕ) (zs : List Tok) → x.start < place → end_of x ≤ place → FollowFrom place zs
    → AllFit (between ts us) zs → AllFit (between (x ∷ ts) (y ∷ us)) zs
later_fit x y ts us place [] lt le h k = tt
later_fit x y ts us place (z ∷ zs) lt le h k = (
  later_end x y z ts us (omega (arith, le, h.0, h.1)) ∙ (k.0 ∙ ap (λ n. n + length z.text) (sym (later_start x y z ts us (omega (arith, lt, h.0))))),
  later_fit x y ts us (end_of z) zs (omega (arith, lt, h.0)) (omega (arith, le, h.0)) h.2 k.1,
)

first_moved : (x y : Tok) (ts us : List Tok) → without_place x ≡ without_place y → moved_token (between (x ∷ ts) (y ∷ us)) x ≡ y
first_moved x y ts us e =
    same_token x.kind y.kind x.text y.text (start_in (x ∷ ts) (y ∷ us) x.start) y.start (ap (λ t. t.kind) e) (ap (λ t. t.text) e)
    (chosen x.start x.start y.start (start_in ts us x.start) refl)

first_fits : (x y : Tok) (ts us : List Tok) → without_place x ≡ without_place y → Fits (between (x ∷ ts) (y ∷ us)) x
first_fits x y ts us e =
    chosen (end_of x) (end_of x) (end_of y) (end_in ts us (end_of x)) refl
    ∙ ap end_of (sym (first_moved x y ts us e))

pub alike_moved : (place : ℕ) (ts us : List Tok) → AreAlike ts us → FollowFrom place ts → (moved_tokens (between ts us) ts ≡ us) × AllFit (between ts us) ts
alike_moved place [] [] e h = (refl, tt)
alike_moved place [] (y ∷ us) e h = cc
alike_moved place (x ∷ ts) [] e h = cc
alike_moved place (x ∷ ts) (y ∷ us) e h =
    let first = same_first (without_place x) (without_place y) (map without_place ts) (map without_place us) e in
    let others = alike_moved (end_of x) ts us (same_others (without_place x) (without_place y) (map without_place ts) (map without_place us) e) h.2 in (
      ap (λ z. z ∷ moved_tokens (between (x ∷ ts) (y ∷ us)) ts) (first_moved x y ts us first)
          ∙ ap (λ zs. y ∷ zs) (later_moved x y ts us (end_of x) ts (omega (arith, h.1)) h.2 ∙ others.0),
      (first_fits x y ts us first, later_fit x y ts us (end_of x) ts (omega (arith, h.1)) (omega arith) h.2 others.1),
    )

pub alike_trees : (d to : Dialect) (ts us : List Tok) (unit : List Item) → AreAlike ts us → FollowFrom 0 ts → IsTree d ts unit → IsTree to us (moved_unit (between ts us) unit)
alike_trees d to ts us unit e h p =
    let m = alike_moved 0 ts us e h in
    subst (λ vs. IsTree to vs (moved_unit (between ts us) unit)) m.0 (tree_moves d to (between ts us) ts unit m.1 p)

-- ---- the tokens of a text

pub lower : (low high : ℕ) (ts : List Tok) → low ≤ high → FollowFrom high ts → FollowFrom low ts
lower low high [] le h = tt
lower low high (x ∷ ts) le h = (omega (arith, le, h.0), h.1, h.2)

pub tokens_follow : {d : Dialect} {before bytes : List ℕ} {ts : List Tok} {stop : Option LexFault} → Scans d before bytes ts stop → FollowFrom (length before) ts
tokens_follow (scan.ends before) = tt
tokens_follow (scan.gap before text after bs ts stop w g p) =
    lower (length before) (length (before ++ text)) ts (omega (arith, length-append before text)) (tokens_follow p)
tokens_follow {d = d} (scan.token before text after bs kind ts stop c l p) =
    let s = stood d text (Ok kind) l.means in (
      omega arith,
      omega (arith, stands_full s.class text s.stands),
      subst (λ place. FollowFrom place ts) (length-append before text) (tokens_follow p),
    )
tokens_follow (scan.stops before bs why w) = tt
