-- Tokens that stand with the next one, from the last to the first.
use Rattle.std.proofs.Common.{◌≡◌, ℕ, List, [], ◌∷◌, ◌++◌, map, reverse, refl, ap, sym, ◌∙◌}
use Rattle.std.proofs.lemmas.List.{map_push, reverse-append}
use Rattle.mc_lex.specs.declared.token.Token.{Token}
use Rattle.mc_lex.specs.Tokens.{Tok, tok_of, toks_of}
use Rattle.reread_pieces.specs.declared.without.Laid.{Laid}
use Rattle.reread_pieces.specs.Pieces.{Mark}
use Rattle.reread_pieces.specs.Plain.{Lay, moved, moved_back, placed, first_start, laid, plain_of}
use Rattle.reread_pieces.specs.steps.Views.{laid_of}

abbrev last_start : ℕ → List Lay → ℕ
last_start n [] = n
last_start n (l ∷ ls) = last_start (moved l n).start ls

back_more : (n : ℕ) (ys : List Lay) (l : Lay) → moved_back n (ys ++ l ∷ []) ≡ moved_back n ys ++ moved l (last_start n ys) ∷ []
back_more n [] l = refl
back_more n (y ∷ ys) l = ap (λ (ts : List Tok). moved y n ∷ ts) (back_more (moved y n).start ys l)

start_more : (n : ℕ) (ys : List Lay) (l : Lay) → last_start n (ys ++ l ∷ []) ≡ (moved l (last_start n ys)).start
start_more n [] l = refl
start_more n (y ∷ ys) l = start_more (moved y n).start ys l

reverse_first : (l : Lay) (ls : List Lay) → reverse (l ∷ ls) ≡ reverse ls ++ l ∷ []
reverse_first l ls = reverse-append (l ∷ []) ls

reverse_last : (t : Tok) (ts : List Tok) → reverse (ts ++ t ∷ []) ≡ t ∷ reverse ts
reverse_last t ts = reverse-append ts (t ∷ [])

both : (ls : List Lay) → (reverse (moved_back 0 (reverse ls)) ≡ placed ls) × (last_start 0 (reverse ls) ≡ first_start (placed ls))
both [] = (refl, refl)
both (l ∷ ls) =
    let later = both ls in
    let start : last_start 0 (reverse ls) ≡ first_start (placed ls) = later.1 in (
      ap (λ ys. reverse (moved_back 0 ys)) (reverse_first l ls)
          ∙ ap reverse (back_more 0 (reverse ls) l)
          ∙ reverse_last (moved l (last_start 0 (reverse ls))) (moved_back 0 (reverse ls))
          ∙ ap (λ n. moved l n ∷ reverse (moved_back 0 (reverse ls))) start
          ∙ ap (λ (ts : List Tok). moved l (first_start (placed ls)) ∷ ts) later.0,
      ap (last_start 0) (reverse_first l ls) ∙ start_more 0 (reverse ls) l ∙ ap (λ n. (moved l n).start) start,
    )

pub placed_back : (ls : List Lay) → reverse (moved_back 0 (reverse ls)) ≡ placed ls
placed_back ls = (both ls).0

map_reverse : {X Y : Type 0} (f : X → Y) (xs : List X) → map f (reverse xs) ≡ reverse (map f xs)
map_reverse f [] = refl
map_reverse f (x ∷ xs) =
    ap (map f) (reverse-append (x ∷ []) xs) ∙ map_push f (reverse xs) x
    ∙ ap (λ ys. ys ++ f x ∷ []) (map_reverse f xs) ∙ sym (reverse-append (f x ∷ []) (map f xs))

pub plain_is : (ls rs : List Laid) (ts us : List Token) (ms : List Mark) → map laid_of ls ≡ laid 0 ms → rs ≡ reverse ls
    → toks_of ts ≡ moved_back 0 (map laid_of rs) → us ≡ reverse ts → toks_of us ≡ plain_of ms
plain_is ls rs ts us ms e f g h =
    ap toks_of h ∙ map_reverse tok_of ts ∙ ap reverse (g ∙ ap (λ l. moved_back 0 (map laid_of l)) f ∙ ap (moved_back 0) (map_reverse laid_of ls))
    ∙ placed_back (map laid_of ls) ∙ ap placed e
