-- Files and lines, one line after the other.
use Rattle.std.proofs.Common.{◌≡◌, ◌∙◌, List, [], ◌∷◌, ◌++◌, Option, append_assoc, sym, ap}
use Rattle.std.specs.Prelude.{option_map}
use Rattle.std.proofs.lemmas.List.{map-append, append-nil}
use Rattle.mc_places.specs.declared.origin.Origin as code_origin
use Rattle.mc_places.specs.Markers.{Marker}
use Rattle.mc_places.specs.Origins.{Origin, next_origin, origins_from}
use Rattle.mc_places.specs.Seen.{origin_of, origins_of}

-- one more line
pub one_more : (found more : List (Option code_origin.Origin)) (now later : Option code_origin.Origin) (m : Option Marker) (was left : List (Option Marker)) (all : List (Option Origin))
    → origins_of found ++ origins_from (option_map origin_of now) was ≡ all → was ≡ m ∷ left → more ≡ found ++ now ∷ [] → option_map origin_of later ≡ next_origin (option_map origin_of now) m
    → origins_of more ++ origins_from (option_map origin_of later) left ≡ all
one_more found more now later m was left all so_far first pushed next =
    let lists : origins_of more ≡ origins_of found ++ option_map origin_of now ∷ [] = ap origins_of pushed ∙ map-append (option_map origin_of) found (now ∷ []) in
    ap (λ (os : List (Option Origin)). os ++ origins_from (option_map origin_of later) left) lists
    ∙ append_assoc (origins_of found) (option_map origin_of now ∷ []) (origins_from (option_map origin_of later) left)
    ∙ ap (λ (o : Option Origin). origins_of found ++ option_map origin_of now ∷ origins_from o left) next
    ∙ ap (λ (ms : List (Option Marker)). origins_of found ++ origins_from (option_map origin_of now) ms) (sym first)
    ∙ so_far

pub no_more : (found : List (Option code_origin.Origin)) (now : Option code_origin.Origin) (was : List (Option Marker)) (all : List (Option Origin))
    → origins_of found ++ origins_from (option_map origin_of now) was ≡ all → was ≡ [] → origins_of found ≡ all
no_more found now was all so_far none =
    sym (append-nil (origins_of found)) ∙ ap (λ (ms : List (Option Marker)). origins_of found ++ origins_from (option_map origin_of now) ms) (sym none) ∙ so_far
