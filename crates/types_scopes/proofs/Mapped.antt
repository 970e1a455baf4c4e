-- What names mean, by the tables of the program.
use Rattle.std.proofs.Common.{◌≡◌, ◌∙◌, ℕ, List, [], ◌∷◌, ◌++◌, map, drop, take, Bool, true, false, Option, Some, None, option_map, refl, sym, ap, if◌then◌else◌}
use Rattle.std.specs.Str.{bytes_eq}
use Rattle.std.proofs.lemmas.List.{drop-map, take-map, map-append}
use Rattle.types_rules.specs.Scopes as s
use Rattle.name_table.specs.Tables.{Named, last_of, later_or}
use Rattle.types_scopes.specs.Views.{meaning_of, tag_of, entry_of, tag_entry_of, structure_of}
use Rattle.mc_typed.specs.Views.{object_of}
use Rattle.mc_typed.specs.declared.objects.Object.{Object}
use Rattle.types_scopes.specs.declared.members.Structure.{Structure}
use Rattle.types_scopes.specs.declared.meanings.Meaning.{Meaning}
use Rattle.types_scopes.specs.declared.meanings.TagMeaning.{TagMeaning}

pub named : (q : List ℕ) (es : List (Named Meaning)) → s.named q (map entry_of es) ≡ option_map meaning_of (last_of q es)
named q [] = refl
named q (e ∷ es) = rw (named q es) (joined (last_of q es) (bytes_eq e.name q))
  where
    joined : (o : Option Meaning) (b : Bool) → s.later_or (option_map meaning_of o) (if b then Some (meaning_of e.meaning) else None)
        ≡ option_map meaning_of (later_or o (if b then Some e.meaning else None))
    joined None true = refl
    joined None false = refl
    joined (Some m) b = refl

pub tagged : (q : List ℕ) (es : List (Named TagMeaning)) → s.tagged q (map tag_entry_of es) ≡ option_map tag_of (last_of q es)
tagged q [] = refl
tagged q (e ∷ es) = rw (tagged q es) (joined (last_of q es) (bytes_eq e.name q))
  where
    joined : (o : Option TagMeaning) (b : Bool) → s.later_or (option_map tag_of o) (if b then Some (tag_of e.meaning) else None)
        ≡ option_map tag_of (later_or o (if b then Some e.meaning else None))
    joined None true = refl
    joined None false = refl
    joined (Some m) b = refl

pub named_from : (n : ℕ) (q : List ℕ) (es : List (Named Meaning))
    → s.named q (drop n (map entry_of es)) ≡ option_map meaning_of (last_of q (drop n es))
named_from n q es = ap (s.named q) (drop-map entry_of n es) ∙ named q (drop n es)

pub tagged_from : (n : ℕ) (q : List ℕ) (es : List (Named TagMeaning))
    → s.tagged q (drop n (map tag_entry_of es)) ≡ option_map tag_of (last_of q (drop n es))
tagged_from n q es = ap (s.tagged q) (drop-map tag_entry_of n es) ∙ tagged q (drop n es)

pub names_taken : (n : ℕ) (es new : List (Named Meaning)) → new ≡ take n es → map entry_of new ≡ take n (map entry_of es)
names_taken n es new h = ap (map entry_of) h ∙ sym (take-map entry_of n es)

pub tags_taken : (n : ℕ) (es new : List (Named TagMeaning)) → new ≡ take n es → map tag_entry_of new ≡ take n (map tag_entry_of es)
tags_taken n es new h = ap (map tag_entry_of) h ∙ sym (take-map tag_entry_of n es)

pub names_put : (n : ℕ) (es new : List (Named Meaning)) (e : Named Meaning) → new ≡ take n es ++ (e ∷ drop n es)
    → map entry_of new ≡ take n (map entry_of es) ++ (entry_of e ∷ drop n (map entry_of es))
names_put n es new e h =
    ap (map entry_of) h ∙ map-append entry_of (take n es) (e ∷ drop n es)
    ∙ rw (take-map entry_of n es, drop-map entry_of n es) refl

pub structures_taken : (n : ℕ) (xs new : List Structure) → new ≡ take n xs → map structure_of new ≡ take n (map structure_of xs)
structures_taken n xs new h = ap (map structure_of) h ∙ sym (take-map structure_of n xs)

pub objects_taken : (n : ℕ) (xs new : List Object) → new ≡ take n xs → map object_of new ≡ take n (map object_of xs)
objects_taken n xs new h = ap (map object_of) h ∙ sym (take-map object_of n xs)
