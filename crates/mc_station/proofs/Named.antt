-- The names of tests are text.
use Rattle.std.proofs.Common.{◌≡◌, ◌<◌, ℕ, zero, suc, Bool, true, false, ◌&&◌, List, [], ◌∷◌, refl, arith}
use Rattle.std.specs.Prelude.{All, IsUtf8}
use Rattle.std.specs.List.{list_all}
use Rattle.std.specs.Str.{IsAscii}
use Rattle.std.proofs.lemmas.List.Elements.{All-nil, All-cons}
use Rattle.std.proofs.lemmas.Str.{IsUtf8-from_ascii}
use Rattle.mc_typed.specs.Plans.{Plan}
use Rattle.csv_records.specs.Names.{is_name, is_name_byte}
use Rattle.mc_tests.specs.File.{AreNamed}
use Rattle.mc_station.specs.Tests.{names}

both : (x y : Bool) → (x && y) ≡ true → (x ≡ true) × (y ≡ true)
both true true is = (refl, refl)
both true false is = absurd (cc is)
both false y is = absurd (cc is)

-- a byte of a name is one of ASCII
byte_below : (b : ℕ) → is_name_byte b ≡ true → b < 128
byte_below b is = grind arith

bytes_below : (bs : List ℕ) → list_all is_name_byte bs ≡ true → IsAscii bs
bytes_below [] all i = omega arith
bytes_below (b ∷ bs) all zero = byte_below b (both (is_name_byte b) (list_all is_name_byte bs) all).0
bytes_below (b ∷ bs) all (suc i) = bytes_below bs (both (is_name_byte b) (list_all is_name_byte bs) all).1 i

name_is_text : (name : List ℕ) → is_name name ≡ true → IsUtf8 name
name_is_text name is = IsUtf8-from_ascii name (bytes_below name (both _ (list_all is_name_byte name) is).1)

pub names_texts : (ns : List (List ℕ)) → list_all is_name ns ≡ true → All IsUtf8 ns
names_texts [] all = All-nil IsUtf8
names_texts (n ∷ ns) all =
    let each = both (is_name n) (list_all is_name ns) all in
    All-cons IsUtf8 n ns (name_is_text n each.0) (names_texts ns each.1)

pub names_are_texts : (plans : List Plan) → AreNamed plans → All IsUtf8 (names plans)
names_are_texts plans named = names_texts (names plans) named.each
