-- JSON values that are objects, entries or lists.
use Rattle.std.proofs.Common.{◌≡◌, ◌≢◌, ◌∙◌, ◌<◌, ◌≤◌, ◌==◌, ℕ, Bool, true, false, nat_lt, List, [], length, Option, Some, None, Err, if◌then◌else◌, codes, refl, sym, arith}
use Rattle.std.proofs.lemmas.Bool.Decides.{nat_tests}
use Rattle.serde_json.specs.Data.{Data, null, boolean, number, string, array, object, Members}
use Rattle.serde_json.specs.Events.{items_len, members_len}
use Rattle.serde_json.specs.Find.{as_array, as_object}
use Rattle.serde_json.specs.View.{items_view}
use Rattle.serde_json.specs.declared.value.Value.{Value}
use Rattle.serde_json.proofs.Views.{items_len-items_view}
use Rattle.mc_limits.specs.Limits.{most_justifications}
use Rattle.mc_oblige.specs.declared.obligation.Obligation.{Obligation}
use Rattle.mc_justify.specs.Entries.{Entry, entry_of, entry_with, key_count, member_text}
use Rattle.mc_justify.specs.Faults.{Limit, Shape}
use Rattle.mc_justify.specs.Justifications.{entries_from, justifications_of, json_of, of_value}

pub counted : (d : Data) (ms : Members) → Some ms ≡ as_object d → members_len ms ≡ key_count d
counted null ms e = cc
counted (boolean b) ms e = cc
counted (number n) ms e = cc
counted (string s) ms e = cc
counted (array ds) ms e = cc
counted (object ns) ms e = let same : ms ≡ ns = cc in rw same refl

-- an entry has a reason
pub reasoned : (d : Data) (entry : Entry) → Some entry ≡ entry_of d → entry.reason ≢ []
reasoned d entry is = by_keys (key_count d == 3) is
  where
    by_length : (id quote reason : List ℕ) (none : Bool) → (length reason == 0) ≡ none → Some entry ≡ (if none then None else Some (record { id = id; quote = quote; reason = reason })) → entry.reason ≢ []
    by_length id quote reason true at e = absurd (cc e)
    by_length id quote reason false at e = λ empty.
        let same : entry.reason ≡ reason = cc in
        let none : reason ≡ [] = sym same ∙ empty in
        absurd (cc (rw none at at))

    by_texts : (id quote reason : Option (List ℕ)) → Some entry ≡ entry_with id quote reason → entry.reason ≢ []
    by_texts None quote reason e = absurd (cc e)
    by_texts (Some id) None reason e = absurd (cc e)
    by_texts (Some id) (Some quote) None e = absurd (cc e)
    by_texts (Some id) (Some quote) (Some reason) e = by_length id quote reason (length reason == 0) refl e

    by_keys : (three : Bool) → Some entry ≡ (if three then entry_with (member_text (codes "id") d) (member_text (codes "quote") d) (member_text (codes "reason") d) else None) → entry.reason ≢ []
    by_keys false e = absurd (cc e)
    by_keys true e = by_texts (member_text (codes "id") d) (member_text (codes "quote") d) (member_text (codes "reason") d) e

-- a list of more entries than may be
listed_many : (source : List ℕ) (obligations : List Obligation) (d : Data) (vs : List Value) → Some (items_view vs) ≡ as_array d → most_justifications < length vs → of_value source obligations (Some d) ≡ Err Limit
listed_many source obligations null vs e lt = cc
listed_many source obligations (boolean b) vs e lt = cc
listed_many source obligations (number n) vs e lt = cc
listed_many source obligations (string s) vs e lt = cc
listed_many source obligations (object ms) vs e lt = cc
listed_many source obligations (array ds) vs e lt =
    let same : items_view vs ≡ ds = cc in
    let many : nat_lt most_justifications (items_len ds) ≡ true = rw (← same, items_len-items_view vs) (grind (arith, nat_tests)) in
    rw many refl

listed_few : (source : List ℕ) (obligations : List Obligation) (d : Data) (vs : List Value) → Some (items_view vs) ≡ as_array d → length vs ≤ most_justifications → of_value source obligations (Some d) ≡ entries_from source obligations 1 [] (items_view vs)
listed_few source obligations null vs e le = cc
listed_few source obligations (boolean b) vs e le = cc
listed_few source obligations (number n) vs e le = cc
listed_few source obligations (string s) vs e le = cc
listed_few source obligations (object ms) vs e le = cc
listed_few source obligations (array ds) vs e le =
    let same : items_view vs ≡ ds = cc in
    let few : nat_lt most_justifications (items_len ds) ≡ false = rw (← same, items_len-items_view vs) (grind (arith, nat_tests)) in
    rw (few, same) refl

unlisted : (source : List ℕ) (obligations : List Obligation) (d : Data) → None ≡ as_array d → of_value source obligations (Some d) ≡ Err (Shape 0)
unlisted source obligations null e = refl
unlisted source obligations (boolean b) e = refl
unlisted source obligations (number n) e = refl
unlisted source obligations (string s) e = refl
unlisted source obligations (object ms) e = refl
unlisted source obligations (array ds) e = cc

module _ (bytes source : List ℕ) (obligations : List Obligation) (d : Data) (read : Some d ≡ json_of bytes) where
  pub many : (vs : List Value) → Some (items_view vs) ≡ as_array d → most_justifications < length vs → justifications_of bytes obligations source ≡ Err Limit
  many vs e lt = rw (← read) (listed_many source obligations d vs e lt)

  pub few : (vs : List Value) → Some (items_view vs) ≡ as_array d → length vs ≤ most_justifications → justifications_of bytes obligations source ≡ entries_from source obligations 1 [] (items_view vs)
  few vs e le = rw (← read) (listed_few source obligations d vs e le)

  pub no_list : None ≡ as_array d → justifications_of bytes obligations source ≡ Err (Shape 0)
  no_list e = rw (← read) (unlisted source obligations d e)
