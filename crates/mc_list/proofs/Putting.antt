-- What is put of a listing after each line.
use Rattle.std.proofs.Common.{◌≡◌, ◌∙◌, ◌≤◌, ℕ, List, [], ◌∷◌, ◌++◌, Option, append_assoc, sym, ap, subst, arith}
use Rattle.std.specs.Prelude.{flat_map, Err}
use Rattle.std.specs.Io.KnownBytes.{Appends}
use Rattle.std.proofs.KnownBytes.{Appends-trans}
use Rattle.std.proofs.lemmas.List.{append-nil}
use Rattle.mc_port.specs.Sink.{Puts}
use Rattle.mc_port.specs.declared.sink.PutFault.{PutFault}
use Rattle.mc_port.proofs.Puts.{puts_then, puts_stops}
use Rattle.mc_oblige.specs.declared.obligation.Obligation.{Obligation}
use Rattle.mc_oblige.specs.declared.verdict.Verdict.{Verdict}
use Rattle.mc_list.specs.Lines.{Placed}
use Rattle.mc_list.specs.Listing.{listed_line, listing}
use Rattle.mc_list.specs.Marks.{mark_on}
use Rattle.mc_list.specs.declared.mark.Mark.{Mark}
use Rattle.mc_list.specs.Listing.{margin}

module _ (source : List ℕ) (os : List Obligation) (vs : List Verdict) (start : Option (List ℕ)) (before : ℕ) where
  -- some lines were put whole, and these are left
  pub record IsAt (now : Option (List ℕ)) (faults : ℕ) (left : List Placed) : Type 0 where
    pub done : List ℕ
    pub whole : done ++ flat_map (listed_line os vs) left ≡ listing source os vs
    pub put : Appends start now done
    pub later : before ≤ faults

  pub next_put : (now then : Option (List ℕ)) (faults after : ℕ) (was left : List Placed) (line : Placed) (mark : Mark) → IsAt now faults was → was ≡ line ∷ left → mark ≡ mark_on os vs line
      → Appends now then (margin line.number mark ++ line.bytes) → faults ≤ after → IsAt then after left
  next_put now then faults after was left line mark at first own more le =
      let f : Placed → List ℕ = listed_line os vs in
      let text : margin line.number mark ++ line.bytes ≡ f line = ap (λ (m : Mark). margin line.number m ++ line.bytes) own in
      let all : at.done ++ (f line ++ flat_map f left) ≡ listing source os vs = ap (λ (ls : List Placed). at.done ++ flat_map f ls) (sym first) ∙ at.whole in
      record {
        done = at.done ++ f line;
        whole = append_assoc at.done (f line) (flat_map f left) ∙ all;
        put = Appends-trans start now then at.done (f line) at.put (subst (Appends now then) text more);
        later = omega (arith, at.later, le);
      }

  pub last_put : (now then : Option (List ℕ)) (faults after : ℕ) (was left : List Placed) (line : Placed) (mark : Mark) (e : PutFault) → IsAt now faults was → was ≡ line ∷ left → mark ≡ mark_on os vs line
      → Puts now then faults after (margin line.number mark ++ line.bytes) (Err e) → faults ≤ after → Puts start then before after (listing source os vs) (Err e)
  last_put now then faults after was left line mark e at first own more le =
      let f : Placed → List ℕ = listed_line os vs in
      let text : margin line.number mark ++ line.bytes ≡ f line = ap (λ (m : Mark). margin line.number m ++ line.bytes) own in
      let all : at.done ++ (f line ++ flat_map f left) ≡ listing source os vs = ap (λ (ls : List Placed). at.done ++ flat_map f ls) (sym first) ∙ at.whole in
      let part : Puts now then faults after (f line ++ flat_map f left) (Err e) = puts_stops now then faults after (f line) (flat_map f left) e (subst (λ (bs : List ℕ). Puts now then faults after bs (Err e)) text more) in
      subst (λ (bs : List ℕ). Puts start then before after bs (Err e)) all
      (puts_then start now then before faults after at.done (f line ++ flat_map f left) tt (Err e) at.put part at.later le)

  pub all_put : (now : Option (List ℕ)) (faults : ℕ) (was : List Placed) → IsAt now faults was → was ≡ [] → Appends start now (listing source os vs)
  all_put now faults was at none =
      let done : at.done ≡ listing source os vs = sym (append-nil at.done) ∙ ap (λ (ls : List Placed). at.done ++ flat_map (listed_line os vs) ls) (sym none) ∙ at.whole in
      subst (Appends start now) done at.put
