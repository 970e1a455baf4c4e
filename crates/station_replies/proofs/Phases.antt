-- What phases keep: at most one verdict, and what their refusals have in common.
use Rattle.std.proofs.Common.{◌≡◌, ◌∙◌, ℕ, true, false, List, [], Result, Ok, Err, refl, sym, ap, subst, inl, inr, if◌then◌else◌}
use Rattle.std.specs.Prelude.{◌==◌}
use Rattle.station_replies.specs.Phases.{AreOne, IsOne, IsRefusal, IsSilent, Reads, Then}
use Rattle.station_replies.specs.Reply.{Reply, refusal, written}
use Rattle.station_replies.specs.Seen.{Gives}
use Rattle.station_replies.specs.Status.{IsAfterSource, status_written}
use Rattle.station_replies.specs.declared.status.Status.{Status}
use Rattle.station_replies.specs.declared.status.Status.TheVariants as status
use Rattle.station_replies.specs.declared.stop.Stop.{Stop}
use Rattle.station_replies.specs.declared.stop.Stop.TheVariants as stop

-- ---- at most one

pub one_then : {A B : Type 0} (Phase : Result A Reply → Type 0) (Next : A → Result B Reply → Type 0) → IsOne Phase → ((a : A) → Phase (Ok a) → IsOne (Next a)) → IsOne (Then Phase Next)
one_then {A} {B} Phase Next one next (Ok b) (Ok c) (a, p, q) (d, r, s) =
    let same : a ≡ d = one (Ok a) (Ok d) p r in
    next d r (Ok b) (Ok c) (subst (λ (x : A). Next x (Ok b)) same q) s
one_then {A} {B} Phase Next one next (Ok b) (Err e) (a, p, q) (inl r) = absurd (one (Ok a) (Err e) p r)
one_then {A} {B} Phase Next one next (Ok b) (Err e) (a, p, q) (inr (d, r, s)) =
    let same : a ≡ d = one (Ok a) (Ok d) p r in
    next d r (Ok b) (Err e) (subst (λ (x : A). Next x (Ok b)) same q) s
one_then {A} {B} Phase Next one next (Err e) (Ok c) (inl p) (d, r, s) = absurd (one (Err e) (Ok d) p r)
one_then {A} {B} Phase Next one next (Err e) (Ok c) (inr (a, p, q)) (d, r, s) =
    let same : a ≡ d = one (Ok a) (Ok d) p r in
    next d r (Err e) (Ok c) (subst (λ (x : A). Next x (Err e)) same q) s
one_then {A} {B} Phase Next one next (Err e) (Err f) (inl p) (inl r) = one (Err e) (Err f) p r
one_then {A} {B} Phase Next one next (Err e) (Err f) (inl p) (inr (d, r, s)) = absurd (one (Err e) (Ok d) p r)
one_then {A} {B} Phase Next one next (Err e) (Err f) (inr (a, p, q)) (inl r) = absurd (one (Ok a) (Err f) p r)
one_then {A} {B} Phase Next one next (Err e) (Err f) (inr (a, p, q)) (inr (d, r, s)) =
    let same : a ≡ d = one (Ok a) (Ok d) p r in
    next d r (Err e) (Err f) (subst (λ (x : A). Next x (Err e)) same q) s

-- one thing alone
pub one_ok : {A : Type 0} (t : A) → IsOne (λ (v : Result A Reply). v ≡ Ok t)
one_ok t (Ok a) (Ok b) p q = cc (p, q)
one_ok t (Ok a) (Err s) p q = absurd (cc q)
one_ok t (Err r) (Ok b) p q = absurd (cc p)
one_ok t (Err r) (Err s) p q = absurd (cc p)

pub one_read : {A F : Type 0} (given : Result A F) (say : F → Reply) → IsOne (Reads given say)
one_read given say (Ok a) (Ok b) p q = cc (p, q)
one_read given say (Ok a) (Err s) p (fault, q, is) = absurd (cc (p, q))
one_read given say (Err r) (Ok b) (fault, p, is) q = absurd (cc (p, q))
one_read {A} {F} given say (Err r) (Err s) (f, p, is) (g, q, also) =
    let same : f ≡ g = cc (p, q) in
    inl (is ∙ ap say same ∙ sym also)

-- two replies that are one have one status
pub same_status : (r q : Reply) → AreOne r q → r.status ≡ q.status
same_status r q (inl is) = ap (λ (x : Reply). x.status) is
same_status r q (inr ((l, c, is), (m, d, also))) = ap (λ (x : Reply). x.status) is ∙ sym (ap (λ (x : Reply). x.status) also)

-- ---- what refusals have in common

pub refusal_status : (s : Status) (r : Reply) → IsRefusal s r → r.status ≡ s
refusal_status s r (line, is) = ap (λ (x : Reply). x.status) is

pub refusal_silent : (s : Status) (r : Reply) → IsRefusal s r → IsSilent r
refusal_silent s r (line, is) = inr (inr (ap (λ (x : Reply). x.out) is))

-- a text that is written whole
pub written_answers : (number : ℕ) → IsAfterSource (status_written number)
written_answers number = elim (number == 0) as (λ b. IsAfterSource (if b then status.Done else status.Incomplete)) [ true ↦ tt | false ↦ tt ]

pub written_silent : (number : ℕ) (lines : List (List ℕ)) → IsSilent (written number lines)
written_silent number lines =
    elim (number == 0) as (λ b. IsSilent (record { status = (if b then status.Done else status.Incomplete); diag = []; out = lines })) [ true ↦ inl refl | false ↦ inr (inl refl) ]

-- ---- what a function gives of phases that follow each other

pub goes_on : {A B C : Type 0} (seen : C → B) (Phase : Result A Reply → Type 0) (Next : A → Result B Reply → Type 0) (a : A) (r : Result C Stop)
    → Phase (Ok a) → Gives seen (Next a) r → Gives seen (Then Phase Next) r
goes_on seen Phase Next a (Ok c) p q = (a, p, q)
goes_on seen Phase Next a (Err (stop.Refused refusal)) p q = inr (a, p, q)
goes_on seen Phase Next a (Err stop.OutOfMemory) p q = tt

pub stops : {A B C D : Type 0} (seen : C → B) (seen_first : D → A) (Phase : Result A Reply → Type 0) (Next : A → Result B Reply → Type 0) (why : Stop)
    → Gives seen_first Phase (Err why) → Gives seen (Then Phase Next) (Err why)
stops seen seen_first Phase Next (stop.Refused refusal) p = inl p
stops seen seen_first Phase Next stop.OutOfMemory p = tt
