-- The decisions of a function at the head of a list.
use Rattle.std.proofs.Common.{◌≡◌, ◌∙◌, refl, sym, ap, ℕ, suc, ◌+◌, ◌<◌, ◌≤◌, ◌==◌, Bool, true, false, if◌then◌else◌, List, [], ◌∷◌, map, length, get_or, drop, arith}
use Rattle.std.proofs.lemmas.List.{drop_all, drop-map}
use Rattle.mc_probe.specs.declared.mapped.MappedDecision.{MappedDecision}
use Rattle.mc_probe.specs.Mapped.{mapped_of}
use Rattle.mc_instrument.specs.steps.Counters.{leading}
use Rattle.instrument_bits.proofs.Each.{split}

-- all before a place are found, and with those from there on it is all
pub record Leads (function : ℕ) (list : List MappedDecision) (i : ℕ) : Type 0 where
  pub sum_is : i + leading function (map mapped_of (drop i list)) ≡ leading function (map mapped_of list)

head : (function : ℕ) (list : List MappedDecision) (i : ℕ) (x : MappedDecision) (b : Bool) → i < length list → x ≡ get_or list i x → b ≡ ((mapped_of x).decision.function == function) → leading function (map mapped_of (drop i list)) ≡ (if b then 1 + leading function (map mapped_of (drop (i + 1) list)) else 0)
head function list i x b lt is told =
    ap (λ (zs : List MappedDecision). leading function (map mapped_of zs)) (split list i x lt is)
    ∙ ap (λ (c : Bool). if c then 1 + leading function (map mapped_of (drop (i + 1) list)) else 0) (sym told)

pub begin : (function : ℕ) (list : List MappedDecision) → Leads function list 0
begin function list = record { sum_is = omega arith }

pub stops : (function : ℕ) (list : List MappedDecision) (i : ℕ) (x : MappedDecision) (b : Bool) → i < length list → x ≡ get_or list i x → b ≡ ((mapped_of x).decision.function == function) → b ≡ false → Leads function list i → i ≡ leading function (map mapped_of list)
stops function list i x b lt is told fails left =
    let rest : leading function (map mapped_of (drop i list)) ≡ 0 =
    head function list i x b lt is told
    ∙ ap (λ (c : Bool). if c then 1 + leading function (map mapped_of (drop (i + 1) list)) else 0) fails in
    let sum = left.sum_is in
    omega (arith, rest, sum)

pub goes_on : (function : ℕ) (list : List MappedDecision) (i : ℕ) (x : MappedDecision) (b : Bool) → i < length list → x ≡ get_or list i x → b ≡ ((mapped_of x).decision.function == function) → b ≡ true → Leads function list i → Leads function list (i + 1)
goes_on function list i x b lt is told holds left =
    let rest : leading function (map mapped_of (drop i list)) ≡ 1 + leading function (map mapped_of (drop (i + 1) list)) =
    head function list i x b lt is told
    ∙ ap (λ (c : Bool). if c then 1 + leading function (map mapped_of (drop (i + 1) list)) else 0) holds in
    let sum = left.sum_is in
    record { sum_is = omega (arith, rest, sum) }

few : (function : ℕ) (ds : List MappedDecision) → leading function (map mapped_of ds) ≤ length ds
few function [] = omega arith
few function (d ∷ ds) = by_test ((mapped_of d).decision.function == function) (few function ds)
  where
    by_test : (b : Bool) → leading function (map mapped_of ds) ≤ length ds → (if b then 1 + leading function (map mapped_of ds) else 0) ≤ suc (length ds)
    by_test true below = omega (arith, below)
    by_test false below = omega arith

pub ends : (function : ℕ) (list : List MappedDecision) (i : ℕ) → length list ≤ i → Leads function list i → length list ≡ leading function (map mapped_of list)
ends function list i end left =
    let none : leading function (map mapped_of (drop i list)) ≡ 0 =
    ap (λ (zs : List MappedDecision). leading function (map mapped_of zs)) (drop_all i list end) in
    let sum = left.sum_is in
    let all = few function list in
    omega (arith, end, none, sum, all)

pub from : (function first : ℕ) (list xs ds : List MappedDecision) (k : ℕ) → list ≡ drop first xs → xs ≡ ds → k ≡ leading function (map mapped_of list) → k ≡ leading function (drop first (map mapped_of ds))
from function first list xs ds k is same told =
    told
    ∙ (ap (λ (zs : List MappedDecision). leading function (map mapped_of zs)) (is ∙ ap (drop first) same)
    ∙ ap (leading function) (sym (drop-map mapped_of first ds)))
