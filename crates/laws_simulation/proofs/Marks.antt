-- Marks of statements, exits and labels, and where they stand.
use Rattle.std.proofs.Common.{◌≡◌, ◌∙◌, refl, sym, ap, subst, ℕ, zero, suc, ◌+◌, ◌<◌, inl, ℤ, pos, negsuc, Bool, true, false, not, ◌||◌, if◌then◌else◌, List, [], ◌∷◌, ◌++◌, Option, Some, None, arith, length-set}
use Rattle.std.specs.Prelude.{nat_lt, ◌==◌, neg_ℤ, ◌+ℤ◌, ◌-ℤ◌}
use Rattle.std.proofs.lemmas.Bool.{lt-ltb}
use Rattle.std.proofs.lemmas.Bool.Decides.{nat_tests}
use Rattle.std.proofs.Math.IntN.{neg_ℤ-+ℤ, neg_ℤ-neg_ℤ, +ℤ_comm}
use Rattle.mc_value.specs.Arithmetic.{are_equal}
use Rattle.mc_value.specs.Conversions.{is_zero}
use Rattle.mc_typed.specs.declared.probes.Mark.{Mark}
use Rattle.mc_typed.specs.Layout.{Members}
use Rattle.mc_steps.specs.Runs.{State, lists}
use Rattle.mc_steps.specs.Events.{Event}
use Rattle.mc_steps.specs.Statements.{same_label, has_label, Seek, Running, For, sought, is_absent, at_label, is_running}
use Rattle.mc_meaning.specs.Stores.{Store}
use Rattle.mc_meaning.specs.Decisions.{choose}
use Rattle.mc_probe.specs.Flat.{Flat, Activation, register, with_register}
use Rattle.mc_probe.specs.Flat as f
use Rattle.mc_probe.specs.Probes.{mark_does, unless_cleared}
use Rattle.mc_probe.specs.Maps.{Map, image, label_bit}
use Rattle.laws_simulation.specs.Follows.{Kept, Alike, Follows, Does}
use Rattle.laws_simulation.specs.Expressions.{bit_of}
use Rattle.laws_simulation.proofs.Acts.{Done}
use Rattle.laws_simulation.proofs.Sums.{set_there, set_beside}

-- ---- the search for a label

-- what a body's labels make of a search
abbrev pub final : Seek → List (Option ℤ) → Seek
final seek [] = seek
final seek (l ∷ ls) = final (at_label l seek) ls

no_zero : (k : ℕ) → (suc k == 0) ≡ false
no_zero k = grind (arith, nat_tests)

zero_turned : (x : ℤ) → is_zero (neg_ℤ x) ≡ is_zero x
zero_turned (pos zero) = refl
zero_turned (pos (suc k)) = sym (no_zero k)
zero_turned (negsuc k) = no_zero k

equal_turned : (x y : ℤ) → are_equal x y ≡ are_equal y x
equal_turned x y = sym (zero_turned (x -ℤ y)) ∙ ap is_zero (turned x y)
  where
    turned : (x y : ℤ) → neg_ℤ (x -ℤ y) ≡ y -ℤ x
    turned x y = neg_ℤ-+ℤ x (neg_ℤ y) ∙ (ap (λ (z : ℤ). neg_ℤ x +ℤ z) (neg_ℤ-neg_ℤ y) ∙ +ℤ_comm (neg_ℤ x) y)

same_turned : (l k : Option ℤ) → same_label l k ≡ same_label k l
same_turned None None = refl
same_turned (Some x) (Some y) = equal_turned x y
same_turned None (Some y) = refl
same_turned (Some x) None = refl

pub runs_on : (ls : List (Option ℤ)) → final Running ls ≡ Running
runs_on [] = refl
runs_on (l ∷ ls) = runs_on ls

found_where : (b : Bool) (k : Option ℤ) (ls : List (Option ℤ)) → is_running (final (For k) ls) ≡ has_label k ls → is_running (final (if b then Running else For k) ls) ≡ (b || has_label k ls)
found_where true k ls h = ap is_running (runs_on ls)
found_where false k ls h = h

found : (k : Option ℤ) (ls : List (Option ℤ)) → is_running (final (For k) ls) ≡ has_label k ls
found k [] = refl
found k (l ∷ ls) =
    found_where (same_label l k) k ls (found k ls)
    ∙ ap (λ (b : Bool). b || has_label k ls) (same_turned l k)

-- a label was found where one is not absent
pub sought_found : (v : ℤ) (ls : List (Option ℤ)) → is_running (final (sought v ls) ls) ≡ not (is_absent v ls)
sought_found v ls = go (has_label (Some v) ls) refl
  where
    twice : (b : Bool) → b ≡ not (not b)
    twice true = refl
    twice false = refl

    go : (b : Bool) → has_label (Some v) ls ≡ b → is_running (final (if b then For (Some v) else For None) ls) ≡ not (not (b || has_label None ls))
    go true e = found (Some v) ls ∙ e
    go false e = found None ls ∙ twice (has_label None ls)

module _ (ms : Members) (rooms : ℕ) (m : Map) (v : Activation) (bits : v.bits ≡ m.bits) where
  hit_is : (b : ℕ) → b < m.bits → (if nat_lt b v.bits then b ∷ [] else []) ≡ b ∷ []
  hit_is b lt =
      ap (λ (z : ℕ). if nat_lt b z then b ∷ [] else []) bits
      ∙ ap (λ (c : Bool). if c then b ∷ [] else []) (lt-ltb b m.bits lt)

  pub hit_follows : (P : ℕ → Type 0) (e : Event) (b : ℕ) → image m e ≡ b → b < m.bits → Does ms rooms (bit_of m) P Done (lists (e ∷ [])) (f.hits_some v (Some b))
  hit_follows P e b is lt s t a = record {
    told = hit_is b lt ∙ ap (λ (z : ℕ). z ∷ []) (sym is);
    out = (a, ((λ r p. refl), tt));
  }

  -- ---- the register of a switch

  -- 0 where the items run, else 1
  abbrev pub Reg : ℕ → Bool → Flat → Type 0
  Reg r b n = register (v.first + r) n ≡ (if b then 0 else 1)

  -- which registers a switch with the register r leaves alone
  abbrev pub Before : ℕ → ℕ → Type 0
  Before r i = i < v.first + r

  pub mark_follows : (r k bit : ℕ) (chosen : Bool) → label_bit m k ≡ bit → bit < m.bits → v.first + r < rooms → (s : State Store) (t : State Flat) → Alike ms rooms s t → Reg r (not chosen) t.memory → Follows ms rooms (bit_of m) (λ a b n. Kept (Before r) t.memory n × Reg r true n) (choose k chosen s) (mark_does v (Some (record { register = r; bit = bit })) chosen t)
  mark_follows r k bit true is lt room s t a reg =
      let mark : Mark = record { register = r; bit = bit } in
      let e : (register (v.first + r) t.memory == 0) ≡ false = ap (λ (z : ℕ). z == 0) reg in
      subst (λ (b : Bool). Follows ms rooms (bit_of m) (λ a b n. Kept (Before r) t.memory n × Reg r true n) (choose k true s) (unless_cleared v b mark t)) (sym e)
      (record {
        told = ap (λ (xs : List ℕ). xs ++ []) (hit_is bit lt) ∙ ap (λ (z : ℕ). z ∷ []) (sym is);
        out = (
          record { memory = record { same = a.memory.same; room = length-set t.memory.registers (v.first + r) 0 ∙ a.memory.room }; fuel = a.fuel; inputs = a.inputs; output = a.output },
          ((λ i p. set_beside t.memory.registers (v.first + r) i 0 (inl p)), set_there t.memory.registers (v.first + r) 0 (omega (arith, room, a.memory.room))),
        );
      })
  mark_follows r k bit false is lt room s t a reg =
      let mark : Mark = record { register = r; bit = bit } in
      let e : (register (v.first + r) t.memory == 0) ≡ true = ap (λ (z : ℕ). z == 0) reg in
      subst (λ (b : Bool). Follows ms rooms (bit_of m) (λ a b n. Kept (Before r) t.memory n × Reg r true n) (choose k false s) (unless_cleared v b mark t)) (sym e)
      (record { told = refl; out = (a, ((λ i p. refl), reg)) })
