-- The walk over expressions.
use Rattle.std.proofs.Common.{refl, sym, subst, ℕ, ◌≤◌, true, false, List, ◌∷◌}
use Rattle.mc_limits.specs.Limits.{most_bits}
use Rattle.mc_span.specs.declared.span.Span.{Span}
use Rattle.reread_pieces.specs.declared.piece.What.TheVariants as what
use Rattle.mc_probe.specs.Erase.{erase_place, erase_expression, erase_structure, erase_call, erase_argument, erase_arguments}
use Rattle.mc_probe.specs.Tree as p
use Rattle.mc_probe.specs.WellFormed.{FitsPlace, Fits, FitsStructure, FitsCall, FitsArgument, FitArguments}
use Rattle.reread_law_rows.specs.inserted.Rows.{Row, row, extent, rows, rows_in_place, rows_in_structure, rows_in_call, rows_in_argument, rows_in_arguments}
use Rattle.reread_law_rows.specs.inserted.Seats.{ArePlaced}
use Rattle.reread_put_back.specs.Pens.{Pen, Walk, gives, ◌>>=◌}
use Rattle.reread_put_back.specs.Back.{back, back_place, back_structure, back_call, back_argument, back_arguments}
use Rattle.reread_put_back.specs.steps.Inside.{inside}
use Rattle.reread_law_texts.specs.apart.Distinct.{IsDistinct}
use Rattle.reread_law_probes.specs.put.Places.{in_place, parts, in_structure, in_call, in_argument, in_arguments}
use Rattle.reread_law_probes.specs.put.Ends.{EndPlace, End, EndStructure, EndCall, EndArgument, EndArguments}
use Rattle.reread_law_probes.specs.put.Takes.{TakesPlace, Takes, TakesStructure, TakesCall, TakesArgument, TakesArguments}
use Rattle.reread_law_probes.proofs.Put.Walked.{Walked, given, in_turn, has_as}
use Rattle.reread_law_probes.proofs.Put.Leads.{Leads, place_leads, leads, call_leads, arguments_lead}
use Rattle.reread_law_probes.proofs.Put.Rest.{place_rest, parts_rest, argument_rest}
use Rattle.reread_law_probes.proofs.Put.Around.{NotThere, around_none, not_there, not_outer, probe_walked}

-- ---- walks over some parts

module _ (limit : ℕ) where
  pub one : {A B : Type 0} {H : ℕ → Type 0} {x : A} {after : List Row} (walk : Walk A) (make : A → B) (s : Pen) → Walked limit H x after s (walk s) → Walked limit H (make x) after s ((walk >>= (λ z. gives (make z))) s)
  one {H = H} {x = x} {after = after} walk make s w =
      has_as limit (λ n. H n × Unit {0}) H (make x) after s ((walk >>= (λ z. gives (make z))) s) (λ n k. k.0)
      (in_turn limit H (λ n. Unit {0}) x (make x) after after walk (λ z. gives (make z)) s w (λ t h. given limit (make x) after t h))

  pub two : {A B C : Type 0} {H K : ℕ → Type 0} {x : A} {y : B} {mid after : List Row} (first : Walk A) (second : Walk B) (make : A → B → C) (s : Pen) → Walked limit H x mid s (first s) → ((t : Pen) → ArePlaced mid t.left → Walked limit K y after t (second t)) → Walked limit (λ n. H n × K n) (make x y) after s ((first >>= (λ a. second >>= (λ b. gives (make a b)))) s)
  two {H = H} {K = K} {x = x} {y = y} {mid = mid} {after = after} first second make s w k =
      in_turn limit H K x (make x y) mid after first (λ a. second >>= (λ b. gives (make a b))) s w
      (λ t h. one second (make x) t (k t h))

  pub three : {A B C D : Type 0} {H K L : ℕ → Type 0} {x : A} {y : B} {z : C} {mid late after : List Row} (first : Walk A) (second : Walk B) (third : Walk C) (make : A → B → C → D) (s : Pen) → Walked limit H x mid s (first s) → ((t : Pen) → ArePlaced mid t.left → Walked limit K y late t (second t)) → ((t : Pen) → ArePlaced late t.left → Walked limit L z after t (third t)) → Walked limit (λ n. H n × K n × L n) (make x y z) after s ((first >>= (λ a. second >>= (λ b. third >>= (λ c. gives (make a b c))))) s)
  three {H = H} {K = K} {L = L} {x = x} {y = y} {z = z} {mid = mid} {after = after} first second third make s w k l =
      has_as limit (λ n. H n × (K n × L n)) (λ n. H n × K n × L n) (make x y z) after s ((first >>= (λ a. second >>= (λ b. third >>= (λ c. gives (make a b c))))) s) (λ n u. (u.0, u.1.0, u.1.1))
      (in_turn limit H (λ n. K n × L n) x (make x y z) mid after first (λ a. second >>= (λ b. third >>= (λ c. gives (make a b c)))) s w
      (λ t h. two second third (make x) t (k t h) l))

  pub four : {A B C D E : Type 0} {H K L M : ℕ → Type 0} {x : A} {y : B} {z : C} {u : D} {mid late last after : List Row} (first : Walk A) (second : Walk B) (third : Walk C) (fourth : Walk D) (make : A → B → C → D → E) (s : Pen) → Walked limit H x mid s (first s) → ((t : Pen) → ArePlaced mid t.left → Walked limit K y late t (second t)) → ((t : Pen) → ArePlaced late t.left → Walked limit L z last t (third t)) → ((t : Pen) → ArePlaced last t.left → Walked limit M u after t (fourth t)) → Walked limit (λ n. H n × K n × L n × M n) (make x y z u) after s ((first >>= (λ a. second >>= (λ b. third >>= (λ c. fourth >>= (λ d. gives (make a b c d)))))) s)
  four {H = H} {K = K} {L = L} {M = M} {x = x} {y = y} {z = z} {u = u} {mid = mid} {after = after} first second third fourth make s w k l m =
      has_as limit (λ n. H n × (K n × L n × M n)) (λ n. H n × K n × L n × M n) (make x y z u) after s ((first >>= (λ a. second >>= (λ b. third >>= (λ c. fourth >>= (λ d. gives (make a b c d)))))) s) (λ n v. (v.0, v.1.0, v.1.1, v.1.2))
      (in_turn limit H (λ n. K n × L n × M n) x (make x y z u) mid after first (λ a. second >>= (λ b. third >>= (λ c. fourth >>= (λ d. gives (make a b c d))))) s w
      (λ t h. three second third fourth (make x) t (k t h) l m))

-- ---- expressions

module _ (r limit : ℕ) (few : limit ≤ most_bits) where
  core : {H : ℕ → Type 0} (x : p.Expression) (after : List Row) (s : Pen) → NotThere (erase_expression x) s.left → Walked limit H x after s (inside r (erase_expression x) s) → Walked limit H x after s (back r (erase_expression x) s)
  core {H = H} x after s n w = subst (λ (out : p.Expression × Pen). Walked limit H x after s out) (sym (around_none r (erase_expression x) s n)) w

  mutual
    pub place_walked : (x : p.Place) (ps : List Span) (rs : List Row) → FitsPlace r x → EndPlace limit x → TakesPlace x → Leads ps rs → IsDistinct (in_place x ps) → (s : Pen) → ArePlaced (rows_in_place x rs) s.left → Walked limit (λ n. EndPlace n x) x rs s (back_place r (erase_place x) s)
    place_walked (p.Local slot span) ps rs f g h l d s k = given limit (p.Local slot span) rs s k
    place_walked (p.Static slot span) ps rs f g h l d s k = given limit (p.Static slot span) rs s k
    place_walked (p.Parameter array stride index span) ps rs f g h l d s k =
        one limit (back r (erase_expression index)) (λ i. p.Parameter array stride i span) s (expression_walked index ps rs f g h l d s k)
    place_walked (p.Item array n stride index span) ps rs f g h l d s k =
        two limit (back_place r (erase_place array)) (back r (erase_expression index)) (λ a i. p.Item a n stride i span) s
        (place_walked array (extent index ∷ parts index ps) (rows index rs) f.0 g.0 h.0 (leads index ps rs h.1 l) d s k)
        (λ t k. expression_walked index ps rs f.1 g.1 h.1 l (place_rest array (extent index ∷ parts index ps) d) t k)
    place_walked (p.Member structure i offset span) ps rs f g h l d s k =
        one limit (back_place r (erase_place structure)) (λ x. p.Member x i offset span) s (place_walked structure ps rs f g h l d s k)

    pub expression_walked : (x : p.Expression) (ps : List Span) (rs : List Row) → Fits r x → End limit x → Takes x → Leads ps rs → IsDistinct (extent x ∷ parts x ps) → (s : Pen) → ArePlaced (rows x rs) s.left → Walked limit (λ n. End n x) x rs s (back r (erase_expression x) s)
    expression_walked (p.Constant v a span) ps rs f g h l d s k =
        core (p.Constant v a span) rs s (not_there (erase_expression (p.Constant v a span)) span rs s.left refl (l span d.0) k)
        (given limit (p.Constant v a span) rs s k)
    expression_walked (p.Read place a) ps rs f g h l d s k =
        core (p.Read place a) rs s
        (not_there (erase_expression (p.Read place a)) (extent (p.Read place a)) (rows_in_place place rs) s.left refl (place_leads place ps rs h l (extent (p.Read place a)) d.0) k)
        (one limit (back_place r (erase_place place)) (λ x. p.Read x a) s (place_walked place ps rs f g h l d.1 s k))
    expression_walked (p.Unary operator a e span) ps rs f g h l d s k =
        core (p.Unary operator a e span) rs s
        (not_there (erase_expression (p.Unary operator a e span)) span (rows e rs) s.left refl (leads e ps rs h l span d.0) k)
        (one limit (back r (erase_expression e)) (λ x. p.Unary operator a x span) s (expression_walked e ps rs f g h l d.1 s k))
    expression_walked (p.Convert a true e span) ps rs f g h l d s k =
        core (p.Convert a true e span) rs s
        (not_there (erase_expression (p.Convert a true e span)) span (rows e rs) s.left refl (leads e ps rs h.1 l span d.0) k)
        (one limit (back r (erase_expression e)) (λ x. p.Convert a true x span) s (expression_walked e ps rs f g h.1 l d.1 s k))
    expression_walked (p.Convert a false e span) ps rs f g h l d s k =
        let here : IsDistinct (extent e ∷ parts e ps) = subst (λ (u : Span). IsDistinct (u ∷ parts e ps)) (sym h.0.0) d in
        core (p.Convert a false e span) rs s
        (not_outer e a span ps rs s.left h.0.0 h.1 h.0.1 l here k)
        (one limit (back r (erase_expression e)) (λ x. p.Convert a false x span) s (expression_walked e ps rs f g h.1 l here s k))
    expression_walked (p.Not e span) ps rs f g h l d s k =
        core (p.Not e span) rs s
        (not_there (erase_expression (p.Not e span)) span (rows e rs) s.left refl (leads e ps rs h l span d.0) k)
        (one limit (back r (erase_expression e)) (λ x. p.Not x span) s (expression_walked e ps rs f g h l d.1 s k))
    expression_walked (p.Binary operator a e y span) ps rs f g h l d s k =
        let m = leads y ps rs h.1 l in
        core (p.Binary operator a e y span) rs s
        (not_there (erase_expression (p.Binary operator a e y span)) span (rows e (rows y rs)) s.left refl (leads e (extent y ∷ parts y ps) (rows y rs) h.0 m span d.0) k)
        (two limit (back r (erase_expression e)) (back r (erase_expression y)) (λ x z. p.Binary operator a x z span) s
        (expression_walked e (extent y ∷ parts y ps) (rows y rs) f.0 g.0 h.0 m d.1 s k)
        (λ t k. expression_walked y ps rs f.1 g.1 h.1 l (parts_rest e (extent y ∷ parts y ps) d.1.1) t k))
    expression_walked (p.Logic operator e y span) ps rs f g h l d s k =
        let m = leads y ps rs h.1 l in
        core (p.Logic operator e y span) rs s
        (not_there (erase_expression (p.Logic operator e y span)) span (rows e (rows y rs)) s.left refl (leads e (extent y ∷ parts y ps) (rows y rs) h.0 m span d.0) k)
        (two limit (back r (erase_expression e)) (back r (erase_expression y)) (λ x z. p.Logic operator x z span) s
        (expression_walked e (extent y ∷ parts y ps) (rows y rs) f.0 g.0 h.0 m d.1 s k)
        (λ t k. expression_walked y ps rs f.1 g.1 h.1 l (parts_rest e (extent y ∷ parts y ps) d.1.1) t k))
    expression_walked (p.Choice e y z a span) ps rs f g h l d s k =
        let more : List Span = extent z ∷ parts z ps in
        let o = leads z ps rs h.2 l in
        let m = leads y more (rows z rs) h.1 o in
        let c = parts_rest e (extent y ∷ parts y more) d.1.1 in
        core (p.Choice e y z a span) rs s
        (not_there (erase_expression (p.Choice e y z a span)) span (rows e (rows y (rows z rs))) s.left refl (leads e (extent y ∷ parts y more) (rows y (rows z rs)) h.0 m span d.0) k)
        (three limit (back r (erase_expression e)) (back r (erase_expression y)) (back r (erase_expression z)) (λ u v w. p.Choice u v w a span) s
        (expression_walked e (extent y ∷ parts y more) (rows y (rows z rs)) f.0 g.0 h.0 m d.1 s k)
        (λ t k. expression_walked y more (rows z rs) f.1 g.1 h.1 o c t k)
        (λ t k. expression_walked z ps rs f.2 g.2 h.2 l (parts_rest y more c.1) t k))
    expression_walked (p.Call c a) ps rs f g h l d s k =
        core (p.Call c a) rs s
        (not_there (erase_expression (p.Call c a)) (extent (p.Call c a)) (rows_in_call c rs) s.left refl (call_leads c ps rs h l (extent (p.Call c a)) d.0) k)
        (one limit (back_call r (erase_call c)) (λ x. p.Call x a) s (call_walked c ps rs f g h l d.1 s k))
    expression_walked (p.Input span) ps rs f g h l d s k =
        core (p.Input span) rs s (not_there (erase_expression (p.Input span)) span rs s.left refl (l span d.0) k)
        (given limit (p.Input span) rs s k)
    expression_walked (p.Probe q e) ps rs f g h l d s k =
        probe_walked r limit few q e rs (λ n. End n e) f.0 g.0 h.0
        (λ t k. expression_walked e ps (row what.OperandEnd (extent e) rs) f.1 g.1 h.1 l d t k) s k

    pub structure_walked : (x : p.StructureValue) (ps : List Span) (rs : List Row) → FitsStructure r x → EndStructure limit x → TakesStructure x → Leads ps rs → IsDistinct (in_structure x ps) → (s : Pen) → ArePlaced (rows_in_structure x rs) s.left → Walked limit (λ n. EndStructure n x) x rs s (back_structure r (erase_structure x) s)
    structure_walked (p.Stored place) ps rs f g h l d s k =
        one limit (back_place r (erase_place place)) (λ x. p.Stored x) s (place_walked place ps rs f g h l d s k)
    structure_walked (p.Returned c) ps rs f g h l d s k =
        one limit (back_call r (erase_call c)) (λ x. p.Returned x) s (call_walked c ps rs f g h l d s k)

    pub call_walked : (x : p.FunctionCall) (ps : List Span) (rs : List Row) → FitsCall r x → EndCall limit x → TakesCall x → Leads ps rs → IsDistinct (in_call x ps) → (s : Pen) → ArePlaced (rows_in_call x rs) s.left → Walked limit (λ n. EndCall n x) x rs s (back_call r (erase_call x) s)
    call_walked (p.call c xs result span) ps rs f g h l d s k =
        one limit (back_arguments r (erase_arguments xs)) (λ x. p.call c x result span) s (arguments_walked xs ps rs f g h l d s k)

    argument_walked : (x : p.Argument) (ps : List Span) (rs : List Row) → FitsArgument r x → EndArgument limit x → TakesArgument x → Leads ps rs → IsDistinct (in_argument x ps) → (s : Pen) → ArePlaced (rows_in_argument x rs) s.left → Walked limit (λ n. EndArgument n x) x rs s (back_argument r (erase_argument x) s)
    argument_walked (p.NumberArgument e) ps rs f g h l d s k =
        one limit (back r (erase_expression e)) (λ x. p.NumberArgument x) s (expression_walked e ps rs f g h l d s k)
    argument_walked (p.StructureArgument value copy) ps rs f g h l d s k =
        one limit (back_structure r (erase_structure value)) (λ x. p.StructureArgument x copy) s (structure_walked value ps rs f g h l d s k)
    argument_walked (p.ArrayArgument place n) ps rs f g h l d s k =
        one limit (back_place r (erase_place place)) (λ x. p.ArrayArgument x n) s (place_walked place ps rs f g h l d s k)
    argument_walked (p.AgainArgument array span) ps rs f g h l d s k = given limit (p.AgainArgument array span) rs s k

    arguments_walked : (x : p.Arguments) (ps : List Span) (rs : List Row) → FitArguments r x → EndArguments limit x → TakesArguments x → Leads ps rs → IsDistinct (in_arguments x ps) → (s : Pen) → ArePlaced (rows_in_arguments x rs) s.left → Walked limit (λ n. EndArguments n x) x rs s (back_arguments r (erase_arguments x) s)
    arguments_walked p.no_arguments ps rs f g h l d s k = given limit p.no_arguments rs s k
    arguments_walked (p.arguments x xs) ps rs f g h l d s k =
        two limit (back_argument r (erase_argument x)) (back_arguments r (erase_arguments xs)) (λ a b. p.arguments a b) s
        (argument_walked x (in_arguments xs ps) (rows_in_arguments xs rs) f.0 g.0 h.0 (arguments_lead xs ps rs h.1 l) d s k)
        (λ t k. arguments_walked xs ps rs f.1 g.1 h.1 l (argument_rest x (in_arguments xs ps) d) t k)
