-- The copies of lists are those of their items, one after the other.
use Rattle.std.proofs.Common.{◌≡◌, ◌∙◌, refl, sym, ap, ℕ, ◌+◌, List, [], ◌∷◌, map, arith}
use Rattle.mc_typed.specs.declared.statements.Declarator as code
use Rattle.mc_typed.specs.Tree as t
use Rattle.mc_typed.specs.Views as plain
use Rattle.decide_rules.specs.declared.role.Role.TheVariants.{Plain}
use Rattle.decide_rules.specs.Nodes as n
use Rattle.decide_rules.specs.Counts.{roots, roots_in}
use Rattle.mc_steps.specs.Points.{points_of, points_of_all}
use Rattle.mc_probe.specs.Maps.{Map}
use Rattle.mc_probe.specs.Switches.{switches, switches_all}
use Rattle.mc_probe.specs.Table.{At, past, put_argument, put_arguments, put_declarators, put_effect, put_effects, put_initial, put_initializer, put_initializers, put_statement, put_statements}
use Rattle.mc_probe.specs.Tree as p
use Rattle.mc_probe.specs.Views as probed
use Rattle.mc_instrument.specs.steps.Counters.{past_all}
use Rattle.mc_instrument.proofs.Lists.{put_list, last}

sum : (a b c : ℕ) → (a + b) + c ≡ a + (b + c)
sum a b c = omega arith

none : (a : ℕ) → a ≡ a + 0
none a = omega arith

-- ---- how a counter goes on

abbrev pub past_argument : t.Argument → ℕ → ℕ
past_argument a d = d + roots Plain (n.argument a)

abbrev pub past_effect : t.Effect → ℕ → ℕ
past_effect a d = d + roots Plain (n.effect a)

abbrev pub past_initializer : t.Initializer → ℕ → ℕ
past_initializer i d = d + roots Plain (n.initializer i)

abbrev pub past_declarator : t.Declarator → ℕ → ℕ
past_declarator x d = d + roots Plain (n.initial x.value)

module _ (m : Map) (first : ℕ) where
  abbrev pub put_declarator : ℕ → t.Declarator → p.Declarator
  put_declarator d x = record { slot = x.slot; cells = x.cells; value = put_initial m first d x.value }

  -- ---- copies

  pub arguments_are : (d : ℕ) (xs : List t.Argument) → probed.arguments_from (put_list (put_argument m first) past_argument d xs) ≡ put_arguments m first d (plain.arguments_from xs)
  arguments_are d [] = refl
  arguments_are d (x ∷ xs) = ap (p.arguments (put_argument m first d x)) (arguments_are (past_argument x d) xs)

  pub effects_are : (d : ℕ) (xs : List t.Effect) → put_list (put_effect m first) past_effect d xs ≡ put_effects m first d xs
  effects_are d [] = refl
  effects_are d (x ∷ xs) = ap (λ (ys : List p.Effect). put_effect m first d x ∷ ys) (effects_are (past_effect x d) xs)

  pub initializers_are : (d : ℕ) (xs : List t.Initializer) → probed.initializers_from (put_list (put_initializer m first) past_initializer d xs) ≡ put_initializers m first d (plain.initializers_from xs)
  initializers_are d [] = refl
  initializers_are d (x ∷ xs) = ap (p.initializers (put_initializer m first d x)) (initializers_are (past_initializer x d) xs)

  pub declarators_are : (d : ℕ) (xs : List t.Declarator) → put_list put_declarator past_declarator d xs ≡ put_declarators m first d xs
  declarators_are d [] = refl
  declarators_are d (x ∷ xs) = ap (λ (ys : List p.Declarator). put_declarator d x ∷ ys) (declarators_are (past_declarator x d) xs)

  pub statements_are : (r : ℕ) (at : At m first) (xs : List t.Statement) → probed.statements_from (put_list (put_statement m first r) (past m first) at xs) ≡ put_statements m first r at (plain.statements_from xs)
  statements_are r at [] = refl
  statements_are r at (x ∷ xs) = ap (p.statements (put_statement m first r at x)) (statements_are r (past m first x at) xs)

  -- ---- counters

  pub arguments_past : (d : ℕ) (xs : List t.Argument) → last (put_argument m first) past_argument d xs ≡ d + roots_in (n.arguments (plain.arguments_from xs))
  arguments_past d [] = none d
  arguments_past d (x ∷ xs) = arguments_past (past_argument x d) xs ∙ sum d (roots Plain (n.argument x)) (roots_in (n.arguments (plain.arguments_from xs)))

  pub effects_past : (d : ℕ) (xs : List t.Effect) → last (put_effect m first) past_effect d xs ≡ d + roots_in (n.effects xs)
  effects_past d [] = none d
  effects_past d (x ∷ xs) = effects_past (past_effect x d) xs ∙ sum d (roots Plain (n.effect x)) (roots_in (n.effects xs))

  pub initializers_past : (d : ℕ) (xs : List t.Initializer) → last (put_initializer m first) past_initializer d xs ≡ d + roots_in (n.initializers (plain.initializers_from xs))
  initializers_past d [] = none d
  initializers_past d (x ∷ xs) = initializers_past (past_initializer x d) xs ∙ sum d (roots Plain (n.initializer x)) (roots_in (n.initializers (plain.initializers_from xs)))

  pub declarators_past : (d : ℕ) (xs : List t.Declarator) → last put_declarator past_declarator d xs ≡ d + roots_in (n.declarators xs)
  declarators_past d [] = none d
  declarators_past d (x ∷ xs) = declarators_past (past_declarator x d) xs ∙ sum d (roots Plain (n.initial x.value)) (roots_in (n.declarators xs))

  -- two that agree in each counter
  pub same_at : (a b : At m first) → a.exit ≡ b.exit → a.statement ≡ b.statement → a.label ≡ b.label → a.decision ≡ b.decision → a.switch ≡ b.switch → a ≡ b
  same_at a b e s l d w = λ i. record { exit = e i; statement = s i; label = l i; decision = d i; switch = w i }

  pub statements_past : (r : ℕ) (at : At m first) (xs : List t.Statement) → last (put_statement m first r) (past m first) at xs ≡ past_all m first (plain.statements_from xs) at
  statements_past r at [] = same_at _ _ (none at.exit) (none at.statement) (none at.label) (none at.decision) (none at.switch)
  statements_past r at (x ∷ xs) =
      let rest : t.Statements = plain.statements_from xs in
      statements_past r (past m first x at) xs
      ∙ same_at _ _ (sum at.exit (points_of x).exits (points_of_all rest).exits)
      (sum at.statement (points_of x).statements (points_of_all rest).statements)
      (sum at.label (points_of x).labels (points_of_all rest).labels)
      (sum at.decision (roots Plain (n.statement x)) (roots_in (n.statements rest)))
      (sum at.switch (switches x) (switches_all rest))
