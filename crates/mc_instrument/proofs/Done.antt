-- Where no item is left, the copies are those of the whole list.
use Rattle.std.proofs.Common.{◌≡◌, ◌∙◌, sym, ap, ℕ, ◌+◌, ◌<◌, ◌≤◌, ◌^◌, List, map, length, get_or, drop, arith}
use Rattle.mc_typed.specs.declared.expressions.Argument.{Argument}
use Rattle.mc_typed.specs.declared.effects.Effect.{Effect}
use Rattle.mc_typed.specs.declared.initializers.Initializer.{Initializer}
use Rattle.mc_typed.specs.declared.statements.Declarator.{Declarator}
use Rattle.mc_typed.specs.declared.statements.Statement.{Statement}
use Rattle.mc_typed.specs.Tree as t
use Rattle.mc_typed.specs.Views as plain
use Rattle.decide_rules.specs.declared.role.Role.TheVariants.{Plain}
use Rattle.decide_rules.specs.Nodes as n
use Rattle.decide_rules.specs.Counts.{roots, roots_in}
use Rattle.mc_probe.specs.Maps.{Map}
use Rattle.mc_probe.specs.Table.{At, past, put_argument, put_arguments, put_declarators, put_effect, put_effects, put_initializer, put_initializers, put_statement, put_statements}
use Rattle.mc_probe.specs.Views as probed
use Rattle.mc_instrument.specs.declared.copies.statements.At as code
use Rattle.mc_instrument.specs.steps.Counters.{at_of, given, past_all, taken, taken_by_all}
use Rattle.mc_instrument.proofs.Lists.{Left, all_copied, all_counted, before_last}
use Rattle.mc_instrument.proofs.Puts.{past_argument, past_effect, past_initializer, past_declarator, put_declarator, arguments_are, arguments_past, effects_are, effects_past, initializers_are, initializers_past, declarators_are, declarators_past, statements_are, statements_past}

module _ (m : Map) (first : ℕ) where
  pub arguments_copied : (trees copies : List Argument) (i d start : ℕ) → length trees ≤ i → Left (put_argument m first) past_argument plain.argument_of probed.argument_of copies d trees i start → probed.arguments_from (map probed.argument_of copies) ≡ put_arguments m first start (plain.arguments_from (map plain.argument_of trees))
  arguments_copied trees copies i d start end left =
      ap probed.arguments_from (all_copied (put_argument m first) past_argument plain.argument_of probed.argument_of copies trees i d start end left)
      ∙ arguments_are m first start (map plain.argument_of trees)

  pub arguments_counted : (trees copies : List Argument) (i d start : ℕ) → length trees ≤ i → Left (put_argument m first) past_argument plain.argument_of probed.argument_of copies d trees i start → d ≡ start + roots_in (n.arguments (plain.arguments_from (map plain.argument_of trees)))
  arguments_counted trees copies i d start end left =
      all_counted (put_argument m first) past_argument plain.argument_of probed.argument_of copies trees i d start end left
      ∙ arguments_past m first start (map plain.argument_of trees)

  pub effects_copied : (trees copies : List Effect) (i d start : ℕ) → length trees ≤ i → Left (put_effect m first) past_effect plain.effect_of probed.effect_of copies d trees i start → map probed.effect_of copies ≡ put_effects m first start (map plain.effect_of trees)
  effects_copied trees copies i d start end left =
      all_copied (put_effect m first) past_effect plain.effect_of probed.effect_of copies trees i d start end left
      ∙ effects_are m first start (map plain.effect_of trees)

  pub effects_counted : (trees copies : List Effect) (i d start : ℕ) → length trees ≤ i → Left (put_effect m first) past_effect plain.effect_of probed.effect_of copies d trees i start → d ≡ start + roots_in (n.effects (map plain.effect_of trees))
  effects_counted trees copies i d start end left =
      all_counted (put_effect m first) past_effect plain.effect_of probed.effect_of copies trees i d start end left
      ∙ effects_past m first start (map plain.effect_of trees)

  pub initializers_copied : (trees copies : List Initializer) (i d start : ℕ) → length trees ≤ i → Left (put_initializer m first) past_initializer plain.initializer_of probed.initializer_of copies d trees i start → probed.initializers_from (map probed.initializer_of copies) ≡ put_initializers m first start (plain.initializers_from (map plain.initializer_of trees))
  initializers_copied trees copies i d start end left =
      ap probed.initializers_from (all_copied (put_initializer m first) past_initializer plain.initializer_of probed.initializer_of copies trees i d start end left)
      ∙ initializers_are m first start (map plain.initializer_of trees)

  pub initializers_counted : (trees copies : List Initializer) (i d start : ℕ) → length trees ≤ i → Left (put_initializer m first) past_initializer plain.initializer_of probed.initializer_of copies d trees i start → d ≡ start + roots_in (n.initializers (plain.initializers_from (map plain.initializer_of trees)))
  initializers_counted trees copies i d start end left =
      all_counted (put_initializer m first) past_initializer plain.initializer_of probed.initializer_of copies trees i d start end left
      ∙ initializers_past m first start (map plain.initializer_of trees)

  pub declarators_copied : (trees copies : List Declarator) (i d start : ℕ) → length trees ≤ i → Left (put_declarator m first) past_declarator plain.declarator_of probed.declarator_of copies d trees i start → map probed.declarator_of copies ≡ put_declarators m first start (map plain.declarator_of trees)
  declarators_copied trees copies i d start end left =
      all_copied (put_declarator m first) past_declarator plain.declarator_of probed.declarator_of copies trees i d start end left
      ∙ declarators_are m first start (map plain.declarator_of trees)

  pub declarators_counted : (trees copies : List Declarator) (i d start : ℕ) → length trees ≤ i → Left (put_declarator m first) past_declarator plain.declarator_of probed.declarator_of copies d trees i start → d ≡ start + roots_in (n.declarators (map plain.declarator_of trees))
  declarators_counted trees copies i d start end left =
      all_counted (put_declarator m first) past_declarator plain.declarator_of probed.declarator_of copies trees i d start end left
      ∙ declarators_past m first start (map plain.declarator_of trees)

  pub statements_copied : (r : ℕ) (trees copies : List Statement) (i : ℕ) (at start : At m first) → length trees ≤ i → Left (put_statement m first r) (past m first) plain.statement_of probed.statement_of copies at trees i start → probed.statements_from (map probed.statement_of copies) ≡ put_statements m first r start (plain.statements_from (map plain.statement_of trees))
  statements_copied r trees copies i at start end left =
      ap probed.statements_from (all_copied (put_statement m first r) (past m first) plain.statement_of probed.statement_of copies trees i at start end left)
      ∙ statements_are m first r start (map plain.statement_of trees)

  pub statements_counted : (r : ℕ) (trees copies : List Statement) (i : ℕ) (at start : At m first) → length trees ≤ i → Left (put_statement m first r) (past m first) plain.statement_of probed.statement_of copies at trees i start → at ≡ past_all m first (plain.statements_from (map plain.statement_of trees)) start
  statements_counted r trees copies i at start end left =
      all_counted (put_statement m first r) (past m first) plain.statement_of probed.statement_of copies trees i at start end left
      ∙ statements_past m first r start (map plain.statement_of trees)

  -- ---- where there is room for all, there is room for the next

  pub arguments_fit : (trees copies : List Argument) (x : Argument) (i d start : ℕ) → i < length trees → x ≡ get_or trees i x → Left (put_argument m first) past_argument plain.argument_of probed.argument_of copies d trees i start → start + roots_in (n.arguments (plain.arguments_from (map plain.argument_of trees))) < 2 ^ 32 → d + roots Plain (n.argument (plain.argument_of x)) < 2 ^ 32
  arguments_fit trees copies x i d start lt is left h =
      let same : d + roots Plain (n.argument (plain.argument_of x)) + roots_in (n.arguments (plain.arguments_from (map plain.argument_of (drop (i + 1) trees)))) ≡ start + roots_in (n.arguments (plain.arguments_from (map plain.argument_of trees))) =
      sym (arguments_past m first (past_argument (plain.argument_of x) d) (map plain.argument_of (drop (i + 1) trees)))
      ∙ (before_last (put_argument m first) past_argument plain.argument_of probed.argument_of copies trees x i d start lt is left
      ∙ arguments_past m first start (map plain.argument_of trees)) in
      omega (arith, same, h)

  pub effects_fit : (trees copies : List Effect) (x : Effect) (i d start : ℕ) → i < length trees → x ≡ get_or trees i x → Left (put_effect m first) past_effect plain.effect_of probed.effect_of copies d trees i start → start + roots_in (n.effects (map plain.effect_of trees)) < 2 ^ 32 → d + roots Plain (n.effect (plain.effect_of x)) < 2 ^ 32
  effects_fit trees copies x i d start lt is left h =
      let same : d + roots Plain (n.effect (plain.effect_of x)) + roots_in (n.effects (map plain.effect_of (drop (i + 1) trees))) ≡ start + roots_in (n.effects (map plain.effect_of trees)) =
      sym (effects_past m first (past_effect (plain.effect_of x) d) (map plain.effect_of (drop (i + 1) trees)))
      ∙ (before_last (put_effect m first) past_effect plain.effect_of probed.effect_of copies trees x i d start lt is left
      ∙ effects_past m first start (map plain.effect_of trees)) in
      omega (arith, same, h)

  pub initializers_fit : (trees copies : List Initializer) (x : Initializer) (i d start : ℕ) → i < length trees → x ≡ get_or trees i x → Left (put_initializer m first) past_initializer plain.initializer_of probed.initializer_of copies d trees i start → start + roots_in (n.initializers (plain.initializers_from (map plain.initializer_of trees))) < 2 ^ 32 → d + roots Plain (n.initializer (plain.initializer_of x)) < 2 ^ 32
  initializers_fit trees copies x i d start lt is left h =
      let same : d + roots Plain (n.initializer (plain.initializer_of x)) + roots_in (n.initializers (plain.initializers_from (map plain.initializer_of (drop (i + 1) trees)))) ≡ start + roots_in (n.initializers (plain.initializers_from (map plain.initializer_of trees))) =
      sym (initializers_past m first (past_initializer (plain.initializer_of x) d) (map plain.initializer_of (drop (i + 1) trees)))
      ∙ (before_last (put_initializer m first) past_initializer plain.initializer_of probed.initializer_of copies trees x i d start lt is left
      ∙ initializers_past m first start (map plain.initializer_of trees)) in
      omega (arith, same, h)

  pub declarators_fit : (trees copies : List Declarator) (x : Declarator) (i d start : ℕ) → i < length trees → x ≡ get_or trees i x → Left (put_declarator m first) past_declarator plain.declarator_of probed.declarator_of copies d trees i start → start + roots_in (n.declarators (map plain.declarator_of trees)) < 2 ^ 32 → d + roots Plain (n.initial (plain.declarator_of x).value) < 2 ^ 32
  declarators_fit trees copies x i d start lt is left h =
      let same : d + roots Plain (n.initial (plain.declarator_of x).value) + roots_in (n.declarators (map plain.declarator_of (drop (i + 1) trees))) ≡ start + roots_in (n.declarators (map plain.declarator_of trees)) =
      sym (declarators_past m first (past_declarator (plain.declarator_of x) d) (map plain.declarator_of (drop (i + 1) trees)))
      ∙ (before_last (put_declarator m first) past_declarator plain.declarator_of probed.declarator_of copies trees x i d start lt is left
      ∙ declarators_past m first start (map plain.declarator_of trees)) in
      omega (arith, same, h)

  abbrev total : At m first → ℕ
  total a = a.exit + a.statement + a.label + a.decision + a.switch

  pub statements_fit : (r : ℕ) (trees copies : List Statement) (x : Statement) (i : ℕ) (at start : code.At) → i < length trees → x ≡ get_or trees i x → Left (put_statement m first r) (past m first) plain.statement_of probed.statement_of copies (at_of m first at) trees i (at_of m first start) → given start + taken_by_all (plain.statements_from (map plain.statement_of trees)) < 2 ^ 32 → given at + taken (plain.statement_of x) < 2 ^ 32
  statements_fit r trees copies x i at start lt is left h =
      let rest : List t.Statement = map plain.statement_of (drop (i + 1) trees) in
      let next : At m first = past m first (plain.statement_of x) (at_of m first at) in
      let same : total (past_all m first (plain.statements_from rest) next) ≡ total (past_all m first (plain.statements_from (map plain.statement_of trees)) (at_of m first start)) =
      ap total (sym (statements_past m first r next rest)
      ∙ (before_last (put_statement m first r) (past m first) plain.statement_of probed.statement_of copies trees x i (at_of m first at) (at_of m first start) lt is left
      ∙ statements_past m first r (at_of m first start) (map plain.statement_of trees))) in
      omega (arith, same, h)
