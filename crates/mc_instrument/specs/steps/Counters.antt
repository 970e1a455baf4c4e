-- Counters of bits and registers.
use Rattle.std.specs.Prelude.{◌≡◌, ℕ, ◌+◌, ◌==◌, if◌then◌else◌, List, [], ◌∷◌, length}
use Rattle.mc_typed.specs.Tree.{Statement, Statements, Function}
use Rattle.decide_rules.specs.declared.role.Role.TheVariants.{Plain}
use Rattle.decide_rules.specs.Nodes as nodes
use Rattle.decide_rules.specs.Counts.{roots, roots_in}
use Rattle.mc_steps.specs.Points.{Points, points_of, points_of_all, points_of_function, points_before}
use Rattle.mc_probe.specs.Maps.{Map, Mapped, exit_bit, label_bit, statement_bit}
use Rattle.mc_probe.specs.Table.{At, decisions_in}
use Rattle.mc_probe.specs.Switches.{switches, switches_all}
use Rattle.mc_instrument.specs.declared.copies.statements.At as code

module _ (m : Map) (first : ℕ) where
  -- what counters stand for
  abbrev pub at_of : code.At → At m first
  at_of at = record {
    exit = at.exit;
    statement = at.statement;
    label = at.label;
    decision = at.decision;
    switch = at.switch;
  }

  -- after the items of a body
  abbrev pub past_all : Statements → At m first → At m first
  past_all items at = record {
    exit = at.exit + (points_of_all items).exits;
    statement = at.statement + (points_of_all items).statements;
    label = at.label + (points_of_all items).labels;
    decision = at.decision + roots_in (nodes.statements items);
    switch = at.switch + switches_all items;
  }

-- how many numbers the counters gave, all together
abbrev pub given : code.At → ℕ
given at = at.exit + at.statement + at.label + at.decision + at.switch

-- and how many a statement takes
abbrev pub taken : Statement → ℕ
taken s =
    (points_of s).exits + (points_of s).statements + (points_of s).labels
    + roots Plain (nodes.statement s) + switches s

abbrev pub taken_by_all : Statements → ℕ
taken_by_all items =
    (points_of_all items).exits + (points_of_all items).statements + (points_of_all items).labels
    + roots_in (nodes.statements items) + switches_all items

-- its decisions have the first registers of a function
abbrev pub taken_by_function : Function → ℕ
taken_by_function f =
    (points_of_function f).exits + (points_of_function f).statements
    + (points_of_function f).labels + decisions_in f + decisions_in f + switches_all f.body

-- the points of all functions of a list
abbrev pub all_points : List Function → Points
all_points fs = points_before fs (length fs)

-- how many decisions at the head of a list are those of a function
abbrev pub leading : ℕ → List Mapped → ℕ
leading function [] = 0
leading function (d ∷ ds) = if d.decision.function == function then 1 + leading function ds else 0

-- the counters stand where so many points are before
pub record StandsAt (m : Map) (q : Points) (at : code.At) : Type 0 where
  pub exit : at.exit ≡ exit_bit m q.exits
  pub statement : at.statement ≡ statement_bit m q.statements
  pub label : at.label ≡ label_bit m q.labels
