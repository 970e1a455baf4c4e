-- What a decision with its first bit stands for.
use Rattle.decide_rules.specs.Seen.{decision_of}
use Rattle.mc_probe.specs.declared.mapped.MappedDecision.{MappedDecision}
use Rattle.mc_probe.specs.Maps.{Mapped}

abbrev pub mapped_of : MappedDecision → Mapped
mapped_of d = record { decision = decision_of d.decision; base = d.base }
