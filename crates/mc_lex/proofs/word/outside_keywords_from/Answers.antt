use Rattle.std.proofs.Common.{refl, arith}
use Rattle.std.proofs.lemmas.Bool.Decides.{nat_tests}
use Rattle.mc_lex.specs.Words.{outside_keywords}
use Rattle.mc_lex.proofs.word.outside_keywords_from.Goals as goal

pub returns-in-97 : goal.returns-in-97
unfolding outside_keywords
returns-in-97 c = rw c.in-97.is refl

pub returns-in-100 : goal.returns-in-100
unfolding outside_keywords
returns-in-100 c = rw c.in-100.is refl

pub returns-in-102 : goal.returns-in-102
unfolding outside_keywords
returns-in-102 c = rw c.in-102.is refl

pub returns-in-105 : goal.returns-in-105
unfolding outside_keywords
returns-in-105 c = rw c.in-105.is refl

pub returns-in-114 : goal.returns-in-114
unfolding outside_keywords
returns-in-114 c = rw c.in-114.is refl

pub returns-in-115 : goal.returns-in-115
unfolding outside_keywords
returns-in-115 c = rw c.in-115.is refl

pub returns-in-117 : goal.returns-in-117
unfolding outside_keywords
returns-in-117 c = rw c.in-117.is refl

pub returns-in-118 : goal.returns-in-118
unfolding outside_keywords
returns-in-118 c = rw c.in-118.is refl

pub returns-in-95 : goal.returns-in-95
unfolding outside_keywords
returns-in-95 c = rw c.in-95.is refl

pub returns-in_default : goal.returns-in_default
unfolding outside_keywords
returns-in_default c = grind (arith, nat_tests)
