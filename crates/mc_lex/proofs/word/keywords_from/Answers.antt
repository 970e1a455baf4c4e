use Rattle.std.proofs.Common.{refl, arith}
use Rattle.std.proofs.lemmas.Bool.Decides.{nat_tests}
use Rattle.mc_lex.specs.Words.{keywords}
use Rattle.mc_lex.proofs.Heads.{no_keyword}
use Rattle.mc_lex.proofs.word.keywords_from.Goals as goal

pub returns-in-98 : goal.returns-in-98
unfolding keywords
returns-in-98 c = rw c.in-98.is refl

pub returns-in-99 : goal.returns-in-99
unfolding keywords
returns-in-99 c = rw c.in-99.is refl

pub returns-in-100 : goal.returns-in-100
unfolding keywords
returns-in-100 c = rw c.in-100.is refl

pub returns-in-101 : goal.returns-in-101
unfolding keywords
returns-in-101 c = rw c.in-101.is refl

pub returns-in-102 : goal.returns-in-102
unfolding keywords
returns-in-102 c = rw c.in-102.is refl

pub returns-in-103 : goal.returns-in-103
unfolding keywords
returns-in-103 c = rw c.in-103.is refl

pub returns-in-105 : goal.returns-in-105
unfolding keywords
returns-in-105 c = rw c.in-105.is refl

pub returns-in-108 : goal.returns-in-108
unfolding keywords
returns-in-108 c = rw c.in-108.is refl

pub returns-in-114 : goal.returns-in-114
unfolding keywords
returns-in-114 c = rw c.in-114.is refl

pub returns-in-115 : goal.returns-in-115
unfolding keywords
returns-in-115 c = rw c.in-115.is refl

pub returns-in-116 : goal.returns-in-116
unfolding keywords
returns-in-116 c = rw c.in-116.is refl

pub returns-in-117 : goal.returns-in-117
unfolding keywords
returns-in-117 c = rw c.in-117.is refl

pub returns-in-118 : goal.returns-in-118
unfolding keywords
returns-in-118 c = rw c.in-118.is refl

pub returns-in-119 : goal.returns-in-119
unfolding keywords
returns-in-119 c = rw c.in-119.is refl

pub returns-in-95 : goal.returns-in-95
unfolding keywords
returns-in-95 c = rw c.in-95.is refl

pub returns-in_default : goal.returns-in_default
returns-in_default c = no_keyword c.args.first (grind (arith, nat_tests)) (grind (arith, nat_tests)) (grind (arith, nat_tests)) (grind (arith, nat_tests)) (grind (arith, nat_tests)) (grind (arith, nat_tests)) (grind (arith, nat_tests)) (grind (arith, nat_tests)) (grind (arith, nat_tests)) (grind (arith, nat_tests)) (grind (arith, nat_tests)) (grind (arith, nat_tests)) (grind (arith, nat_tests)) (grind (arith, nat_tests)) (grind (arith, nat_tests))
