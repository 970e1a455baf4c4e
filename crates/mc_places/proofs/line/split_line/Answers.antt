use Rattle.std.proofs.Common.{◌∙◌, ◌-◌, ℕ, List, ◌∷◌, length, drop, take, ap, arith}
use Rattle.mc_places.proofs.Turning.{rest_is}
use Rattle.mc_places.proofs.Splitting.{split, past_none, past_one}
use Rattle.mc_places.proofs.line.split_line.Goals as goal

pub returns-in-empty : goal.returns-in-empty
returns-in-empty c =
    let line = c.split_at.result.0.now in
    let later = c.split_at.result.1.now in
    record {
      lines = split c.args.bytes.now line later (rw c.line_len.ensures.value at c.split_at.ensures.front) (rw c.line_len.ensures.value at c.split_at.ensures.back)
          ∙ ap (λ (ls : List (List ℕ)). line ∷ ls) (past_none later (omega arith));
    }

pub returns-in-len1-up : goal.returns-in-len1-up
returns-in-len1-up c =
    let line = c.split_at.result.0.now in
    let later = c.split_at.result.1.now in
    record {
      lines = split c.args.bytes.now line later (rw c.line_len.ensures.value at c.split_at.ensures.front) (rw c.line_len.ensures.value at c.split_at.ensures.back)
          ∙ ap (λ (ls : List (List ℕ)). line ∷ ls) (past_one later (take (length later - 1) (drop 1 later)) (omega arith) (rest_is 1 later));
    }
