-- What definitions do not hold of.
use Rattle.laws_station.specs.Cases.{OtherCommandsAreNotWatch, OtherTasksAreNotWatched, RefusalsAreSix, SomeAskForNone}

pub other_tasks : OtherTasksAreNotWatched
other_tasks = record { matrix = λ task no. no; mutants = λ no. no; calls = λ no. no; looks = λ looks. tt }

pub other_commands : OtherCommandsAreNotWatch
other_commands = record {
  words = λ no. no;
  load = λ count workers no. no;
  text = λ name t no. no;
  records = λ name left right no. no;
  record_of = λ name kept judging no. no;
}

pub refusals : RefusalsAreSix
refusals = record {
  words = tt;
  source = tt;
  tests = tt;
  reasons = tt;
  matrix = tt;
  mutants = tt;
  done = λ no. no;
  incomplete = λ no. no;
  read = λ no. no;
  write = λ no. no;
  memory = λ no. no;
}

pub some_ask_for_none : SomeAskForNone
some_ask_for_none files file = ((λ count workers no. no), (λ no. no))
