use Rattle.laws_station.proofs.TextsOfFiles.{texts_are_called, texts_are_of_files, texts_have_files}
use Rattle.laws_station.proofs.texts.texts_are_of_files.Goals as goal

pub returns-clause-leads : goal.returns-clause-leads
returns-clause-leads c = texts_are_of_files

pub returns-clause-calls : goal.returns-clause-calls
returns-clause-calls c = texts_are_called

pub returns-clause-accepted : goal.returns-clause-accepted
returns-clause-accepted c = texts_have_files
