use Rattle.std.proofs.lemmas.Str.{IsUtf8-had}
use Rattle.tests_report.proofs.make.name.Goals as goal

pub returns : goal.returns
returns c = rw (c.new.ensures, c.into_bytes.ensures.value) (IsUtf8-had _ c.in_ok-text.text.ok)
