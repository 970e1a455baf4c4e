-- What the program's traces stand for.
use Rattle.std.specs.Prelude.{map}
use Rattle.mc_steps.specs.Tests.{CallDone}
use Rattle.interp_trail.specs.declared.returned_call.ReturnedCall.{ReturnedCall}
use Rattle.interp_trail.specs.declared.test_trace.TestTrace.{TestTrace}
use Rattle.interp_trail.specs.Traced.{Traced}

abbrev pub returned_of : ReturnedCall → CallDone
returned_of c = record { value = c.value; output_end = c.output_end }

abbrev pub trace_of : TestTrace → Traced
trace_of t = record {
  ending = t.ending;
  done = map returned_of t.done.items;
  output = t.output.items;
  state = t.state;
  stop = t.stop;
}
