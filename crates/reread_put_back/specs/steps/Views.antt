-- What the pen of the code stands for.
use Rattle.reread_put_back.specs.declared.pen.Pen as code
use Rattle.reread_put_back.specs.Pens.{Pen}

abbrev pub pen_of : code.Pen → Pen
pen_of p = record { left = p.left.now; fault = p.fault; bits = p.bits }
