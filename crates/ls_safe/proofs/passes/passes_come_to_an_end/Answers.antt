use Rattle.ls_safe.proofs.Turns.{applied-is, applied-none, applied-fewer, passes-end, passes-enough}
use Rattle.ls_safe.proofs.Turns.{settled-none, settled-some, settled-ends, tried-none, tried-some}
use Rattle.ls_safe.proofs.passes.passes_come_to_an_end.Goals as goal

pub returns : goal.returns
returns c = record {
  applied = applied-is;
  none = applied-none;
  fewer = applied-fewer;
  end = passes-end;
  enough = passes-enough;
  settled_none = settled-none;
  settled_some = settled-some;
  settled_end = settled-ends;
  tried_none = tried-none;
  tried_some = tried-some;
}
