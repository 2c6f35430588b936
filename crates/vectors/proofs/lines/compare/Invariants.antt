use denote.Param.Always.{always_mut}
use Rattle.vectors.specs.Tally.{counts_of}
use Rattle.vectors.proofs.Comparing.{ComparesRead}
use Rattle.vectors.proofs.lines.compare.Given as goal

abbrev pub invariant-loop-n : goal.invariant-loop-n
invariant-loop-n g l = record {
  callable : always_mut g.F.FnMut l.initial.agrees → always_mut g.F.FnMut l.agrees;
  so_far : ComparesRead g.F.FnMut l.fn.agrees l.yielded (l.agrees, counts_of l.tally);
}
