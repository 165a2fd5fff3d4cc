use Rattle.std.specs.Iterator.Adapters.{enumerate_source, enumerate_count}
use Rattle.elements.specs.Keying.{heights}
use Rattle.elements.proofs.Walk.{Paired, Walked}
use Rattle.elements.proofs.keying.Walk.scan.Given as goal

abbrev pub invariant-loop-j : goal.invariant-loop-j
invariant-loop-j l =
    let j = enumerate_count l.j-iterator in
    record {
      paired : Paired l.self.row.now j (enumerate_source l.j-iterator);
      walked : Walked (heights l.self.row.now) l.self.thr l.self.step l.self.fs l.initial.elements j l.rising l.found l.elements;
    }
