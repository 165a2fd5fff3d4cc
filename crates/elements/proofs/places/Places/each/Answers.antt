use native.Mathlib.Nat.{mul_comm, le-div_iff_mul-le}
use Rattle.lists.proofs.Chunks.{chunks_take}
use Rattle.elements.proofs.places.Places.each.Goals as goal

pub returns-clause-value : goal.returns-clause-value
returns-clause-value g c =
    let row = c.args.self.now in
    rw c.as_chunks.ensures.front (chunks_take _ _ _ row.count ((le-div_iff_mul-le c.requires).1 (rw (mul_comm row.count g.row.WIDTH) row.room)))
