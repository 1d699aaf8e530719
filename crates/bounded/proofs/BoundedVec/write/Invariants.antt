use Rattle.std.proofs.Common.{ℕ, ◌<◌, slice_index_or}
use Rattle.bounded.proofs.BoundedVec.write.Given as goal

abbrev pub invariant-loop-k : goal.invariant-loop-k
invariant-loop-k g l = (k : ℕ) (d : g.row.T.Denot) → k < l.k → goal.F-post g l.f k (slice_index_or l.x-items k d)
