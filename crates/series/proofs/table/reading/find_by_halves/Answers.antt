use Rattle.std.proofs.Common.{leb, rules, arith}
use Rattle.std.proofs.lemmas.Bool.{leb-true, leb-false}
use Rattle.std.proofs.lemmas.List.Sorted.{IsPartitionPoint-from_clause}
use Rattle.parts.proofs.Seats.{seat_found, bounds_parted}
use Rattle.series.proofs.table.reading.find_by_halves.Goals as goal

pub returns : goal.returns
returns c e rise l =
    let k = c.args.k in
    let j = c.partition_point.result in
    let bounds = c.args.bounds.now in
    let parted = IsPartitionPoint-from_clause (λ b. leb b k) bounds j c.partition_point.ensures.partitioned (λ i j d m n t. bounds_parted bounds e k i j d rise m n t) (λ a r f' t. search rules) in
    rw c.saturating_sub.ensures
    (seat_found bounds e k j rise l (λ i m. leb-true _ k (parted.0 i 0 (omega arith) m)) (λ m. leb-false _ k (parted.1 j 0 (omega arith) m)) c.partition_point.ensures.bound)
