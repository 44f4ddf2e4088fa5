use Rattle.std.proofs.Common.{ℕ, List, ◌++◌, take, drop, Option, subst, sym, ◌∙◌, arith}
use Rattle.std.specs.Option.{IfSome}
use Rattle.std.proofs.Math.Seq.{take-add}
use Rattle.sha2.specs.Hashers.{Holds256}
use Rattle.journal_disk.proofs.OnceRead.{reads_then}
use Rattle.journal_disk.proofs.Reported.{reported_both}
use Rattle.journal_disk.proofs.digests.digest_before.Goals as goal

pub chunks-preserved : goal.chunks-preserved
chunks-preserved g c =
    let at = c.chunks.at in
    let n = c.min-n.result in
    let here = subst (λ (o : Option (List ℕ)). IfSome o
    (λ file. (m : List ℕ) → Holds256 c.chunks.hasher m
    → Holds256 c.hash_chunk.new.hasher (m ++ take n (drop at file)))) c.chunks.invariant.disk.reads c.in_ok-hash_chunk.ensures.hashed in
    record {
      so_far = omega (arith, c.min-n.ensures, c.chunks.invariant.so_far);
      hashed = reported_both (g.D.Disk.seen c.args.disk.now)
          (λ file hash before. subst (λ (l : List ℕ). Holds256 c.hash_chunk.new.hasher l) (sym (take-add at n file))
          (hash (take at file) before)) here c.chunks.invariant.hashed;
      disk = reads_then g.D.Disk.seen g.D.Disk.may_leave g.D.Disk.moment g.D.Disk.left_since c.args.disk.now c.chunks.disk
          c.hash_chunk.new.disk c.chunks.invariant.disk c.hash_chunk.ensures.disk;
      steady = c.in_ok-hash_chunk.ensures.cause.steady ∙ c.chunks.invariant.steady;
    }
