use Rattle.std.proofs.Common.{◌≡◌, length, take, ◌∙◌, arith, rules}
use Rattle.ken_disk.proofs.Told.{one_by_one}
use Rattle.ken_files.specs.Copies.{IsNotSynced}
use Rattle.ken_files.proofs.Pieces.{copied_whole, ok_alike}
use Rattle.ken_files.proofs.copying.copy.Goals as goal

pub loop-at-preserved : goal.loop-at-preserved
loop-at-preserved g c =
    let next = c.in_ok-copy_piece.ensures in
    let old = c.loop-at.invariant.copied in
    let count : length (take c.min-count.result c.loop-at.piece) ≡ c.min-count.result = search rules in
    record {
      copied = record {
        same = record { story = next.disk.story ∙ old.same.story; count = next.disk.count ∙ old.same.count; falls = next.disk.falls ∙ old.same.falls };
        long = next.disk_size ∙ old.long;
        front = rw count at next.front;
        end = rw count at next.size;
        unsynced = one_by_one IsNotSynced IsNotSynced IsNotSynced _ _ _ old.unsynced next.told (λ x y z was first second. second ∙ first);
        none = next.no_failed_file (λ no. cc no) ∙ old.none;
      };
      within = omega arith;
    }

pub returns-clause-copied : goal.returns-clause-copied
returns-clause-copied g c =
    let all = c.loop-at.invariant.copied in
    ok_alike c.sync.result c.map_err.result _ c.map_err.ensures.variant (copied_whole c.loop-at.at c.sync.result (g.D.Disk.told c.args.disk.now) _ _ c.sync.ensures.story
    (λ h told. let size = g.met.D.Disk.sized _ h told in omega (arith, size, c.len.ensures, c.min-end.ensures))
    (λ h told. all.front h (all.same.story ∙ told)))
