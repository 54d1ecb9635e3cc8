use Rattle.std.proofs.Common.{◌≡◌, ◌∙◌, length, sym, refl, arith, rules}
use Rattle.ken_log.proofs.Taken.{mount_settled}
use Rattle.ken_log.proofs.log.Log.mount.Goals as goal

pub returns-in-Ok-clause-settled : goal.returns-in-Ok-clause-settled
returns-in-Ok-clause-settled g c =
    let count : c.len-records.result ≡ length c.in-Ok.found.records.items = first_of (omega (arith, c.len-records.ensures, c.in-Ok.found.records.ok), search rules) in
    mount_settled g.D.Disk.told g.D.Disk.size _ c.in-Ok.found.records.items (λ h t. c.requires h (sym c.find.ensures.story ∙ t)) (λ h t. c.in-Ok.ensures.lies h (sym c.find.ensures.story ∙ t)) c.in-Ok.ensures.head count c.in-Ok.ensures.few c.in-Ok.ensures.room refl
