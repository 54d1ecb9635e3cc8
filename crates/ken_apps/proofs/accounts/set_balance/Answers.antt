use Rattle.std.proofs.Common.{◌≡◌, ℕ, ◌+◌, List, length, ap, ◌∙◌}
use Rattle.std.proofs.lemmas.Result.{on_ok_weaker}
use Rattle.byteorder.specs.Endian.{big_bytes}
use Rattle.ken_alloc.specs.Objects.{rewritten}
use Rattle.ken_model.specs.declared.values.Block.{Block}
use Rattle.ken_apps.proofs.Balances.{new_balance}
use Rattle.ken_apps.proofs.accounts.set_balance.Goals as goal

pub returns-clause-value : goal.returns-clause-value
returns-clause-value c =
    let value = c.args.objects.now.value in
    let name = c.args.name.now in
    let place = c.args.account.place in
    let was = c.requires.account in
    let bytes : c.write_u64.new.buf ≡ big_bytes 8 c.args.balance = c.write_u64.ensures in
    on_ok_weaker c.write.result
    (λ ok. ok ∙ ap (λ (ys : List ℕ). record value { blocks = rewritten place (length name + 1) ys value.blocks }) bytes ∙ ap (λ (bs : List Block). record value { blocks = bs }) (new_balance place name was.bytes c.args.balance value.blocks was.stands was.key_is was.long))
    c.write.ensures.value
