use Rattle.ken_log.proofs.Taken.{few_ok, head_ok}
use Rattle.ken_log.proofs.mount.find.Goals as goal

pub returns-in-Ok-clause-few : goal.returns-in-Ok-clause-few
returns-in-Ok-clause-few g c = few_ok c.log_in.result c.deref.result.now (λ f. f.header) (λ f. f.base) (λ f. f.records.items) (λ f. f.end) c.log_in.ensures.lies

pub returns-in-Ok-clause-head : goal.returns-in-Ok-clause-head
returns-in-Ok-clause-head g c = head_ok c.log_in.result c.deref.result.now (λ f. f.header) (λ f. f.base) (λ f. f.records.items) (λ f. f.end) c.log_in.ensures.lies
