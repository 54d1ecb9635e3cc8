use Rattle.std.proofs.Common.{◌≡◌, ℕ, List, ◌↔◌, true, Some, None, Ok, Err, Result, IfOk, slice_index_or, ap}
use Rattle.std.specs.List.{Contains}
use Rattle.std.specs.Option.{option_map}
use Rattle.std.proofs.lemmas.Result.{IfOk-weaker}
use Rattle.ken_drive.specs.Outlets.{Taken, untaken, fate_of}
use Rattle.ken_drive.specs.Worlds.{IsFatedOutlet}
use Rattle.ken_drive.proofs.memory.MemWorldWorld.TheImpl.Goals as goal

-- a fresh outlet in memory fails only where it was told to
fated : {E : Type 0} (r : Result Taken E) (v : ℕ) (list : List ℕ) → IfOk r (λ o. o ≡ untaken v o.fails) → IfOk r (λ o. (call : ℕ) → Contains o.fails call ↔ Contains list call) → IfOk r (λ o. IsFatedOutlet true v list (Some (fate_of o)))
fated (Ok o) v list none fails = record { may = (ap (λ (t : Taken). t.node) none, fails); none = ap (λ (t : Taken). t.calls) none }
fated (Err e) v list none fails = tt

pub outlet-tells : goal.outlet-tells
outlet-tells g _ _ _ _ c = record {
  took = IfOk-weaker c.result (λ o. o ≡ untaken c.args.node o.fails) _ (λ o none. ap (λ (t : Taken). t.outs) none) c.ensures.untaken;
  faults = IfOk-weaker c.result (λ o. o ≡ untaken c.args.node o.fails) _ (λ o none. ap (λ (t : Taken). t.faults) none) c.ensures.untaken;
  fate = fated c.result c.args.node c.args.fails.now c.ensures.untaken c.ensures.fails;
  kept = λ v. ap (λ w. option_map (λ k. (k.disks, k.luck, k.out)) (slice_index_or w.kept v None)) c.ensures.kept;
  files = ap (λ w. g.F.Files.filing w.files) c.ensures.kept;
}
