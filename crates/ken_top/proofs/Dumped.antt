-- What a node's files are said to recover to, and what is said where they aren't recovered.
use Rattle.std.proofs.Common.{◌≡◌, ◌≢◌, inl, inr, ℕ, ◌≤◌, List, [], Ok, Err, refl, sym, subst}
use Rattle.std.proofs.KnownBytes.{Appends-nil}
use Rattle.ken_io.specs.declared.sinks.Sink as sink
use Rattle.ken_io.specs.Causes.{Rose}
use Rattle.ken_files.specs.Filing.{FileViews, Filing}
use Rattle.ken_store.specs.declared.owner.Owner.{Owner}
use Rattle.ken_dump.specs.declared.faults.DumpFault.{DumpFault}
use Rattle.ken_dump.specs.declared.faults.DumpFault.TheVariants as dumping
use Rattle.ken_dump.specs.Dumped.{Dumps}
use Rattle.ken_top.specs.declared.status.Status.{Status}
use Rattle.ken_top.specs.declared.status.Status.TheVariants as status
use Rattle.ken_top.specs.Does.{TellsNode}
use Rattle.ken_top.specs.Dumped.{DumpsNode, WroteDump}
use Rattle.ken_top.specs.Headline.{IsTextOut}
use Rattle.ken_top.specs.Statuses.{of_dumping}
use Rattle.ken_top.proofs.Written.{ends-refused, ends-text}

fault-not-write : (v : ℕ) (fault : DumpFault) → of_dumping v fault ≢ status.Write
fault-not-write v (dumping.Open disk) is = absurd (cc)
fault-not-write v (dumping.Device disk) is = absurd (cc)
fault-not-write v (dumping.Damaged disk place) is = absurd (cc)
fault-not-write v dumping.Memory is = absurd (cc)

module _ {K F : Type 0} (k : sink.Ghosts K) (files : FileViews F) (o : Owner) (prefix : List ℕ) (old new : Filing F) where
  -- what is said of the text that is out, or a front of it
  told : (to to2 : K) (text : List ℕ) (result : Status) → Dumps files o prefix old new (Ok text) → IsTextOut text status.Dumped (k.took to) (k.took to2) result → DumpsNode files o prefix old new (k.took to) (k.took to2) result
  told to to2 text result dumps (inl out) =
      subst (DumpsNode files o prefix old new (k.took to) (k.took to2)) (sym out.0)
      (record { written = text; out = out.1; wrote = dumps.text; same = dumps.same; rooms = dumps.rooms })
  told to to2 text result dumps (inr out) =
      subst (DumpsNode files o prefix old new (k.took to) (k.took to2)) (sym out.0)
      (record {
        written = out.1.front;
        out = out.1.out;
        wrote = λ tells. record { whole = text; front = (out.1.rest, sym out.1.parts); is = dumps.text tells };
        same = dumps.same;
        rooms = dumps.rooms;
      })

  -- and of a fault
  faulty : (fault : DumpFault) → Dumps files o prefix old new (Err fault) → WroteDump files o prefix old new [] (of_dumping o.node fault)
  faulty (dumping.Open disk) dumps = (let why = dumps.opening disk refl in (refl, refl, why.0, why.1))
  faulty (dumping.Device disk) dumps = (refl, refl, λ tells. dumps.spoilt tells disk refl)
  faulty (dumping.Damaged disk place) dumps = (refl, refl, λ tells. dumps.damaged tells disk place refl)
  faulty dumping.Memory dumps = refl

  pub tells-node : (to to2 : K) (text : List ℕ) (result : Status) → Dumps files o prefix old new (Ok text) → IsTextOut text status.Dumped (k.took to) (k.took to2) result
      → (result ≡ status.Write → Rose (k.faults to) (k.faults to2)) → (result ≢ status.Write → k.faults to2 ≡ k.faults to) → k.faults to ≤ k.faults to2
      → TellsNode k files o prefix old new to to2 result
  tells-node to to2 text result dumps out write still rises = record {
    dumps = told to to2 text result dumps out;
    ends = ends-text k text status.Dumped (λ quiet. quiet) to to2 result out write still rises;
  }

  pub tells-fault : (to : K) (fault : DumpFault) → Dumps files o prefix old new (Err fault) → TellsNode k files o prefix old new to to (of_dumping o.node fault)
  tells-fault to fault dumps = record {
    dumps = record { written = []; out = Appends-nil (k.took to); wrote = faulty fault dumps; same = dumps.same; rooms = dumps.rooms };
    ends = ends-refused k to (of_dumping o.node fault) (fault-not-write o.node fault);
  }
