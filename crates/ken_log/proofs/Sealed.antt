-- A log after a seal.
use Rattle.std.proofs.Common.{◌≡◌, ℕ, ◌+◌, ◌≤◌, false, List, [], ◌∷◌, ◌++◌, length, drop, refl, sym, ap, subst, ◌∙◌, append_assoc, arith, length-append, inl, inr, ◌⊎◌, ⊎_elim, Option, Result, Ok, Err}
use Rattle.std.specs.List.{flat_map, AllByRecursion}
use Rattle.std.proofs.lemmas.List.{append-nil}
use Rattle.std.proofs.lemmas.List.Concat.{flat_map-cons, flat_map-append}
use Rattle.ken_disk.specs.declared.faults.DiskFault.{DiskFault}
use Rattle.ken_disk.specs.declared.faults.DiskFault.TheVariants.{Memory}
use Rattle.ken_disk.specs.Story.{Story, IsAtRest, Follows}
use Rattle.ken_disk.specs.Writes.{after_writes, Made}
use Rattle.ken_disk.proofs.Made.{rests-made_none, rests-after_some}
use Rattle.ken_disk.proofs.Told.{weakened, tells_after}
use Rattle.ken_record.specs.declared.header.Header.{Header}
use Rattle.ken_record.specs.declared.base.Base.{Base}
use Rattle.ken_record.specs.declared.record.Record.{Record}
use Rattle.ken_record.specs.Versions.{Version, version_of}
use Rattle.ken_record.specs.Spelling.{record_bytes}
use Rattle.ken_record.specs.Grammar.{IsRecord}
use Rattle.ken_log.specs.declared.log.Log.{Log}
use Rattle.ken_log.specs.Calls.{gate_writes, seal_writes}
use Rattle.ken_log.specs.Mounts.{Mounted, Whole, mount_of, with_record}
use Rattle.ken_log.specs.Layout.{opened, head_bytes, log_bytes, IsHead, IsLogOf}
use Rattle.ken_log.specs.Seals.{Changes, as_seal}
use Rattle.ken_log.specs.Opening.{IsClosedBehind, IsGateOf}
use Rattle.ken_log.specs.Settled.{Holds, IsSettled}
use Rattle.ken_log.proofs.LogMounts.{log_mounts}
use Rattle.ken_log.proofs.Openings.{gate_over, still_closed, opening_changes}

pub all_and : {X : Type 0} (P : X → Type 0) (xs : List X) (y : X) → AllByRecursion P xs → P y → AllByRecursion P (xs ++ y ∷ [])
all_and P [] y all last = (last, tt)
all_and P (x ∷ xs) y all last = (all.0, all_and P xs y all.1 last)

pub log_grown : (head : Header) (base : Option Base) (items : List Record) (r : Record) → log_bytes head base (items ++ r ∷ []) ≡ log_bytes head base items ++ opened (version_of head) r
log_grown head base items r =
    let v = version_of head in
    let last : flat_map (opened v) (r ∷ []) ≡ opened v r = flat_map-cons (opened v) r [] ∙ append-nil (opened v r) in
    let more : flat_map (opened v) (items ++ r ∷ []) ≡ flat_map (opened v) items ++ opened v r = flat_map-append (opened v) items (r ∷ []) ∙ ap (λ (l : List ℕ). flat_map (opened v) items ++ l) last in
    ap (λ (l : List ℕ). (165 ∷ head_bytes head base) ++ l) more ∙ sym (append_assoc (165 ∷ head_bytes head base) (flat_map (opened v) items) (opened v r))

module _ (head : Header) (base : Option Base) (items : List Record) (r : Record) (end : ℕ) (header : IsHead head base) (fits : AllByRecursion (IsRecord (version_of head)) items) (fit : IsRecord (version_of head) r) (place : length (log_bytes head base items) ≡ end) where
  abbrev body : List ℕ
  body = record_bytes (version_of head) r ++ 0 ∷ []

  -- with a closed gate the log is as before, and with an open one the record is in it
  closed_lies : (gate : ℕ) (free : List ℕ) → (gate ≡ 165 → ⊥) → IsLogOf (log_bytes head base items ++ gate ∷ free) head base items end
  closed_lies gate free closed = record { gate = gate; free = free; parts = refl; closed = closed; header = header; items = fits; place = place }

  opened_lies : (free : List ℕ) → IsLogOf (log_bytes head base items ++ 165 ∷ (body ++ free)) head base (items ++ r ∷ []) (end + (1 + length (record_bytes (version_of head) r)))
  opened_lies free =
      let inner : body ++ free ≡ record_bytes (version_of head) r ++ 0 ∷ free = append_assoc (record_bytes (version_of head) r) (0 ∷ []) free in
      let grown : log_bytes head base (items ++ r ∷ []) ++ 0 ∷ free ≡ log_bytes head base items ++ 165 ∷ (record_bytes (version_of head) r ++ 0 ∷ free) = ap (λ (l : List ℕ). l ++ 0 ∷ free) (log_grown head base items r) ∙ append_assoc (log_bytes head base items) (opened (version_of head) r) (0 ∷ free) in
      record {
        gate = 0;
        free = free;
        parts = ap (λ (l : List ℕ). log_bytes head base items ++ 165 ∷ l) inner ∙ sym grown;
        closed = λ e. absurd (let no : ⊥ = omega (arith, e) in no);
        header = header;
        items = all_and (IsRecord (version_of head)) items r fits fit;
        place = omega (arith, ap length (log_grown head base items r), length-append (log_bytes head base items) (opened (version_of head) r), place);
      }

  record_gate : IsGateOf (log_bytes head base items) body (Whole head base items) (Whole head base (items ++ r ∷ []))
  record_gate = record {
    closed = λ gate free closed. log_mounts _ head base items end (closed_lies gate free closed);
    opened = λ free. log_mounts _ head base (items ++ r ∷ []) (end + (1 + length (record_bytes (version_of head) r))) (opened_lies free);
  }

-- the fronts of two writes
two_fronts : (a b : ℕ × List ℕ) (done : List (ℕ × List ℕ)) (next : ℕ × List ℕ) (left : List (ℕ × List ℕ)) → a ∷ b ∷ [] ≡ done ++ next ∷ left → (done ≡ []) ⊎ (done ≡ a ∷ [])
two_fronts a b [] next left e = inl refl
two_fronts a b (d ∷ []) next left e = let same : a ≡ d = cc e in inr (ap (λ (x : ℕ × List ℕ). x ∷ []) (sym same))
two_fronts a b (d ∷ c ∷ done) next left e = absurd (omega (arith, ap length e, length-append done (next ∷ left)))

-- after Memory the gate stands closed
memory_closed : (T : Type 0) (front body : List ℕ) (at : ℕ) (h new : Story) → length front ≡ at → IsClosedBehind front h.now.seen → Made {T = T} (Err Memory) (gate_writes at body) h new → IsClosedBehind front new.now.seen
memory_closed T front body at h new place is made =
    let f = made.0 in
    subst (λ (s : Story). IsClosedBehind front s.now.seen) (sym made.1) (⊎_elim
    (λ e. subst (λ (l : List (ℕ × List ℕ)). IsClosedBehind front (after_writes l h).now.seen) (sym e) is)
    (λ e. subst (λ (l : List (ℕ × List ℕ)). IsClosedBehind front (after_writes l h).now.seen) (sym e) (still_closed front body h.now.seen at place is))
    (two_fronts (at + 1, body) (at, 165 ∷ []) f.done f.next f.left f.parts))

-- what was written is the record with the next gate
pub seal_calls : (v : Version) (end : ℕ) (r : Record) (bytes : List ℕ) → bytes ≡ record_bytes v r ++ 0 ∷ [] → {T : Type 0} (q : Result T DiskFault) (old new : Option Story) → Follows (Made q (gate_writes end bytes)) old new → Follows (Made q (seal_writes v end r)) old new
seal_calls v end r bytes spells q old new made = subst (λ (b : List ℕ). Follows (Made q (gate_writes end b)) old new) spells made

module _ {D : Type 0} (told : D → Option Story) (size : D → ℕ) (log : Log D) (r : Record) (bytes : List ℕ) (settled : IsSettled told size log) (fit : IsRecord (version_of log.header) r) (spells : bytes ≡ record_bytes (version_of log.header) r ++ 0 ∷ []) where
  module _ (h : Story) (k : Holds log h.now.seen) where
    abbrev behind_log : IsClosedBehind (log_bytes log.header log.base k.items) h.now.seen
    behind_log = record { gate = k.lies.gate; free = k.lies.free; parts = k.lies.parts; closed = k.lies.closed }

    gate_is : IsGateOf (log_bytes log.header log.base k.items) bytes (Whole log.header log.base k.items) (Whole log.header log.base (k.items ++ r ∷ []))
    gate_is =
        subst (λ (b : List ℕ). IsGateOf (log_bytes log.header log.base k.items) b (Whole log.header log.base k.items) (Whole log.header log.base (k.items ++ r ∷ []))) (sym spells) (record_gate log.header log.base k.items r log.end k.lies.header k.lies.items fit k.lies.place)

  pub seal_changes : {T : Type 0} (q : Result T DiskFault) (new : Option Story) → Follows (Made q (gate_writes log.end bytes)) (told log.disk) new → Follows (λ h s. Changes (mount_of h.now.seen) (with_record r (mount_of h.now.seen)) 2 (as_seal q) h s) (told log.disk) new
  seal_changes q new made =
      weakened (Made q (gate_writes log.end bytes)) (λ h s. Changes (mount_of h.now.seen) (with_record r (mount_of h.now.seen)) 2 (as_seal q) h s) (told log.disk) new made (λ h s is m.
      let k = settled.holds h is in
      subst (λ (w : Mounted). Changes w (with_record r w) 2 (as_seal q) h s) (sym (log_mounts h.now.seen log.header log.base k.items log.end k.lies))
      (opening_changes (log_bytes log.header log.base k.items) bytes log.end (Whole log.header log.base k.items) (Whole log.header log.base (k.items ++ r ∷ [])) h s k.lies.place (settled.rests h is) (behind_log h k) (gate_is h k) q m))

  -- after Memory
  pub seal_goes_on : (T : Type 0) (new : Log D) → Follows (Made {T = T} (Err Memory) (gate_writes log.end bytes)) (told log.disk) (told new.disk) → new.header ≡ log.header → new.base ≡ log.base → new.spent ≡ false → new.records ≡ log.records → new.end ≡ log.end → log.end + 1 ≤ size new.disk → IsSettled told size new
  seal_goes_on T new made header base sound records end room = record {
    sound = sound;
    header = rw (header, base) settled.header;
    few = omega (arith, settled.few, records, end);
    room = omega (arith, room, end);
    rests = tells_after (Made {T = T} (Err Memory) (gate_writes log.end bytes)) (λ h. IsAtRest h.now) (told log.disk) (told new.disk) made (λ h s is m. rests-made_none T (gate_writes log.end bytes) h s m (settled.rests h is));
    holds = tells_after (Made {T = T} (Err Memory) (gate_writes log.end bytes)) (λ h. Holds new h.now.seen) (told log.disk) (told new.disk) made (λ h s is m.
        let k = settled.holds h is in
        let shut = memory_closed T (log_bytes log.header log.base k.items) bytes log.end h s k.lies.place (behind_log h k) m in
        let lies : IsLogOf s.now.seen log.header log.base k.items log.end = record { gate = shut.gate; free = shut.free; parts = shut.parts; closed = shut.closed; header = k.lies.header; items = k.lies.items; place = k.lies.place } in
        let held : Holds new s.now.seen = record { items = k.items; lies = rw (header, base, end) lies; count = records ∙ k.count } in
        held);
  }

  -- after Ok
  pub seal_settled : {T : Type 0} (x : T) (new : Log D) → Follows (Made (Ok x) (gate_writes log.end bytes)) (told log.disk) (told new.disk) → new.header ≡ log.header → new.base ≡ log.base → new.spent ≡ false → new.records ≡ log.records + 1 → new.end ≡ log.end + (1 + length (record_bytes (version_of log.header) r)) → log.end + (1 + length bytes) ≤ size new.disk → IsSettled told size new
  seal_settled x new made header base sound records end room = record {
    sound = sound;
    header = rw (header, base) settled.header;
    few = omega (arith, settled.few, records, end);
    room = omega (arith, room, end, ap length spells, length-append (record_bytes (version_of log.header) r) (0 ∷ []));
    rests = tells_after (Made (Ok x) (gate_writes log.end bytes)) (λ h. IsAtRest h.now) (told log.disk) (told new.disk) made (λ h s is m. subst (λ (t : Story). IsAtRest t.now) (sym m) (rests-after_some (log.end + 1, bytes) ((log.end, 165 ∷ []) ∷ []) h));
    holds = tells_after (Made (Ok x) (gate_writes log.end bytes)) (λ h. Holds new h.now.seen) (told log.disk) (told new.disk) made (λ h s is m.
        let k = settled.holds h is in
        let l = k.lies in
        let free = drop (length bytes) l.free in
        let seen : s.now.seen ≡ log_bytes log.header log.base k.items ++ 165 ∷ (bytes ++ free) = ap (λ (t : Story). t.now.seen) m ∙ gate_over (log_bytes log.header log.base k.items) bytes h.now.seen log.end l.place (behind_log h k) in
        let parts : s.now.seen ≡ log_bytes log.header log.base k.items ++ 165 ∷ ((record_bytes (version_of log.header) r ++ 0 ∷ []) ++ free) = seen ∙ ap (λ (b : List ℕ). log_bytes log.header log.base k.items ++ 165 ∷ (b ++ free)) spells in
        let at : IsLogOf (log_bytes log.header log.base k.items ++ 165 ∷ ((record_bytes (version_of log.header) r ++ 0 ∷ []) ++ free)) log.header log.base (k.items ++ r ∷ []) (log.end + (1 + length (record_bytes (version_of log.header) r))) = opened_lies log.header log.base k.items r log.end l.header l.items fit l.place free in
        let lies : IsLogOf s.now.seen log.header log.base (k.items ++ r ∷ []) (log.end + (1 + length (record_bytes (version_of log.header) r))) = subst (λ (b : List ℕ). IsLogOf b log.header log.base (k.items ++ r ∷ []) (log.end + (1 + length (record_bytes (version_of log.header) r)))) (sym parts) at in
        let held : Holds new s.now.seen = record { items = k.items ++ r ∷ []; lies = rw (header, base, end) lies; count = omega (arith, records, k.count, length-append k.items (r ∷ [])) } in
        held);
  }
