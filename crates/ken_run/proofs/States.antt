-- How many past states the stories of images have more after calls of a run.
use Rattle.std.proofs.Common.{◌≡◌, ◌∙◌, ℕ, ◌+◌, ◌<◌, ◌≤◌, inl, inr, [], ◌∷◌, length, length-append, slice_index_or, List, Option, Some, None, refl, sym, ap, subst, arith}
use Rattle.ken_disk.proofs.Told.{by_none, one_by_one, weakened}
use Rattle.ken_disk.specs.Story.{Story, Follows}
use Rattle.ken_model.specs.declared.messages.Out.{Out}
use Rattle.ken_model.specs.Handler.{Handler}
use Rattle.ken_node.specs.declared.watched.Watched.{Watched}
use Rattle.ken_node.specs.Stages.{image_told, turns_in}
use Rattle.ken_run.specs.declared.run.Run.{Run}
use Rattle.ken_run.specs.declared.station.Station.{Station}
use Rattle.ken_run.specs.Drained.{HasDrained, PassesOn, none, then}
use Rattle.ken_run.specs.Patched.{AddsStates, AllAdd, AllVisited, SyncsOn, WasVisited}

-- a story has so many past states more, or more than that
abbrev Adds : ℕ → Story → Story → Type 0
Adds many a b = length a.past + many ≤ length b.past

states-then : (m n : ℕ) (o o2 o3 : Option Story) → Follows (Adds m) o o2 → Follows (Adds n) o2 o3 → Follows (Adds (m + n)) o o3
states-then m n o o2 o3 one two = one_by_one (Adds m) (Adds n) (Adds (m + n)) o o2 o3 one two (λ a b c was first second. omega (arith, first, second))

module _ {D O U : Type 0} (told : Watched D → Option Story) where
  -- ---- of one node

  pub adds-none : (s : Station D O U) → AddsStates told 0 s s
  adds-none s = record {
    lines = omega arith;
    states = λ same. by_none (Adds 0) (image_told told s.node.stage) (image_told told s.node.stage) refl (λ a. omega arith);
  }

  pub adds-then : (m n : ℕ) (a b c : Station D O U) → AddsStates told m a b → AddsStates told n b c → AddsStates told (m + n) a c
  adds-then m n a b c one two =
      let low = one.lines in
      let high = two.lines in
      record {
        lines = omega (arith, low, high);
        states = λ same.
            let none_first : length b.lines.items ≡ length a.lines.items = omega (arith, low, high, same) in
            let none_then : length c.lines.items ≡ length b.lines.items = omega (arith, low, high, same) in
            states-then m n (image_told told a.node.stage) (image_told told b.node.stage) (image_told told c.node.stage) (one.states none_first) (two.states none_then);
      }

  -- a visit: a restart adds a line, and all else ends with a sync of the image
  visited-adds : (a b : Station D O U) → WasVisited told a b → AddsStates told 0 a b
  visited-adds a b (inl again) =
      let count : length b.lines.items ≡ length a.lines.items + 1 = ap length again.line ∙ length-append a.lines.items (length (turns_in b.node.stage) ∷ []) in
      record { lines = omega (arith, count); states = λ same. absurd (omega (arith, count, same)) }
  visited-adds a b (inr done) =
      let count : length b.lines.items ≡ length a.lines.items = ap length done.0.lines in
      record {
        lines = omega (arith, count);
        states = λ same. weakened SyncsOn (Adds 0) (image_told told a.node.stage) (image_told told b.node.stage) done.1.synced (λ x y was on. let past = on.2 in omega (arith, past));
      }

  -- ---- of all

  module _ {A : Type 0} where
    pub all-add-none : (r : Run D O U A) → AllAdd told 0 r r
    all-add-none r = record { width = refl; each = λ v d low. adds-none (slice_index_or r.stations.items v d) }

    pub all-add-then : (m n : ℕ) (old mid new : Run D O U A) → AllAdd told m old mid → AllAdd told n mid new → AllAdd told (m + n) old new
    all-add-then m n old mid new one two = record {
      width = two.width ∙ one.width;
      each = λ v d low.
          adds-then m n (slice_index_or old.stations.items v d) (slice_index_or mid.stations.items v d) (slice_index_or new.stations.items v d)
          (one.each v d low) (two.each v d (subst (λ (k : ℕ). v < k) (sym one.width) low));
    }

    pub all-visited-add : (old new : Run D O U A) → AllVisited told old new → AllAdd told 0 old new
    all-visited-add old new visited = record {
      width = visited.width;
      each = λ v d low. visited-adds (slice_index_or old.stations.items v d) (slice_index_or new.stations.items v d) (visited.each v d low);
    }

    module _ (size : Watched D → ℕ) (took : U → Option (List Out)) (handles : A → Handler) where
      passes-add : (old new : Run D O U A) → PassesOn told size took handles old new → AllAdd told 0 old new
      passes-add old new none = all-add-none old
      passes-add old new (then {mid = last} {new = end} passes visited goes_on) = all-add-then 0 0 old last end (passes-add old last passes) (all-visited-add last end visited)

      -- a drain takes none away
      pub drained-adds : (old new : Run D O U A) → HasDrained told size took handles old new → AllAdd told 0 old new
      drained-adds old new drained = all-add-then 0 0 old drained.mid new (passes-add old drained.mid drained.before) (all-visited-add drained.mid new drained.last)
