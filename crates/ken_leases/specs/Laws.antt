-- What holds of leases, as runs play them: within the limits of a turn.
use Rattle.std.specs.Prelude.{◌≡◌, ℕ, ◌≤◌, max, List, [], ◌∷◌, Bool, false, ◌==◌, ◌&&◌, if◌then◌else◌, bytes_eq, Option, Some, None}
use Rattle.std.specs.List.{AllByRecursion}
use Rattle.ken_model.specs.declared.messages.Step.{Step}
use Rattle.ken_model.specs.Game.{Game}
use Rattle.ken_model.specs.Network.{Network, Turn, start, turn_of, stepped}
use Rattle.ken_app.specs.Limited.{limited}
use Rattle.ken_leases.specs.declared.blocks.Lease.{Lease}
use Rattle.ken_leases.specs.declared.commands.Action.{Action}
use Rattle.ken_leases.specs.declared.commands.Action.TheVariants.{Release}
use Rattle.ken_leases.specs.Leases.{command_of, lease_of, leases}

abbrev pub releases : List ℕ → Option (List ℕ × Action) → Bool
releases name (Some (other, Release)) = bytes_eq other name
releases name _ = false

-- in a turn a node gives a name back
abbrev pub gives_back : List ℕ → Option Turn → ℕ → Bool
gives_back name None node = false
gives_back name (Some t) node = t.message.from == node && releases name (command_of t.message.bytes)

-- terms, the latest first, once a turn has left that lease. A lease of another holder or with another beginning is a new term,
-- and else it is the latest one, which only its holder cuts, by giving the name back
abbrev pub with_term : (ℕ → Bool) → Option Lease → List Lease → List Lease
with_term cuts None terms = terms
with_term cuts (Some now) [] = now ∷ []
with_term cuts (Some now) (latest ∷ earlier) = if now.holder == latest.holder && (now.from == latest.from) then (if cuts latest.holder then now else record now { until = max latest.until now.until }) ∷ earlier else now ∷ latest ∷ earlier

-- terms at node v, and those that the steps of a schedule add to them
unfoldable pub terms_from : Game → ℕ → List ℕ → Network → List Lease → List Step → List Lease
terms_from g v name w terms [] = terms
terms_from g v name w terms (s ∷ ss) = terms_from g v name (stepped g w s) (with_term (gives_back name (turn_of g w s)) (lease_of name ((stepped g w s).place v).value.blocks) terms) ss

-- the terms for which node v has granted a name in a schedule: to whom, from when and until when
abbrev pub terms : Game → ℕ → List ℕ → List Step → List Lease
terms g v name schedule = terms_from g v name (start g) [] schedule

-- terms, the latest first, that don't overlap: each ends no earlier than it begins, and begins no earlier than all before end
abbrev pub AreApart : List Lease → Type 0
AreApart [] = Unit {0}
AreApart (term ∷ earlier) = (term.from ≤ term.until) × AllByRecursion (λ (e : Lease). e.until ≤ term.from) earlier × AreApart earlier

-- over any schedule, and whatever the clocks answer, the terms of a name at a node don't overlap
abbrev pub LeasesNeverOverlap : Type 0
LeasesNeverOverlap = (g : Game) (schedule : List Step) → g.handler ≡ limited leases → (v : ℕ) (name : List ℕ) → AreApart (terms g v name schedule)
