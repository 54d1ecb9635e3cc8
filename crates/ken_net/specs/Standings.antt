-- How a link stands between two puts, and what is passed on at each.
use Rattle.std.specs.Prelude.{◌≡◌, ℕ, ◌-◌, ◌&&◌, nat_le, if◌then◌else◌, Bool, true, List, [], ◌∷◌, ◌++◌, map, slice_index_or, slice_set, Option}
use Rattle.std.specs.Map.{lookup}
use Rattle.std.specs.BTreeMap.{is_at}
use Rattle.std.specs.Ordering.{nat_cmp}
use Rattle.ken_packet.specs.Reading.{packet_of}
use Rattle.ken_net.specs.declared.act.Act.{Act}
use Rattle.ken_net.specs.declared.link.Kept.{Kept}
use Rattle.ken_net.specs.Acts.{copies, held}
use Rattle.ken_net.specs.Counts.{risen}
use Rattle.ken_net.specs.Puts.{Put, is_between, alone}

-- the link from a node to another
pub record Standing : Type 0 where
  -- the number and the act of each put that has one, numbers rising
  pub acts : List (ℕ × Act)
  -- how many puts there were
  pub puts : ℕ
  -- what is kept, in the order of the puts: how many more puts each waits for, and its bytes
  pub kept : List Kept

abbrev pub no_link : Standing
no_link = record { acts = []; puts = 0; kept = [] }

-- the act of put number n
abbrev pub act_at : ℕ → Standing → Option Act
act_at n s = lookup (is_at (nat_cmp n)) s.acts

-- the act of the next put
abbrev pub next_act : Standing → Option Act
next_act s = act_at (risen s.puts) s

-- what comes due at a put, and what then is still kept
abbrev pub due : List Kept → List (List ℕ)
due [] = []
due (k ∷ ks) = if nat_le k.wait 1 then k.bytes ∷ due ks else due ks

abbrev pub still : List Kept → List Kept
still [] = []
still (k ∷ ks) = if nat_le k.wait 1 then still ks else record k { wait = k.wait - 1 } ∷ still ks

-- a put counts, and its packet may be kept
abbrev pub admitted : List ℕ → Standing → Standing
admitted bytes s = record s { puts = risen s.puts; kept = s.kept ++ held (next_act s) bytes }

-- the link after a put
abbrev pub after_put : Put → Standing → Standing
after_put p s = record s { puts = risen s.puts; kept = still (s.kept ++ held (next_act s) p.bytes) }

-- what is passed on at a put: first by its act, then what comes due, which hands in no more than its own packet
abbrev pub passed : Put → Standing → List Put
passed p s = map (λ (bytes : List ℕ). record p { bytes = bytes }) (copies (next_act s) p.bytes) ++ map (alone p.to) (due (s.kept ++ held (next_act s) p.bytes))

-- whether each packet that is kept is one from that node to that one
abbrev pub are_between : ℕ → ℕ → List Kept → Bool
are_between from to [] = true
are_between from to (k ∷ ks) = is_between from to (packet_of k.bytes) && are_between from to ks

-- the links of one kind from a node, by the node that they go to
pub record Leaving : Type 0 where
  pub from : ℕ
  pub links : List Standing

-- the link to a node; past them one of which nothing was put
abbrev pub link_to : ℕ → List Standing → Standing
link_to v links = slice_index_or links v no_link

-- the links after puts, and what is passed on at them, in order
abbrev pub after_puts : List Put → List Standing → List Standing
after_puts [] links = links
after_puts (p ∷ ps) links = after_puts ps (slice_set links p.to (after_put p (link_to p.to links)))

abbrev pub all_passed : List Put → List Standing → List Put
all_passed [] links = []
all_passed (p ∷ ps) links = passed p (link_to p.to links) ++ all_passed ps (slice_set links p.to (after_put p (link_to p.to links)))

-- each packet that is kept is one from the node, for the node that its link goes to
abbrev pub KeepsOwn : Leaving → Type 0
KeepsOwn l = (v : ℕ) → are_between l.from v (link_to v l.links).kept ≡ true

-- what puts made of the links, and what was passed on meanwhile
pub record PutOn {S : Type 0} (passed_between : S → S → List Put → Type 0) (old new : Leaving) (before after : S) (puts : List Put) : Type 0 where
  pub links_are : new ≡ record old { links = after_puts puts old.links }
  pub passed_on : passed_between before after (all_passed puts old.links)
