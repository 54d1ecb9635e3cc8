-- Which parts and items have a spelling.
use Rattle.std.specs.Prelude.{◌≡◌, ℕ, ◌+◌, ◌*◌, ◌≤◌, ◌<◌, ◌^◌, ◌⊎◌, List, [], ◌∷◌, length, Bool, true, ◌&&◌, nat_lt, nat_le, IsTrue}
use Rattle.std.specs.List.{AllByRecursion}
use Rattle.ken_model.specs.declared.messages.Out.{Out}
use Rattle.ken_record.specs.declared.due.Due.{Due}
use Rattle.ken_record.specs.declared.sent.Sent.{Sent}
use Rattle.ken_record.specs.declared.page.Page.{Page}
use Rattle.ken_record.specs.declared.header.Header.{Header}
use Rattle.ken_record.specs.declared.base.Base.{Base}
use Rattle.ken_record.specs.declared.record.Record.{Record}
use Rattle.ken_record.specs.Versions.{Version, One, senders}

-- turns, stamps and messages are numbered from 1
abbrev pub IsCount : ℕ → Type 0
IsCount n = (1 ≤ n) × (n < 2 ^ 64)

-- any number of eight bytes
abbrev pub IsWord : ℕ → Type 0
IsWord n = n < 2 ^ 64

abbrev pub IsText : List ℕ → Type 0
IsText bytes = length bytes ≤ 512

-- a text whose length its two bytes hold
abbrev pub FitsText : List ℕ → Type 0
FitsText bytes = length bytes < 2 ^ 16

pub record IsSent (s : Sent) : Type 0 where
  pub to : s.to < 8
  pub number : IsCount s.number
  pub bytes : IsText s.bytes

pub record IsDue (m : Due) : Type 0 where
  pub to : m.to < 2 ^ 8
  pub number : IsWord m.number
  pub stamp : IsWord m.stamp
  pub bytes : IsText m.bytes

pub record IsOut (o : Out) : Type 0 where
  pub number : IsWord o.number
  pub text : IsText o.text

-- a message and an output whose fields hold them
pub record FitsDue (m : Due) : Type 0 where
  pub to : m.to < 2 ^ 8
  pub number : IsWord m.number
  pub stamp : IsWord m.stamp
  pub bytes : FitsText m.bytes

pub record FitsOut (o : Out) : Type 0 where
  pub number : IsWord o.number
  pub text : FitsText o.text

pub record IsPage (p : Page) : Type 0 where
  pub page : p.page < 2 ^ 32
  pub bytes : length p.bytes ≡ 256

-- a list of at most so many items of a kind
abbrev pub AtMost : {A : Type 0} → ℕ → (A → Type 0) → List A → Type 0
AtMost most Is items = (length items ≤ most) × AllByRecursion Is items

-- a list of just so many
abbrev pub Exactly : {A : Type 0} → ℕ → (A → Type 0) → List A → Type 0
Exactly count Is items = AllByRecursion Is items × (length items ≡ count)

-- whether the ranks of the items rise strictly, the first from low on
abbrev pub rise_from : {A : Type 0} → (A → ℕ) → ℕ → List A → Bool
rise_from rank low [] = true
rise_from rank low (x ∷ xs) = nat_le low (rank x) && rise_from rank (rank x + 1) xs

abbrev pub page_rank : Page → ℕ
page_rank p = p.page

abbrev pub out_rank : Out → ℕ
out_rank o = o.number

-- by the node that it goes to, then by its number
abbrev pub due_rank : Due → ℕ
due_rank m = m.to * 2 ^ 64 + m.number

-- whether each output is numbered from 1
abbrev pub are_numbered : List Out → Bool
are_numbered [] = true
are_numbered (o ∷ os) = nat_lt 0 o.number && are_numbered os

-- whether no output has more than 512 bytes
abbrev pub are_short : List Out → Bool
are_short [] = true
are_short (o ∷ os) = nat_le (length o.text) 512 && are_short os

-- what is in the lists of a record
abbrev pub HasLists : Version → Record → Type 0
HasLists One r = AtMost 16 IsWord r.draws × AtMost 16 IsSent r.sends × AtMost 16 IsOut r.outs × AtMost 4096 IsPage r.pages

pub record IsRecord (v : Version) (r : Record) : Type 0 where
  pub turn : IsCount r.turn
  pub stamp : IsCount r.stamp
  pub from : (r.from < 8) ⊎ (r.from ≡ 255)
  pub number : IsCount r.number
  pub lists : HasLists v r
  pub numbered : IsTrue (are_numbered r.outs)
  pub rising : IsTrue (rise_from page_rank 0 r.pages)

-- what a base tells of each sender and each node, whether of the run or not
abbrev pub HasCounts : Version → Base → Type 0
HasCounts v b = Exactly (senders v) IsWord b.consumed × Exactly 8 IsWord b.sent

-- what is in the lists of a base: whatever its fields hold
abbrev pub HasKept : Base → Type 0
HasKept b = AtMost 0xffff_ffff FitsDue b.messages × AtMost 0xffff_ffff FitsOut b.outs × AtMost 0xffff IsPage b.pages

-- whether its messages, outputs and pages rise
abbrev pub base_rises : Base → Bool
base_rises b = rise_from due_rank 0 b.messages && rise_from out_rank 0 b.outs && rise_from page_rank 0 b.pages

pub record IsBase (v : Version) (b : Base) : Type 0 where
  pub stamp : IsWord b.stamp
  pub outputs : IsWord b.outputs
  pub counts : HasCounts v b
  pub kept : HasKept b
  pub rising : IsTrue (base_rises b)

-- the first log of a node follows no turns and has no base
pub record IsHeader (h : Header) : Type 0 where
  pub node : h.node < 2 ^ 8
  pub nodes : h.nodes < 2 ^ 8
  pub pages : h.pages < 2 ^ 32
  pub generation : (1 ≤ h.generation) × (h.generation < 2 ^ 32)
  pub turns : h.turns < 2 ^ 64
  pub base_len : h.base_len < 2 ^ 32
  pub first : h.generation ≡ 1 → (h.turns ≡ 0) × (h.base_len ≡ 0)
