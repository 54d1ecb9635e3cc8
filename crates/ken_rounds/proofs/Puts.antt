-- What a node handed in for another in a round was put before, or its run put it.
use Rattle.std.proofs.Common.{◌≡◌, ◌∙◌, ℕ, ◌<◌, ◌==◌, ◌⊎◌, Bool, true, false, cond, nat_lt, if◌then◌else◌, List, [], ◌∷◌, ◌++◌, Option, Some, None, All, Contains, inl, inr, ⊎_elim, refl, sym, ap, subst, arith}
use Rattle.std.proofs.lemmas.Bool.{eqb-true, lt-ltb}
use Rattle.std.proofs.lemmas.List.Elements.{All-contains, All-head, Contains-append_cases}
use Rattle.ken_model.specs.declared.messages.Message.{Message}
use Rattle.ken_model.specs.Game.{Game}
use Rattle.ken_packet.specs.declared.packet.Packet.{Packet as Spelled}
use Rattle.ken_packet.specs.declared.packet.Packet.TheVariants.{Mail as SpelledMail, Ack}
use Rattle.ken_packet.specs.Reading.{packet_of}
use Rattle.ken_net.specs.declared.link.Kept.{Kept}
use Rattle.ken_net.specs.Origins.{ComesFrom, WasThere}
use Rattle.ken_net.specs.Puts.{is_between, own_consumed, own_sealed, Put}
use Rattle.ken_net.specs.Standings.{all_passed, are_between, KeepsOwn, Leaving, link_to}
use Rattle.ken_net.proofs.Both.{parts}
use Rattle.ken_net.proofs.Origins.{comes_from, in_front}
use Rattle.ken_core.specs.Clusters.{Cluster, WasPut}
use Rattle.ken_core.specs.Packets.{Answer, Mail, Outgoing, Packet}
use Rattle.ken_core.specs.Packets as core
use Rattle.ken_core.specs.Runs.{IsPut}
use Rattle.ken_ship.specs.Laws.{packet_from}
use Rattle.ken_node.specs.NodeCalls.{AreSpelled, IsSpelled}
use Rattle.ken_node.proofs.Again.{none-in, one-in}
use Rattle.ken_flow.specs.Flows.{IsKnown, KeepKnown}
use Rattle.ken_wire.specs.Nets.{consumed_to, handed_to, sealed_to}
use Rattle.ken_beside.specs.Heard.{StandsForPut}
use Rattle.ken_beside.specs.Puts.{puts_of}
use Rattle.ken_beside.proofs.HandedIn.{at-head, in-tail, puts_hand_in_themselves}

-- ---- lists

-- what was handed in for a node came with a put for it
record CameWith {X : Type 0} (of : Put → List X) (to : ℕ) (ps : List Put) (x : X) : Type 0 where
  put : Put
  one : Contains ps put
  for_it : put.to ≡ to
  has : Contains (of put) x

module _ {X : Type 0} (of : Put → List X) (to : ℕ) where
  later : (p : Put) (ps : List Put) (x : X) → CameWith of to ps x → CameWith of to (p ∷ ps) x
  later p ps x is = record { put = is.put; one = in-tail p ps is.put is.one; for_it = is.for_it; has = is.has }

  one-more : (p : Put) (ps : List Put) (x : X) (b : Bool) → (p.to == to) ≡ b → (Contains (handed_to of to ps) x → CameWith of to ps x) → Contains (if b then of p ++ handed_to of to ps else handed_to of to ps) x → CameWith of to (p ∷ ps) x
  one-more p ps x true is rest inside =
      ⊎_elim
      (λ (here : Contains (of p) x). record { put = p; one = at-head p ps; for_it = eqb-true p.to to is; has = here })
      (λ (there : Contains (handed_to of to ps) x). later p ps x (rest there))
      (Contains-append_cases (of p) (handed_to of to ps) x inside)
  one-more p ps x false is rest inside = later p ps x (rest inside)

  came-with : (ps : List Put) (x : X) → Contains (handed_to of to ps) x → CameWith of to ps x
  came-with [] x there = let low = there.1 in absurd (omega (arith, low))
  came-with (p ∷ ps) x there = one-more p ps x (p.to == to) refl (came-with ps x) there

-- a put that spells one of these
pub record IsSpelledBy (nodes : ℕ) (p : Put) (qs : List core.Put) : Type 0 where
  pub put : core.Put
  pub one : Contains qs put
  pub spells : IsSpelled nodes p put

pub spelled-by : (nodes : ℕ) (ps : List Put) (qs : List core.Put) (p : Put) → AreSpelled nodes ps qs → Contains ps p → IsSpelledBy nodes p qs
spelled-by nodes [] qs p are there = let low = there.1 in absurd (omega (arith, low))
spelled-by nodes (x ∷ ps) [] p are there = absurd are
spelled-by nodes (x ∷ ps) (q ∷ qs) p are there = elim (in_front x ps p there) [
  | inl is ↦ record { put = q; one = at-head q qs; spells = subst (λ (y : Put). IsSpelled nodes y q) is are.0 }
  | inr on ↦ let rest = spelled-by nodes ps qs p are.1 on in record { put = rest.put; one = in-tail q qs rest.put rest.one; spells = rest.spells }
]

-- a packet that is kept on a link of the node is its own
kept-own : (from to : ℕ) (ks : List Kept) (k : Kept) → are_between from to ks ≡ true → Contains ks k → is_between from to (packet_of k.bytes) ≡ true
kept-own from to [] k own there = let low = there.1 in absurd (omega (arith, low))
kept-own from to (x ∷ ks) k own there =
    let both = parts (is_between from to (packet_of x.bytes)) (are_between from to ks) own in
    elim (in_front x ks k there) [
      | inl is ↦ subst (λ (y : Kept). is_between from to (packet_of y.bytes) ≡ true) is both.0
      | inr on ↦ kept-own from to ks k both.1 on
    ]

module _ (g : Game) (w : Cluster) (v : ℕ) (low : v < g.nodes) (out : Outgoing) (by : List core.Put) (among : (packet : Packet) → IsPut packet by → IsPut packet out.puts)
    (links : Leaving) (from : links.from ≡ v) (own : KeepsOwn links) (known : KeepKnown g w links.links) (spelled : AreSpelled g.nodes (puts_of by) by) (to : ℕ) where
  abbrev puts : List Put
  puts = puts_of by

  abbrev passed : List Put
  passed = all_passed puts links.links

  -- ---- a packet that was put, or kept before

  abbrev Stood : Packet → Type 0
  Stood packet = WasPut w packet ⊎ IsPut packet out.puts

  first-of : (xs : List Packet) (x y : Packet) → xs ≡ x ∷ [] → xs ≡ y ∷ [] → y ≡ x
  first-of xs x y one two = sym (one-in x y (subst (λ (ys : List Packet). Contains ys y) (sym two ∙ one) (at-head y [])))

  -- the packet of bytes that a node of the run sent
  known-from : (packet : Packet) (spells : Spelled) (u : ℕ) → u < g.nodes → packet_from g.nodes (Some spells) ≡ cond (nat_lt u g.nodes) (packet ∷ []) [] → packet_from g.nodes (Some spells) ≡ packet ∷ []
  known-from packet spells u below is = is ∙ ap (λ (b : Bool). cond b (packet ∷ []) []) (lt-ltb u g.nodes below)

  put-stood : (p : Put) (packet : Packet) → Contains puts p → packet_from g.nodes (packet_of p.bytes) ≡ packet ∷ [] → Stood packet
  put-stood p packet there is =
      let s = spelled-by g.nodes puts by p spelled there in
      let same : packet ≡ s.put.packet = first-of (packet_from g.nodes (packet_of p.bytes)) s.put.packet packet s.spells.packet is in
      inr (among packet (record { put = s.put; one = s.one; is = sym same }))

  kept-stood : (k : Kept) (u : ℕ) (packet : Packet) → Contains (link_to u links.links).kept k → packet_from g.nodes (packet_of k.bytes) ≡ packet ∷ [] → Stood packet
  kept-stood k u packet there is =
      let was : All (WasPut w) (packet_from g.nodes (packet_of k.bytes)) = All-contains (λ (x : Kept). IsKnown g w x.bytes) (link_to u links.links).kept k (known u) there in
      inl (All-head (WasPut w) packet [] (subst (All (WasPut w)) is was))

  -- whose it is, where it was kept
  kept-from : (k : Kept) (u : ℕ) (spells : Spelled) → Contains (link_to u links.links).kept k → packet_of k.bytes ≡ Some spells → is_between v u (Some spells) ≡ true
  kept-from k u spells there is =
      subst (λ (p : Option Spelled). is_between v u p ≡ true) is
      (subst (λ (x : ℕ). is_between x u (packet_of k.bytes) ≡ true) from (kept-own links.from u (link_to u links.links).kept k (own u) there))

  -- ---- a mail

  mail-from : (m : Message) (u : ℕ) → is_between v u (Some (SpelledMail m)) ≡ true → packet_from g.nodes (Some (SpelledMail m)) ≡ Mail m ∷ []
  mail-from m u is =
      let ends = parts (m.from == v) (m.to == u) is in
      let same : m.from ≡ v = eqb-true m.from v ends.0 in
      known-from (Mail m) (SpelledMail m) m.from (omega (arith, same, low)) refl

  -- what the network passed on of a put has a packet of a node of the run
  mail-spelled : (p : Put) (m : Message) → Contains puts p → packet_of p.bytes ≡ Some (SpelledMail m) → packet_from g.nodes (packet_of p.bytes) ≡ Mail m ∷ []
  mail-spelled p m there is =
      let s = spelled-by g.nodes puts by p spelled there in
      let one : packet_from g.nodes (Some (SpelledMail m)) ≡ s.put.packet ∷ [] = subst (λ (x : Option Spelled). packet_from g.nodes x ≡ s.put.packet ∷ []) is s.spells.packet in
      subst (λ (x : Option Spelled). packet_from g.nodes x ≡ Mail m ∷ []) (sym is) (if-some (nat_lt m.from g.nodes) (Mail m) s.put.packet one)
    where
      if-some : (b : Bool) (x y : Packet) → cond b (x ∷ []) [] ≡ y ∷ [] → cond b (x ∷ []) [] ≡ x ∷ []
      if-some true x y is = refl
      if-some false x y is = absurd (cc)

  ack-spelled : (p : Put) (a b through : ℕ) → Contains puts p → packet_of p.bytes ≡ Some (Ack a b through)
      → packet_from g.nodes (packet_of p.bytes) ≡ Answer (record { from = a; to = b; through = through }) ∷ []
  ack-spelled p a b through there is =
      let s = spelled-by g.nodes puts by p spelled there in
      let one : packet_from g.nodes (Some (Ack a b through)) ≡ s.put.packet ∷ [] = subst (λ (x : Option Spelled). packet_from g.nodes x ≡ s.put.packet ∷ []) is s.spells.packet in
      subst (λ (x : Option Spelled). packet_from g.nodes x ≡ Answer (record { from = a; to = b; through = through }) ∷ []) (sym is)
      (if-some (nat_lt a g.nodes) (Answer (record { from = a; to = b; through = through })) s.put.packet one)
    where
      if-some : (t : Bool) (x y : Packet) → cond t (x ∷ []) [] ≡ y ∷ [] → cond t (x ∷ []) [] ≡ x ∷ []
      if-some true x y is = refl
      if-some false x y is = absurd (cc)

  sealed-is : (o : Option Spelled) (m : Message) → Contains (own_sealed o) m → o ≡ Some (SpelledMail m)
  sealed-is (Some (SpelledMail x)) m there = ap (λ (y : Message). Some (SpelledMail y)) (one-in x m there)
  sealed-is (Some (Ack a b n)) m there = absurd (none-in m there)
  sealed-is None m there = absurd (none-in m there)

  mail-there : (x : Put) (m : Message) → WasThere x.to x.bytes puts links.links → packet_of x.bytes ≡ Some (SpelledMail m) → Stood (Mail m)
  mail-there x m (inl (p, there, at, bytes)) is =
      let same : packet_of p.bytes ≡ Some (SpelledMail m) = ap packet_of bytes ∙ is in
      put-stood p (Mail m) there (mail-spelled p m there same)
  mail-there x m (inr (k, there, bytes)) is =
      let same : packet_of k.bytes ≡ Some (SpelledMail m) = ap packet_of bytes ∙ is in
      kept-stood k x.to (Mail m) there (subst (λ (y : Option Spelled). packet_from g.nodes y ≡ Mail m ∷ []) (sym same) (mail-from m x.to (kept-from k x.to (SpelledMail m) there same)))

  mail-came : (m : Message) (x : Put) → Contains x.sealed m → ComesFrom x puts links.links → Stood (Mail m)
  mail-came m x has (inl put) = inr (among (Mail m) ((puts_hand_in_themselves by).mail x m put has))
  mail-came m x has (inr (itself, was)) =
      mail-there x m was (sealed-is (packet_of x.bytes) m (subst (λ (y : Put). Contains y.sealed m) itself has))

  -- ---- an acknowledgement

  consumed-is : (o : Option Spelled) (through : ℕ) → Contains (own_consumed o) (to, through) → (a : ℕ) × (o ≡ Some (Ack a to through))
  consumed-is (Some (SpelledMail x)) through there = absurd (none-in (to, through) there)
  consumed-is (Some (Ack a b n)) through there =
      let same : (b, n) ≡ (to, through) = one-in (b, n) (to, through) there in
      (a, ap (λ (y : ℕ × ℕ). Some (Ack a y.0 y.1)) same)
  consumed-is None through there = absurd (none-in (to, through) there)

  abbrev Answered : ℕ → Type 0
  Answered through =
      WasPut w (Answer (record { from = v; to = to; through = through }))
      ⊎ ((b : ℕ) × IsPut (Answer (record { from = b; to = to; through = through })) out.puts)

  ack-there : (x : Put) (a through : ℕ) → WasThere x.to x.bytes puts links.links → packet_of x.bytes ≡ Some (Ack a to through) → Answered through
  ack-there x a through (inl (p, there, at, bytes)) is =
      let same : packet_of p.bytes ≡ Some (Ack a to through) = ap packet_of bytes ∙ is in
      let s = spelled-by g.nodes puts by p spelled there in
      let one : Answer (record { from = a; to = to; through = through }) ≡ s.put.packet = first-of (packet_from g.nodes (packet_of p.bytes)) s.put.packet (Answer (record { from = a; to = to; through = through })) s.spells.packet (ack-spelled p a to through there same) in
      inr (a, among (Answer (record { from = a; to = to; through = through })) (record { put = s.put; one = s.one; is = sym one }))
  ack-there x a through (inr (k, there, bytes)) is =
      let same : packet_of k.bytes ≡ Some (Ack a to through) = ap packet_of bytes ∙ is in
      let ends = parts (a == v) (to == x.to) (kept-from k x.to (Ack a to through) there same) in
      let its : a ≡ v = eqb-true a v ends.0 in
      let was : All (WasPut w) (packet_from g.nodes (packet_of k.bytes)) = All-contains (λ (y : Kept). IsKnown g w y.bytes) (link_to x.to links.links).kept k (known x.to) there in
      let one : packet_from g.nodes (packet_of k.bytes) ≡ Answer (record { from = a; to = to; through = through }) ∷ [] =
      subst (λ (y : Option Spelled). packet_from g.nodes y ≡ Answer (record { from = a; to = to; through = through }) ∷ []) (sym same)
      (known-from (Answer (record { from = a; to = to; through = through })) (Ack a to through) a (omega (arith, its, low)) refl) in
      inl (subst (λ (y : ℕ). WasPut w (Answer (record { from = y; to = to; through = through }))) its (All-head (WasPut w) (Answer (record { from = a; to = to; through = through })) [] (subst (All (WasPut w)) one was)))

  ack-came : (through : ℕ) (x : Put) → Contains x.consumed (to, through) → ComesFrom x puts links.links → Answered through
  ack-came through x has (inl put) =
      let is = (puts_hand_in_themselves by).answer x to through put has in
      inr (is.0, among (Answer (record { from = is.0; to = to; through = through })) is.1)
  ack-came through x has (inr (itself, was)) =
      let is = consumed-is (packet_of x.bytes) through (subst (λ (y : Put). Contains y.consumed (to, through)) itself has) in
      ack-there x is.0 through was is.1

  pub stands : StandsForPut w out v to (sealed_to to passed) (consumed_to to passed)
  stands = record {
    mail = λ m there.
        let c = came-with (λ (p : Put). p.sealed) to passed m there in
        mail-came m c.put c.has (comes_from links.links puts c.put c.one);
    answer = λ through there.
        let c = came-with (λ (p : Put). p.consumed) to passed (to, through) there in
        ack-came through c.put c.has (comes_from links.links puts c.put c.one);
  }
