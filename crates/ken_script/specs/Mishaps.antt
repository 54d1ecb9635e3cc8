-- What a script lets fail: cuts of disks, acts on links, calls of outlets.
use Rattle.std.specs.Prelude.{ℕ, List, codes, bytes_eq, if◌then◌else◌, Option, Some, None, option_map, option_and_then}
use Rattle.serde_json.specs.Data.{Data}
use Rattle.serde_json.specs.Find.{as_array, as_str}
use Rattle.ken_net.specs.declared.act.Act.{Act}
use Rattle.ken_net.specs.declared.act.Act.TheVariants.{Lose, Repeat, Hold}
use Rattle.ken_net.specs.declared.act.LinkAct.{LinkAct}
use Rattle.ken_script.specs.declared.scripts.TheConstants.{DISKS, MAX_COUNT, MAX_HOLD}
use Rattle.ken_script.specs.declared.scripts.DiskCut.{DiskCut}
use Rattle.ken_script.specs.declared.scripts.OutFail.{OutFail}
use Rattle.ken_script.specs.Keys.{whole, within, below}
use Rattle.ken_script.specs.Lists.{Spot, both, four}
use Rattle.ken_script.specs.Inputs.{node_of}

-- the number of one of a node's disks
abbrev pub disk_of : Data → Option ℕ
disk_of d = option_and_then (below DISKS) (whole d)

-- the number of a call or of a put
abbrev pub count_of : Data → Option ℕ
count_of d = option_and_then (within 1 MAX_COUNT) (whole d)

-- a cut of its parts
abbrev pub cut : ℕ → ℕ → ℕ → ℕ → DiskCut
cut node disk call pick = record { node = node; disk = disk; call = call; pick = pick }

-- `[node, disk, call, pick]`
abbrev pub cut_of : ℕ → Data → Option DiskCut
cut_of nodes d = option_and_then (λ p. option_and_then (λ node. option_and_then (λ disk. option_and_then (λ call. option_map (cut node disk call) (whole p.3)) (count_of p.2)) (disk_of p.1)) (node_of nodes p.0)) (option_and_then four (as_array d))

-- a cut strikes at a call of a node's disk
abbrev pub cut_spot : DiskCut → Spot
cut_spot c = (c.node, c.disk, c.call)

-- the act of a name
abbrev pub act_named : List ℕ → Option Act
act_named name = if bytes_eq name (codes "lose") then Some Lose else if bytes_eq name (codes "repeat") then Some Repeat else None

-- the act of a name, or what is said where there is no name
abbrev pub act_or : Option Act → Option (List ℕ) → Option Act
act_or held None = held
act_or held (Some name) = act_named name

-- `"lose"`, `"repeat"`, or for how many later puts the packet is held
abbrev pub act_of : Data → Option Act
act_of d = act_or (option_map Hold (option_and_then (within 1 MAX_HOLD) (whole d))) (as_str d)

-- an act on a put, of its parts
abbrev pub link_act : ℕ → ℕ → ℕ → Act → LinkAct
link_act from to n act = record { from = from; to = to; n = n; act = act }

-- `[from, to, n, act]`
abbrev pub link_act_of : ℕ → Data → Option LinkAct
link_act_of nodes d = option_and_then (λ p. option_and_then (λ from. option_and_then (λ to. option_and_then (λ n. option_map (link_act from to n) (act_of p.3)) (count_of p.2)) (node_of nodes p.1)) (node_of nodes p.0)) (option_and_then four (as_array d))

-- an act strikes at a put from one node to another
abbrev pub link_spot : LinkAct → Spot
link_spot a = (a.from, a.to, a.n)

-- a failing call of its parts
abbrev pub out_fail : ℕ → ℕ → OutFail
out_fail node call = record { node = node; call = call }

-- `[node, call]`
abbrev pub out_fail_of : ℕ → Data → Option OutFail
out_fail_of nodes d = option_and_then (λ p. option_and_then (λ node. option_map (out_fail node) (count_of p.1)) (node_of nodes p.0)) (option_and_then both (as_array d))

-- it strikes at a call of a node's outlet, which is its only one
abbrev pub out_spot : OutFail → Spot
out_spot f = (f.node, 0, f.call)
