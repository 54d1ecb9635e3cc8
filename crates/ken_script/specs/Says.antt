-- What a script says.
use Rattle.std.specs.Prelude.{◌≡◌, ℕ, ◌*◌, List, Some, None, codes}
use Rattle.serde_json.specs.Data.{Data}
use Rattle.ken_model.specs.declared.facts.TheConstants.{PAGE}
use Rattle.ken_script.specs.declared.scripts.Script.{Script}
use Rattle.ken_script.specs.Object.{IsObject}
use Rattle.ken_script.specs.Keys.{nodes_of, kind_in, pages_of, seed_of, rounds_of, turns_of, restarts_of}
use Rattle.ken_script.specs.Faults.{inputs_in, cuts_in, acts_in, out_fails_in, fault_in}

-- the object breaks no rule, and the script is what stands under its keys; a heap has the size of its pages
pub record States (d : Data) (s : Script) : Type 0 where
  pub right : fault_in d ≡ None
  pub nodes : nodes_of d ≡ Some s.facts.nodes
  pub kind : kind_in d ≡ Some s.facts.kind
  pub inputs : inputs_in d ≡ Some s.facts.inputs
  pub pages : ℕ
  pub told_pages : pages_of d ≡ Some pages
  pub size : s.facts.size ≡ PAGE * pages
  pub turns : turns_of d ≡ Some s.facts.turns
  pub seed : seed_of d ≡ Some s.seed
  pub rounds : rounds_of d ≡ Some s.rounds
  pub restarts : restarts_of d ≡ Some s.restarts
  pub cuts : cuts_in d ≡ Some s.cuts
  pub mail : acts_in (codes "mail") d ≡ Some s.mail
  pub acks : acts_in (codes "acks") d ≡ Some s.acks
  pub outlets : out_fails_in d ≡ Some s.outlets

-- the text is an object that states the script
pub record SaysBy (reading : Data → Script → Type 0) (b : List ℕ) (s : Script) : Type 0 where
  pub members : Data
  pub object : IsObject b members
  pub states : reading members s

abbrev pub Says : List ℕ → Script → Type 0
Says = SaysBy States
