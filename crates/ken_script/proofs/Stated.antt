-- What an object states, from what stands under its keys.
use Rattle.std.proofs.Common.{◌≡◌, ℕ, ◌*◌, List, ◌∷◌, Option, Some, None, option_and_then, unwrap_or, codes, lit≤, refl, ap, sym, ◌∙◌, subst, arith, Fits, w64}
use Rattle.serde_json.specs.Data.{Data}
use Rattle.serde_json.specs.Find.{get}
use Rattle.ken_model.specs.declared.facts.TheConstants.{PAGE, MAX_PAGES}
use Rattle.ken_script.specs.declared.scripts.TheConstants.{DEFAULT_PAGES, MAX_CUTS, MAX_ACTS, MAX_OUT_FAILS}
use Rattle.ken_script.specs.declared.scripts.Script.{Script}
use Rattle.ken_script.specs.Keys.{unknown_key, nodes_of, kind_in, pages_of, seed_of, rounds_of, turns_of, restarts_of, items_in, list_under}
use Rattle.ken_script.specs.Lists.{all_of, wrong_item}
use Rattle.ken_script.specs.Inputs.{inputs_of, wrong_input, long_text, odd_text}
use Rattle.ken_script.specs.Mishaps.{cut_of, cut_spot, link_act_of, link_spot, out_fail_of, out_spot}
use Rattle.ken_script.specs.Faults.{missing, item_fault, node_count, inputs_in, first_of}
use Rattle.ken_script.specs.Says.{States}
use Rattle.ken_script.proofs.Limits.{taken_or_bounds}

-- the bytes of a heap are a number that fits
pub pages_fit : (d : Data) (pages : ℕ) → pages_of d ≡ Some pages → Fits w64 (PAGE * pages)
pages_fit d pages e =
    let bounds = taken_or_bounds DEFAULT_PAGES 1 MAX_PAGES pages (get (codes "pages") d) (lit≤ tt) (lit≤ tt) e in
    omega (arith, bounds.1)

-- one more rule that isn't broken
unbroken : (rule : ℕ) (place : Option ℕ) (more : List (ℕ × Option ℕ)) → place ≡ None → first_of more ≡ None → first_of ((rule, place) ∷ more) ≡ None
unbroken rule None more e rest = rest
unbroken rule (Some place) more e rest = absurd cc

module _ (d : Data) (s : Script) (nodes : nodes_of d ≡ Some s.facts.nodes) where
  count : node_count d ≡ s.facts.nodes
  count = ap (λ o. unwrap_or o 0) nodes

  -- what stands under the keys that are read before the mishaps
  pub record Basics : Type 0 where
    pub known : unknown_key d ≡ None
    pub kind : kind_in d ≡ Some s.facts.kind
    pub pages : ℕ
    pub told_pages : pages_of d ≡ Some pages
    pub size : s.facts.size ≡ PAGE * pages
    pub seed : seed_of d ≡ Some s.seed
    pub rounds : rounds_of d ≡ Some s.rounds
    pub turns : turns_of d ≡ Some s.facts.turns
    pub restarts : restarts_of d ≡ Some s.restarts
    pub items : List Data
    pub under : items_in d ≡ Some items
    pub right : wrong_input s.facts.nodes items ≡ None
    pub inputs : inputs_of s.facts.nodes items ≡ Some s.facts.inputs
    pub short : long_text s.facts.inputs ≡ None
    pub plain : odd_text s.facts.inputs ≡ None

  -- the mishaps
  pub record Mishaps : Type 0 where
    pub cuts : option_and_then (all_of (cut_of s.facts.nodes)) (list_under (codes "cuts") d) ≡ Some s.cuts
    pub right_cuts : item_fault (wrong_item (cut_of s.facts.nodes) cut_spot MAX_CUTS) (list_under (codes "cuts") d) ≡ None
    pub mail : option_and_then (all_of (link_act_of s.facts.nodes)) (list_under (codes "mail") d) ≡ Some s.mail
    pub right_mail : item_fault (wrong_item (link_act_of s.facts.nodes) link_spot MAX_ACTS) (list_under (codes "mail") d) ≡ None
    pub acks : option_and_then (all_of (link_act_of s.facts.nodes)) (list_under (codes "acks") d) ≡ Some s.acks
    pub right_acks : item_fault (wrong_item (link_act_of s.facts.nodes) link_spot MAX_ACTS) (list_under (codes "acks") d) ≡ None
    pub outlets : option_and_then (all_of (out_fail_of s.facts.nodes)) (list_under (codes "outlets") d) ≡ Some s.outlets
    pub right_outlets : item_fault (wrong_item (out_fail_of s.facts.nodes) out_spot MAX_OUT_FAILS) (list_under (codes "outlets") d) ≡ None

  -- a fact of the number of nodes, as the object says that
  told : (P : ℕ → Type 0) → P s.facts.nodes → P (node_count d)
  told P h = subst P (sym count) h

  pub states_of : Basics → Mishaps → States d s
  states_of b m =
      let inputs : inputs_in d ≡ Some s.facts.inputs = ap (option_and_then (inputs_of (node_count d))) b.under ∙ told (λ n. inputs_of n b.items ≡ Some s.facts.inputs) b.inputs in
      let right_inputs : item_fault (wrong_input (node_count d)) (items_in d) ≡ None = ap (item_fault (wrong_input (node_count d))) b.under ∙ told (λ n. wrong_input n b.items ≡ None) b.right in
      record {
        right =
            unbroken 2 _ _ b.known (unbroken 3 _ _ (ap (missing 0) nodes) (unbroken 4 _ _ (ap (missing 0) b.kind) (unbroken 5 _ _ (ap (missing 0) b.told_pages) (unbroken 6 _ _ (ap (missing 0) b.seed)
            (unbroken 7 _ _ (ap (missing 0) b.rounds) (unbroken 7 _ _ (ap (missing 1) b.turns) (unbroken 7 _ _ (ap (missing 2) b.restarts)
            (unbroken 8 _ _ right_inputs (unbroken 9 _ _ (ap (option_and_then long_text) inputs ∙ b.short) (unbroken 10 _ _ (ap (option_and_then odd_text) inputs ∙ b.plain)
            (unbroken 11 _ _ (told (λ n. item_fault (wrong_item (cut_of n) cut_spot MAX_CUTS) (list_under (codes "cuts") d) ≡ None) m.right_cuts)
            (unbroken 12 _ _ (told (λ n. item_fault (wrong_item (link_act_of n) link_spot MAX_ACTS) (list_under (codes "mail") d) ≡ None) m.right_mail)
            (unbroken 13 _ _ (told (λ n. item_fault (wrong_item (link_act_of n) link_spot MAX_ACTS) (list_under (codes "acks") d) ≡ None) m.right_acks)
            (unbroken 14 _ _ (told (λ n. item_fault (wrong_item (out_fail_of n) out_spot MAX_OUT_FAILS) (list_under (codes "outlets") d) ≡ None) m.right_outlets)
            refl))))))))))))));
        nodes = nodes;
        kind = b.kind;
        inputs = inputs;
        pages = b.pages;
        told_pages = b.told_pages;
        size = b.size;
        turns = b.turns;
        seed = b.seed;
        rounds = b.rounds;
        restarts = b.restarts;
        cuts = told (λ n. option_and_then (all_of (cut_of n)) (list_under (codes "cuts") d) ≡ Some s.cuts) m.cuts;
        mail = told (λ n. option_and_then (all_of (link_act_of n)) (list_under (codes "mail") d) ≡ Some s.mail) m.mail;
        acks = told (λ n. option_and_then (all_of (link_act_of n)) (list_under (codes "acks") d) ≡ Some s.acks) m.acks;
        outlets = told (λ n. option_and_then (all_of (out_fail_of n)) (list_under (codes "outlets") d) ≡ Some s.outlets) m.outlets;
      }
